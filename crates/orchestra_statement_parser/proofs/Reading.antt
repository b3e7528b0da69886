-- The ways through the readers of statements.
use Prim.Native.Nat.{ℕ, ◌+◌, ◌-◌, ◌<◌}
use native.Mathlib.Omega.{arith}
use mathlib.Core.Path.{◌≡◌, refl, sym, ◌∙◌}
use mathlib.Core.List.{List}
use mathlib.Core.Bool.{Bool, true, false}
use lib.ListN.{length, drop}
use Rattle.orchestra_tokens.specs.declared.Token.{Token}
use Rattle.orchestra_syntax.specs.inside.Program.{ins, end_op}
use Rattle.std.specs.Prelude.{Some}
use Rattle.orchestra_expressions.specs.Roles.{sign_l}
use Rattle.orchestra_expressions.specs.Reader.{Res, seq, sign, emit, reader}
use Rattle.orchestra_expressions.specs.Areas.{ParseState, Areas, left, Ready, gone, come, Runs}
use Rattle.orchestra_expressions.proofs.ReaderSteps.{All}
use Rattle.orchestra_expressions.proofs.Moves.{in-tokens}
use Rattle.orchestra_expressions.proofs.Runs.{runs_as, runs_after, runs_by, stays, ready-less, Past, past-start, Took, ready-took}
use Rattle.orchestra_grammar.specs.declared.StatementStart.{StatementStart}
use Rattle.orchestra_grammar.specs.declared.StatementStart.TheVariants.{Name, Output, If, Stop}
use Rattle.orchestra_grammar.specs.Starts.{statement_start_l}
use Rattle.orchestra_grammar.specs.Reader.{close, otherwise, by_statement_start, statements, step_statements}
use Rattle.orchestra_grammar.proofs.Results.{expr-took}
use Rattle.orchestra_grammar.proofs.Steady.{whole-took}
use Rattle.orchestra_grammar.proofs.Steps.{steady-statements, statements·law}

-- a statement starts with a token
abbrev pub Goes : StatementStart → Type 0
Goes (Name n) = Unit {0}
Goes Output = Unit {0}
Goes If = Unit {0}
Goes Stop = ⊥

pub start-in : (ts : List Token) (at : ℕ) {k h : StatementStart} → k ≡ statement_start_l (drop at ts) → k ≡ h → Goes h → at < length ts
start-in ts at {h = h} e q f = in-tokens statement_start_l ts at (λ n. let z : h ≡ Stop = cc in rw z at f)

pub start-past : (ts : List Token) {t : ℕ} {g : ParseState} {m : Areas} (at : ℕ) {out : ℕ} {k h : StatementStart} → Ready ts 0 g m → left ts g ≡ t → g ≡ Some (at, out)
    → k ≡ statement_start_l (drop at ts) → k ≡ h → Goes h → Past ts t 1 (Some (at + 1, out)) m
start-past ts at r e q x y f = past-start r q e (start-in ts at x y f)

pub statements-took : (ts : List Token) → All (Took 0 ts) (statements ts)
statements-took ts = whole-took step_statements steady-statements ts

pub ready-expr : {ts : List Token} {k : ℕ} {g h : ParseState} {m n : Areas} (j : ℕ) → Ready ts k g m → Runs ts (reader.expr j) g m h n → Ready ts k h n
ready-expr j r x = ready-less (omega arith) (ready-took 0 (expr-took j) r x)

-- a statement, and those that follow it
pub statements-as : (ts : List Token) (at : ℕ) {out : ℕ} {g r : ParseState} {m n : Areas} {k : StatementStart} (h : StatementStart) (f : List Token → Res)
    → ((z : List Token) → by_statement_start statements h z ≡ f (drop 1 z)) → g ≡ Some (at, out) → k ≡ statement_start_l (drop at ts) → k ≡ h
    → Runs ts f (Some (at + 1, out)) m r n → Runs ts statements g m r n
statements-as ts at h f = runs_by ts at statements statement_start_l (by_statement_start statements) h f statements·law

pub statements-stop : (ts : List Token) (at : ℕ) {out : ℕ} {g : ParseState} {m : Areas} {k : StatementStart} → Ready ts 0 g m → g ≡ Some (at, out)
    → k ≡ statement_start_l (drop at ts) → k ≡ Stop → Runs ts statements g m g m
statements-stop ts at r q x y =
    let z : statement_start_l (drop at ts) ≡ Stop = sym x ∙ y in
    stays r q (statements·law (drop at ts) ∙ rw z)

-- with else and without
module _ (ts : List Token) (at : ℕ) {out : ℕ} {g r : ParseState} {m n : Areas} {b : Bool} (q : g ≡ Some (at, out)) (x : b ≡ sign_l (drop at ts) 8) where
  pub else-on : b ≡ true → Runs ts (λ z. seq (sign 17 z) (λ p. seq (statements p) (close end_op))) (Some (at + 1, out)) m r n
      → Runs ts (otherwise statements) g m r n
  else-on y w =
      let z : sign_l (drop at ts) 8 ≡ true = sym x ∙ y in
      rw q (runs_as (otherwise statements) refl (rw z) (runs_after w))

  pub else-off : b ≡ false → Runs ts (emit (ins end_op)) g m r n → Runs ts (otherwise statements) g m r n
  else-off y w =
      let z : sign_l (drop at ts) 8 ≡ false = sym x ∙ y in
      runs_as (otherwise statements) q (rw z) w
