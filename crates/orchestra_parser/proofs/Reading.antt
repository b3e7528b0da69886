-- The ways through the readers of names, declarations and instruments.
use Rattle.std.specs.Prelude.{Option}
use Prim.Native.Nat.{ℕ, zero, suc, ◌+◌, ◌-◌, ◌≤◌, ◌<◌}
use native.Mathlib.Omega.{arith}
use mathlib.Core.Path.{◌≡◌, refl, sym, ◌∙◌}
use mathlib.Core.List.{List, [], ◌∷◌}
use mathlib.Core.Bool.{Bool, true, false, cond}
use lib.ListN.{length, drop, drop_of_length-le}
use Rattle.orchestra_tokens.specs.declared.Token.{Token}
use Rattle.orchestra_syntax.specs.Tree.{field_kind}
use Rattle.orchestra_syntax.specs.inside.Program.{ins_arg}
use Rattle.std.specs.Prelude.{Some, None}
use Rattle.orchestra_expressions.specs.Roles.{sign_l}
use Rattle.orchestra_expressions.specs.Reader.{Res, ok, emit}
use Rattle.orchestra_expressions.specs.Areas.{ParseState, Areas, left, Ready, gone, Runs, refused}
use Rattle.orchestra_expressions.proofs.ReaderSteps.{All}
use Rattle.orchestra_expressions.proofs.Moves.{in-tokens, sign-in}
use Rattle.orchestra_expressions.proofs.Runs.{runs_seq, runs_as, runs_after, runs_by, stays, Past, past-start, runs-law, runs_to, ready-took, left-took, Took}
use Rattle.orchestra_grammar.specs.declared.DeclarationStart.{DeclarationStart}
use Rattle.orchestra_grammar.specs.declared.DeclarationStart.TheVariants.{Kind, Imports, Stop}
use Rattle.orchestra_grammar.specs.Starts.{declaration_start_l, name_token_l}
use Rattle.orchestra_grammar.specs.Reader.{by_name_token, name, names, by_declaration_start, declarations, step_declarations, fields, instrument, orchestra, none}
use Rattle.orchestra_grammar.proofs.Steady.{whole-took}
use Rattle.orchestra_grammar.proofs.Steps.{steady-declarations, declarations·law, names·law, orchestra·law, name-took, instrument-took}

-- ---- a name

pub word_in : (ts : List Token) (at : ℕ) {k : Option ℕ} {n : ℕ} → k ≡ name_token_l (drop at ts) → k ≡ Some n → at < length ts
word_in ts at e q = in-tokens name_token_l ts at (λ x. let z : ◌≡◌ {A = ℕ} 0 1 = cc in omega arith)

-- room for one instruction after the first token
pub ready-next : {ts : List Token} {k at out : ℕ} {g : ParseState} {m : Areas} → Ready ts k g m → g ≡ Some (at, out) → at < length ts
    → Ready ts (suc k) (Some (at + 1, out)) m
ready-next r q lt = (past-start r q refl lt).ready

pub name-as : (ts : List Token) (o at : ℕ) {out n : ℕ} {g r : ParseState} {m u : Areas} {k : Option ℕ} → g ≡ Some (at, out) → k ≡ name_token_l (drop at ts) → k ≡ Some n
    → Runs ts (emit (ins_arg o n)) (Some (at + 1, out)) m r u → Runs ts (name o) g m r u
name-as ts o at {n = n} = runs_by ts at (name o) name_token_l (λ k z. by_name_token o k (drop 1 z)) (Some n) (emit (ins_arg o n)) (λ z. refl) (λ z. refl)

pub name-no : (ts : List Token) (o at : ℕ) {out : ℕ} {g : ParseState} {m : Areas} {k : Option ℕ} → g ≡ Some (at, out) → k ≡ name_token_l (drop at ts) → k ≡ None
    → Runs ts (name o) g m None m
name-no ts o at q x y = let z : name_token_l (drop at ts) ≡ None = sym x ∙ y in refused at _ [] q (rw z) refl refl

-- ---- names

-- what comes after a name
abbrev rest : ℕ → List Token → Res
rest k r = cond (sign_l r 19) (names k (drop 1 r)) (ok [] r)

pub names-no : {ts : List Token} (k : ℕ) {g h : ParseState} {m n : Areas} → Runs ts (name k) g m h n → h ≡ None → Runs ts (names k) g m None n
names-no k x q = runs-law (names k) (names·law k) (runs_seq (rest k) (runs_to q x) (gone refl refl refl))

module _ (ts : List Token) (k at : ℕ) {out : ℕ} {g h : ParseState} {m n : Areas} (x : Runs ts (name k) g m h n) where
  module _ {b : Bool} (q : h ≡ Some (at, out)) (e : b ≡ sign_l (drop at ts) 19) where
    pub names_more : {r : ParseState} {u : Areas} → b ≡ true → Runs ts (names k) (Some (at + 1, out)) n r u → Runs ts (names k) g m r u
    names_more y w =
        let z : sign_l (drop at ts) 19 ≡ true = sym e ∙ y in
        runs-law (names k) (names·law k) (runs_seq (rest k) (runs_to q x) (runs_as (rest k) refl (rw z) (runs_after w)))

    pub names-end : Ready ts 0 g m → b ≡ false → Runs ts (names k) g m h n
    names-end r y =
        let z : sign_l (drop at ts) 19 ≡ false = sym e ∙ y in
        runs-law (names k) (names·law k) (runs_seq (rest k) x (stays (ready-took 0 (name-took k) r x) q (rw z)))

    pub names-past : {t : ℕ} → Ready ts 0 g m → left ts g ≡ t → b ≡ true → Past ts t 1 (Some (at + 1, out)) n
    names-past r f y =
        let v = runs_to q x in
        let lt = sign-in ts at 19 (sym e ∙ y) in
        let l = left-took 0 (name-took k) at v refl in
        let p = past-start (ready-took 0 (name-took k) r v) refl refl lt in
        record { ready = p.ready; less = omega (arith, p.less) }

-- ---- declarations

abbrev pub Leads : DeclarationStart → Type 0
Leads (Kind k) = Unit {0}
Leads Imports = Unit {0}
Leads Stop = ⊥

pub lead-in : (ts : List Token) (at : ℕ) {k h : DeclarationStart} → k ≡ declaration_start_l (drop at ts) → k ≡ h → Leads h → at < length ts
lead-in ts at {h = h} e q f = in-tokens declaration_start_l ts at (λ n. let z : h ≡ Stop = cc in rw z at f)

pub lead-past : (ts : List Token) {t : ℕ} {g : ParseState} {m : Areas} (at : ℕ) {out : ℕ} {k h : DeclarationStart} → Ready ts 0 g m → left ts g ≡ t → g ≡ Some (at, out)
    → k ≡ declaration_start_l (drop at ts) → k ≡ h → Leads h → Past ts t 1 (Some (at + 1, out)) m
lead-past ts at r e q x y f = past-start r q e (lead-in ts at x y f)

pub declarations-took : (ts : List Token) → All (Took 0 ts) (declarations ts)
declarations-took ts = whole-took step_declarations steady-declarations ts

pub declarations-as : (ts : List Token) (at : ℕ) {out : ℕ} {g r : ParseState} {m n : Areas} {k : DeclarationStart} (h : DeclarationStart) (f : List Token → Res)
    → ((z : List Token) → by_declaration_start declarations h z ≡ f (drop 1 z)) → g ≡ Some (at, out) → k ≡ declaration_start_l (drop at ts) → k ≡ h
    → Runs ts f (Some (at + 1, out)) m r n → Runs ts declarations g m r n
declarations-as ts at h f = runs_by ts at declarations declaration_start_l (by_declaration_start declarations) h f declarations·law

pub declarations-stop : (ts : List Token) (at : ℕ) {out : ℕ} {g : ParseState} {m : Areas} {k : DeclarationStart} → Ready ts 0 g m → g ≡ Some (at, out)
    → k ≡ declaration_start_l (drop at ts) → k ≡ Stop → Runs ts declarations g m g m
declarations-stop ts at r q x y =
    let z : declaration_start_l (drop at ts) ≡ Stop = sym x ∙ y in
    stays r q (declarations·law (drop at ts) ∙ rw z)

-- ---- fields

module _ (ts : List Token) (at : ℕ) {out : ℕ} {g : ParseState} {m : Areas} {b : Bool} (q : g ≡ Some (at, out)) (x : b ≡ sign_l (drop at ts) 16) where
  pub fields-none : Ready ts 0 g m → b ≡ true → Runs ts fields g m g m
  fields-none p y = let z : sign_l (drop at ts) 16 ≡ true = sym x ∙ y in stays p q (rw z)

  pub fields-some : {r : ParseState} {n : Areas} → b ≡ false → Runs ts (names field_kind) g m r n → Runs ts fields g m r n
  fields-some y w =
      let z : sign_l (drop at ts) 16 ≡ false = sym x ∙ y in
      runs_as fields q (rw z) w

-- ---- instruments

-- what comes after an instrument
abbrev others : List Token → Res
others r = cond (none r) (ok [] []) (orchestra r)

none-not : (ts : List Token) (at : ℕ) → at < length ts → none (drop at ts) ≡ false
none-not [] at lt = absurd (omega arith)
none-not (t ∷ ts) zero lt = refl
none-not (t ∷ ts) (suc at) lt = none-not ts at (omega arith)

pub last-no : {ts : List Token} {g h : ParseState} {m n : Areas} → Runs ts instrument g m h n → h ≡ None → Runs ts orchestra g m None n
last-no x q = runs-law orchestra orchestra·law (runs_seq others (runs_to q x) (gone refl refl refl))

module _ (ts : List Token) (at : ℕ) {out : ℕ} {g h : ParseState} {m n : Areas} (x : Runs ts instrument g m h n) where
  module _ (q : h ≡ Some (at, out)) where
    pub others-follow : {r : ParseState} {u : Areas} → at < length ts → Runs ts orchestra h n r u → Runs ts orchestra g m r u
    others-follow lt w =
        runs-law orchestra orchestra·law (runs_seq others x (runs_as others q (rw (none-not ts at lt)) w))

    pub last_one : Ready ts 0 g m → length ts ≤ at → Runs ts orchestra g m h n
    last_one r le =
        let d : drop at ts ≡ [] = drop_of_length-le ts {i = at} le in
        runs-law orchestra orchestra·law (runs_seq others x (stays (ready-took 5 instrument-took r x) q (rw d)))
