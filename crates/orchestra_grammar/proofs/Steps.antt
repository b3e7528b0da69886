-- The steps of the four readers that call themselves are steady, and so each reader is its own next step.
use Rattle.std.specs.Prelude.{Option, Some, None}
use Prim.Native.Nat.{ℕ}
use native.Mathlib.Omega.{arith}
use mathlib.Core.Path.{◌≡◌, refl, ap}
use mathlib.Core.List.{List, [], ◌∷◌}
use mathlib.Core.Bool.{cond}
use Rattle.orchestra_tokens.specs.declared.Token.{Token}
use Rattle.orchestra_syntax.specs.inside.Program.{ins, ins_arg, instr_op, output_op, if_op, else_op, end_op, store_op}
use Rattle.orchestra_syntax.specs.Tree.{field_kind, imports_kind}
use Rattle.orchestra_expressions.specs.Roles.{sign_l}
use Rattle.orchestra_expressions.specs.Reader.{Res, ok}
use Rattle.orchestra_grammar.specs.declared.StatementStart.{StatementStart}
use Rattle.orchestra_grammar.specs.declared.StatementStart.TheVariants.{Name, Output, If, Stop}
use Rattle.orchestra_grammar.specs.declared.DeclarationStart.{DeclarationStart}
use Rattle.orchestra_grammar.specs.declared.DeclarationStart.TheVariants.{Kind, Imports, Stop as No}
use Rattle.orchestra_grammar.specs.Starts.{statement_start_l, statement_start_of, declaration_start_l, declaration_start_of, name_token_of}
use Rattle.orchestra_grammar.specs.Reader.{set_to, bracketed, otherwise, branches, by_statement_start, step_statements, statements, by_name_token, name, step_names, names, listed, by_declaration_start, step_declarations, declarations, fields, header, body, instrument, step_instruments, orchestra, none as nothing}
use Rattle.orchestra_expressions.proofs.ReaderSteps.{All, none, some, All-weaken, All-cond}
use Rattle.orchestra_expressions.proofs.Runs.{Took}
use Rattle.orchestra_grammar.proofs.Results.{sign-took, seq-took, sign-emit, expr-took}
use Rattle.orchestra_grammar.proofs.Steady.{Bounded, Steady, steady-less, fixed, self, then, where-sign, past_first, whole-took, whole·law}

-- ---- parts of statements

pub set_to-took : (n : ℕ) (ts : List Token) → All (Took 1 ts) (set_to n ts)
set_to-took n ts = seq-took {k = 1} {l = 0} _ (sign-took 21 ts) (λ p. seq-took {k = 0} {l = 0} _ (expr-took 0 p) (λ q. sign-emit 20 (ins_arg store_op n) q))

pub bracketed-took : (s o : ℕ) (ts : List Token) → All (Took 2 ts) (bracketed s o ts)
bracketed-took s o ts =
    seq-took {k = 1} {l = 1} _ (sign-took 15 ts) (λ p.
    seq-took {k = 0} {l = 1} _ (expr-took 0 p) (λ q.
    seq-took {k = 1} {l = 0} _ (sign-took 16 q) (λ r.
    sign-emit s (ins o) r)))

-- one instruction may come without a token
steady-otherwise : Steady 1 2 1 otherwise
steady-otherwise = where-sign 8
    (steady-less {l = 0} {e = 2} (omega arith) (then (fixed 0 (sign-took 17)) (then self (fixed 0 (sign-emit 18 (ins end_op))) (omega arith)) (omega arith)))
    (record { took = λ S B ts. some {c = ins end_op ∷ []} {r = ts} (omega arith); same = λ S R B b A ts lt. refl })

steady-branches : Steady 1 0 0 branches
steady-branches =
    steady-less (omega arith)
    (then (fixed 0 (bracketed-took 17 if_op)) (then self (then (fixed 0 (sign-emit 18 (ins else_op))) steady-otherwise (omega arith)) (omega arith)) (omega arith))

pub branches-took : (B : List Token → Res) → Bounded B → (ts : List Token) → All (Took 1 ts) (branches B ts)
branches-took B H ts = All-weaken (steady-branches.took B H ts) (λ c r h. record { room = omega arith })

-- nothing is read
pub nothing_read : {i : ℕ} (t : Token) → Steady 0 1 i (λ S ts. ok [] (t ∷ ts))
nothing_read t = record { took = λ S B ts. some {c = []} {r = t ∷ ts} (omega arith); same = λ S R B b A ts lt. refl }

by-start : (a : StatementStart) (t : Token) → Steady 0 1 0 (λ B ts. by_statement_start B a (t ∷ ts))
by-start (Name n) t = steady-less (omega arith) (then (fixed 0 (set_to-took n)) self (omega arith))
by-start Output t = steady-less (omega arith) (then (fixed 0 (bracketed-took 20 output_op)) self (omega arith))
by-start If t = steady-less (omega arith) (then steady-branches self (omega arith))
by-start Stop t = nothing_read t

pub steady-statements : Steady 0 0 1 step_statements
steady-statements = past_first (λ S. refl) (λ t. by-start (statement_start_of t) t)

-- ---- names and declarations

pub name-took : (o : ℕ) (ts : List Token) → All (Took 0 ts) (name o ts)
name-took o [] = none
name-took o (t ∷ ts) = go (name_token_of t)
  where
    go : (w : Option ℕ) → All (Took 0 (t ∷ ts)) (by_name_token o w ts)
    go (Some n) = some {c = ins_arg o n ∷ []} {r = ts} (record { room = omega arith })
    go None = none

pub steady-names : (k : ℕ) → Steady 0 0 1 (step_names k)
steady-names k =
    steady-less (omega arith)
    (then (fixed 1 (name-took k))
    (where-sign 19 (steady-less {l = 0} {e = 1} (omega arith) self)
    (record { took = λ S B ts. some {c = []} {r = ts} (omega arith); same = λ S R B b A ts lt. refl })) (omega arith))

pub names-took : (k : ℕ) → Bounded (names k)
names-took k = whole-took (step_names k) (steady-names k)

pub listed-took : (k : ℕ) (ts : List Token) → All (Took 1 ts) (listed k ts)
listed-took k ts = seq-took {k = 0} {l = 1} _ (names-took k ts) (sign-took 20)

by-lead : (a : DeclarationStart) (t : Token) → Steady 0 1 0 (λ D ts. by_declaration_start D a (t ∷ ts))
by-lead (Kind k) t = steady-less (omega arith) (then (fixed 0 (listed-took k)) self (omega arith))
by-lead Imports t = steady-less (omega arith) (then (fixed 0 (sign-took 3)) (then (fixed 0 (listed-took imports_kind)) self (omega arith)) (omega arith))
by-lead No t = nothing_read t

pub steady-declarations : Steady 0 0 1 step_declarations
steady-declarations = past_first (λ S. refl) (λ t. by-lead (declaration_start_of t) t)

-- ---- instruments

fields-took : (ts : List Token) → All (Took 0 ts) (fields ts)
fields-took ts = All-cond (sign_l ts 16) _ _ (λ e. some (record { room = omega arith })) (λ e. names-took field_kind ts)

pub header-took : (ts : List Token) → All (Took 2 ts) (header ts)
header-took ts =
    seq-took {k = 0} {l = 2} _ (name-took instr_op ts) (λ p.
    seq-took {k = 1} {l = 1} _ (sign-took 15 p) (λ q. seq-took {k = 0} {l = 1} _ (fields-took q) (sign-took 16)))

pub body-took : (ts : List Token) → All (Took 2 ts) (body ts)
body-took ts =
    seq-took {k = 1} {l = 1} _ (sign-took 17 ts) (λ p.
    seq-took {k = 0} {l = 1} _ (whole-took step_declarations steady-declarations p) (λ q.
    seq-took {k = 0} {l = 1} _ (whole-took step_statements steady-statements q) (sign-took 18)))

pub instrument-took : (ts : List Token) → All (Took 5 ts) (instrument ts)
instrument-took ts = seq-took {k = 1} {l = 4} _ (sign-took 1 ts) (λ p. seq-took {k = 2} {l = 2} _ (header-took p) body-took)

steady-next : Steady 0 0 0 (λ I r. cond (nothing r) (ok [] []) (I r))
steady-next = record {
  took = λ S B ts. All-cond (nothing ts) _ _ (λ e. some {c = []} {r = []} (omega arith)) (λ e. All-weaken (B ts) (λ c r t. omega (arith, t.room)));
  same = λ S R B b A ts lt. ap (λ z. cond (nothing ts) (ok [] []) z) (A ts (omega arith));
}

pub steady-instruments : Steady 0 0 1 step_instruments
steady-instruments = steady-less (omega arith) (then (fixed 1 instrument-took) steady-next (omega arith))

-- ---- each reader is its own next step

pub statements·law : (ts : List Token) → statements ts ≡ by_statement_start statements (statement_start_l ts) ts
statements·law ts = whole·law step_statements steady-statements ts

pub names·law : (k : ℕ) (ts : List Token) → names k ts ≡ step_names k (names k) ts
names·law k ts = whole·law (step_names k) (steady-names k) ts

pub declarations·law : (ts : List Token) → declarations ts ≡ by_declaration_start declarations (declaration_start_l ts) ts
declarations·law ts = whole·law step_declarations steady-declarations ts

pub orchestra·law : (ts : List Token) → orchestra ts ≡ step_instruments orchestra ts
orchestra·law ts = whole·law step_instruments steady-instruments ts
