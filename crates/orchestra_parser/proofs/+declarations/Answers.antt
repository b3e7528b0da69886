-- The proof of a reader that calls itself: it is called at fewer tokens left.
use Rattle.std.proofs.Common.{◌≡◌, ℕ, ◌+◌, ◌<◌, length, refl, sym, ◌∙◌, arith}
use Rattle.orchestra_syntax.specs.Tree.{imports_kind}
use Rattle.orchestra_expressions.specs.Reader.{seq, sign}
use Rattle.orchestra_expressions.proofs.Runs.{runs_seq, runs-sign, past-ready, past-sign, past-took}
use Rattle.orchestra_grammar.specs.Reader as R
use Rattle.orchestra_grammar.specs.declared.DeclarationStart.TheVariants.{Kind, Imports}
use Rattle.orchestra_grammar.proofs.Steps.{listed-took}
use Rattle.orchestra_parser.proofs.Reading.{lead-in, lead-past, declarations-as, declarations-stop}
use Rattle.orchestra_parser.proofs.+declarations.Goals as goal

pub overflow_add-at : goal.overflow_add-at
overflow_add-at t c =
    let h : c.in_ok-at.at < length c.args.tokens.now = lead-in c.args.tokens.now c.in_ok-at.at c.declaration_start_at.ensures c.in-Kind.is tt in
    omega arith

pub listed-a-requires : goal.listed-a-requires
listed-a-requires t c =
    let p₀ = lead-past c.args.tokens.now c.in_ok-at.at c.requires c.decreases c.in_ok-at.was c.declaration_start_at.ensures c.in-Kind.is tt in
    past-ready p₀

pub declarations-requires : goal.declarations-requires
declarations-requires t c =
    let p₀ = lead-past c.args.tokens.now c.in_ok-at.at c.requires c.decreases c.in_ok-at.was c.declaration_start_at.ensures c.in-Kind.is tt in
    let p₁ = past-took 1 (listed-took c.in-Kind.k) p₀ c.listed-a.ensures in
    (p₁.less, past-ready p₁)

pub overflow_add-at-in-Imports : goal.overflow_add-at-in-Imports
overflow_add-at-in-Imports t c =
    let h : c.in_ok-at.at < length c.args.tokens.now = lead-in c.args.tokens.now c.in_ok-at.at c.declaration_start_at.ensures c.in-Imports.is tt in
    omega arith

pub listed-b-requires : goal.listed-b-requires
listed-b-requires t c =
    let p₀ = lead-past c.args.tokens.now c.in_ok-at.at c.requires c.decreases c.in_ok-at.was c.declaration_start_at.ensures c.in-Imports.is tt in
    past-ready (past-sign 3 p₀ c.expect-a.ensures)

pub declarations-requires-in-Imports : goal.declarations-requires-in-Imports
declarations-requires-in-Imports t c =
    let p₀ = lead-past c.args.tokens.now c.in_ok-at.at c.requires c.decreases c.in_ok-at.was c.declaration_start_at.ensures c.in-Imports.is tt in
    let p₂ = past-took 1 (listed-took imports_kind) (past-sign 3 p₀ c.expect-a.ensures) c.listed-b.ensures in
    (p₂.less, past-ready p₂)

pub returns-in-Kind : goal.returns-in-Kind
returns-in-Kind t c =
    declarations-as c.args.tokens.now c.in_ok-at.at (Kind c.in-Kind.k) (λ z. seq (R.listed c.in-Kind.k z) R.declarations) (λ z. refl) c.in_ok-at.was c.declaration_start_at.ensures c.in-Kind.is
    (runs_seq R.declarations c.listed-a.ensures c.declarations.ensures)

pub returns-in-Imports : goal.returns-in-Imports
returns-in-Imports t c =
    declarations-as c.args.tokens.now c.in_ok-at.at Imports (λ z. seq (sign 3 z) (λ p. seq (R.listed imports_kind p) R.declarations)) (λ z. refl) c.in_ok-at.was c.declaration_start_at.ensures c.in-Imports.is
    (runs_seq (λ p. seq (R.listed imports_kind p) R.declarations) (runs-sign c.args.tokens.now 3 _ c.expect-a.ensures) (runs_seq R.declarations c.listed-b.ensures c.declarations-in-Imports.ensures))

pub returns-in-Stop : goal.returns-in-Stop
returns-in-Stop t c =
    declarations-stop c.args.tokens.now c.in_ok-at.at c.requires c.in_ok-at.was c.declaration_start_at.ensures c.in-Stop.is
