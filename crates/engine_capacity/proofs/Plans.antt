-- A plan of an accepted orchestra's notes fits.
use Prim.Native.Nat.{ℕ, ◌+◌}
use native.Mathlib.Omega.{arith}
use mathlib.Core.Path.{◌≡◌, refl, sym, ap, ◌∙◌}
use mathlib.Core.Bool.{Bool, true, false, true≢false}
use mathlib.Core.List.{List, [], ◌∷◌, ◌++◌, map}
use lib.ListN.{length, take, length-map, length-append}
use lib.Dec.{eqb}
use Rattle.std.specs.Option.{is_some}
use Rattle.code_program.specs.declared.Instrument.{Instrument}
use Rattle.code_program.specs.InstrumentTable.{lookup_in, instrument_in}
use Rattle.code_interpreter.specs.Passes.{stretch}
use Rattle.code_loader.specs.Loading.{load_of}
use Rattle.code_loader_claims.specs.Claims.{a_codes}
use Rattle.code_loader_claims.proofs.Loaded.{loaded-code}
use Rattle.code_decoder.specs.Decoded.{count_of}
use Rattle.engine_rows.specs.Instruction.{outs_of}
use Rattle.engine_plan.specs.declared.Range.{Range}
use Rattle.engine_plan.specs.Plans.{cut_range, In, needed, Roomy}
use Rattle.engine_plan.specs.Plans as plans
use Rattle.engine_plan.proofs.Plans.{stretch-there}
use Rattle.engine_capacity.specs.Capacity.{EveryPlanFits}
use Rattle.engine_capacity.proofs.Counts.{count-append, outs-append}
use Rattle.engine_capacity.proofs.Holds.{engine-holds}

-- the ranges of a table's rows
abbrev cut : List ℕ → Instrument → Range
cut code x = cut_range x.astart x.aend code

-- the row of a name that is there is one of them
found_in : (code : List ℕ) (name : ℕ) (table : List Instrument) → is_some (lookup_in name table) ≡ true → In (cut code (instrument_in table name)) (map (cut code) table)
unfolding lookup_in
found_in code name [] h = absurd (true≢false (sym h))
found_in code name (x ∷ xs) h = go (eqb x.name name) refl (λ l. found_in code name xs l)
  where
    go : (b : Bool) → eqb x.name name ≡ b → (is_some (lookup_in name xs) ≡ true → In (cut code (instrument_in xs name)) (map (cut code) xs))
        → In (cut code (instrument_in (x ∷ xs) name)) (cut code x ∷ map (cut code) xs)
    go true e f = rw e plans.In.first
    go false e f = rw e (plans.In.later (f (rw e at h)))

-- what they need in all is what their code needs
module _ (f : List ℕ → ℕ) (none : f [] ≡ 0) (append : (xs ys : List ℕ) → f (xs ++ ys) ≡ f xs + f ys) where
  needed-code : (code : List ℕ) (table : List Instrument) → needed f code (map (cut code) table) ≡ f (a_codes table code)
  unfolding needed a_codes
  needed-code code [] = sym none
  needed-code code (x ∷ xs) =
      let c = stretch x.astart x.aend code in
      (λ i. f (stretch-there x.astart x.aend code i) + needed-code code xs i) ∙ sym (append c (a_codes xs code))

count_none : count_of [] ≡ 0
unfolding count_of
count_none = refl

outs-none : outs_of [] ≡ 0
unfolding outs_of
outs-none = refl

pub every-plan-fits : EveryPlanFits
every-plan-fits bs is a notes m p known F =
    let code = (load_of bs).left.code in
    let table = take (load_of bs).left.count (load_of bs).left.table in
    let c = loaded-code bs is a in
    let h = engine-holds bs is a in
    let rs = map (cut code) table in
    let words : needed length code rs ≡ length (a_codes table code) = needed-code length refl (λ xs ys. length-append xs ys) code table in
    let outs : needed outs_of code rs ≡ outs_of (a_codes table code) = needed-code outs_of outs-none outs-append code table in
    let numbers : needed count_of code rs ≡ count_of (a_codes table code) = needed-code count_of count_none count-append code table in
    F.all rs
    (record {
      groups = omega (arith, length-map table (cut code), c.rows, h.groups);
      words = omega (arith, words, ap length c.code, h.words);
      rows = omega (arith, outs, ap outs_of c.code, h.rows);
      numbers = omega (arith, numbers, ap count_of c.code, h.numbers);
    })
    (λ i d l. found_in code _ table (known i d l))
