-- The rate rules of one instruction whose name is put by its place: whether it keeps them, and the rates after it.
use Rattle.std.specs.Prelude.{ℕ, ◌+◌, ◌-◌, max, Bool, true, ◌&&◌, cond, leb, ltb}
use Rattle.orchestra_syntax.specs.inside.Placed.{rate_of}
use Rattle.orchestra_syntax.specs.declared.OpClass.{OpClass}
use Rattle.orchestra_syntax.specs.declared.OpClass.TheVariants.{Value, Name, Store, Output, If, Else, End, Declare, Instr}
use Rattle.orchestra_rate_rules.specs.declared.Rates.{Rates}

-- the fastest part of the expression so far; how many ifs are open from the first on whose guard, or one around it, has rate k, and rate a
abbrev pub rates : ℕ → ℕ → ℕ → Rates
rates m k a = record { fastest = m; kdeep = k; adeep = a }

-- the rate of the fastest guard around
abbrev pub guard : Rates → ℕ
guard q = cond (ltb 0 q.adeep) 2 (cond (ltb 0 q.kdeep) 1 0)

-- one more if, the fastest guard around whose statements has rate m; one less
abbrev pub entered : ℕ → Rates → Rates
entered m q = cond (leb 2 m) (rates 0 (q.kdeep + 1) (q.adeep + 1)) (cond (leb 1 m) (rates 0 (q.kdeep + 1) q.adeep) (rates 0 q.kdeep q.adeep))

abbrev pub left : Rates → Rates
left q = rates q.fastest (q.kdeep - 1) (q.adeep - 1)

-- whether an instruction keeps the rules: an assignment is slower neither than its expression nor than a guard around it; an output has
-- rate a, and no guard is faster
abbrev pub rates_valid : OpClass → ℕ → Rates → Bool
rates_valid Value n q = true
rates_valid Name n q = true
rates_valid Store n q = leb q.fastest (rate_of n) && leb (guard q) (rate_of n)
rates_valid Output n q = true
rates_valid If n q = true
rates_valid Else n q = true
rates_valid End n q = true
rates_valid Declare n q = true
rates_valid Instr n q = true

abbrev pub rates_after : OpClass → ℕ → Rates → Rates
rates_after Value n q = q
rates_after Name n q = rates (max q.fastest (rate_of n)) q.kdeep q.adeep
rates_after Store n q = rates 0 q.kdeep q.adeep
rates_after Output n q = rates 0 q.kdeep q.adeep
rates_after If n q = entered (max (guard q) q.fastest) q
rates_after Else n q = q
rates_after End n q = left q
rates_after Declare n q = q
rates_after Instr n q = q
