-- The ways through the last stages of reading.
use Prim.Native.Nat.{ℕ, ◌≤◌}
use native.Mathlib.Omega.{arith}
use mathlib.Core.Path.{◌≡◌, sym, ap, ◌∙◌}
use mathlib.Core.Bool.{Bool, true, false}
use mathlib.Core.List.{List}
use lib.ListN.{length, take}
use lib.Seq.{length-take-le}
use lib.Ieee.{Float}
use Rattle.base_answer.specs.declared.Answer.TheVariants.{Taken, BadNames, BadRates}
use Rattle.orchestra_rules.specs.Naming.{names_pass, places_pass}
use Rattle.orchestra_rules.specs.Rating.{rates_pass}
use Rattle.orchestra_reader.specs.declared.Starts.{Starts}
use Rattle.orchestra_reader.specs.inside.Reading.{starts_from, taken}
use Rattle.orchestra_reader.specs.inside.Arrays.{judgement, placed_if, starts_in, kept_in}

module _ (os ns : List ℕ) {b : Bool} (e : b ≡ names_pass os ns) where
  pub misnamed : b ≡ false → (BadNames ≡ judgement os ns) × (ns ≡ placed_if os ns)
  misnamed f = (rw (← e, f), rw (← e, f))

  module _ (f : b ≡ true) {ms : List ℕ} (g : ms ≡ places_pass os ns) {d : Bool} (h : d ≡ rates_pass os ms) where
    rates-are : rates_pass os (places_pass os ns) ≡ d
    rates-are = ap (rates_pass os) (sym g) ∙ sym h

    pub misrated : d ≡ false → (BadRates ≡ judgement os ns) × (ms ≡ placed_if os ns)
    misrated k = (rw (← e, f, rates-are, k), rw (← e, f, g))

    pub both-kept : d ≡ true → (Taken ≡ judgement os ns) × (ms ≡ placed_if os ns)
    both-kept k = (rw (← e, f, rates-are, k), rw (← e, f, g))

-- the first cells of an array
pub cells : {A : Type 0} (n : ℕ) (l : List A) → n ≤ 2048 → length l ≡ 2048 → n ≡ length (take n l)
cells n l le e = sym (length-take-le n l (omega arith))

pub few-cells : {A : Type 0} (n : ℕ) (l : List A) → n ≤ 2048 → length l ≡ 2048 → length (take n l) ≤ 2048
few-cells n l le e = omega (arith, length-take-le n l (omega arith))

pub kept-so : (os ns : List ℕ) (vs : List Float) (n : ℕ) {s : Starts} → s ≡ starts_in (take 8 (starts_from 0 (take n os)))
    → taken (record { count = s.count; heads = s.places; length = n; ops = os; args = ns; vals = vs }) ≡ kept_in os ns vs n
kept-so os ns vs n e = ap (λ (s : Starts). taken (record { count = s.count; heads = s.places; length = n; ops = os; args = ns; vals = vs })) e
