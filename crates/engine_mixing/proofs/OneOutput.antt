-- The lanes of one row added: one group with one output.
use Prim.Native.Nat.{ℕ, zero, suc, ◌+◌, ◌-◌, ◌≤◌, ◌<◌}
use native.Mathlib.Omega.{arith}
use native.Mathlib.Numerals.{add-one}
use mathlib.Core.Path.{◌≡◌, refl, sym, ap, ◌∙◌}
use mathlib.Core.List.{List, [], ◌∷◌}
use lib.ListN.{length, get_or}
use lib.Seq.{take-suc}
use lib.Ieee.{Float, binary32, add}
use Rattle.engine_rows.specs.Rows.{in_lane, lane, added_of, between}
use Rattle.code_interpreter.specs.Passes.{added}
use Rattle.engine_mixing.specs.Groups.{row_offset, rows_of, group_in, Allocated, notes_added, lanes_added}

module _ (row : List Float) (m : ℕ) (sample : Float) where
  pub record AddingLanes (y : Float) (j : ℕ) : Type 0 where
    pub most : j ≤ m
    pub notes : m ≤ 16
    pub is : lanes_added row j (m - j) y ≡ lanes_added row 0 m sample

  pub lanes_start : m ≤ 16 → AddingLanes sample 0
  lanes_start h = let t : m - 0 ≡ m = omega arith in record { most = omega arith; notes = h; is = ap (λ (k : ℕ). lanes_added row 0 k sample) t }

  module _ (y : Float) (j : ℕ) (s : AddingLanes y j) where
    pub lanes_next : {v : Float} → j < m → v ≡ in_lane j row → AddingLanes (add binary32 y v) (j + 1)
    unfolding lanes_added
    lanes_next {v = v} h u =
        let t : m - j ≡ suc (m - (j + 1)) = omega arith in
        let z : lanes_added row (j + 1) (m - (j + 1)) (add binary32 y v) ≡ lanes_added row j (suc (m - (j + 1))) y =
        (λ i. lanes_added row (add-one j i) (m - (j + 1)) (add binary32 y (u i))) in
        record { most = omega arith; notes = s.notes; is = z ∙ ap (λ (k : ℕ). lanes_added row j k y) (sym t) ∙ s.is }

    pub lanes_end : m ≤ j → y ≡ lanes_added row 0 m sample
    unfolding lanes_added
    lanes_end h = let t : m - j ≡ 0 = omega arith in sym (ap (λ (k : ℕ). lanes_added row j k y) t) ∙ s.is

-- one group with one output
module _ (allocation offsets : List ℕ) (groups : ℕ) (rows : List (List Float)) (m : ℕ) (d : List Float) (p : Allocated allocation m groups 16) (o : groups ≡ 1)
    (a : row_offset offsets 0 ≡ 0) (b : row_offset offsets 1 ≡ 1) (c : 0 < length rows) where
  row_is : between 0 1 rows ≡ get_or rows 0 d ∷ []
  row_is = take-suc rows 0 d c

  one-output-from : (j k : ℕ) → j + k ≤ m → (y : Float) → lanes_added (get_or rows 0 d) j k y ≡ notes_added allocation offsets rows j k y
  unfolding lanes_added notes_added added lane
  one-output-from j zero h y = refl
  one-output-from j (suc k) h y =
      let i : j < m = omega arith in
      let g : group_in allocation j ≡ 0 = let z = p.group j i in omega (arith, o) in
      let f : row_offset offsets (group_in allocation j) ≡ 0 = ap (row_offset offsets) g ∙ a in
      let l : row_offset offsets (group_in allocation j + 1) ≡ 1 = ap (λ (n : ℕ). row_offset offsets (n + 1)) g ∙ b in
      let q : rows_of offsets (group_in allocation j) rows ≡ get_or rows 0 d ∷ [] = (λ t. between (f t) (l t) rows) ∙ row_is in
      one-output-from (suc j) k (omega arith) (add binary32 y (in_lane j (get_or rows 0 d)))
      ∙ (λ t. notes_added allocation offsets rows (suc j) k (added_of (sym (p.order o j i) t) (sym q t) y))

  pub one-output : (y : Float) {r : Float} → r ≡ lanes_added (get_or rows 0 d) 0 m y → r ≡ notes_added allocation offsets rows 0 m y
  one-output y e = e ∙ one-output-from 0 m (omega arith) y
