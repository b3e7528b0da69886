-- The outputs of a lane added, and those of notes.
use Prim.Native.Nat.{ℕ, suc, ◌+◌, ◌-◌, ◌≤◌, ◌<◌}
use native.Mathlib.Omega.{arith}
use native.Mathlib.Numerals.{add-one}
use mathlib.Core.Path.{◌≡◌, refl, sym, ap, subst, ◌∙◌}
use mathlib.Core.List.{List, ◌∷◌}
use lib.ListN.{length, get_or, take, drop, length-take, drop_of_length-le}
use lib.Seq.{drop-cons, get_or-take}
use lib.Ieee.{Float, binary32, add}
use Rattle.engine_rows.specs.Rows.{in_lane, lane, added_of, between}
use Rattle.code_interpreter.specs.Passes.{added}
use Rattle.engine_mixing.specs.Groups.{group_in, lane_in, RowsThere, notes_added}

-- ---- added

module _ (rows : List (List Float)) (from end l : ℕ) (sample : Float) where
  pub record Adding (y : Float) (o : ℕ) : Type 0 where
    pub inside : end ≤ length rows
    pub is : added_of l (between o end rows) y ≡ added_of l (between from end rows) sample

  pub adds : end ≤ length rows → Adding sample from
  adds h = record { inside = h; is = refl }

  module _ (y : Float) (o : ℕ) (g : Adding y o) where
    pub adds_on : (d : List Float) {v : Float} → o < end → v ≡ in_lane l (get_or rows o d) → Adding (add binary32 y v) (o + 1)
    unfolding added lane
    adds_on d {v = v} h e =
        let i : o < length (take end rows) = omega (arith, length-take end rows, g.inside) in
        let c : between o end rows ≡ get_or rows o d ∷ between (o + 1) end rows =
        rw (add-one o) (drop-cons (take end rows) o d i ∙ ap (λ (r : List Float). r ∷ drop (suc o) (take end rows)) (get_or-take end rows o d h)) in
        record {
          inside = g.inside;
          is = ap (λ (x : Float). added_of l (between (o + 1) end rows) (add binary32 y x)) e ∙ sym (ap (λ (t : List (List Float)). added_of l t y) c) ∙ g.is;
        }

    pub added-all : end ≤ o → y ≡ added_of l (between from end rows) sample
    unfolding added lane
    added-all h =
        sym (ap (λ (t : List (List Float)). added_of l t y) (drop_of_length-le (take end rows) {i = o} (omega (arith, length-take end rows)))) ∙ g.is

-- ---- note by note

module _ (allocation offsets : List ℕ) (rows : List (List Float)) (m : ℕ) (sample : Float) where
  pub record AddingNotes (y : Float) (j : ℕ) : Type 0 where
    pub most : j ≤ m
    pub notes : m ≤ 16
    pub placed : RowsThere allocation offsets m (length rows)
    pub is : notes_added allocation offsets rows j (m - j) y ≡ notes_added allocation offsets rows 0 m sample

  pub notes-start : m ≤ 16 → RowsThere allocation offsets m (length rows) → AddingNotes sample 0
  notes-start h i = let t : m - 0 ≡ m = omega arith in record { most = omega arith; notes = h; placed = i; is = ap (λ (k : ℕ). notes_added allocation offsets rows 0 k sample) t }

  module _ (y : Float) (j : ℕ) (s : AddingNotes y j) where
    pub in_group : j < m → group_in allocation j < 8
    in_group h = s.placed.few j h

    pub offset-first : j < m → 9 + group_in allocation j < 27
    offset-first h = let z = in_group h in omega arith

    pub offset-next : j < m → 9 + group_in allocation j + 1 < 27
    offset-next h = let z = in_group h in omega arith

    pub in-lanes : j < m → lane_in allocation j < 16
    in-lanes h = s.placed.lane j h

    pub in_rows : j < m → get_or offsets (9 + group_in allocation j + 1) 0 ≤ length rows
    in_rows h = let e : 9 + (group_in allocation j + 1) ≡ 9 + group_in allocation j + 1 = omega arith in subst (λ (k : ℕ). get_or offsets k 0 ≤ length rows) e (s.placed.room j h)

    pub notes-next : {v : Float} → j < m → v ≡ added_of (lane_in allocation j) (between (get_or offsets (9 + group_in allocation j) 0) (get_or offsets (9 + group_in allocation j + 1) 0) rows) y → AddingNotes v (j + 1)
    unfolding notes_added
    notes-next {v = v} h u =
        let t : m - j ≡ suc (m - (j + 1)) = omega arith in
        let e : 9 + group_in allocation j + 1 ≡ 9 + (group_in allocation j + 1) = omega arith in
        let q = u ∙ ap (λ (k : ℕ). added_of (lane_in allocation j) (between (get_or offsets (9 + group_in allocation j) 0) (get_or offsets k 0) rows) y) e in
        let z : notes_added allocation offsets rows (j + 1) (m - (j + 1)) v ≡ notes_added allocation offsets rows j (suc (m - (j + 1))) y =
        (λ i. notes_added allocation offsets rows (add-one j i) (m - (j + 1)) (q i)) in
        record { most = omega arith; notes = s.notes; placed = s.placed; is = z ∙ ap (λ (k : ℕ). notes_added allocation offsets rows j k y) (sym t) ∙ s.is }

    pub notes-end : m ≤ j → y ≡ notes_added allocation offsets rows 0 m sample
    unfolding notes_added
    notes-end h = let t : m - j ≡ 0 = omega arith in sym (ap (λ (k : ℕ). notes_added allocation offsets rows j k y) t) ∙ s.is
