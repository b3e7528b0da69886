-- The oldest note without priority: its place, and the notes without it.
use mathlib.Core.Path.{◌≡◌, refl, sym, ap, ◌∙◌, subst}
use mathlib.Core.Bool.{Bool, true, false, cond}
use mathlib.Core.List.{List, [], ◌∷◌, ◌++◌}
use Prim.Native.Nat.{ℕ, zero, suc, ◌+◌, ◌≤◌, ◌<◌}
use native.Mathlib.Omega.{arith}
use native.Mathlib.Numerals.{add-one}
use native.Mathlib.Nat.{le_of_suc-le-suc}
use lib.ListN.{length, take, drop, get_or, set, length-append}
use lib.Seq.{take-suc, drop-cons, drop_at, length-take-le}
use Rattle.player_model.specs.Lists.{each, over}
use Rattle.player_model.specs.Cycle.{can_cut, cut_oldest, joined_by}
use Rattle.player_model.specs.Cycle as cycle
use Rattle.player_model.proofs.Lists.{cond-true, cond-false}
use Rattle.player_model.proofs.Loops.{over-set, length_over, take-over}
use Rattle.note_state.specs.declared.Note.{Note}
use Rattle.voices_compiled.specs.Voices.{VoiceState}
use Rattle.note_pool.specs.Notes.{notes_in, started_in, oldest_without_priority, without_element}
use Rattle.note_lifecycle.specs.OneNote.{note_of}
use Rattle.note_pool.specs.Started.{StartedBy}
use Rattle.note_pool.specs.declared.Started.{Started}
use Rattle.note_pool.proofs.Steps.{each_append, each-one, over-self, cut}

-- ---- the place, among the notes from i on

module _ (l : List Note) (i : ℕ) where
  abbrev pub Past : Type 0
  Past = i + oldest_without_priority (drop i l) ≡ oldest_without_priority l

  pub past_one : (d : Note) → i < length l → (get_or l i d).priority ≡ true → Past → (i + 1) + oldest_without_priority (drop (i + 1) l) ≡ oldest_without_priority l
  unfolding oldest_without_priority
  past_one d h e q =
      let x : oldest_without_priority (drop i l) ≡ suc (oldest_without_priority (drop (suc i) l)) = ap oldest_without_priority (drop-cons l i d h) ∙ cond-true _ _ e in
      rw add-one (omega (arith, x, q))

  pub past-here : (d : Note) → i < length l → (get_or l i d).priority ≡ false → Past → i ≡ oldest_without_priority l
  unfolding oldest_without_priority
  past-here d h e q =
      let x : oldest_without_priority (drop i l) ≡ 0 = ap oldest_without_priority (drop-cons l i d h) ∙ cond-false _ _ e in
      omega (arith, x, q)

  pub past_all : length l ≤ i → Past → i ≡ oldest_without_priority l
  unfolding oldest_without_priority
  past_all h q = let x = none i l h in omega (arith, x, q)
    where
      none : (i : ℕ) (l : List Note) → length l ≤ i → oldest_without_priority (drop i l) ≡ 0
      none zero [] h = refl
      none zero (x ∷ xs) h = absurd (omega arith)
      none (suc i) [] h = refl
      none (suc i) (x ∷ xs) h = none i xs (le_of_suc-le-suc h)

pub past-none : (l : List Note) → Past l 0
past-none l = omega arith

-- ---- a list without an element

module _ {A : Type 0} where
  left-more : (place : ℕ) (xs : List A) (y : A) → place < length xs → without_element place (xs ++ (y ∷ [])) ≡ without_element place xs ++ (y ∷ [])
  unfolding without_element
  left-more place [] y h = absurd (omega arith)
  left-more zero (x ∷ xs) y h = refl
  left-more (suc place) (x ∷ xs) y h = ap (λ (l : List A). x ∷ l) (left-more place xs y (le_of_suc-le-suc h))

  left-last : (place : ℕ) (l : List A) → without_element place (take (suc place) l) ≡ take place l
  unfolding without_element
  left-last zero [] = refl
  left-last (suc place) [] = refl
  left-last zero (x ∷ xs) = refl
  left-last (suc place) (x ∷ xs) = ap (λ (l : List A). x ∷ l) (left-last place xs)

  pub length-left : (place : ℕ) (xs : List A) → place < length xs → length (without_element place xs) + 1 ≡ length xs
  unfolding without_element
  length-left place [] h = absurd (omega arith)
  length-left zero (x ∷ xs) h = omega arith
  length-left (suc place) (x ∷ xs) h = let r = length-left place xs (le_of_suc-le-suc h) in omega (arith, r)

  -- the loop that moves the later ones down
  pub moved_none : (l : List A) (place : ℕ) → l ≡ over (without_element place (take (place + 1) l)) l
  moved_none l place = over-self place l ∙ ap (λ (x : List A). over x l) (sym (ap (λ (n : ℕ). without_element place (take n l)) (add-one place) ∙ left-last place l))

  pub moved-one : (l a : List A) (place i : ℕ) (d : A) → place ≤ i → i + 1 < length l → a ≡ over (without_element place (take (i + 1) l)) l
      → set a i (get_or l (i + 1) d) ≡ over (without_element place (take (i + 1 + 1) l)) l
  moved-one l a place i d h g p =
      let ks = without_element place (take (i + 1) l) in
      let t : length (take (i + 1) l) ≡ i + 1 = length-take-le (i + 1) l (omega arith) in
      let f = length-left place (take (i + 1) l) (omega (arith, t)) in
      let n : length ks ≡ i = omega (arith, t, f) in
      ap (λ (x : List A). set x i (get_or l (i + 1) d)) p
      ∙ subst (λ (m : ℕ). set (over ks l) m (get_or l (i + 1) d) ≡ over (ks ++ (get_or l (i + 1) d ∷ [])) l) n
      (over-set ks l (get_or l (i + 1) d) (omega (arith, n)))
      ∙ ap (λ (x : List A). over x l) (sym (left-more place (take (i + 1) l) (get_or l (i + 1) d) (omega (arith, t)))
      ∙ ap (without_element place) (sym (ap (λ (m : ℕ). take m l) (add-one (i + 1)) ∙ take-suc l (i + 1) d g)))

-- ---- the notes of a cycle

pub cut_at : (ns : List Note) → oldest_without_priority ns < length ns
    → (can_cut (each note_of ns) ≡ true) × (each note_of (without_element (oldest_without_priority ns) ns) ≡ cut_oldest (each note_of ns))
unfolding oldest_without_priority without_element can_cut cut_oldest each
cut_at [] h = absurd (omega arith)
cut_at (n ∷ ns) h = go n.priority (cut_at ns) h
  where
    go : (b : Bool) → (oldest_without_priority ns < length ns → (can_cut (each note_of ns) ≡ true) × (each note_of (without_element (oldest_without_priority ns) ns) ≡ cut_oldest (each note_of ns)))
        → cond b (suc (oldest_without_priority ns)) 0 < suc (length ns)
        → (cond b (can_cut (each note_of ns)) true ≡ true)
        × (each note_of (without_element (cond b (suc (oldest_without_priority ns)) 0) (n ∷ ns)) ≡ cond b (note_of n ∷ cut_oldest (each note_of ns)) (each note_of ns))
    go true r g = let q = r (le_of_suc-le-suc g) in (q.0, ap (λ (l : List (cycle.Note VoiceState)). note_of n ∷ l) q.1)
    go false r g = (refl, refl)

pub cut-none : (ns : List Note) → length ns ≤ oldest_without_priority ns → can_cut (each note_of ns) ≡ false
unfolding oldest_without_priority can_cut each
cut-none [] h = refl
cut-none (n ∷ ns) h = go n.priority (cut-none ns) h
  where
    go : (b : Bool) → (length ns ≤ oldest_without_priority ns → can_cut (each note_of ns) ≡ false) → suc (length ns) ≤ cond b (suc (oldest_without_priority ns)) 0
        → cond b (can_cut (each note_of ns)) true ≡ false
    go true r g = r (le_of_suc-le-suc g)
    go false r g = absurd (omega arith)

-- ---- a line of priority, with every place taken

abbrev sounding_of : Started → List Note
sounding_of v = take v.count v.notes

module _ (v : Started) (long : length v.notes ≡ 16) (g : v.count ≤ 16) where
  count-is : length (sounding_of v) ≡ v.count
  count-is = length-take-le v.count v.notes (omega arith)

  pub none-to-cut : (place : ℕ) → place ≡ oldest_without_priority (sounding_of v) → v.count ≤ place → can_cut (notes_in v.notes v.count) ≡ false
  none-to-cut place e q = cut-none (sounding_of v) (omega (arith, count-is, e))

module _ (most : ℕ) (s : cycle.Started VoiceState) (v w r : Started) (n : Note) (long : length v.notes ≡ 16) (h : most ≤ v.count) (g : v.count ≤ 16) where
  pub start-cut : n.priority ≡ true → (place : ℕ) → place ≡ oldest_without_priority (sounding_of v) → place < v.count
      → (w.notes ≡ over (without_element place (sounding_of v)) v.notes) × (w.count + 1 ≡ v.count) × (w.missed ≡ v.missed + 1)
      → (r.notes ≡ set w.notes w.count n) × (r.count ≡ w.count + 1) × (r.missed ≡ w.missed)
      → joined_by most (started_in v.notes v.count v.missed) (note_of n) ≡ s → StartedBy s v r
  start-cut p place e q a b j =
      let xs = without_element place (sounding_of v) in
      let l : length xs + 1 ≡ length (sounding_of v) = length-left place (sounding_of v) (omega (arith, count-is v long g)) in
      let k : length xs ≡ w.count = omega (arith, l, count-is v long g, a.1) in
      let ys : List Note = xs ++ (n ∷ []) in
      let m : length ys ≡ length xs + 1 = length-append xs (n ∷ []) in
      let long-ys : r.count ≡ length ys = omega (arith, b.1, k, m) in
      let are : r.notes ≡ over ys v.notes =
      b.0 ∙ ap (λ (x : List Note). set x w.count n) a.0
      ∙ subst (λ (i : ℕ). set (over xs v.notes) i n ≡ over ys v.notes) k (over-set xs v.notes n (omega (arith, k, a.1))) in
      let c = cut_at (sounding_of v) (omega (arith, e, count-is v long g)) in
      let left : each note_of xs ≡ cut_oldest (each note_of (sounding_of v)) = ap (λ (i : ℕ). each note_of (without_element i (sounding_of v))) e ∙ c.1 in
      let notes : notes_in r.notes r.count ≡ cut_oldest (notes_in v.notes v.count) ++ (note_of n ∷ []) =
      ap (each note_of) (take-over ys v.notes long-ys are) ∙ each_append note_of xs (n ∷ [])
      ∙ (λ i. left i ++ each-one note_of n i) in
      record {
        are =
            (λ i. record { notes = notes i; missed = (b.2 ∙ a.2) i })
            ∙ cut v.notes v.count v.missed n long most h g p c.0 ∙ j;
        room = omega (arith, b.1, a.1);
        more = omega (arith, b.1, a.1);
        few = omega (arith, b.2, a.2);
        long = ap length are ∙ length_over ys v.notes (omega (arith, long-ys, b.1, a.1));
        behind = ap (drop r.count) are ∙ ap (λ (i : ℕ). drop i (over ys v.notes)) long-ys
            ∙ drop_at ys (drop (length ys) v.notes) (length ys) refl ∙ ap (λ (i : ℕ). drop i v.notes) (sym long-ys);
      }
