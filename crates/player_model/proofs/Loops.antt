-- Laws for loops over an array: one that folds, one that keeps the elements that pass a test in place, one that lays a list over an array.
use mathlib.Core.Path.{◌≡◌, refl, sym}
use mathlib.Core.Bool.{Bool, true, false}
use mathlib.Core.List.{List, [], ◌∷◌, ◌++◌, append_assoc, append-nil}
use Prim.Native.Nat.{ℕ, ◌+◌, ◌-◌, ◌≤◌, ◌<◌, min}
use native.Mathlib.Omega.{arith}
use native.Mathlib.Numerals.{add-one}
use lib.ListN.{length, take, drop, get_or, set, length-append, length-drop}
use lib.Seq.{take-suc, take_at, drop-cons, drop-drop, drop-append-add, set_at, length-take-le}
use Rattle.base_laws.proofs.Lists.{take_min}
use Rattle.player_model.specs.Lists.{filter, fold, over}
use Rattle.player_model.proofs.Lists.{filter-append, fold-append}

-- where a loop up to such a count ends
pub take-end : {A : Type 0} (l : List A) (n m i : ℕ) → length l ≡ m → (w : ℕ) → w ≡ min n m → i ≤ w → w ≤ i → take i l ≡ take n l
take-end l n m i h w e a b = let q : i ≡ min n m = omega arith in cc (take_min l n m h)

pub fold-take : {A B : Type 0} (f : B → A → B) (b : B) (l : List A) (i : ℕ) (d : A) → i < length l
    → fold f b (take (i + 1) l) ≡ f (fold f b (take i l)) (get_or l i d)
unfolding fold
fold-take f b l i d h = rw (add-one, take-suc l i d h, fold-append f b (take i l) (get_or l i d ∷ []))

-- a folding loop's value, one element on
pub fold_step : {A B : Type 0} (f : B → A → B) (b : B) (l : List A) (i : ℕ) (d : A) → i < length l
    → (x y : B) → x ≡ fold f b (take i l) → y ≡ f x (get_or l i d) → y ≡ fold f b (take (i + 1) l)
fold_step f b l i d h x y p q = cc (fold-take f b l i d h)

pub over-set : {A : Type 0} (ks l : List A) (v : A) → length ks < length l → set (over ks l) (length ks) v ≡ over (ks ++ (v ∷ [])) l
over-set ks l v h = rw (drop-cons l (length ks) v h, set_at ks _ _ v (length ks) refl, append_assoc, length-append, add-one)

pub length_over : {A : Type 0} (xs old : List A) → length xs ≤ length old → length (over xs old) ≡ length old
length_over xs old h = simp (length-append, length-drop) (omega arith)

module _ {A : Type 0} (f : A → Bool) where
  -- what the loop has packed of the first i elements of l
  pub record Packed (l a : List A) (k i : ℕ) : Type 0 where
    pub count : k ≡ length (filter f (take i l))
    pub held : a ≡ over (filter f (take i l)) l
    pub small : k ≤ i

  pub packed_none : (l : List A) → Packed l l 0 0
  unfolding filter
  packed_none l = record { count = refl; held = refl; small = omega arith }

  pub filter-yes : (l : List A) (i : ℕ) (d : A) → i < length l → f (get_or l i d) ≡ true
      → filter f (take (i + 1) l) ≡ filter f (take i l) ++ (get_or l i d ∷ [])
  unfolding filter
  filter-yes l i d h e = rw (add-one, take-suc l i d h, filter-append f (take i l) (get_or l i d ∷ []), e)

  pub filter-no : (l : List A) (i : ℕ) (d : A) → i < length l → f (get_or l i d) ≡ false
      → filter f (take (i + 1) l) ≡ filter f (take i l)
  unfolding filter
  filter-no l i d h e = rw (add-one, take-suc l i d h, filter-append f (take i l) (get_or l i d ∷ []), e) (append-nil _)

  pub packed-yes : (l a : List A) (k i : ℕ) (d : A) → i < length l → f (get_or l i d) ≡ true
      → Packed l a k i → Packed l (set a k (get_or l i d)) (k + 1) (i + 1)
  packed-yes l a k i d h e p = record {
    count = rw (filter-yes l i d h e, length-append, ← p.count);
    held = rw (filter-yes l i d h e, p.held, p.count) (over-set (filter f (take i l)) l (get_or l i d) (omega arith));
    small = omega arith;
  }

  pub packed-no : (l a : List A) (k i : ℕ) (d : A) → i < length l → f (get_or l i d) ≡ false
      → Packed l a k i → Packed l a k (i + 1)
  packed-no l a k i d h e p = record {
    count = rw (filter-no l i d h e) p.count;
    held = rw (filter-no l i d h e) p.held;
    small = omega arith;
  }

-- one more element laid over an array
pub laid-step : {A : Type 0} (new old a : List A) (i : ℕ) (d : A) → i < length new → i < length old
    → a ≡ over (take i new) old → set a i (get_or new i d) ≡ over (take (i + 1) new) old
laid-step new old a i d h k e =
    let n : length (take i new) ≡ i = length-take-le i new (omega arith) in
    cc (add-one i, take-suc new i d h, over-set (take i new) old (get_or new i d) (omega arith))

-- the list that lies over an array, by its length
pub take-over : {A : Type 0} (xs old : List A) {k : ℕ} {a : List A} → k ≡ length xs → a ≡ over xs old → take k a ≡ xs
take-over xs old {k} e q = cc (take_at xs (drop (length xs) old) k (sym e))

-- what a longer list is laid over may have had a shorter one laid over it
pub over-over : {A : Type 0} (xs ys old : List A) → length xs ≤ length ys → over ys (over xs old) ≡ over ys old
over-over xs ys old h =
    let e : length ys ≡ length xs + (length ys - length xs) = omega arith in
    cc (drop-append-add xs (drop (length xs) old) (length ys - length xs), drop-drop (length ys - length xs) (length xs) old)
