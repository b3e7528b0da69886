-- Laws of the functions on lists.
use mathlib.Core.Path.{◌≡◌, refl, ap, ◌∙◌}
use mathlib.Core.Bool.{Bool, true, false}
use mathlib.Core.List.{List, [], ◌∷◌, ◌++◌}
use Prim.Native.Nat.{suc, ◌≤◌}
use native.Mathlib.Omega.{arith}
use lib.ListN.{length}
pub use Rattle.base_laws.proofs.Choice.{cond-true, cond-false, either_way}
pub use borrow.Table.Steps.{cases as by-test}
use Rattle.player_model.specs.Lists.{filter, fold, each, All}

pub length-each : {A B : Type 0} (f : A → B) (xs : List A) → length (each f xs) ≡ length xs
unfolding each
length-each f [] = refl
length-each f (x ∷ xs) = ap suc (length-each f xs)

pub fold-append : {A B : Type 0} (f : B → A → B) (b : B) (xs ys : List A) → fold f b (xs ++ ys) ≡ fold f (fold f b xs) ys
unfolding fold
fold-append f b [] ys = refl
fold-append f b (x ∷ xs) ys = fold-append f (f b x) xs ys

-- two folds over the same list stay related
pub fold-related : {A B C : Type 0} (R : B → C → Type 0) (P : A → Type 0) (f : B → A → B) (g : C → A → C)
    → ((b : B) (c : C) (x : A) → P x → R b c → R (f b x) (g c x)) → (xs : List A) → All P xs → (b : B) (c : C) → R b c → R (fold f b xs) (fold g c xs)
unfolding fold
fold-related R P f g h [] a b c r = r
fold-related R P f g h (x ∷ xs) a b c r = fold-related R P f g h xs a.1 (f b x) (g c x) (h b c x a.0 r)

-- what each element keeps true, a fold keeps true
pub fold-keeps : {A B : Type 0} (Q : B → Type 0) (P : A → Type 0) (f : B → A → B) → ((b : B) (x : A) → P x → Q b → Q (f b x))
    → (xs : List A) → All P xs → (b : B) → Q b → Q (fold f b xs)
fold-keeps {B = B} Q P f h xs a b q = fold-related (λ (b c : B). Q b) P f f (λ b c. h b) xs a b b q

pub fold_same : {A B : Type 0} (f g : B → A → B) → ((b : B) (x : A) → f b x ≡ g b x) → (b : B) (xs : List A) → fold f b xs ≡ fold g b xs
fold_same {A} {B} f g e b xs = λ i. fold (λ (b : B) (x : A). e b x i) b xs

module _ {A : Type 0} (f : A → Bool) where
  pub filter-append : (xs ys : List A) → filter f (xs ++ ys) ≡ filter f xs ++ filter f ys
  unfolding filter
  filter-append [] ys = refl
  filter-append (x ∷ xs) ys = by-test (f x) (λ e. cc (filter-append xs ys)) (λ e. cc (filter-append xs ys))

  pub length-filter : (xs : List A) → length (filter f xs) ≤ length xs
  unfolding filter
  length-filter [] = omega arith
  length-filter (x ∷ xs) = either_way (λ (l : List A). length l ≤ suc (length xs)) (f x) (omega (arith, length-filter xs)) (omega (arith, length-filter xs))

  -- what holds of every element holds of those kept
  pub all_filter : (P : A → Type 0) (xs : List A) → All P xs → All P (filter f xs)
  unfolding filter
  all_filter P [] h = tt
  all_filter P (x ∷ xs) h = either_way (All P) (f x) (h.0, all_filter P xs h.1) (all_filter P xs h.1)

  pub filter_none : (xs : List A) → All (λ (x : A). f x ≡ false) xs → filter f xs ≡ []
  unfolding filter
  filter_none [] h = refl
  filter_none (x ∷ xs) h = cond-false _ _ h.0 ∙ filter_none xs h.1

  pub filter-all : (xs : List A) → All (λ (x : A). f x ≡ true) xs → filter f xs ≡ xs
  unfolding filter
  filter-all [] h = refl
  filter-all (x ∷ xs) h = cc (h.0, filter-all xs h.1)

pub all_append : {A : Type 0} (P : A → Type 0) (xs ys : List A) → All P xs → All P ys → All P (xs ++ ys)
all_append P [] ys f g = g
all_append P (x ∷ xs) ys f g = (f.0, all_append P xs ys f.1 g)

pub all-parts : {A : Type 0} (P : A → Type 0) (xs ys : List A) → All P (xs ++ ys) → All P xs × All P ys
all-parts P [] ys h = (tt, h)
all-parts P (x ∷ xs) ys h = let r = all-parts P xs ys h.1 in ((h.0, r.0), r.1)

pub all_of : {A : Type 0} (P : A → Type 0) → ((x : A) → P x) → (xs : List A) → All P xs
all_of P h [] = tt
all_of P h (x ∷ xs) = (h x, all_of P h xs)

pub all_map : {A : Type 0} (P Q : A → Type 0) → ((x : A) → P x → Q x) → (xs : List A) → All P xs → All Q xs
all_map P Q h [] f = tt
all_map P Q h (x ∷ xs) f = (h x f.0, all_map P Q h xs f.1)

pub all-each : {A B : Type 0} (f : A → B) (Q : B → Type 0) → ((x : A) → Q (f x)) → (xs : List A) → All Q (each f xs)
unfolding each
all-each f Q h [] = tt
all-each f Q h (x ∷ xs) = (h x, all-each f Q h xs)

pub each_same : {A B : Type 0} (f g : A → B) → ((x : A) → f x ≡ g x) → (xs : List A) → each f xs ≡ each g xs
each_same {A} f g e xs = λ i. each (λ (x : A). e x i) xs
