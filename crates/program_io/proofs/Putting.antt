-- Bytes put into a buffer: one run behind the other, element by element, and past the end.
use Rattle.std.proofs.Common.{◌≡◌, ℕ, zero, suc, ◌+◌, ◌-◌, ◌<◌, ◌≤◌, min, List, [], ◌∷◌, ◌++◌, length, get_or, take, set, sym, refl, ap, ◌∙◌, subst, append_assoc, append-nil, suc-le-suc, zero-le, add-one, arith, length-append, take_all, take-suc}
use native.Mathlib.Nat.{min-eq_left, min-eq_right}
use lib.Seq.{sets, length-sets, set_out}
use Rattle.program_io.specs.Bytes.{itself, joined, Put}

either : {P : Type 0} (a b : ℕ) → (a ≤ b → P) → (b ≤ a → P) → P
either zero b f g = f zero-le
either (suc a) zero f g = g zero-le
either (suc a) (suc b) f g = either a b (λ p. f (suc-le-suc p)) (λ q. g (suc-le-suc q))

sets-append : (l : List ℕ) (i : ℕ) (xs ys : List ℕ) → sets l i (xs ++ ys) ≡ sets (sets l i xs) (i + length xs) ys
sets-append l i [] ys = ap (λ k. sets l k ys) (omega arith)
sets-append l i (x ∷ xs) ys =
    let e : suc i + length xs ≡ i + suc (length xs) = omega arith in
    sets-append (set l i x) (suc i) xs ys ∙ ap (λ k. sets (sets (set l i x) (suc i) xs) k ys) e

sets-out : (l : List ℕ) (i : ℕ) (xs : List ℕ) → length l ≤ i → sets l i xs ≡ l
sets-out l i [] h = refl
sets-out l i (x ∷ xs) h = ap (λ k. sets k (suc i) xs) (set_out l i x h) ∙ sets-out l (suc i) xs (omega arith)

-- all of it has room, or it reaches the end
behind-all : {a b xs : List ℕ} {i j : ℕ} → Put a i xs b j → length xs ≤ length a - i → j ≡ i + length xs
behind-all {i = i} p h = p.behind ∙ ap (λ k. i + k) (min-eq_left h)

behind-end : {a b xs : List ℕ} {i j : ℕ} → Put a i xs b j → length a - i ≤ length xs → j ≡ i + (length a - i)
behind-end {i = i} p h = p.behind ∙ ap (λ k. i + k) (min-eq_right h)

module _ {a b c : List ℕ} {i j k : ℕ} {xs ys : List ℕ} (p : Put a i xs b j) (q : Put b j ys c k) where
  same : length b ≡ length a
  same = ap length p.laid ∙ length-sets a i xs

  laid_on : sets b j ys ≡ sets (sets a i xs) (i + length xs) ys
  laid_on =
      either (length xs) (length a - i)
      (λ h. ap (λ k. sets b k ys) (behind-all p h) ∙ ap (λ l. sets l (i + length xs) ys) p.laid)
      (λ h.
      let s = same in
      let e = behind-end p h in
      let ends : length b ≤ j = omega arith in
      let far : length (sets a i xs) ≤ i + length xs = rw length-sets (omega arith) in
      sets-out b j ys ends ∙ p.laid ∙ sym (sets-out (sets a i xs) (i + length xs) ys far))

  behind-both : k ≡ i + min (length (xs ++ ys)) (length a - i)
  behind-both =
      let s = same in
      either (length xs) (length a - i)
      (λ h.
      let e = behind-all p h in
      either (length ys) (length b - j)
      (λ g. let f = behind-all q g in
      let t : length xs + length ys ≤ length a - i = omega arith in
      let z : k ≡ i + (length xs + length ys) = omega arith in
      rw length-append (z ∙ ap (λ n. i + n) (sym (min-eq_left t))))
      (λ g. let f = behind-end q g in
      let t : length a - i ≤ length xs + length ys = omega arith in
      let z : k ≡ i + (length a - i) = omega arith in
      rw length-append (z ∙ ap (λ n. i + n) (sym (min-eq_right t)))))
      (λ h.
      let e = behind-end p h in
      let none : length b - j ≤ length ys = omega arith in
      let f = behind-end q none in
      let t : length a - i ≤ length xs + length ys = omega arith in
      let z : k ≡ i + (length a - i) = omega arith in
      rw length-append (z ∙ ap (λ n. i + n) (sym (min-eq_right t))))

  pub put_both : Put a i (xs ++ ys) c k
  put_both = record { laid = q.laid ∙ laid_on ∙ sym (sets-append a i xs ys); behind = behind-both }

-- the same where the bytes of both are named
pub put-put : {a b c : List ℕ} {i j k : ℕ} {xs ys zs : List ℕ} → zs ≡ xs ++ ys → Put a i xs b j → Put b j ys c k → Put a i zs c k
put-put {a} {b} {c} {i} {j} {k} e p q = subst (λ zs. Put a i zs c k) (sym e) (put_both p q)

pub put_same : {a b xs ys : List ℕ} {i j : ℕ} → xs ≡ ys → Put a i xs b j → Put a i ys b j
put_same {a} {b} {i = i} {j = j} e p = subst (λ zs. Put a i zs b j) e p

put-none : (a : List ℕ) (i : ℕ) → Put a i [] a i
put-none a i = record { laid = refl; behind = omega (arith) }

pub put-past : {a : List ℕ} {i x : ℕ} → length a ≤ i → Put a i (x ∷ []) a i
put-past {a} {i} {x} h =
    let none : length a - i ≤ 1 = omega arith in
    let e : i ≡ i + (length a - i) = omega arith in
    record { laid = sym (set_out a i x h); behind = e ∙ ap (λ n. i + n) (sym (min-eq_right none)) }

-- ---- element by element

joined-append : {A : Type 0} (f : A → List ℕ) (xs ys : List A) → joined f (xs ++ ys) ≡ joined f xs ++ joined f ys
unfolding joined
joined-append f [] ys = refl
joined-append f (x ∷ xs) ys = ap (λ l. f x ++ l) (joined-append f xs ys) ∙ sym (append_assoc (f x) (joined f xs) (joined f ys))

joined-one : {A : Type 0} (f : A → List ℕ) (x : A) → joined f (x ∷ []) ≡ f x
unfolding joined
joined-one f x = append-nil (f x)

-- a loop over the elements of s, each put by f: i of them are done
pub record Putting {A : Type 0} (f : A → List ℕ) (s : List A) (old : List ℕ) (at : ℕ) (new : List ℕ) (next i : ℕ) : Type 0 where
  pub done : Put old at (joined f (take i s)) new next
  pub upto : i ≤ length s

module _ {A : Type 0} (f : A → List ℕ) (s : List A) (old : List ℕ) (at : ℕ) where
  pub starts : Putting f s old at old at 0
  unfolding joined
  starts = record { done = put-none old at; upto = zero-le }

  pub again : (d : A) {new after : List ℕ} {next behind i : ℕ} → Putting f s old at new next i → i < length s
      → Put new next (f (get_or s i d)) after behind → Putting f s old at after behind (i + 1)
  again d {i = i} p h q =
      record {
        done =
            put-put
            (ap (λ n. joined f (take n s)) (add-one i) ∙ ap (joined f) (take-suc s i d h)
            ∙ joined-append f (take i s) (get_or s i d ∷ []) ∙ ap (λ l. joined f (take i s) ++ l) (joined-one f (get_or s i d)))
            p.done q;
        upto = omega arith;
      }

  pub ends : {new : List ℕ} {next i : ℕ} → Putting f s old at new next i → length s ≤ i → Put old at (joined f s) new next
  ends {new} {next} {i} p h = subst (λ l. Put old at (joined f l) new next) (take_all i s h) p.done

  pub same_size : {new : List ℕ} {next i : ℕ} → Putting f s old at new next i → length new ≡ length old
  same_size {i = i} p = ap length p.done.laid ∙ length-sets old at (joined f (take i s))

pub joined-itself : (s : List ℕ) → joined itself s ≡ s
unfolding joined
joined-itself [] = refl
joined-itself (b ∷ s) = ap (λ l. b ∷ l) (joined-itself s)
