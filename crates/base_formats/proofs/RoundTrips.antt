-- Reading and writing undo each other: once for each way to make a format. Assumes nothing.
use Prim.Native.Nat.{ℕ, zero, suc, ◌^◌, ◌<◌, ◌≤◌}
use mathlib.Core.Path.{◌≡◌, refl, sym, ap, ap₂, ◌∙◌, subst}
use mathlib.Core.Bool.{Bool, true, false, cond, ◌&&◌}
use mathlib.Core.List.{List, [], ◌∷◌}
use mathlib.Core.Option.{Option, none, some}
use native.Mathlib.Nat.{lt_of_le_of_lt}
use native.Mathlib.Omega.{arith}
use borrow.Author.Tests.{eqb-true}
use denote.Floats.{passes}
use lib.Dec.{T, eqb, leb, eqb→eq, leb→le}
use lib.ListN.{length}
use lib.Ieee.Bits.{is_true}
use lib.Ieee.Fits.{and_i, and_l, and_r, eq→eqb}
use Rattle.base_bitstream.specs.Bits.{digit}
use Rattle.std.specs.Prelude.{Some, None}
use Rattle.std.specs.Prelude as std
use Rattle.base_formats.specs.Format.{Source, Read, got, refused, and_then, whole, number_from, Field, of, Format, field, small, flag, named, found, one_of, nothing, choose, if_set, if_set_fields, if_set_valid, set_then, times_from, times_fields, all, times, as-a}
use Rattle.base_formats.specs.declared.Fault.{Fault}
use Rattle.base_formats.specs.declared.Fault.TheVariants as fault
use Rattle.base_formats.proofs.Gives.{Fits, Gives, Found, Bounded}
use Rattle.base_formats.proofs.InBits.{Small}

-- ---- what is proved of a format

-- a value that was read is valid, and its fields stand where it was read
pub record Back {A : Type 0} (f : Format A) (s : Source) (at : ℕ) (a : A) (p : ℕ) : Type 0 where
  pub is-valid : T (f.valid a)
  pub gives : (rest : List Field) (end : ℕ) → Gives s p rest end → Gives s at (f.fields a rest) end

-- what holds of a reading that went through
abbrev pub Holds : {A : Type 0} → (A → ℕ → Type 0) → Read A → Type 0
Holds P (got a p) = P a p
Holds P (refused f) = Unit

pub record Law {A : Type 0} (f : Format A) : Type 0 where
  -- a valid value's fields are read as that value
  pub there : (s : Source) (at p : ℕ) (a : A) (rest : List Field) → T (f.valid a) → Gives s at (f.fields a rest) p → Found (f.from s at) a (λ q. Gives s q rest p)
  pub back : (s : Source) → Bounded s → (at : ℕ) → Holds (Back f s at) (f.from s at)
  -- their widths hold them
  pub small : (a : A) (rest : List Field) → T (f.valid a) → Small rest → Small (f.fields a rest)

pub holds_then : {A B : Type 0} (P : A → ℕ → Type 0) (Q : B → ℕ → Type 0) (x : Read A) (k : A → ℕ → Read B)
    → Holds P x → ((a : A) (p : ℕ) → P a p → Holds Q (k a p)) → Holds Q (and_then x k)
holds_then P Q (got a p) k h f = f a p h
holds_then P Q (refused g) k h f = tt

pub holds-map : {A : Type 0} {P Q : A → ℕ → Type 0} (x : Read A) → ((a : A) (p : ℕ) → P a p → Q a p) → Holds P x → Holds Q x
holds-map (got a p) f h = f a p h
holds-map (refused z) f h = tt

holds-cond : {A : Type 0} (P : A → ℕ → Type 0) (b : Bool) (x y : Read A) → (b ≡ true → Holds P x) → (b ≡ false → Holds P y) → Holds P (cond b x y)
holds-cond P true x y f g = f refl
holds-cond P false x y f g = g refl

-- ---- numbers

pub number-there : (s : Source) (width at v q : ℕ) → s width at ≡ Some (v, q) → number_from s width at ≡ got v q
unfolding number_from
number-there s width at v q e = rw e

number-back : (s : Source) (width at : ℕ) → Holds (λ v q. s width at ≡ Some (v, q)) (number_from s width at)
unfolding number_from
number-back s width at = go (s width at) refl
  where
    go : (g : std.Option (ℕ × ℕ)) → s width at ≡ g → Holds (λ v q. s width at ≡ Some (v, q)) (whole g)
    go (Some (v, q)) e = e
    go None e = tt

-- what a field's test, value and number must satisfy
pub record Stands {A : Type 0} (width : ℕ) (test : ℕ → Bool) (value : ℕ → A) (number : A → ℕ) (good : A → Bool) : Type 0 where
  pub some : 0 < width
  pub most : width ≤ 32
  pub small : (a : A) → T (good a) → T (test (number a)) → number a < 2 ^ width
  pub again : (a : A) → T (good a) → T (test (number a)) → value (number a) ≡ a
  pub good-value : (v : ℕ) → test v ≡ true → T (good (value v))
  pub back : (v : ℕ) → (width ≡ 32 → v < 2 ^ 32) → test v ≡ true → number (value v) ≡ v

module _ {A : Type 0} (width : ℕ) (test : ℕ → Bool) (g : Fault) (value : ℕ → A) (number : A → ℕ) (good : A → Bool) (st : Stands width test value number good) where
  field_fits : (a : A) → T (good a && test (number a)) → Fits width (number a)
  field_fits a h = record { some = st.some; most = st.most; small = st.small a (and_l (good a) (test (number a)) h) (and_r (good a) (test (number a)) h) }

  field-there : (s : Source) (at p : ℕ) (a : A) (rest : List Field) → T (good a && test (number a)) → Gives s at (of width (number a) ∷ rest) p
      → Found ((field width test g value number good).from s at) a (λ q. Gives s q rest p)
  field-there s at p a rest h given =
      let x = and_l (good a) (test (number a)) h in
      let y = and_r (good a) (test (number a)) h in
      let r = given (field_fits a h) in
      record { next = r.next; is = rw (number-there s width at (number a) r.next r.reads, is_true (test (number a)) y, st.again a x y); then = r.then }

  field_back : (s : Source) → Bounded s → (at : ℕ) → Holds (Back (field width test g value number good) s at) ((field width test g value number good).from s at)
  field_back s b at =
      holds_then (λ v q. s width at ≡ Some (v, q)) (Back (field width test g value number good) s at) (number_from s width at) (λ v p. cond (test v) (got (value v) p) (refused g)) (number-back s width at)
      (λ v q e. holds-cond (Back (field width test g value number good) s at) (test v) (got (value v) q) (refused g)
      (λ t.
      let n : number (value v) ≡ v = st.back v (λ w. b at v q (subst (λ (x : ℕ). s x at ≡ Some (v, q)) w e)) t in
      record {
        is-valid = and_i (good (value v)) (test (number (value v))) (st.good-value v t) (passes (test (number (value v))) (ap test n ∙ t));
        gives = λ rest end r f. record { next = q; reads = e ∙ ap (λ (x : ℕ). Some (x, q)) (sym n); then = r };
      })
      (λ t. tt))

  pub field-law : Law (field width test g value number good)
  field-law =
      record {
        there = field-there;
        back = field_back;
        small = λ a rest h r. (field_fits a h, r);
      }

pub small-law : (width most : ℕ) → 0 < width → width ≤ 32 → most < 2 ^ width → Law (small width most)
unfolding small
small-law width most some_bits most-bits h = field-law width (λ v. leb v most) fault.OutOfRange (λ v. v) (λ v. v) (λ v. true)
    record { some = some_bits; most = most-bits; small = λ v x y. lt_of_le_of_lt (leb→le v most y) h; again = λ v x y. refl; good-value = λ v t. tt; back = λ v b t. refl }

-- ---- as another type

module _ {A B : Type 0} (into : A → B) (out : B → A) (is : B → Bool) (f : Format A) (lf : Law f)
    (again : (b : B) → T (is b) → T (f.valid (out b)) → into (out b) ≡ b) (back : (a : A) → T (f.valid a) → out (into a) ≡ a) (admits : (a : A) → T (f.valid a) → T (is (into a))) where
  as-a-there : (s : Source) (at p : ℕ) (b : B) (rest : List Field) → T (is b && f.valid (out b)) → Gives s at (f.fields (out b) rest) p → Found ((as-a into out is f).from s at) b (λ q. Gives s q rest p)
  as-a-there s at p b rest h r =
      let a = lf.there s at p (out b) rest (and_r (is b) (f.valid (out b)) h) r in
      record { next = a.next; is = rw (a.is, again b (and_l (is b) (f.valid (out b)) h) (and_r (is b) (f.valid (out b)) h)); then = a.then }

  as-a-back : (s : Source) → Bounded s → (at : ℕ) → Holds (Back (as-a into out is f) s at) ((as-a into out is f).from s at)
  as-a-back s b at =
      holds_then (Back f s at) (Back (as-a into out is f) s at) (f.from s at) (λ a p. got (into a) p) (lf.back s b at)
      (λ a p h. record {
        is-valid = and_i (is (into a)) (f.valid (out (into a))) (admits a h.is-valid) (subst (λ (x : A). T (f.valid x)) (sym (back a h.is-valid)) h.is-valid);
        gives = λ rest end r. subst (λ (x : A). Gives s at (f.fields x rest) end) (sym (back a h.is-valid)) (h.gives rest end r);
      })

  pub as-a-law : Law (as-a into out is f)
  as-a-law = record { there = as-a-there; back = as-a-back; small = λ b rest h r. lf.small (out b) rest (and_r (is b) (f.valid (out b)) h) r }

-- ---- flags and names

pub flag-law : Law flag
unfolding small
flag-law = as-a-law (λ v. eqb v 1) digit (λ b. true) (small 1 1) (small-law 1 1 (omega arith) (omega arith) (omega arith))
    (λ b h k. again b) (λ v h. back v (leb→le v 1 h)) (λ v h. tt)
  where
    again : (b : Bool) → eqb (digit b) 1 ≡ b
    again true = refl
    again false = refl

    back : (v : ℕ) → v ≤ 1 → digit (eqb v 1) ≡ v
    back zero h = refl
    back (suc zero) h = refl
    back (suc (suc v)) h = absurd (omega arith)

pub valid-flag : (b : Bool) → T (flag.valid b)
unfolding small
valid-flag true = tt
valid-flag false = tt

-- ---- one of some names

module _ {K : Type 0} (width : ℕ) (number : K → ℕ) (ks : List K) (g : Fault)
    (some_bits : 0 < width) (most-bits : width ≤ 32) (below : (k : K) → number k < 2 ^ width) (listed : (k : K) → named number ks (number k) ≡ some k) where
  named_back : (js : List K) (n q : ℕ) → Holds (λ k p. (n ≡ number k) × (q ≡ p)) (found g q (named number js n))
  named_back [] n q = tt
  named_back (j ∷ js) n q = go (eqb n (number j)) refl (named_back js n q)
    where
      go : (b : Bool) → eqb n (number j) ≡ b → Holds (λ k p. (n ≡ number k) × (q ≡ p)) (found g q (named number js n))
          → Holds (λ k p. (n ≡ number k) × (q ≡ p)) (found g q (cond b (some j) (named number js n)))
      go true e h = (eqb-true n (number j) e, refl)
      go false e h = h

  name-fits : (k : K) → Fits width (number k)
  name-fits k = record { some = some_bits; most = most-bits; small = below k }

  pub one_of-law : Law (one_of width number ks g)
  one_of-law =
      record {
        there = λ s at p k rest h given.
            let r = given (name-fits k) in
            record { next = r.next; is = rw (number-there s width at (number k) r.next r.reads, listed k); then = r.then };
        back = λ s b at.
            holds_then (λ v q. s width at ≡ Some (v, q)) (Back (one_of width number ks g) s at) (number_from s width at) (λ n p. found g p (named number ks n)) (number-back s width at)
            (λ v q e. holds-map (found g q (named number ks v)) (λ k p h. record {
              is-valid = tt;
              gives = λ rest end r f. record { next = p; reads = e ∙ ap₂ (λ (x y : ℕ). Some (x, y)) h.0 h.1; then = r };
            }) (named_back ks v q));
        small = λ k rest h r. (name-fits k, r);
      }

-- ---- several

pub nothing-law : Law nothing
nothing-law =
    record {
      there = λ s at p u rest h r. record { next = at; is = refl; then = r };
      back = λ s b at. record { is-valid = tt; gives = λ rest end r. r };
      small = λ u rest h r. r;
    }

module _ {K : Type 0} {B : K → Type 0} (f : Format K) (g : (k : K) → Format (B k)) (lf : Law f) (lg : (k : K) → Law (g k)) where
  choose-back : (s : Source) → Bounded s → (at : ℕ) → Holds (Back (choose f g) s at) ((choose f g).from s at)
  choose-back s b at =
      holds_then (Back f s at) (Back (choose f g) s at) (f.from s at) (λ k p. and_then ((g k).from s p) (λ y q. got (k, y) q)) (lf.back s b at)
      (λ k p h. holds_then (Back (g k) s p) (Back (choose f g) s at) ((g k).from s p) (λ y q. got (k, y) q) ((lg k).back s b p)
      (λ y q j. record {
        is-valid = and_i (f.valid k) ((g k).valid y) h.is-valid j.is-valid;
        gives = λ rest end r. h.gives ((g k).fields y rest) end (j.gives rest end r);
      }))

  choose-there : (s : Source) (at p : ℕ) (x : (k : K) × B k) (rest : List Field) → T ((choose f g).valid x) → Gives s at ((choose f g).fields x rest) p
      → Found ((choose f g).from s at) x (λ q. Gives s q rest p)
  choose-there s at p x rest h r =
      let a = lf.there s at p x.0 ((g x.0).fields x.1 rest) (and_l (f.valid x.0) ((g x.0).valid x.1) h) r in
      let b = (lg x.0).there s a.next p x.1 rest (and_r (f.valid x.0) ((g x.0).valid x.1) h) a.then in
      record { next = b.next; is = rw (a.is, b.is); then = b.then }

  pub choose-law : Law (choose f g)
  choose-law =
      record {
        there = choose-there;
        back = choose-back;
        small = λ x rest h r. lf.small x.0 ((g x.0).fields x.1 rest) (and_l (f.valid x.0) ((g x.0).valid x.1) h)
            ((lg x.0).small x.1 rest (and_r (f.valid x.0) ((g x.0).valid x.1) h) r);
      }

module _ {A : Type 0} (f : Format A) (lf : Law f) where
  if_set-there : (s : Source) (at p : ℕ) (a : Option A) (rest : List Field) → T (if_set_valid f a) → Gives s at (if_set_fields f a rest) p → Found ((if_set f).from s at) a (λ q. Gives s q rest p)
  if_set-there s at p none rest h r =
      let a = flag-law.there s at p false rest (valid-flag false) r in
      record { next = a.next; is = rw a.is; then = a.then }
  if_set-there s at p (some x) rest h r =
      let a = flag-law.there s at p true (f.fields x rest) (valid-flag true) r in
      let b = lf.there s a.next p x rest h a.then in
      record { next = b.next; is = rw (a.is, b.is); then = b.then }

  if_set-back : (s : Source) → Bounded s → (at : ℕ) → Holds (Back (if_set f) s at) ((if_set f).from s at)
  if_set-back s b at =
      holds_then (Back flag s at) (Back (if_set f) s at) (flag.from s at) (λ has p. cond has (and_then (f.from s p) (λ a q. got (some a) q)) (got none p)) (flag-law.back s b at) cases
    where
      cases : (has : Bool) (p : ℕ) → Back flag s at has p → Holds (Back (if_set f) s at) (cond has (and_then (f.from s p) (λ a q. got (some a) q)) (got none p))
      cases true p h = holds_then (Back f s p) (Back (if_set f) s at) (f.from s p) (λ a q. got (some a) q) (lf.back s b p)
          (λ a q j. record { is-valid = j.is-valid; gives = λ rest end r. h.gives (f.fields a rest) end (j.gives rest end r) })
      cases false p h = record { is-valid = tt; gives = h.gives }

  if_set-small : (a : Option A) (rest : List Field) → T (if_set_valid f a) → Small rest → Small (if_set_fields f a rest)
  if_set-small none rest h r = flag-law.small false rest (valid-flag false) r
  if_set-small (some x) rest h r = flag-law.small true (f.fields x rest) (valid-flag true) (lf.small x rest h r)

  pub if_set-law : Law (if_set f)
  if_set-law = record { there = if_set-there; back = if_set-back; small = if_set-small }

  set_then-there : (g : Fault) (s : Source) (at p : ℕ) (a : A) (rest : List Field) → T (f.valid a) → Gives s at ((set_then g f).fields a rest) p → Found ((set_then g f).from s at) a (λ q. Gives s q rest p)
  set_then-there g s at p x rest h r =
      let a = flag-law.there s at p true (f.fields x rest) (valid-flag true) r in
      let b = lf.there s a.next p x rest h a.then in
      record { next = b.next; is = rw (a.is, b.is); then = b.then }

  set_then-back : (g : Fault) (s : Source) → Bounded s → (at : ℕ) → Holds (Back (set_then g f) s at) ((set_then g f).from s at)
  set_then-back g s b at =
      holds_then (Back flag s at) (Back (set_then g f) s at) (flag.from s at) (λ has p. cond has (f.from s p) (refused g)) (flag-law.back s b at) cases
    where
      cases : (has : Bool) (p : ℕ) → Back flag s at has p → Holds (Back (set_then g f) s at) (cond has (f.from s p) (refused g))
      cases true p h = holds-map (f.from s p)
          (λ a q j. record { is-valid = j.is-valid; gives = λ rest end r. h.gives (f.fields a rest) end (j.gives rest end r) }) (lf.back s b p)
      cases false p h = tt

  pub set_then-law : (g : Fault) → Law (set_then g f)
  set_then-law g = record { there = set_then-there g; back = set_then-back g; small = λ a rest h r. flag-law.small true (f.fields a rest) (valid-flag true) (lf.small a rest h r) }

  -- ---- that many

  times-there : (s : Source) (at p : ℕ) (xs : List A) (rest : List Field) → T (all f.valid xs) → Gives s at (times_fields f xs rest) p
      → Found (times_from f s (length xs) at) xs (λ q. Gives s q rest p)
  times-there s at p [] rest h r = record { next = at; is = refl; then = r }
  times-there s at p (x ∷ xs) rest h r =
      let a = lf.there s at p x (times_fields f xs rest) (and_l (f.valid x) (all f.valid xs) h) r in
      let b = times-there s a.next p xs rest (and_r (f.valid x) (all f.valid xs) h) a.then in
      record { next = b.next; is = rw (a.is, b.is); then = b.then }

  times-back : (s : Source) → Bounded s → (n at : ℕ) → Holds (Back (times n f) s at) (times_from f s n at)
  times-back s b zero at = record { is-valid = tt; gives = λ rest end r. r }
  times-back s b (suc n) at =
      holds_then (Back f s at) (Back (times (suc n) f) s at) (f.from s at) (λ x p. and_then (times_from f s n p) (λ xs q. got (x ∷ xs) q)) (lf.back s b at)
      (λ x p h. holds_then (Back (times n f) s p) (Back (times (suc n) f) s at) (times_from f s n p) (λ xs q. got (x ∷ xs) q) (times-back s b n p)
      (λ xs q j. record {
        is-valid = and_i (eqb (suc (length xs)) (suc n)) (f.valid x && all f.valid xs) (eq→eqb (ap suc (eqb→eq (length xs) n (and_l (eqb (length xs) n) (all f.valid xs) j.is-valid))))
            (and_i (f.valid x) (all f.valid xs) h.is-valid (and_r (eqb (length xs) n) (all f.valid xs) j.is-valid));
        gives = λ rest end r. h.gives (times_fields f xs rest) end (j.gives rest end r);
      }))

  times-small : (xs : List A) (rest : List Field) → T (all f.valid xs) → Small rest → Small (times_fields f xs rest)
  times-small [] rest h r = r
  times-small (x ∷ xs) rest h r = lf.small x (times_fields f xs rest) (and_l (f.valid x) (all f.valid xs) h) (times-small xs rest (and_r (f.valid x) (all f.valid xs) h) r)

  pub times-law : (n : ℕ) → Law (times n f)
  times-law n =
      record {
        there = λ s at p xs rest h r. subst (λ (k : ℕ). Found (times_from f s k at) xs (λ q. Gives s q rest p)) (eqb→eq (length xs) n (and_l (eqb (length xs) n) (all f.valid xs) h))
            (times-there s at p xs rest (and_r (eqb (length xs) n) (all f.valid xs) h) r);
        back = λ s b at. times-back s b n at;
        small = λ xs rest h r. times-small xs rest (and_r (eqb (length xs) n) (all f.valid xs) h) r;
      }
