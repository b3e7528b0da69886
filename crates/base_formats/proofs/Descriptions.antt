-- What holds of every description: reading and writing undo each other, what follows a value's fields follows them, how long they are, and the
-- fault of a value that is not valid. Assumes nothing.
use Prim.Native.Nat.{ℕ, ◌+◌, ◌<◌, ◌≤◌, ◌^◌}
use mathlib.Core.Path.{◌≡◌, refl, sym, ap, ◌∙◌, subst}
use mathlib.Core.Bool.{Bool, true, false}
use mathlib.Core.List.{List, [], ◌∷◌, ◌++◌}
use mathlib.Core.Option.{Option, none, some}
use native.Mathlib.Nat.{add_assoc, zero-add}
use native.Mathlib.Omega.{arith}
use denote.Floats.{passes}
use lib.Dec.{T, leb, eqb}
use lib.ListN.{length}
use lib.Ieee.Fits.{and_i, eq→eqb}
use Rattle.base_formats.specs.Format.{Source, Read, got, refused, and_then, Field, of, Format, named, if_set_fields, if_set_valid, times_from, times_fields, all}
use Rattle.base_formats.specs.declared.Fault.{Fault}
use Rattle.base_formats.specs.declared.Fault.TheVariants as fault
use Rattle.base_formats.specs.inside.Lengths.{widths, if_set_length, times_length, length_of}
use Rattle.base_formats.specs.Format as F
use Rattle.base_formats.specs.Description.{Description, flag, field, one_of, nothing, choose, if_set, set_then, times, as-a, format, small}
use Rattle.base_formats.proofs.Gives.{Fits, Gives}
use Rattle.base_formats.proofs.RoundTrips.{Law, Stands, number-there, field-law, small-law, flag-law, valid-flag, one_of-law, nothing-law, choose-law, if_set-law, set_then-law, times-law, as-a-law}

-- ---- what the laws ask of a description: of its fields, its names and its views

pub record Names {K : Type 0} (w : ℕ) (number : K → ℕ) (ks : List K) : Type 0 where
  pub some_bits : 0 < w
  pub most-bits : w ≤ 32
  pub below : (k : K) → number k < 2 ^ w
  pub listed : (k : K) → named number ks (number k) ≡ some k

pub record Views {A B : Type 0} (into : A → B) (out : B → A) (is : B → Bool) (f : Format A) : Type 0 where
  pub again : (b : B) → T (is b) → T (f.valid (out b)) → into (out b) ≡ b
  pub back : (a : A) → T (f.valid a) → out (into a) ≡ a
  pub admits : (a : A) → T (f.valid a) → T (is (into a))

abbrev pub Proper : {A : Type 0} → Description A → Type 0
Proper flag = Unit
Proper (small w m) = (0 < w) × (w ≤ 32) × (m < 2 ^ w)
Proper (field w t g v n ok) = Stands w t v n ok
Proper (one_of w n ks g) = Names w n ks
Proper nothing = Unit
Proper (choose {K} d e) = Proper d × ((k : K) → Proper (e k))
Proper (if_set d) = Proper d
Proper (set_then g d) = Proper d
Proper (times n d) = Proper d
Proper (as-a into out is d) = Proper d × Views into out is (format d)

-- ---- reading and writing undo each other

pub law : {A : Type 0} (d : Description A) → Proper d → Law (format d)
law flag p = flag-law
law (small w m) p = small-law w m p.0 p.1 p.2
law (field w t g v n ok) p = field-law w t g v n ok p
law (one_of w n ks g) p = one_of-law w n ks g p.some_bits p.most-bits p.below p.listed
law nothing p = nothing-law
law (choose d e) p = choose-law (format d) (λ k. format (e k)) (law d p.0) (λ k. law (e k) (p.1 k))
law (if_set d) p = if_set-law (format d) (law d p)
law (set_then g d) p = set_then-law (format d) (law d p) g
law (times n d) p = times-law (format d) (law d p) n
law (as-a into out is d) p = as-a-law into out is (format d) (law d p.0) p.1.again p.1.back p.1.admits

-- ---- what follows a value's fields follows them

abbrev Joins : {A : Type 0} → Format A → Type 0
Joins {A} f = (a : A) (rest more : List Field) → f.fields a rest ++ more ≡ f.fields a (rest ++ more)

if_set-append : {A : Type 0} (f : Format A) → Joins f → Joins (F.if_set f)
unfolding F.small
if_set-append f h none rest more = refl
if_set-append f h (some a) rest more = ap (λ (fs : List Field). of 1 1 ∷ fs) (h a rest more)

times-append : {A : Type 0} (f : Format A) → Joins f → (xs : List A) (rest more : List Field) → times_fields f xs rest ++ more ≡ times_fields f xs (rest ++ more)
times-append f h [] rest more = refl
times-append f h (x ∷ xs) rest more = h x (times_fields f xs rest) more ∙ ap (f.fields x) (times-append f h xs rest more)

pub append : {A : Type 0} (d : Description A) → Joins (format d)
unfolding F.small
append flag a rest more = refl
append (small w m) a rest more = refl
append (field w t g v n ok) a rest more = refl
append (one_of w n ks g) a rest more = refl
append nothing a rest more = refl
append (choose d e) a rest more = append d a.0 ((format (e a.0)).fields a.1 rest) more ∙ ap ((format d).fields a.0) (append (e a.0) a.1 rest more)
append (if_set d) a rest more = if_set-append (format d) (λ b r m. append d b r m) a rest more
append (set_then g d) a rest more = ap (λ (fs : List Field). of 1 1 ∷ fs) (append d a rest more)
append (times n d) a rest more = times-append (format d) (λ b r m. append d b r m) a rest more
append (as-a into out is d) a rest more = append d (out a) rest more

-- ---- how long a value's fields are

-- fields, each counted by its width
abbrev pub sum : (ℕ → ℕ) → List Field → ℕ
sum c [] = 0
sum c (of w v ∷ fs) = c w + sum c fs

pub sum-widths : (fs : List Field) → sum (λ w. w) fs ≡ widths fs
sum-widths [] = refl
sum-widths (of w v ∷ fs) = ap (λ (n : ℕ). w + n) (sum-widths fs)

pub sum-count : (fs : List Field) → sum (λ w. 1) fs ≡ length fs
sum-count [] = refl
sum-count (of w v ∷ fs) = omega (arith, sum-count fs)

module _ (c : ℕ → ℕ) where
  abbrev Adds : {A : Type 0} → Format A → (A → ℕ) → Type 0
  Adds {A} f n = (a : A) (rest : List Field) → sum c (f.fields a rest) ≡ n a + sum c rest

  if_set-adds : {A : Type 0} (f : Format A) (n : A → ℕ) → Adds f n → Adds (F.if_set f) (if_set_length (c 1) n)
  unfolding F.small
  if_set-adds f n h none rest = refl
  if_set-adds f n h (some a) rest = ap (λ (k : ℕ). c 1 + k) (h a rest) ∙ sym (add_assoc (c 1) (n a) (sum c rest))

  times-adds : {A : Type 0} (f : Format A) (n : A → ℕ) → Adds f n → (xs : List A) (rest : List Field) → sum c (times_fields f xs rest) ≡ times_length n xs + sum c rest
  times-adds f n h [] rest = sym (zero-add (sum c rest))
  times-adds f n h (x ∷ xs) rest = h x (times_fields f xs rest) ∙ ap (λ (k : ℕ). n x + k) (times-adds f n h xs rest) ∙ sym (add_assoc (n x) (times_length n xs) (sum c rest))

  pub adds : {A : Type 0} (d : Description A) → Adds (format d) (λ a. length_of c d a)
  unfolding F.small
  adds flag a rest = refl
  adds (small w m) a rest = refl
  adds (field w t g v n ok) a rest = refl
  adds (one_of w n ks g) a rest = refl
  adds nothing a rest = sym (zero-add (sum c rest))
  adds (choose d e) a rest =
      adds d a.0 ((format (e a.0)).fields a.1 rest) ∙ ap (λ (k : ℕ). length_of c d a.0 + k) (adds (e a.0) a.1 rest)
      ∙ sym (add_assoc (length_of c d a.0) (length_of c (e a.0) a.1) (sum c rest))
  adds (if_set d) a rest = if_set-adds (format d) (λ x. length_of c d x) (λ b r. adds d b r) a rest
  adds (set_then g d) a rest = ap (λ (k : ℕ). c 1 + k) (adds d a rest) ∙ sym (add_assoc (c 1) (length_of c d a) (sum c rest))
  adds (times n d) a rest = times-adds (format d) (λ x. length_of c d x) (λ b r. adds d b r) a rest
  adds (as-a into out is d) a rest = adds d (out a) rest

-- ---- no field is wider than 32 bits

abbrev pub Narrow : List Field → Type 0
Narrow [] = Unit
Narrow (of w v ∷ fs) = (w ≤ 32) × Narrow fs

abbrev Narrows : {A : Type 0} → Format A → Type 0
Narrows {A} f = (a : A) (rest : List Field) → Narrow rest → Narrow (f.fields a rest)

if_set-narrow : {A : Type 0} (f : Format A) → Narrows f → Narrows (F.if_set f)
unfolding F.small
if_set-narrow f h none rest r = (omega arith, r)
if_set-narrow f h (some a) rest r = (omega arith, h a rest r)

times-narrow : {A : Type 0} (f : Format A) → Narrows f → (xs : List A) (rest : List Field) → Narrow rest → Narrow (times_fields f xs rest)
times-narrow f h [] rest r = r
times-narrow f h (x ∷ xs) rest r = h x (times_fields f xs rest) (times-narrow f h xs rest r)

pub narrow : {A : Type 0} (d : Description A) → Proper d → Narrows (format d)
unfolding F.small
narrow flag p a rest r = (omega arith, r)
narrow (small w m) p a rest r = (p.1, r)
narrow (field w t g v n ok) p a rest r = (p.most, r)
narrow (one_of w n ks g) p a rest r = (p.most-bits, r)
narrow nothing p a rest r = r
narrow (choose d e) p a rest r = narrow d p.0 a.0 ((format (e a.0)).fields a.1 rest) (narrow (e a.0) (p.1 a.0) a.1 rest r)
narrow (if_set d) p a rest r = if_set-narrow (format d) (λ b t q. narrow d p b t q) a rest r
narrow (set_then g d) p a rest r = (omega arith, narrow d p a rest r)
narrow (times n d) p a rest r = times-narrow (format d) (λ b t q. narrow d p b t q) a rest r
narrow (as-a into out is d) p a rest r = narrow d p.0 (out a) rest r

-- ---- the fault of a value that is not valid

-- the faults that reading a value's own fields can meet, all of a kind
abbrev pub Raises : {A : Type 0} → (Fault → Type 0) → Description A → Type 0
Raises P flag = Unit
Raises P (small w m) = P fault.OutOfRange
Raises P (field w t g v n ok) = P g
Raises P (one_of w n ks g) = Unit
Raises P nothing = Unit
Raises P (choose {K} d e) = Raises P d × ((k : K) → Raises P (e k))
Raises P (if_set d) = Raises P d
Raises P (set_then g d) = Raises P d
Raises P (times n d) = Raises P d
Raises P (as-a into out is d) = Raises P d

abbrev pub IfSome : {A : Type 0} → (A → Type 0) → Option A → Type 0
IfSome P none = Unit
IfSome P (some a) = P a

abbrev pub Every : {A : Type 0} → (A → Type 0) → List A → Type 0
Every P [] = Unit
Every P (x ∷ xs) = P x × Every P xs

-- a value that its fields hold, as far as reading goes: each part has a number, its width holds it, and there are as many parts as their number says
abbrev pub Held : {A : Type 0} → Description A → A → Type 0
Held flag b = Unit
Held (small w m) v = v < 2 ^ w
Held (field w t g v n ok) a = T (ok a) × (n a < 2 ^ w)
Held (one_of w n ks g) k = Unit
Held nothing u = Unit
Held (choose d e) x = Held d x.0 × (T ((format d).valid x.0) → Held (e x.0) x.1)
Held (if_set d) a = IfSome (λ x. Held d x) a
Held (set_then g d) a = Held d a
Held (times n d) xs = (length xs ≡ n) × Every (λ x. Held d x) xs
Held (as-a into out is d) b = T (is b) × Held d (out b)

-- whoever gives the value's fields is refused with the same fault
pub record Refuses {A : Type 0} (P : Fault → Type 0) (f : Format A) (a : A) : Type 0 where
  pub fault : Fault
  pub is : P fault
  pub everywhere : (s : Source) (at p : ℕ) (rest : List Field) → Gives s at (f.fields a rest) p → f.from s at ≡ refused fault

pub data Fate {A : Type 0} (P : Fault → Type 0) (f : Format A) (a : A) : Type 0 where
  valid-value : T (f.valid a) → Fate P f a
  refused-value : Refuses P f a → Fate P f a

module _ (P : Fault → Type 0) where
  field-fate : {A : Type 0} (w : ℕ) (t : ℕ → Bool) (g : Fault) (v : ℕ → A) (n : A → ℕ) (ok : A → Bool) → P g → (a : A) → T (ok a) → Fits w (n a) → Fate P (F.field w t g v n ok) a
  field-fate w t g v n ok r a h f = go (t (n a)) refl
    where
      go : (b : Bool) → t (n a) ≡ b → Fate P (F.field w t g v n ok) a
      go true e = valid-value (and_i (ok a) (t (n a)) h (passes (t (n a)) e))
      go false e = refused-value record { fault = g; is = r; everywhere = λ s at p rest k. rw (number-there s w at (n a) (k f).next (k f).reads, e) }

  small-fate : (w m : ℕ) → P fault.OutOfRange → (v : ℕ) → Fits w v → Fate P (F.small w m) v
  unfolding F.small
  small-fate w m r v f = field-fate w (λ u. leb u m) fault.OutOfRange (λ u. u) (λ u. u) (λ u. true) r v tt f

  choose-fate : {K : Type 0} {B : K → Type 0} (f : Format K) (g : (k : K) → Format (B k)) → Law f → (x : (k : K) × B k) → Fate P f x.0 → (T (f.valid x.0) → Fate P (g x.0) x.1) → Fate P (F.choose f g) x
  choose-fate f g lf x (refused-value r) h = refused-value record { fault = r.fault; is = r.is; everywhere = λ s at p rest k. rw (r.everywhere s at p ((g x.0).fields x.1 rest) k) }
  choose-fate f g lf x (valid-value l) h = go (h l)
    where
      go : Fate P (g x.0) x.1 → Fate P (F.choose f g) x
      go (valid-value m) = valid-value (and_i (f.valid x.0) ((g x.0).valid x.1) l m)
      go (refused-value r) =
          refused-value record {
            fault = r.fault;
            is = r.is;
            everywhere = λ s at p rest k. let a = lf.there s at p x.0 ((g x.0).fields x.1 rest) l k in rw (a.is, r.everywhere s a.next p rest a.then);
          }

  -- behind a flag that is set
  set-fate : {A B : Type 0} (f : Format A) (g : Format B) (a : A) (b : B) → ((rest : List Field) → g.fields b rest ≡ (F.flag).fields true (f.fields a rest))
      → ((s : Source) (at p : ℕ) (x : Fault) → (F.flag).from s at ≡ got true p → f.from s p ≡ refused x → g.from s at ≡ refused x)
      → (T (f.valid a) → T (g.valid b)) → Fate P f a → Fate P g b
  set-fate f g a b written reads l (valid-value h) = valid-value (l h)
  set-fate f g a b written reads l (refused-value r) =
      refused-value record {
        fault = r.fault;
        is = r.is;
        everywhere = λ s at p rest k.
            let h = flag-law.there s at p true (f.fields a rest) (valid-flag true) (subst (λ (fs : List Field). Gives s at fs p) (written rest) k) in
            reads s at h.next r.fault h.is (r.everywhere s h.next p rest h.then);
      }

  if_set-fate : {A : Type 0} (f : Format A) (a : Option A) → IfSome (λ x. Fate P f x) a → Fate P (F.if_set f) a
  if_set-fate f none h = valid-value tt
  if_set-fate f (some a) h = set-fate f (F.if_set f) a (some a) (λ rest. refl) (λ s at p x e k. rw (e, k)) (λ l. l) h

  set_then-fate : {A : Type 0} (g : Fault) (f : Format A) (a : A) → Fate P f a → Fate P (F.set_then g f) a
  set_then-fate g f a h = set-fate f (F.set_then g f) a a (λ rest. refl) (λ s at p x e k. rw (e, k)) (λ l. l) h

  module _ {A : Type 0} (f : Format A) (lf : Law f) where
    -- of as many as there are
    abbrev Many : List A → Format (List A)
    Many xs = record { from = λ s at. times_from f s (length xs) at; fields = times_fields f; valid = all f.valid }

    many-fate : (xs : List A) → Every (λ x. Fate P f x) xs → Fate P (Many xs) xs
    many-fate [] h = valid-value tt
    many-fate (x ∷ xs) h = go h.0 (many-fate xs h.1)
      where
        go : Fate P f x → Fate P (Many xs) xs → Fate P (Many (x ∷ xs)) (x ∷ xs)
        go (refused-value r) k = refused-value record { fault = r.fault; is = r.is; everywhere = λ s at p rest j. rw (r.everywhere s at p (times_fields f xs rest) j) }
        go (valid-value l) (valid-value m) = valid-value (and_i (f.valid x) (all f.valid xs) l m)
        go (valid-value l) (refused-value r) =
            refused-value record {
              fault = r.fault;
              is = r.is;
              everywhere = λ s at p rest j. let a = lf.there s at p x (times_fields f xs rest) l j in rw (a.is, r.everywhere s a.next p rest a.then);
            }

    times-fate : (n : ℕ) (xs : List A) → length xs ≡ n → Fate P (Many xs) xs → Fate P (F.times n f) xs
    times-fate n xs e (valid-value l) = valid-value (and_i (eqb (length xs) n) (all f.valid xs) (eq→eqb e) l)
    times-fate n xs e (refused-value r) =
        refused-value record { fault = r.fault; is = r.is; everywhere = λ s at p rest j. ap (λ (k : ℕ). times_from f s k at) (sym e) ∙ r.everywhere s at p rest j }

  as-a-fate : {A B : Type 0} (into : A → B) (out : B → A) (is : B → Bool) (f : Format A) (b : B) → T (is b) → Fate P f (out b) → Fate P (F.as-a into out is f) b
  as-a-fate into out is f b h (valid-value l) = valid-value (and_i (is b) (f.valid (out b)) h l)
  as-a-fate into out is f b h (refused-value r) = refused-value record { fault = r.fault; is = r.is; everywhere = λ s at p rest k. rw (r.everywhere s at p rest k) }

  some-map : {A : Type 0} (Q R : A → Type 0) → ((a : A) → Q a → R a) → (a : Option A) → IfSome Q a → IfSome R a
  some-map Q R f none h = tt
  some-map Q R f (some a) h = f a h

  every_map : {A : Type 0} (Q R : A → Type 0) → ((a : A) → Q a → R a) → (xs : List A) → Every Q xs → Every R xs
  every_map Q R f [] h = tt
  every_map Q R f (x ∷ xs) h = (f x h.0, every_map Q R f xs h.1)

  -- a value is valid, or refused with one fault wherever its fields stand
  pub fate : {A : Type 0} (d : Description A) → Proper d → Raises P d → (a : A) → Held d a → Fate P (format d) a
  fate flag p r b h = valid-value (valid-flag b)
  fate (small w m) p r v h = small-fate w m r v (record { some = p.0; most = p.1; small = h })
  fate (field w t g v n ok) p r a h = field-fate w t g v n ok r a h.0 (record { some = p.some; most = p.most; small = h.1 })
  fate (one_of w n ks g) p r k h = valid-value tt
  fate nothing p r u h = valid-value tt
  fate (choose d e) p r x h =
      choose-fate (format d) (λ k. format (e k)) (law d p.0) x (fate d p.0 r.0 x.0 h.0) (λ l. fate (e x.0) (p.1 x.0) (r.1 x.0) x.1 (h.1 l))
  fate (if_set d) p r a h = if_set-fate (format d) a (some-map (λ x. Held d x) (λ x. Fate P (format d) x) (λ x k. fate d p r x k) a h)
  fate (set_then g d) p r a h = set_then-fate g (format d) a (fate d p r a h)
  fate (times n d) p r xs h = times-fate (format d) (law d p) n xs h.0 (many-fate (format d) (law d p) xs (every_map (λ x. Held d x) (λ x. Fate P (format d) x) (λ x k. fate d p r x k) xs h.1))
  fate (as-a into out is d) p r b h = as-a-fate into out is (format d) b h.0 (fate d p.0 r (out b) h.1)
