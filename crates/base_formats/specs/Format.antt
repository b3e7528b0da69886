-- Formats: how a value is read from a source, the fields that it is written as, and which values are valid, in one term.
-- Definitions only.
use Rattle.std.specs.Prelude.{ℕ, zero, suc, ◌+◌, Bool, true, false, cond, ◌&&◌, List, [], ◌∷◌, length, get_or, eqb, leb, ltb, Some, None}
use Rattle.std.specs.Prelude as std
use Rattle.std.proofs.Math.Option.{Option, none, some}
use Rattle.base_bitstream.specs.Bits.{digit}
use Rattle.base_formats.specs.declared.Fault.{Fault}
use Rattle.base_formats.specs.declared.Fault.TheVariants as fault
use Rattle.base_bitstream.specs.Fields.{read_at, pick, put}
use Rattle.base_formats.specs.declared.Fault.TheVariants.{CutShort}

-- ---- where a record's numbers come from

-- a source gives, for a width and a position, a number and the position past it, or none where no number is whole
abbrev pub Source : Type 0
Source = ℕ → ℕ → std.Option (ℕ × ℕ)

-- bits: a field of that width
unfoldable pub bit_source : List Bool → Source
bit_source l width at = read_at l at width

-- the keypad: the next of its numbers, whatever the width
unfoldable pub keypad_source : List ℕ → Source
keypad_source words width at = pick (ltb at (length words)) (Some (get_or words at 0, at + 1)) None

-- ---- what reading a part gives

-- a part and the position past it, or the first fault
pub data Read (A : Type 0) : Type 0 where
  got : A → ℕ → Read A
  refused : Fault → Read A

-- and then: what follows, where no fault was met
abbrev pub and_then : {A B : Type 0} → Read A → (A → ℕ → Read B) → Read B
and_then (got a p) k = k a p
and_then (refused f) k = refused f

abbrev pub whole : std.Option (ℕ × ℕ) → Read ℕ
whole (Some r) = got r.0 r.1
whole None = refused CutShort

-- a field's number
unfoldable pub number_from : Source → ℕ → ℕ → Read ℕ
number_from s width at = whole (s width at)

-- ---- the one list of fields that a record's bits and its keypad numbers are made of

-- a field: its width in bits and its number
pub data Field : Type 0 where
  of : ℕ → ℕ → Field

-- the bits of fields, each in its width, before what follows
unfoldable pub field_bits : List Field → List Bool → List Bool
field_bits [] rest = rest
field_bits (of width v ∷ fs) rest = put width v (field_bits fs rest)

-- the numbers of fields, for the keypad
unfoldable pub field_words : List Field → List ℕ
field_words [] = []
field_words (of width v ∷ fs) = v ∷ field_words fs

-- ---- a format

pub record Format (A : Type 0) : Type 0 where
  pub from : Source → ℕ → Read A
  pub fields : A → List Field → List Field
  pub valid : A → Bool

-- ---- one field

-- a number of that width that passes a test, or a fault; the value that it stands for, and the number of a value; the values that have a number
abbrev pub field : {A : Type 0} → ℕ → (ℕ → Bool) → Fault → (ℕ → A) → (A → ℕ) → (A → Bool) → Format A
field width test f value number good =
    record {
      from = λ s at. and_then (number_from s width at) (λ v p. cond (test v) (got (value v) p) (refused f));
      fields = λ a rest. of width (number a) ∷ rest;
      valid = λ a. good a && test (number a);
    }

-- a number that is at most `most`
unfoldable pub small : ℕ → ℕ → Format ℕ
small width most = field width (λ v. leb v most) fault.OutOfRange (λ v. v) (λ v. v) (λ v. true)

-- ---- the same fields, as another type; of that type, those that `is` admits
abbrev pub as-a : {A B : Type 0} → (A → B) → (B → A) → (B → Bool) → Format A → Format B
as-a into out is f =
    record {
      from = λ s at. and_then (f.from s at) (λ a p. got (into a) p);
      fields = λ b rest. f.fields (out b) rest;
      valid = λ b. is b && f.valid (out b);
    }

-- ---- flags and names

-- a bit
abbrev pub flag : Format Bool
flag = as-a (λ v. eqb v 1) digit (λ b. true) (small 1 1)

-- the first of some names that has the number
abbrev pub named : {K : Type 0} → (K → ℕ) → List K → ℕ → Option K
named number [] n = none
named number (k ∷ ks) n = cond (eqb n (number k)) (some k) (named number ks n)

abbrev pub found : {K : Type 0} → Fault → ℕ → Option K → Read K
found f p none = refused f
found f p (some k) = got k p

-- one of some names, by its number
abbrev pub one_of : {K : Type 0} → ℕ → (K → ℕ) → List K → Fault → Format K
one_of width number ks f =
    record {
      from = λ s at. and_then (number_from s width at) (λ n p. found f p (named number ks n));
      fields = λ k rest. of width (number k) ∷ rest;
      valid = λ k. true;
    }

-- ---- several

-- no field
abbrev pub nothing : Format Unit
nothing = record { from = λ s at. got tt at; fields = λ u rest. rest; valid = λ u. true }

-- one, and then one that may depend on what was read
abbrev pub choose : {K : Type 0} {B : K → Type 0} → Format K → ((k : K) → Format (B k)) → Format ((k : K) × B k)
choose f g =
    record {
      from = λ s at. and_then (f.from s at) (λ k p. and_then ((g k).from s p) (λ b q. got (k, b) q));
      fields = λ x rest. f.fields x.0 ((g x.0).fields x.1 rest);
      valid = λ x. f.valid x.0 && (g x.0).valid x.1;
    }

-- a flag, and if set, what follows
abbrev pub if_set_fields : {A : Type 0} → Format A → Option A → List Field → List Field
if_set_fields f none rest = flag.fields false rest
if_set_fields f (some a) rest = flag.fields true (f.fields a rest)

abbrev pub if_set_valid : {A : Type 0} → Format A → Option A → Bool
if_set_valid f none = true
if_set_valid f (some a) = f.valid a

abbrev pub if_set : {A : Type 0} → Format A → Format (Option A)
if_set f =
    record {
      from = λ s at. and_then (flag.from s at) (λ has p. cond has (and_then (f.from s p) (λ a q. got (some a) q)) (got none p));
      fields = if_set_fields f;
      valid = if_set_valid f;
    }

-- a flag that must be set, before what follows
abbrev pub set_then : {A : Type 0} → Fault → Format A → Format A
set_then g f =
    record {
      from = λ s at. and_then (flag.from s at) (λ has p. cond has (f.from s p) (refused g));
      fields = λ a rest. flag.fields true (f.fields a rest);
      valid = f.valid;
    }

-- that many, one after the other
abbrev pub times_from : {A : Type 0} → Format A → Source → ℕ → ℕ → Read (List A)
times_from f s zero at = got [] at
times_from f s (suc n) at = and_then (f.from s at) (λ x p. and_then (times_from f s n p) (λ xs q. got (x ∷ xs) q))

abbrev pub times_fields : {A : Type 0} → Format A → List A → List Field → List Field
times_fields f [] rest = rest
times_fields f (x ∷ xs) rest = f.fields x (times_fields f xs rest)

abbrev pub all : {A : Type 0} → (A → Bool) → List A → Bool
all p [] = true
all p (x ∷ xs) = p x && all p xs

abbrev pub times : {A : Type 0} → ℕ → Format A → Format (List A)
times n f = record { from = λ s at. times_from f s n at; fields = times_fields f; valid = λ xs. eqb (length xs) n && all f.valid xs }
