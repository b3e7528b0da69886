-- Formats as data: a description is the list of a record's fields, and all that is promised of the record follows from it. Definitions only.
use Rattle.std.specs.Prelude.{ℕ, Bool, true, List}
use Rattle.std.proofs.Math.Option.{Option}
use Rattle.base_formats.specs.declared.Fault.{Fault}
use Rattle.base_formats.specs.Format as F
use Rattle.base_formats.specs.Format.{Format}

pub data Description : Type 0 → Type 1 where
  -- a bit
  flag : Description Bool
  -- a number of that width, at most so much
  small : ℕ → ℕ → Description ℕ
  -- a number of that width that passes a test, else a fault; the value that it stands for, the number of a value, and the values that have one
  field : {A : Type 0} → ℕ → (ℕ → Bool) → Fault → (ℕ → A) → (A → ℕ) → (A → Bool) → Description A
  -- one of some names by its number of that width, else a fault
  one_of : {K : Type 0} → ℕ → (K → ℕ) → List K → Fault → Description K
  -- no field
  nothing : Description Unit
  -- one, and then one that depends on it
  choose : {K : Type 0} {B : K → Type 0} → Description K → ((k : K) → Description (B k)) → Description ((k : K) × B k)
  -- a flag, and if set, what follows
  if_set : {A : Type 0} → Description A → Description (Option A)
  -- a flag that must be set, else a fault, before what follows
  set_then : {A : Type 0} → Fault → Description A → Description A
  -- that many, one after the other
  times : {A : Type 0} → ℕ → Description A → Description (List A)
  -- the same fields, as another type; of that type, those that the test admits
  as-a : {A B : Type 0} → (A → B) → (B → A) → (B → Bool) → Description A → Description B

-- one after the other
abbrev pub pair : {A B : Type 0} → Description A → Description B → Description (A × B)
pair {A} {B} d e = choose {B = λ (a : A). B} d (λ a. e)

abbrev pub alike : {A B : Type 0} → (A → B) → (B → A) → Description A → Description B
alike into out d = as-a into out (λ b. true) d

-- how it is read, the fields that it is written as, and which values are valid
abbrev pub format : {A : Type 0} → Description A → Format A
format flag = F.flag
format (small w m) = F.small w m
format (field w t g v n ok) = F.field w t g v n ok
format (one_of w n ks g) = F.one_of w n ks g
format nothing = F.nothing
format (choose d e) = F.choose (format d) (λ k. format (e k))
format (if_set d) = F.if_set (format d)
format (set_then g d) = F.set_then g (format d)
format (times n d) = F.times n (format d)
format (as-a into out is d) = F.as-a into out is (format d)
