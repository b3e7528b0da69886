-- How long a value of a format is, and the widths of its fields. Definitions only.
use Rattle.std.specs.Prelude.{ℕ, ◌+◌, List, [], ◌∷◌}
use Rattle.std.proofs.Math.Option.{Option, none, some}
use Rattle.base_formats.specs.Description.{Description, flag, small, field, one_of, nothing, choose, if_set, set_then, times, as-a}
use Rattle.base_formats.specs.Format.{Field, of}

-- ---- how long a value is, where a field of a width counts for so much: its bits where the width itself counts, its keypad numbers where each counts for 1

abbrev pub if_set_length : {A : Type 0} → ℕ → (A → ℕ) → Option A → ℕ
if_set_length one f none = one
if_set_length one f (some a) = one + f a

abbrev pub times_length : {A : Type 0} → (A → ℕ) → List A → ℕ
times_length f [] = 0
times_length f (x ∷ xs) = f x + times_length f xs

abbrev pub length_of : {A : Type 0} → (ℕ → ℕ) → Description A → A → ℕ
length_of c flag b = c 1
length_of c (small w m) v = c w
length_of c (field w t g v n ok) a = c w
length_of c (one_of w n ks g) k = c w
length_of c nothing u = 0
length_of c (choose d e) x = length_of c d x.0 + length_of c (e x.0) x.1
length_of c (if_set d) a = if_set_length (c 1) (λ x. length_of c d x) a
length_of c (set_then g d) a = c 1 + length_of c d a
length_of c (times n d) xs = times_length (λ x. length_of c d x) xs
length_of c (as-a into out is d) b = length_of c d (out b)

unfoldable pub field_widths : List Field → List ℕ
field_widths [] = []
field_widths (of width v ∷ fs) = width ∷ field_widths fs

-- the widths of fields, added up
abbrev pub widths : List Field → ℕ
widths [] = 0
widths (of w v ∷ fs) = w + widths fs
