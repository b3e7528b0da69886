-- The bytes of a form and what follows it, bracketed as they are read. Assumes nothing.
use Prim.Native.Nat.{ℕ}
use mathlib.Core.Path.{◌≡◌}
use mathlib.Core.List.{List, [], ◌∷◌, ◌++◌, append_assoc}
use mathlib.Core.Option.{some}
use Rattle.text_numerals.specs.Numeral.{encoded, name_bytes}
use Rattle.text_format.specs.Form.{newline, colon, control_word, tempo_word, end_word, Label, Form, instr, control, tempo, end, TextLine, spaces, behind_bytes, behind_name, behind_number, label_bytes, target_bytes, value_bytes, form_bytes, star_bytes, line_bytes}

three : (a b c r : List ℕ) → (a ++ (b ++ c)) ++ r ≡ a ++ (b ++ (c ++ r))
three a b c r = simp append_assoc

five : (a b c d e r : List ℕ) → (a ++ (b ++ (c ++ (d ++ e)))) ++ r ≡ a ++ (b ++ (c ++ (d ++ (e ++ r))))
five a b c d e r = simp append_assoc

abbrev pub form_then : Form → List ℕ → List ℕ
form_then (instr l t n d vs) r = label_bytes l ++ (encoded t ++ (behind_name n ++ (behind_number d ++ (value_bytes vs ++ r))))
form_then (control t l more n x) r = encoded t ++ (target_bytes l ++ (behind_bytes more control_word ++ (behind_name n ++ (behind_number x ++ r))))
form_then (tempo t more x) r = encoded t ++ (behind_bytes more tempo_word ++ (behind_number x ++ r))
form_then (end t more) r = encoded t ++ (behind_bytes more end_word ++ r)

pub form-apart : (f : Form) (r : List ℕ) → form_bytes f ++ r ≡ form_then f r
unfolding form_bytes
form-apart (instr l t n d vs) r = five (label_bytes l) (encoded t) (behind_name n) (behind_number d) (value_bytes vs) r
form-apart (control t l more n x) r = five (encoded t) (target_bytes l) (behind_bytes more control_word) (behind_name n) (behind_number x) r
form-apart (tempo t more x) r = three (encoded t) (behind_bytes more tempo_word) (behind_number x) r
form-apart (end t more) r = append_assoc (encoded t) (behind_bytes more end_word) r

-- a label, its colon, and what stands behind it
pub label-apart : (l : Label) (r : List ℕ) → label_bytes (some l) ++ r ≡ name_bytes l.name ++ (spaces l.before ++ (colon ∷ (spaces l.after ++ r)))
unfolding label_bytes
label-apart l r = three (name_bytes l.name) (spaces l.before) (colon ∷ spaces l.after) r

pub line-apart : (w : TextLine) (after : List ℕ) → line_bytes w ++ after ≡ star_bytes w.priority ++ (form_bytes w.form ++ (newline ∷ after))
unfolding line_bytes
line-apart w after = three (star_bytes w.priority) (form_bytes w.form) (newline ∷ []) after
