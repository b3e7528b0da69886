-- What the stick's rules make of what a line of text says, and its values as they are kept. Definitions only.
use Rattle.std.specs.Prelude.{ℕ, ◌+◌, ◌-◌, min as lesser, Bool, cond, List, ◌∷◌, ◌++◌, map, ltb, length, take, set, replicate, Float}
use Rattle.std.proofs.Math.Option.{Option}
use Rattle.score_line.specs.Reading.{line_read}
use Rattle.score_line.specs.LineFormat as format
use Rattle.score_line.specs.declared.LineRead.{LineRead}
use Rattle.text_format.specs.Content.{bits, flag, label_words, line_content}
use Rattle.text_format.specs.Content as content
use Rattle.text_format.specs.inside.Reading.{content_at}
use Rattle.text_content.specs.declared.ValueBits.{ValueBits}

-- the line, or the first fault
unfoldable pub judged_at : Bool → Float → content.Event → LineRead
judged_at priority t e = line_read (line_content (content_at priority t e))

-- ---- values as they are kept

-- words, and zeros to eight
unfoldable pub eight : List ℕ → List ℕ
eight ws = ws ++ replicate (8 - length ws) 0

-- 9 stands for every number above 8: the stick's rules refuse all of them alike, and read no value then
unfoldable pub kept_of : List Float → ValueBits
unfolding eight
kept_of vs = record { count = lesser (length vs) 9; bits = eight (take 8 (map bits vs)) }

-- one value more
unfoldable pub with_value : ValueBits → Float → ValueBits
with_value k x =
    cond (ltb k.count 8) (record { count = k.count + 1; bits = set k.bits k.count (bits x) }) (record { count = 9; bits = k.bits })

-- ---- the keypad numbers of an instr line

unfoldable pub instr_numbers : ℕ → ℕ → Option ℕ → ℕ → ℕ → ValueBits → List ℕ
instr_numbers t p l name d k =
    1 ∷ (0 ∷ (t ∷ (p ∷ (format.type_of format.instr ∷ (label_words l ++ (name ∷ (d ∷ (lesser k.count 9 ∷ take k.count k.bits))))))))

unfoldable pub instr_words : Bool → Float → Option ℕ → ℕ → Float → ValueBits → List ℕ
unfolding instr_numbers
instr_words priority t l name d k = instr_numbers (bits t) (flag priority) l name (bits d) k
