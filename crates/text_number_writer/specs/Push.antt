-- Bytes put behind each other in a line of text, which has room for 128. Definitions and a statement only.
use Rattle.std.specs.Prelude.{ℕ, ◌+◌, ◌≤◌, ◌≡◌, cond, List, [], ◌∷◌, ◌++◌, length, set, take, replicate, ltb}
use Rattle.text_number_writer.specs.declared.LineText.{LineText}

abbrev pub line_room : ℕ
line_room = 128

abbrev pub empty_text : LineText
empty_text = record { bytes = replicate line_room 0; len = 0 }

-- one byte more; past the room nothing changes
unfoldable pub pushed : LineText → ℕ → LineText
pushed t b = cond (ltb t.len line_room) (record { bytes = set t.bytes t.len b; len = t.len + 1 }) t

-- bytes, one after the other
unfoldable pub push_all : LineText → List ℕ → LineText
unfolding pushed
push_all t [] = t
push_all t (b ∷ bs) = push_all (pushed t b) bs

-- the bytes of the line so far
abbrev pub content_of : LineText → List ℕ
content_of t = take t.len t.bytes

-- Within the room the bytes pushed stand behind those that were there.
pub record Appended (t : LineText) (bs : List ℕ) (u : LineText) : Type 0 where
  pub content : content_of u ≡ content_of t ++ bs
  pub len : u.len ≡ t.len + length bs
  pub room : length u.bytes ≡ line_room

abbrev pub PushAppends : Type 0
PushAppends = (t : LineText) (bs : List ℕ) → length t.bytes ≡ line_room → t.len + length bs ≤ line_room → Appended t bs (push_all t bs)
