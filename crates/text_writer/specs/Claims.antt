-- What is promised of scores written as text: which text a line has, which refusals come first, and that reading and writing undo each other, through the
-- calls. Read this file first. Statements only; the proofs are in proofs/lines.antt and proofs/calls.antt.
use Rattle.std.specs.Prelude.{ℕ, ◌*◌, ◌≤◌, ◌≡◌, List, [], ◌∷◌, ◌++◌, T, length, take}
use Rattle.std.proofs.Math.Option.{Option, none, some}
use Rattle.base_answer.specs.Numbers.{number_of}
use Rattle.score_line.specs.declared.Line.{Line}
use Rattle.score_line.specs.LineFormat.{slot_words}
use Rattle.score_line_writer.specs.Stored.{stored}
use Rattle.score_reader.specs.Score.{taken}
use Rattle.text_format.specs.Form as form
use Rattle.text_format.specs.inside.Reading.{text_of}
use Rattle.score_decoder.specs.Area.{DecodesTo}
use Rattle.score_decoder.specs.declared.Decoded.{Decoded}
use Rattle.score_writer.specs.Slots.{area_lines}
use Rattle.score_writer.specs.Written.{ScoreDone}
use Rattle.score_writer.specs.Claims.{Words, SlotsBack, all_stored}
use Rattle.score_writer.specs.declared.WriteResult.{WriteResult}
use Rattle.text_line_writer.specs.LineText.{IsTextOf, NoTextForm}
use Rattle.text_line_writer.specs.inside.LineText.{line_text}
use Rattle.text_writer.specs.Writing.{Text, all, lacking, text_from, TextDone}

-- ---- a line

-- it has one text, or there is a reason why it has none
pub data Told (l : Line) : Option form.TextLine → Type 0 where
  content : (w : form.TextLine) → IsTextOf l w → ((v : form.TextLine) → IsTextOf l v → v ≡ w) → (NoTextForm l → ⊥) → Told l (some w)
  unsaid : NoTextForm l → ((v : form.TextLine) → IsTextOf l v → ⊥) → Told l none

abbrev pub EveryLineTold : Type 0
EveryLineTold = (l : Line) → T (stored l) → Told l (line_text l)

-- ---- the lines of a score

-- each has its text
pub data AllHaveText : List Line → List form.TextLine → Type 0 where
  no_lines : AllHaveText [] []
  one_more : {l : Line} {ls : List Line} {w : form.TextLine} {ws : List form.TextLine} → IsTextOf l w → AllHaveText ls ws → AllHaveText (l ∷ ls) (w ∷ ws)

-- or the first that has none
pub record FirstWithoutText (ls : List Line) (i : ℕ) : Type 0 where
  pub before : List Line
  pub texts : List form.TextLine
  pub line : Line
  pub after : List Line
  pub are : before ++ (line ∷ after) ≡ ls
  pub number : length before ≡ i
  pub content : AllHaveText before texts
  pub unsaid : NoTextForm line

pub data TextIs (ls : List Line) : Text → Type 0 where
  whole : (ws : List form.TextLine) → AllHaveText ls ws → TextIs ls (all ws)
  broken : (i : ℕ) → FirstWithoutText ls i → TextIs ls (lacking i)

abbrev pub EveryTextTold : Type 0
EveryTextTold = (ls : List Line) → T (all_stored ls) → TextIs ls (text_from 0 ls)

-- ---- refusals: first those of the score writer, then 19, then 8

pub data RoomNumber : ℕ → Type 0 where
  written : RoomNumber 0
  too_short : RoomNumber 8

pub data TextNumber : ℕ → Type 0 where
  room : {n : ℕ} → RoomNumber n → TextNumber n
  no_text : TextNumber 19

pub record LikeScore (v w : WriteResult) : Type 0 where
  pub refuses : (RoomNumber (number_of v.answer) → ⊥) → w ≡ v
  pub otherwise : RoomNumber (number_of v.answer) → TextNumber (number_of w.answer)

abbrev pub TextLikeScore : Type 0
TextLikeScore = (area to bytes out new : List ℕ) (n : ℕ) (v w : WriteResult) → ScoreDone area n to bytes v → TextDone area n out new w → LikeScore v w

-- ---- reading what was written

-- the text that was written reads as the lines of the slots, whole
abbrev pub TextReadBack : Type 0
TextReadBack =
    (area out bytes : List ℕ) (n : ℕ) (w : WriteResult) → Words area → TextDone area n out bytes w → number_of w.answer ≡ 0
    → text_of (take w.bytes bytes) ≡ taken (area_lines area n 0)

-- decoded into any area that has room for them, the slots are its first words; the others are as they were
abbrev pub TextSlotsBack : Type 0
TextSlotsBack =
    (area out bytes into new : List ℕ) (n : ℕ) (w : WriteResult) (d : Decoded) → Words area → TextDone area n out bytes w → number_of w.answer ≡ 0
    → DecodesTo (text_of (take w.bytes bytes)) into new d → slot_words * n ≤ length into → SlotsBack area n into new d

-- it is never refused 18
abbrev pub NeverRefused18 : Type 0
NeverRefused18 =
    (area out bytes : List ℕ) (n : ℕ) (w : WriteResult) → Words area → TextDone area n out bytes w → number_of w.answer ≡ 0
    → number_of (text_of (take w.bytes bytes)).answer ≡ 18 → ⊥

-- ---- writing what was read

-- lines that were read from text all have one
abbrev pub ReadHasText : Type 0
ReadHasText = (s : List ℕ) → number_of (text_of s).answer ≡ 0 → (ws : List form.TextLine) × AllHaveText (text_of s).lines ws

-- so what was read and decoded is written, or the bytes have no room for it; and what was written is read as the same score
pub record WrittenAgain (s new : List ℕ) (w : WriteResult) : Type 0 where
  pub number : RoomNumber (number_of w.answer)
  pub again : number_of w.answer ≡ 0 → text_of (take w.bytes new) ≡ text_of s

abbrev pub TextReadAgain : Type 0
TextReadAgain =
    (s area words out new : List ℕ) (d : Decoded) (w : WriteResult) → DecodesTo (text_of s) area words d → number_of d.answer ≡ 0 → TextDone words d.count out new w
    → WrittenAgain s new w
