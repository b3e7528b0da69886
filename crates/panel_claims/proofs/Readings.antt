-- The answers of a reading: which there are, and that 11 comes with the number 0.
use mathlib.Core.Path.{◌≡◌, refl}
use mathlib.Core.Bool.{Bool, cond}
use mathlib.Core.List.{List, []}
use Prim.Native.Nat.{ℕ}
use lib.ListN.{length}
use lib.Dec.{eqb}
use Rattle.base_answer.specs.Numbers.{is_taken}
use Rattle.base_answer.specs.declared.Answer as kind
use Rattle.base_answer.specs.declared.Answer.TheVariants as answer
use Rattle.base_bitstream.specs.Bits.{bits_of}
use Rattle.base_bitstream.specs.Fields.{read_at}
use Rattle.base_bitstream.specs.Filling.{filled}
use Rattle.std.specs.Prelude.{Option, Some, None}
use Rattle.base_formats.specs.Format.{bit_source, keypad_source, Read, got, refused}
use Rattle.base_formats.specs.declared.Fault.{Fault}
use Rattle.base_formats.specs.declared.Fault.TheVariants as fault
use Rattle.score_line.specs.Reading.{line_from, line_at, line_read, line_in_words, whole_run, refused_line, answer_of, keypad_line}
use Rattle.score_line.specs.declared.Line.{Line}
use Rattle.score_line.specs.declared.LineRead.{LineRead}
use Rattle.score_reader.specs.Score.{Score, Lines, all, faulty as faulty-lines, lines_from, counted, ended as ended-score, score_of, unit_of, opened, whole_line}
use Rattle.text_format.specs.inside.Reading.{Text, lines, bad, lines_from as text-from, judged as judged-text, text_of}
use Rattle.text_format.specs.Content.{judged_from, judgement}
use Rattle.player_model.specs.Calls.{Entrance, stick, unit, keypad, text, reads, Answer}
use Rattle.player_model.proofs.Lists.{either_way}

-- the answers of a reading
pub data Readable : kind.Answer → Type 0 where
  read_whole : Readable answer.Taken
  read-cut : Readable answer.CutShort
  read-not-carried : Readable answer.NotCarried
  read-out-of-range : Readable answer.OutOfRange
  read-too-many : Readable answer.TooManyValues
  read-left-over : Readable answer.LeftOver
  read-bad-text : Readable answer.BadText

pub record ReadSo (s : Score) : Type 0 where
  pub readable : Readable s.answer
  pub from-0 : s.answer ≡ answer.LeftOver → s.line ≡ 0

fault-so : (x : Fault) (i : ℕ) → ReadSo (record { answer = answer_of x; line = i; lines = [] })
unfolding answer_of
fault-so fault.CutShort i = record { readable = read-cut; from-0 = λ e. cc }
fault-so fault.NotCarried i = record { readable = read-not-carried; from-0 = λ e. cc }
fault-so fault.OutOfRange i = record { readable = read-out-of-range; from-0 = λ e. cc }
fault-so fault.TooManyValues i = record { readable = read-too-many; from-0 = λ e. cc }

score-so : (bits : List Bool) → ReadSo (score_of bits)
unfolding score_of counted ended-score
score-so bits = by_count (read_at bits 0 20)
  where
    by_lines : (x : Lines) → ReadSo (ended-score bits x)
    by_lines (all ls p) =
        either_way ReadSo (filled bits p) (record { readable = read_whole; from-0 = λ e. refl }) (record { readable = read-left-over; from-0 = λ e. refl })
    by_lines (faulty-lines f i) = fault-so f i

    by_count : (x : Option (ℕ × ℕ)) → ReadSo (counted bits x)
    by_count (Some r) = by_lines (lines_from bits r.0 0 r.1)
    by_count None = record { readable = read-cut; from-0 = λ e. refl }

-- a text's answers are 18 and those of its lines; no 11
text-so : (bytes : List ℕ) → ReadSo (text_of bytes)
unfolding text_of
text-so bytes = go (text-from (length bytes) 0 bytes)
  where
    by_lines : (x : Lines) → ReadSo (judgement x)
    by_lines (all ls p) = record { readable = read_whole; from-0 = λ e. refl }
    by_lines (faulty-lines f i) = fault-so f i

    go : (t : Text) → ReadSo (judged-text t)
    go (lines ss) = by_lines (judged_from 0 ss)
    go (bad i) = record { readable = read-bad-text; from-0 = λ e. cc }

line-readable : (x : Read Line) → Readable (line_read x).answer
unfolding line_read refused_line
line-readable (got l p) = read_whole
line-readable (refused f) = (fault-so f 0).readable

left_or : (a b : Bool) (r : LineRead) → Readable r.answer → Readable (cond a (cond b r (refused_line answer.LeftOver)) r).answer
unfolding refused_line
left_or a b r h = let P : LineRead → Type 0 = λ (x : LineRead). Readable x.answer in either_way P a (either_way P b h read-left-over) h

unit-readable : (bits : List Bool) → Readable (unit_of bits).answer
unfolding unit_of opened whole_line line_at refused_line
unit-readable bits = go (read_at bits 0 2)
  where
    go : (x : Option (ℕ × ℕ)) → Readable (opened bits x).answer
    go (Some o) =
        let r = line_at bits o.1 in
        either_way (λ (x : LineRead). Readable x.answer) (eqb o.0 0)
        (left_or (is_taken r.answer) (filled bits r.next) r (line-readable (line_from (bit_source bits) o.1))) read-not-carried
    go None = read-cut

pub reads_so : (d : Entrance) (handed : List ℕ) → ReadSo (reads d handed)
unfolding keypad_line whole_run line_in_words
reads_so stick b = score-so (bits_of b)
reads_so unit b = record { readable = unit-readable (bits_of b); from-0 = λ e. refl }
reads_so keypad b =
    record {
      readable = left_or (is_taken (line_in_words b 0).answer) (eqb (line_in_words b 0).next (length b)) (line_in_words b 0) (line-readable (line_from (keypad_source b) 0));
      from-0 = λ e. refl;
    }
reads_so text b = text-so b
