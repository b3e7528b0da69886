-- Texts, byte by byte, and what they give. Assumes nothing.
use Prim.Native.Nat.{ℕ, suc, ◌^◌}
use Prim.Native.String.{String}
use mathlib.Core.Path.{◌≡◌, refl}
use mathlib.Core.Bool.{true, false}
use mathlib.Core.List.{List, [], ◌∷◌, map}
use mathlib.Core.Option.{some}
use lib.Ieee.{round, to_bits}
use Rattle.base_answer.specs.declared.Answer.{Answer}
use Rattle.base_answer.specs.declared.Answer.TheVariants.{Taken, NotCarried, OutOfRange, TooManyValues, BadText}
use Rattle.base_timebase.specs.Time.{time_bits, duration_bits, tempo_bits, finite_bits}
use Rattle.base_formats.specs.Format.{keypad_source, number_from, small}
use Rattle.score_line.specs.LineFormat.{in_range, float, number, timed, when, label, kind, labelled, body, counted, values, after_time, parts, line}
use Rattle.score_line.specs.Reading.{answer_of}
use Rattle.score_reader.specs.Score.{Score, refused_score}
use Rattle.text_format.specs.Content.{words_of, most_lines}
use Rattle.text_numerals.specs.Numeral.{Numeral, encoded, name_bytes}
use Rattle.text_numerals.proofs.Examples.{bytes}
use Rattle.text_format.specs.Form.{Behind, instr, control, tempo, end, TextLine, text_bytes}
use Rattle.text_format.specs.inside.Reading.{text_of}

abbrev behind : {A : Type 0} → ℕ → A → Behind A
behind more x = record { more = more; element = x }

abbrev plain : List ℕ → Numeral
plain digits = record { minus = false; digits = digits; decimals = [] }

-- all that is opened to work a text out
worked : List ℕ → Score
unfolding text_of words_of keypad_source number_from small float in_range time_bits duration_bits tempo_bits finite_bits number timed when label kind labelled body counted values after_time parts line answer_of round to_bits
worked bytes = text_of bytes

-- ---- what is no text

abbrev no-texts : List (String × ℕ)
no-texts =
    -- a space behind the star, before a line and behind it
    ("* 5 end\n", 0) ∷ ("5 end\n 5 end\n", 1) ∷ ("5 end \n", 0)
    -- no newline at the end; an empty line
    ∷ ("5 end\n5 end", 1) ∷ ("5 end\n\n", 1)
    -- a tab, and one behind a space; a carriage return
    ∷ ("5\tend\n", 0) ∷ ("5 \tend\n", 0) ∷ ("5 end\r\n", 0)
    -- a control line's label stands before `control`; a label and a colon before an instr line alone
    ∷ ("5 control s7 s2 4\n", 0) ∷ ("s7: 5 tempo 60\n", 0)
    -- a name with a needless zero, and one above 65,535
    ∷ ("5 s01 2\n", 0) ∷ ("5 s65536 2\n", 0)
    -- no digit before the point, none behind it, four
    ∷ (".5 end\n", 0) ∷ ("5. end\n", 0) ∷ ("5.0000 end\n", 0)
    -- the digits make 2 ^ 24, with the point left out too
    ∷ ("16777216 end\n", 0) ∷ ("1677721.6 end\n", 0)
    -- 18 comes first: the first line's time is below 0, the second is no line
    ∷ ("-1 end\n5\n", 1)
    ∷ []

-- each breaks at its line
break-at : map (λ (c : String × ℕ). text_of (bytes c.0)) no-texts ≡ map (λ (c : String × ℕ). refused_score BadText c.1) no-texts
unfolding worked
break-at = refl

-- ---- what the stick's rules say

-- no bytes; leading zeros; every form, with a label and without, with priority and without
taken : map (λ (t : String). (text_of (bytes t)).answer)
    ("" ∷ "000005 end\n" ∷ "s7:0 s1 -1 0.5 -3\n*s7  :  0 s1 1\n1.5 s1 2\n1.5  s7 control s2 4\n*2 tempo 60\n3 end\n" ∷ []) ≡ Taken ∷ Taken ∷ Taken ∷ []
unfolding worked
taken = refl

abbrev faulty : List (String × (Answer × ℕ))
faulty =
    -- a time below 0, and -0
    ("-1 end\n", (OutOfRange, 0)) ∷ ("5 end\n-0 end\n", (OutOfRange, 1))
    -- a control line without a label; its time's fault comes first
    ∷ ("5 control s2 4\n", (NotCarried, 0)) ∷ ("-1 control s2 4\n", (OutOfRange, 0))
    -- nine values
    ∷ ("5 s1 1 1 2 3 4 5 6 7 8 9\n", (TooManyValues, 0))
    ∷ []

refused-at : map (λ (c : String × (Answer × ℕ)). text_of (bytes c.0)) faulty ≡ map (λ (c : String × (Answer × ℕ)). refused_score c.1.0 c.1.1) faulty
unfolding worked
refused-at = refl

-- ---- how lines are encoded

-- a line of each form
four-lines : List TextLine
four-lines =
    record {
      priority = true;
      form =
          instr (some (record { name = 65535; before = 0; after = 1 })) (plain (1 ∷ 2 ∷ [])) (behind 0 40)
          (behind 2 (record { minus = true; digits = 1 ∷ []; decimals = [] })) (
          behind 0 (record { minus = true; digits = 0 ∷ []; decimals = 2 ∷ 5 ∷ 0 ∷ [] }) ∷ []);
    }
    ∷ record { priority = false; form = control (plain (0 ∷ [])) (some (behind 0 7)) 1 (behind 0 2) (behind 0 (plain (4 ∷ []))) }
    ∷ record { priority = false; form = tempo (plain (0 ∷ 1 ∷ [])) 0 (behind 0 (plain (6 ∷ 0 ∷ []))) }
    ∷ record { priority = false; form = end (plain (9 ∷ [])) 0 }
    ∷ []

their-text : text_bytes four-lines ≡ bytes "*s65535: 12 s40   -1 -0.250\n0 s7  control s2 4\n01 tempo 60\n9 end\n"
unfolding text_bytes encoded name_bytes four-lines
their-text = refl

-- ---- the number of lines

-- as many as a score of bits counts
most-lines : suc most_lines ≡ 2 ^ 20
most-lines = refl
