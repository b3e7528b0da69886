-- What the writer answers and leaves, by its ways. Assumes nothing.
use Prim.Native.Nat.{ℕ, zero, suc, ◌+◌, ◌^◌, ◌≤◌, ◌<◌}
use mathlib.Core.Path.{◌≡◌, refl, sym, ap, ◌∙◌}
use mathlib.Core.Bool.{Bool, true, false}
use mathlib.Core.List.{List}
use mathlib.Core.Option.{Option, some, none-ne-some}
use native.Mathlib.Nat.{add-zero, zero-add}
use native.Mathlib.Omega.{arith}
use borrow.Author.Tests.{le-leb, lt-leb}
use lib.Dec.{T}
use lib.ListN.{length, get_or}
use Rattle.base_laws.proofs.Choice.{cond-true, cond-false}
use Rattle.base_answer.specs.Numbers.{is_taken}
use Rattle.base_answer.specs.declared.Answer.TheVariants.{Taken, OutOfRange, NoRoom, NoText}
use Rattle.score_line.specs.declared.Line.{Line}
use Rattle.score_line_writer.specs.Stored.{stored}
use Rattle.score_reader.specs.declared.ScoreRead.{ScoreRead}
use Rattle.score_decoder.proofs.Slots.{taken_is}
use Rattle.text_format.specs.Form as form
use Rattle.text_format.specs.Form.{text_bytes}
use Rattle.score_writer.specs.Slots.{slot_read, area_fault, area_lines}
use Rattle.score_writer.specs.Writing.{most_lines}
use Rattle.score_writer.specs.Written.{refusal}
use Rattle.score_writer.specs.declared.WriteResult.{WriteResult}
use Rattle.score_writer.proofs.InSlots.{fault-back, slot_of}
use Rattle.text_line_writer.specs.LineText.{IsTextOf}
use Rattle.text_line_writer.specs.inside.LineText.{line_text}
use Rattle.text_writer.specs.Writing.{Text, all, lacking, text_from, told_text, left_text, text_written, text_left, TextDone}
use Rattle.text_writer.specs.inside.Passes.{measured_past, Measurable, Layable}
use Rattle.text_writer.specs.Claims.{Told}
use Rattle.text_writer.specs.Claims as claims
use Rattle.std.specs.Prelude.{Result, Ok, Err}
use Rattle.text_writer.proofs.Lines.{every-line-told}
use Rattle.text_writer.proofs.Stored.{valid-stored}
use Rattle.text_writer.proofs.Short.{text-short}

-- a text that is found says the line
pub found-says : (l : Line) (w : form.TextLine) → T (stored l) → line_text l ≡ some w → IsTextOf l w
found-says l w h e = go (every-line-told l h) e
  where
    go : {o : Option form.TextLine} → Told l o → o ≡ some w → IsTextOf l w
    go (claims.content v s u n) f = let k : v ≡ w = cc in rw k at s
    go (claims.unsaid u n) f = absurd (none-ne-some w f)

-- where no slot has a fault, each was taken
pub all-taken : (area : List ℕ) (n i j : ℕ) → (area_fault area n i).answer ≡ Taken → j < n → is_taken (slot_read area (i + j)).answer ≡ true
all-taken area zero i j e h = absurd (omega arith)
all-taken area (suc n) i zero e h = cc ((fault-back area n i e).0, add-zero i)
all-taken area (suc n) i (suc j) e h = let k : i + suc j ≡ suc i + j = omega arith in cc (all-taken area n (suc i) j (fault-back area n i e).1 (omega arith))

module _ (area : List ℕ) (n : ℕ) {f : ScoreRead} {b : Bool} (e : f ≡ area_fault area n 0) (g : b ≡ is_taken f.answer) where
  area-is : is_taken (area_fault area n 0).answer ≡ b
  area-is = sym (g ∙ ap (λ (x : ScoreRead). is_taken x.answer) e)

  pub text-measurable : b ≡ true → n ≤ most_lines → ((i : ℕ) → get_or area i 0 < 2 ^ 32) → Measurable area n
  text-measurable h few words =
      record {
        few = few;
        short = λ i l w k.
            let t = all-taken area n 0 i (taken_is (area_fault area n 0).answer (area-is ∙ h)) l in
            let r = valid-stored (slot_read area i).line (slot_of area i words (rw zero-add at t)).0 in
            text-short (slot_read area i).line w r (found-says (slot_read area i).line w r k);
      }

module _ (area : List ℕ) (n : ℕ) {m : Result ℕ ℕ} (size : m ≡ measured_past 0 (text_from 0 (area_lines area n 0))) where
  -- the lines of the text, where it is there
  record Lines (bytes : ℕ) : Type 0 where
    lines : List form.TextLine
    are : text_from 0 (area_lines area n 0) ≡ all lines
    long : bytes ≡ length (text_bytes lines)

  there : {bytes : ℕ} → m ≡ Ok bytes → Lines bytes
  there {bytes} t = go (text_from 0 (area_lines area n 0)) refl (sym t ∙ size)
    where
      go : (x : Text) → text_from 0 (area_lines area n 0) ≡ x → Ok bytes ≡ measured_past 0 x → Lines bytes
      go (all ws) y z = let e : bytes ≡ 0 + length (text_bytes ws) = cc in record { lines = ws; are = y; long = e ∙ zero-add (length (text_bytes ws)) }
      go (lacking i) y z = absurd (let e : ◌≡◌ {A = ℕ} 0 1 = cc in omega arith)

  pub text-layable : (room : ℕ) {bytes : ℕ} → Measurable area n → m ≡ Ok bytes → bytes ≤ room → Layable area n room
  text-layable room u t l = let k = there t in record { measurable = u; lines = k.lines; are = k.are; within = omega (arith, k.long) }

module _ (area : List ℕ) (n : ℕ) (s : List ℕ) {f : ScoreRead} {b : Bool} (e : f ≡ area_fault area n 0) (g : b ≡ is_taken f.answer) where
  is : is_taken (area_fault area n 0).answer ≡ b
  is = area-is area n e g

  pub text-refused : {x : WriteResult} → b ≡ false → x ≡ refusal f.answer f.line → TextDone area n s s x
  unfolding text_written text_left
  text-refused h y =
      record { answers = cc is; leaves = sym (cond-false _ _ (is ∙ h)) }

  module _ (h : b ≡ true) where
    pub text-many : {x : WriteResult} → most_lines < n → x ≡ refusal OutOfRange 0 → TextDone area n s s x
    unfolding text_written text_left
    text-many l y =
        let k = lt-leb n most_lines l in
        record { answers = y ∙ sym (cond-true _ _ (is ∙ h) ∙ cond-false _ _ k); leaves = sym (cond-true _ _ (is ∙ h) ∙ cond-false _ _ k) }

    module _ (few : n ≤ most_lines) where
      done : (new : List ℕ) {x : WriteResult} → x ≡ told_text (text_from 0 (area_lines area n 0)) (length s) → new ≡ left_text (text_from 0 (area_lines area n 0)) s
          → TextDone area n s new x
      unfolding text_written text_left
      done new y z =
          let k = le-leb n most_lines few in
          record { answers = y ∙ sym (cond-true _ _ (is ∙ h) ∙ cond-true _ _ k); leaves = z ∙ sym (cond-true _ _ (is ∙ h) ∙ cond-true _ _ k) }

      module _ {m : Result ℕ ℕ} (size : m ≡ measured_past 0 (text_from 0 (area_lines area n 0))) where
        pub text-taken : (new : List ℕ) {bytes : ℕ} → m ≡ Ok bytes → bytes ≤ length s → new ≡ left_text (text_from 0 (area_lines area n 0)) s
            → TextDone area n s new (record { answer = Taken; line = 0; bytes = bytes })
        text-taken new t l y =
            let k = there area n size t in
            let ws = text_bytes k.lines in
            let room : length ws ≤ length s = omega (arith, k.long) in
            done new (ap (λ (j : ℕ). record { answer = Taken; line = 0; bytes = j }) k.long ∙ sym (cond-true _ _ (le-leb (length ws) (length s) room))
            ∙ ap (λ (v : Text). told_text v (length s)) (sym k.are)) y

        pub text-short-room : {x : WriteResult} {bytes : ℕ} → m ≡ Ok bytes → length s < bytes → x ≡ refusal NoRoom 0 → TextDone area n s s x
        text-short-room {x} t l y =
            let k = there area n size t in
            let ws = text_bytes k.lines in
            let short : length s < length ws = omega (arith, k.long) in
            let z = lt-leb (length ws) (length s) short in
            done s (y ∙ sym (cond-false _ _ z) ∙ ap (λ (v : Text). told_text v (length s)) (sym k.are))
            (sym (cond-false _ _ z) ∙ ap (λ (v : Text). left_text v s) (sym k.are))

        pub text-lacking : {x : WriteResult} {line : ℕ} → m ≡ Err line → x ≡ refusal NoText line → TextDone area n s s x
        text-lacking {x} {line} t y = go (text_from 0 (area_lines area n 0)) refl (sym t ∙ size)
          where
            go : (v : Text) → text_from 0 (area_lines area n 0) ≡ v → Err line ≡ measured_past 0 v → TextDone area n s s x
            go (all ws) u z = absurd (let e : ◌≡◌ {A = ℕ} 0 1 = cc in omega arith)
            go (lacking i) u z =
                done s (cc) (cc)
