-- The two passes over the lines of an area. Assumes nothing.
use Prim.Native.Nat.{ℕ, suc, ◌+◌, ◌-◌, ◌*◌, ◌≤◌, ◌<◌}
use mathlib.Core.Path.{◌≡◌, refl, sym, ap, ◌∙◌}
use mathlib.Core.List.{List, [], ◌∷◌, ◌++◌, append_assoc, append-nil}
use mathlib.Core.Option.{Option, none, some, map}
use native.Mathlib.Nat.{add_assoc, add-zero, zero-add}
use native.Mathlib.Numerals.{add-one}
use native.Mathlib.Omega.{arith}
use borrow.Author.Tests.{le-leb}
use lib.ListN.{length, get_or, set, take, drop, length-append, length-drop}
use lib.Seq.{paste, paste-zero, paste-suc, length-paste, take_at, drop_at, drop-drop}
use Rattle.text_number_writer.specs.Push.{line_room, empty_text, push_all, content_of}
use Rattle.text_number_writer.specs.declared.LineText.{LineText}
use Rattle.text_number_writer.proofs.Pushing.{push-appends}
use Rattle.score_line.specs.declared.Line.{Line}
use Rattle.score_line.specs.declared.LineRead.{LineRead}
use Rattle.text_format.specs.Form as form
use Rattle.text_format.specs.Form.{line_bytes, text_bytes}
use Rattle.score_writer.specs.Slots.{slot_read, area_lines}
use Rattle.text_line_writer.specs.inside.LineText.{line_text}
use Rattle.text_line_writer.specs.inside.Drafts.{Holds}
use Rattle.text_writer.specs.Writing.{Text, all, lacking, before, text_from, left_text}
use Rattle.text_writer.specs.inside.Passes.{measured_past, Measurable, Layable, Fits, Put}
use Rattle.std.specs.Prelude.{Option as Optional, Some, None, Ok, Err}
use Rattle.std.specs.Option.{IsSome, is_some}
use Rattle.std.proofs.lemmas.Option.{same_Some, none-some}

-- ---- a draft and its line

-- its bytes stand in the code's line of text
record Whole (t : LineText) (bytes : List ℕ) : Type 0 where
  content : content_of t ≡ bytes
  len : t.len ≡ length bytes
  room : length t.bytes ≡ line_room

whole : (t : LineText) (bytes : List ℕ) → t ≡ push_all empty_text bytes → length bytes ≤ line_room → Whole t bytes
whole t bytes e h =
    let a = push-appends empty_text bytes refl (omega arith) in
    record { content = cc; len = cc (zero-add (length bytes)); room = cc }

record There (l : Line) (t : LineText) : Type 0 where
  written : form.TextLine
  found : line_text l ≡ some written
  text : t ≡ push_all empty_text (line_bytes written)

there : (l : Line) (d : Optional LineText) (t : LineText) → Holds d (map line_bytes (line_text l)) → d ≡ Some t → There l t
there l d t h e = go (line_text l) refl h
  where
    go : (o : Option form.TextLine) → line_text l ≡ o → Holds d (map line_bytes o) → There l t
    go none f k = absurd (none-some t (sym k ∙ e))
    go (some w) f k = record { written = w; found = f; text = same_Some _ _ (sym e ∙ k) }

lacks : (l : Line) (d : Optional LineText) → Holds d (map line_bytes (line_text l)) → d ≡ None → line_text l ≡ none
lacks l d h e = go (line_text l) refl h
  where
    go : (o : Option form.TextLine) → line_text l ≡ o → Holds d (map line_bytes o) → line_text l ≡ none
    go none f k = f
    go (some w) f k = absurd (none-some (push_all empty_text (line_bytes w)) (sym e ∙ k))

-- ---- the lines that are left

lines_left : (area : List ℕ) (n i : ℕ) → i < n → area_lines area (n - i) i ≡ (slot_read area i).line ∷ area_lines area (n - (i + 1)) (i + 1)
unfolding area_lines
lines_left area n i h =
    let k : n - i ≡ suc (n - (i + 1)) = omega arith in
    cc (add-one i)

text-left : (area : List ℕ) (n i : ℕ) → i < n
    → text_from i (area_lines area (n - i) i) ≡ before (line_text (slot_read area i).line) i (text_from (i + 1) (area_lines area (n - (i + 1)) (i + 1)))
unfolding text_from
text-left area n i h =
    cc (lines_left area n i h, add-one i)

text-end : (area : List ℕ) (n i : ℕ) → n ≤ i → text_from i (area_lines area (n - i) i) ≡ all []
unfolding text_from area_lines
text-end area n i h = let k : n - i ≡ 0 = omega arith in ap (λ (j : ℕ). text_from i (area_lines area j i)) k

text-start : (area : List ℕ) (n : ℕ) → text_from 0 (area_lines area (n - 0) 0) ≡ text_from 0 (area_lines area n 0)
text-start area n = let k : n - 0 ≡ n = omega arith in ap (λ (j : ℕ). text_from 0 (area_lines area j 0)) k

-- ---- measuring

one_more : (total i : ℕ) (w : form.TextLine) (t : Text) → measured_past (total + length (line_bytes w)) t ≡ measured_past total (before (some w) i t)
unfolding text_bytes
one_more total i w (all ws) = cc (add_assoc total (length (line_bytes w)) (length (text_bytes ws)), length-append (line_bytes w) (text_bytes ws))
one_more total i w (lacking j) = refl

module _ (area : List ℕ) (n : ℕ) where
  pub record Counted (total i : ℕ) : Type 0 where
    pub upto : i ≤ n
    pub bound : total ≤ line_room * i
    pub same : measured_past total (text_from i (area_lines area (n - i) i)) ≡ measured_past 0 (text_from 0 (area_lines area n 0))

  pub count-start : Counted 0 0
  count-start = record { upto = omega arith; bound = omega arith; same = ap (measured_past 0) (text-start area n) }

  pub count-more : (total i : ℕ) {r : LineRead} (d : Optional LineText) (u : LineText) → Measurable area n → Counted total i → i < n → r ≡ slot_read area i
      → Holds d (map line_bytes (line_text r.line)) → d ≡ Some u
      → Counted (total + u.len) (i + 1)
  count-more total i {r} d u m c h e k f =
      let x = (slot_read area i).line in
      let t = there x d u (rw e at k) f in
      let w = t.written in
      let s : length (line_bytes w) ≤ line_room = m.short i h w t.found in
      let p = whole u (line_bytes w) t.text s in
      let more = text_from (i + 1) (area_lines area (n - (i + 1)) (i + 1)) in
      record { upto = omega arith; bound = omega (arith, c.bound, p.len); same = cc (p.len, one_more total i w more, t.found, text-left area n i h, c.same) }

  -- the sum has a number
  pub count_room : (total i : ℕ) {r : LineRead} (d : Optional LineText) (u : LineText) → Measurable area n → Counted total i → i < n → r ≡ slot_read area i
      → Holds d (map line_bytes (line_text r.line)) → d ≡ Some u
      → total + u.len < 18446744073709551616
  count_room total i d u m c h e k f = omega (arith, (count-more total i d u m c h e k f).bound, m.few)

  pub count-stop : (total i : ℕ) {r : LineRead} (d : Optional LineText) → Counted total i → i < n → r ≡ slot_read area i → Holds d (map line_bytes (line_text r.line))
      → d ≡ None
      → Err i ≡ measured_past 0 (text_from 0 (area_lines area n 0))
  count-stop total i {r} d c h e k f =
      cc (lacks (slot_read area i).line d (rw e at k) f, text-left area n i h, c.same)

  pub count-end : (total i : ℕ) → Counted total i → n ≤ i → Ok total ≡ measured_past 0 (text_from 0 (area_lines area n 0))
  unfolding text_bytes
  count-end total i c h = cc (add-zero total, text-end area n i h, c.same)

-- ---- one line put at a position

pub record Copied (old : List ℕ) (at len : ℕ) (bytes new : List ℕ) (i : ℕ) : Type 0 where
  pub upto : i ≤ len
  pub is : new ≡ paste old at bytes i

module _ (old : List ℕ) (at : ℕ) (t : LineText) where
  pub copy_start : Copied old at t.len t.bytes old 0
  copy_start = record { upto = omega arith; is = paste-zero old at t.bytes }

  pub copy-length : {new : List ℕ} {i : ℕ} → Fits (length old) at t → Copied old at t.len t.bytes new i → length new ≡ length old
  copy-length {new} {i} f c = ap length c.is ∙ length-paste old at t.bytes i (omega (arith, f.within, c.upto)) (omega (arith, f.whole, f.long, c.upto))

  pub copy-room : {new : List ℕ} (i : ℕ) → Fits (length old) at t → Copied old at t.len t.bytes new i → i < t.len → at + i < length new
  copy-room i f c h = omega (arith, f.within, copy-length f c)

  pub copy_more : {new : List ℕ} (i z : ℕ) → Fits (length old) at t → Copied old at t.len t.bytes new i → i < t.len
      → Copied old at t.len t.bytes (set new (at + i) (get_or t.bytes i z)) (i + 1)
  copy_more i z f c h =
      record {
        upto = omega arith;
        is =
            ap (λ (l : List ℕ). set l (at + i) (get_or t.bytes i z)) c.is ∙ paste-suc old at t.bytes i z (omega (arith, f.within))
            (omega (arith, f.whole, f.long))
            ∙ ap (paste old at t.bytes) (sym (add-one i));
      }

  pub copy-end : {new : List ℕ} (i : ℕ) → Copied old at t.len t.bytes new i → t.len ≤ i → Put old at t new (at + t.len)
  copy-end i c h =
      let k : i ≡ t.len = omega (arith, c.upto) in
      record { past = refl; stands = c.is ∙ ap (paste old at t.bytes) k ∙ append_assoc (take at old) (content_of t) (drop (at + t.len) old) }

-- ---- the lines put one behind the other

bytes-append : (us vs : List form.TextLine) → text_bytes (us ++ vs) ≡ text_bytes us ++ text_bytes vs
unfolding text_bytes
bytes-append [] vs = refl
bytes-append (u ∷ us) vs = ap (λ (b : List ℕ). line_bytes u ++ b) (bytes-append us vs) ∙ sym (append_assoc (line_bytes u) (text_bytes us) (text_bytes vs))

bytes-snoc : (us : List form.TextLine) (w : form.TextLine) → text_bytes (us ++ (w ∷ [])) ≡ text_bytes us ++ line_bytes w
unfolding text_bytes
bytes-snoc us w = bytes-append us (w ∷ []) ∙ ap (λ (b : List ℕ). text_bytes us ++ b) (append-nil (line_bytes w))

pub all_same : {us vs : List form.TextLine} → all us ≡ all vs → us ≡ vs
all_same e = cc

-- a text is whole only where its first line has one
record First (o : Option form.TextLine) (t : Text) (ws : List form.TextLine) : Type 0 where
  one : form.TextLine
  others : List form.TextLine
  found : o ≡ some one
  rest : t ≡ all others
  are : ws ≡ one ∷ others

first-of : (o : Option form.TextLine) (i : ℕ) (t : Text) (ws : List form.TextLine) → before o i t ≡ all ws → First o t ws
first-of none i t ws e = absurd (let z : ◌≡◌ {A = ℕ} 0 1 = cc in omega arith)
first-of (some w) i (all vs) ws e = record { one = w; others = vs; found = refl; rest = refl; are = sym (all_same e) }
first-of (some w) i (lacking j) ws e = absurd (let z : ◌≡◌ {A = ℕ} 0 1 = cc in omega arith)

module _ (area : List ℕ) (n : ℕ) (first : List ℕ) where
  pub record Laying (s : List ℕ) (p i : ℕ) : Type 0 where
    pub upto : i ≤ n
    pub done : List form.TextLine
    pub rest : List form.TextLine
    pub are : text_from 0 (area_lines area n 0) ≡ all (done ++ rest)
    pub left : text_from i (area_lines area (n - i) i) ≡ all rest
    pub past : p ≡ length (text_bytes done)
    pub stands : s ≡ text_bytes done ++ drop p first

  pub lay-start : Layable area n (length first) → Laying first 0 0
  unfolding text_bytes
  lay-start h = record { upto = omega arith; done = []; rest = h.lines; are = h.are; left = text-start area n ∙ h.are; past = refl; stands = refl }

  module _ {s : List ℕ} {p i : ℕ} (h : Layable area n (length first)) (c : Laying s p i) where
    room : length (text_bytes c.done) + length (text_bytes c.rest) ≤ length first
    room =
        let e : h.lines ≡ c.done ++ c.rest = all_same (sym h.are ∙ c.are) in
        omega (
          arith,
          ap (λ (ws : List form.TextLine). length (text_bytes ws)) e,
          ap length (bytes-append c.done c.rest),
          length-append (text_bytes c.done)
              (text_bytes c.rest),
          h.within,
        )

    pub lay-length : length s ≡ length first
    lay-length = omega (arith, ap length c.stands, length-append (text_bytes c.done) (drop p first), length-drop p first, room, c.past)

    module _ (below : i < n) {r : LineRead} (d : Optional LineText) (read : r ≡ slot_read area i) (holds : Holds d (map line_bytes (line_text r.line))) where
      next : First (line_text (slot_read area i).line) (text_from (i + 1) (area_lines area (n - (i + 1)) (i + 1))) c.rest
      next = first-of (line_text (slot_read area i).line) i (text_from (i + 1) (area_lines area (n - (i + 1)) (i + 1))) c.rest (sym (text-left area n i below) ∙ c.left)

      stands : d ≡ Some (push_all empty_text (line_bytes next.one))
      stands = let k : Holds d (map line_bytes (some next.one)) = rw (read, next.found) at holds in k

      -- the line has a text
      pub lay-there : IsSome d
      lay-there = ap is_some stands

      bytes_left : length (text_bytes c.rest) ≡ length (line_bytes next.one) + length (text_bytes next.others)
      unfolding text_bytes
      bytes_left = ap (λ (ws : List form.TextLine). length (text_bytes ws)) next.are ∙ length-append (line_bytes next.one) (text_bytes next.others)

      module _ (u : LineText) (is : d ≡ Some u) where
        line : Whole u (line_bytes next.one)
        line = whole u (line_bytes next.one) (same_Some _ _ (sym is ∙ stands)) (h.measurable.short i below next.one next.found)

        pub lay-fits : Fits (length s) p u
        lay-fits =
            record {
              whole = omega (arith, line.len, h.measurable.short i below next.one next.found);
              long = line.room;
              within = omega
                  (arith, line.len, bytes_left, room, lay-length, c.past);
            }

        pub lay-more : {t : List ℕ} {q : ℕ} → Put s p u t q → Laying t q (i + 1)
        lay-more {t} {q} k =
            let w = next.one in
            let b = text_bytes c.done in
            let len = u.len in
            let e = bytes-snoc c.done w in
            let f = take_at b (drop p first) p (sym c.past) in
            let g : drop (p + len) s ≡ drop (p + len) first = cc (drop-drop len p s, c.stands, drop_at b (drop p first) p (sym c.past), drop-drop len p first) in
            record {
              upto = omega arith;
              done = c.done ++ (w ∷ []);
              rest = next.others;
              are = cc (c.are, next.are, append_assoc c.done (w ∷ []) next.others);
              left = next.rest;
              past = omega (arith, k.past, c.past, line.len, ap length e, length-append b (line_bytes w));
              stands = cc (k.stands, f, c.stands, line.content, append_assoc b (line_bytes w) (drop (p + len) first), k.past);
            }

    pub lay-end : n ≤ i → s ≡ left_text (text_from 0 (area_lines area n 0)) first
    lay-end m =
        let z : c.rest ≡ [] = all_same (sym c.left ∙ text-end area n i m) in
        let b = text_bytes c.done in
        cc (c.stands, c.past, c.are, append-nil c.done, le-leb (length b) (length first) (omega (arith, room)))
