-- Fields put into the code's arrays, one after the other. Assumes nothing.
use Prim.Native.Nat.{ℕ, suc, ◌+◌, ◌-◌, ◌<◌, ◌≤◌, min as lesser}
use mathlib.Core.Path.{◌≡◌, refl, sym, ap, ◌∙◌, subst}
use mathlib.Core.Bool.{Bool}
use mathlib.Core.List.{List, [], ◌∷◌, ◌++◌, append_assoc, append-nil, map}
use native.Mathlib.Nat.{add_assoc}
use native.Mathlib.Numerals.{add-one}
use native.Mathlib.Omega.{arith}
use lib.ListN.{length, take, get_or, set, replicate, length-append}
use lib.Seq.{set_at, take-suc}
use lib.Ieee.{Float, binary32, to_bits}
use Rattle.base_laws.proofs.Lists.{map-append, take_min}
use Rattle.base_bitstream.specs.Bits.{digit}
use Rattle.score_line.specs.declared.Line.{Line}
use Rattle.score_line.specs.declared.When.{When}
use Rattle.score_line.specs.declared.When.TheVariants.{Timed, Untimed}
use Rattle.score_line.specs.declared.Label.{Label}
use Rattle.score_line.specs.declared.Label.TheVariants.{Unlabelled, Labelled}
use Rattle.score_line.specs.declared.Event.{Event}
use Rattle.score_line.specs.declared.Event.TheVariants.{Instr, Control, End, Tempo}
use Rattle.base_formats.specs.Format.{Field, of, field_words, small, times_fields}
use Rattle.base_formats.specs.inside.Lengths.{field_widths, widths}
use Rattle.base_formats.specs.Description.{format}
use Rattle.base_formats.proofs.InWords.{length-words}
use Rattle.base_formats.proofs.Descriptions.{append}
use Rattle.score_line_writer.specs.inside.Fields.{flag, float, when_before, label_before, event_before, value_fields}
use Rattle.score_line_writer.specs.Writing.{line_fields, to_slot}
use Rattle.score_line_writer.specs.inside.Packed.{packed, Room, Joined}
use Rattle.score_line_writer.specs.declared.Fields.{Fields}
use Rattle.score_line.specs.LineFormat.{slot_words, timed, when, label, kind, body, event_parts, kind_of, number, counted, after_time, parts, line, labelled as labelled·format, float as real, values as values·format}
use Rattle.score_line.specs.declared.Range.TheVariants as range

-- ---- one field more

words_snoc : (fs : List Field) (w v : ℕ) → field_words (fs ++ (of w v ∷ [])) ≡ field_words fs ++ (v ∷ [])
unfolding field_words
words_snoc [] w v = refl
words_snoc (of a b ∷ fs) w v = ap (λ (l : List ℕ). b ∷ l) (words_snoc fs w v)

widths-snoc : (fs : List Field) (w v : ℕ) → field_widths (fs ++ (of w v ∷ [])) ≡ field_widths fs ++ (w ∷ [])
unfolding field_widths
widths-snoc [] w v = refl
widths-snoc (of a b ∷ fs) w v = ap (λ (l : List ℕ). a ∷ l) (widths-snoc fs w v)

pub sum-snoc : (fs : List Field) (w v : ℕ) → widths (fs ++ (of w v ∷ [])) ≡ widths fs + w
sum-snoc [] w v = omega arith
sum-snoc (of a b ∷ fs) w v = ap (λ (k : ℕ). a + k) (sum-snoc fs w v) ∙ sym (add_assoc a (widths fs) w)

pub length-widths : (fs : List Field) → length (field_widths fs) ≡ length fs
unfolding field_widths
length-widths [] = refl
length-widths (of w v ∷ fs) = ap suc (length-widths fs)

-- an element stored where the zeros begin
slot-set : (l : List ℕ) (n v : ℕ) → length l ≡ n → n < slot_words → set (to_slot l) n v ≡ to_slot (l ++ (v ∷ []))
unfolding to_slot
slot-set l n v e h =
    let k : slot_words - length l ≡ suc (slot_words - suc n) = omega arith in
    let m : length (l ++ (v ∷ [])) ≡ suc n = length-append l (v ∷ []) ∙ omega arith in
    ap (λ (j : ℕ). set (l ++ replicate j 0) n v) k
    ∙ set_at l 0 (replicate (slot_words - suc n) 0) v n e
    ∙ sym (append_assoc l (v ∷ []) (replicate (slot_words - length (l ++ (v ∷ []))) 0) ∙ ap (λ (j : ℕ). l ++ (v ∷ replicate (slot_words - j) 0)) m)

pushed : (fs : List Field) (w v : ℕ) → length fs < slot_words
    → record {
      count = length fs + 1;
      bits = widths fs + w;
      widths = set (to_slot (field_widths fs)) (length fs) w;
      values = set (to_slot (field_words fs))
          (length fs) v;
    } ≡ packed (fs ++ (of w v ∷ []))
unfolding packed
pushed fs w v h i = record {
  count = sym (length-append fs (of w v ∷ [])) i;
  bits = sym (sum-snoc fs w v) i;
  widths = (slot-set (field_widths fs) (length fs) w (length-widths fs) h ∙ ap to_slot (sym (widths-snoc fs w v))) i;
  values = (slot-set (field_words fs) (length fs) v (length-words fs) h ∙ ap to_slot (sym (words_snoc fs w v))) i;
}

abbrev push : Fields → ℕ → ℕ → Fields
push f w v = record { count = f.count + 1; bits = f.bits + w; widths = set f.widths f.count w; values = set f.values f.count v }

pub one_more : (f : Fields) (w v : ℕ) → Room f 1 → w ≤ 32 → Joined f (of w v ∷ []) 1 (push f w v)
one_more f w v h k =
    record {
      count = omega arith;
      few = omega (arith, h.few);
      joins = λ before e. ap (λ (g : Fields). push g w v) e ∙ first before (ap (λ (g : Fields). g.count) e);
    }
  where
    first : (before : List Field) → f.count ≡ (packed before).count → push (packed before) w v ≡ packed (before ++ (of w v ∷ []))
    first before n = unfold packed in pushed before w v (omega (arith, h.room))

-- ---- one after the other

pub both : {f g r : Fields} {xs ys : List Field} {m n : ℕ} → Joined f xs m g → Joined g ys n r → Joined f (xs ++ ys) (m + n) r
both {f} {g} {r} {xs} {ys} {m} {n} a b =
    record {
      count = omega (arith, a.count, b.count);
      few = b.few;
      joins = λ before e. b.joins (before ++ xs) (a.joins before e) ∙ ap packed (append_assoc before xs ys);
    }

pub wider : {f r : Fields} {xs : List Field} {m n : ℕ} → m ≤ n → Joined f xs m r → Joined f xs n r
wider h a = record { count = omega (arith, a.count); few = a.few; joins = a.joins }

-- the same fields, in other words
pub also : {f r : Fields} {xs ys : List Field} {n : ℕ} → xs ≡ ys → Joined f xs n r → Joined f ys n r
also {f} {r} {xs} {ys} {n} e a = subst (λ (l : List Field). Joined f l n r) e a

-- ---- the ways through the code

module _ (f r : Fields) where
  pub when-timed : (a b : Fields) (w : When) (late : Bool) (t : Float) (d p : ℕ) → w ≡ Timed late t → d ≡ digit late → p ≡ to_bits binary32 t
      → Joined f (of 1 1 ∷ []) 1 a → Joined a (of 1 d ∷ []) 1 b → Joined b (of 32 p ∷ []) 1 r → Joined f (when_before w []) 3 r
  unfolding when timed small real
  when-timed a b w late t d p e h k x y z = rw (e, ← h, ← k) (both x (both y z))

  pub when-untimed : (w : When) → w ≡ Untimed → Joined f (of 1 0 ∷ []) 1 r → Joined f (when_before w []) 3 r
  unfolding when timed small real
  when-untimed w e x = rw e (wider (omega arith) x)

  pub labelled : (a : Fields) (l : Label) (n : ℕ) → l ≡ Labelled n → Joined f (of 1 1 ∷ []) 1 a → Joined a (of 16 n ∷ []) 1 r → Joined f (label_before l []) 2 r
  unfolding label small
  labelled a l n e x y = rw e (both x y)

  pub unlabelled : (l : Label) → l ≡ Unlabelled → Joined f (of 1 0 ∷ []) 1 r → Joined f (label_before l []) 2 r
  unfolding label small
  unlabelled l e x = rw e (wider (omega arith) x)

  pub event-instr : (a b c : Fields) (v : Event) (l : Label) (i : ℕ) (d : Float) (p : ℕ) → v ≡ Instr l i d → p ≡ to_bits binary32 d
      → Joined f (of 3 0 ∷ []) 1 a → Joined a (label_before l []) 2 b → Joined b (of 16 i ∷ []) 1 c → Joined c (of 32 p ∷ []) 1 r → Joined f (event_before v []) 5 r
  unfolding kind body labelled·format small real
  event-instr a b c v l i d p e h x y z u =
      rw e (also (ap (λ (s : List Field). of 3 0 ∷ s) (append label l [] (of 16 i ∷ (float d ∷ [])))) (rw (← h) (both x (both y (both z u)))))

  pub event-control : (a b c g : Fields) (v : Event) (l i : ℕ) (d : Float) (p : ℕ) → v ≡ Control l i d → p ≡ to_bits binary32 d
      → Joined f (of 3 1 ∷ []) 1 a → Joined a (of 1 1 ∷ []) 1 b → Joined b (of 16 l ∷ []) 1 c → Joined c (of 16 i ∷ []) 1 g → Joined g (of 32 p ∷ []) 1 r
      → Joined f (event_before v []) 5 r
  unfolding kind body labelled·format small real
  event-control a b c g v l i d p e h x y z u t = rw (e, ← h) (both x (both y (both z (both u t))))

  pub event-end : (v : Event) → v ≡ End → Joined f (of 3 4 ∷ []) 1 r → Joined f (event_before v []) 5 r
  unfolding kind body labelled·format small real
  event-end v e x = rw e (wider (omega arith) x)

  pub event-tempo : (a : Fields) (v : Event) (t : Float) (p : ℕ) → v ≡ Tempo t → p ≡ to_bits binary32 t → Joined f (of 3 5 ∷ []) 1 a → Joined a (of 32 p ∷ []) 1 r
      → Joined f (event_before v []) 5 r
  unfolding kind body labelled·format small real
  event-tempo a v t p e h x y = rw (e, ← h) (wider (omega arith) (both x y))

-- ---- the loop over the values

pub none_more : (f : Fields) (n : ℕ) → Room f n → Joined f [] 0 f
none_more f n h = record { count = omega arith; few = h.few; joins = λ before e. e ∙ ap packed (sym (append-nil before)) }

pub record Collected (f : Fields) (n : ℕ) (values : List Float) (r : Fields) (i : ℕ) : Type 0 where
  pub within : i ≤ n
  pub room : Room f 8
  pub joined : Joined f (map float (take i values)) i r

pub floats-start : (f : Fields) (n : ℕ) (values : List Float) → Room f 8 → Collected f n values f 0
floats-start f n values h = record { within = omega arith; room = h; joined = none_more f 8 h }

pub floats-room : (f : Fields) (n count : ℕ) (values : List Float) (r : Fields) (i : ℕ) → n ≡ lesser count 8 → Collected f n values r i → i < n → Room r 1
floats-room f n count values r i e c h = record { room = omega (arith, c.joined.count, c.room.room); few = c.joined.few }

pub floats-again : (f : Fields) (n count : ℕ) (values : List Float) (r q : Fields) (i p : ℕ) (d : Float) → n ≡ lesser count 8 → length values ≡ 8
    → Collected f n values r i → i < n
    → p ≡ to_bits binary32 (get_or values i d) → Joined r (of 32 p ∷ []) 1 q → Collected f n values q (i + 1)
floats-again f n count values r q i p d m l c h e j =
    let t : take (i + 1) values ≡ take i values ++ (get_or values i d ∷ []) = ap (λ (k : ℕ). take k values) (add-one i) ∙ take-suc values i d (omega arith) in
    record {
      within = omega arith;
      room = c.room;
      joined = also (sym (ap (map float) t ∙ map-append float (take i values) (get_or values i d ∷ []))) (both c.joined (also (ap (λ (k : ℕ). of 32 k ∷ []) e) j));
    }

pub floats-end : (f : Fields) (n count : ℕ) (values : List Float) (r : Fields) (i : ℕ) → n ≡ lesser count 8 → length values ≡ 8 → Collected f n values r i → n ≤ i
    → Joined f (map float (take count values)) 8 r
floats-end f n count values r i m l c h =
    let e : i ≡ lesser count 8 = omega (arith, c.within) in
    wider (omega arith) (also (ap (map float) (ap (λ (k : ℕ). take k values) e ∙ take_min values count 8 l)) c.joined)

-- ---- values, and the whole line

floats-are : (xs : List Float) → map float xs ≡ times_fields (format (real range.Value)) xs []
unfolding real
floats-are [] = refl
floats-are (x ∷ xs) = ap (λ (fs : List Field). float x ∷ fs) (floats-are xs)

module _ (f : Fields) (count : ℕ) (values : List Float) where
  pub values-instr : (a r : Fields) (v : Event) (l : Label) (i : ℕ) (d : Float) (n : ℕ) → v ≡ Instr l i d → n ≡ lesser count 255
      → Joined f (of 8 n ∷ []) 1 a → Joined a (map float (take count values)) 8 r → Joined f (value_fields v count values) 9 r
  unfolding values·format counted number
  values-instr a r v l i d n e h x y =
      rw (e, ← h) (also (ap (λ (fs : List Field). of 8 n ∷ fs) (floats-are (take count values))) (both x y))

  -- the other kinds have none
  pub values-none : (v u : Event) → v ≡ u → value_fields u count values ≡ [] → Room f 9 → Joined f (value_fields v count values) 9 f
  values-none v u e n h = rw (e, n) (wider (omega arith) (none_more f 9 h))

event-before : (e : Event) (rest : List Field) → event_before e [] ++ rest ≡ event_before e rest
unfolding kind
event-before e rest = ap (λ (fs : List Field). (format kind).fields (kind_of e) fs) (append (body (kind_of e)) (event_parts e).1 [] rest)

none_yet : (f : Fields) → f ≡ packed [] → f.count ≡ 0
unfolding packed
none_yet f e = ap (λ (g : Fields). g.count) e

pub room-first : (f : Fields) → f ≡ packed [] → Room f 3
unfolding packed
room-first f e =
    record { room = omega (arith, none_yet f e); few = omega (arith, ap (λ (g : Fields). g.bits) e) }

module _ (f a : Fields) (xs : List Field) (e : f ≡ packed []) (j : Joined f xs 3 a) where
  pub room-field : Room a 1
  room-field = record { room = omega (arith, (room-first f e).room, j.count, none_yet f e); few = j.few }

  module _ (b : Fields) (ys : List Field) (k : Joined a ys 1 b) where
    pub room-event : Room b 5
    room-event = record { room = omega (arith, j.count, k.count, none_yet f e); few = k.few }

    pub room-values : (c : Fields) (zs : List Field) → Joined b zs 5 c → Room c 9
    room-values c zs m = record { room = omega (arith, j.count, k.count, m.count, none_yet f e); few = m.few }

pub line-packed : (l : Line) (f a b c r : Fields) (d : ℕ) → f ≡ packed [] → Joined f (when_before l.when []) 3 a → d ≡ digit l.priority → Joined a (of 1 d ∷ []) 1 b
    → Joined b (event_before l.event []) 5 c → Joined c (value_fields l.event l.count l.values) 9 r → r ≡ packed (line_fields l)
unfolding line parts after_time small
line-packed l f a b c r d e w h p v x =
    let t = value_fields l.event l.count l.values in
    (both w (both (also (ap (λ (k : ℕ). of 1 k ∷ []) h) p) (both v x))).joins [] e
    ∙ ap packed (ap (λ (s : List Field). when_before l.when [] ++ (flag l.priority ∷ s)) (event-before l.event t) ∙ append when l.when []
    (flag l.priority ∷ event_before l.event t))
