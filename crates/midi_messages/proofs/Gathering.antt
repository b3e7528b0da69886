-- The one pass over a call's bytes: what is gathered so far and what the rest of the bytes say are together what the call says.
use mathlib.Core.Path.{◌≡◌, refl, sym, ap, ◌∙◌}
use mathlib.Core.List.{List, [], ◌∷◌, ◌++◌, append_assoc, append-nil}
use Prim.Native.Nat.{ℕ, suc, ◌+◌, ◌<◌, ◌≤◌}
use native.Mathlib.Numerals.{add-one}
use native.Mathlib.Omega.{arith}
use borrow.Author.Tests.{ltb-true, ltb-false, le-ltb, ne_eqb, eq-eqb}
use borrow.Table.Steps.{cases}
use lib.Dec.{ltb}
use lib.ListN.{length, get_or, take, drop, set, replicate, length-append, length-replicate, drop_of_length-le}
use lib.Seq.{take_all, take-append-le, length-take-le, drop-cons, set_at}
use Rattle.base_laws.proofs.Choice.{cond-true, cond-false}
use Rattle.base_answer.specs.declared.Answer.{Answer}
use Rattle.base_answer.specs.declared.Answer.TheVariants.{CutShort}
use Rattle.std.specs.Prelude.{Option, Some, None, Ok, Err}
use Rattle.midi_messages.specs.Writing.{Call, whole, fault, before}
use Rattle.midi_messages.specs.inside.Reading.{Step, start, stepped, behind, call_from, call_of, most, blank, padded, messages_with, call_messages}
use Rattle.midi_messages.specs.inside.Passes.{added}
use Rattle.midi_messages.specs.declared.NoteMessage.{NoteMessage}
use Rattle.midi_messages.specs.declared.ParserState.{ParserState}
use Rattle.midi_messages.specs.declared.CallMessages.{CallMessages}

-- messages, and one more where it is a note message
kept : List NoteMessage → Option NoteMessage → List NoteMessage
kept ms (Some m) = ms ++ m ∷ []
kept ms None = ms

-- messages before the rest of a call
pub prefixed : List NoteMessage → Call → Call
prefixed ms (whole ns) = whole (ms ++ ns)
prefixed ms (fault a) = fault a

prefixed-none : (c : Call) → prefixed [] c ≡ c
unfolding prefixed
prefixed-none (whole ns) = refl
prefixed-none (fault a) = refl

prefixed-heard : (ms : List NoteMessage) (h : Option NoteMessage) (c : Call) → prefixed ms (before h c) ≡ prefixed (kept ms h) c
unfolding prefixed before kept
prefixed-heard ms (Some m) (whole ns) = ap whole (sym (append_assoc ms (m ∷ []) ns))
prefixed-heard ms (Some m) (fault a) = refl
prefixed-heard ms None c = refl

-- one more message goes in behind the others
put_next : (ms : List NoteMessage) (m : NoteMessage) → length ms < most → set (padded ms) (length ms) m ≡ padded (ms ++ m ∷ [])
put_next ms m h =
    let n : length (ms ++ m ∷ []) ≡ suc (length ms) = length-append ms (m ∷ []) ∙ omega arith in
    let r = replicate most blank in
    let l : length ms < length r = rw (length-replicate) h in
    rw (drop-cons r (length ms) blank l, set_at ms (get_or r (length ms) blank) (drop (suc (length ms)) r) m (length ms) refl, n)
    (sym (append_assoc ms (m ∷ []) (drop (suc (length ms)) r)))

-- what is handed on of them
abbrev pub gathered : List NoteMessage → CallMessages
gathered ms = messages_with (take most ms)

add-whole : (ms : List NoteMessage) (m : NoteMessage) → added (gathered ms) m ≡ gathered (ms ++ m ∷ [])
unfolding added
add-whole ms m =
    let n = length-append ms (m ∷ []) in
    cases (ltb (length ms) most)
    (λ l.
    let h = ltb-true (length ms) most l in
    rw (take_all most ms (omega arith), take_all most (ms ++ m ∷ []) (omega arith))
    (cond-true _ _ l ∙ (λ i. record { list = put_next ms m h i; count = sym n i })))
    (λ l.
    let h = ltb-false (length ms) most l in
    rw (take-append-le most ms (m ∷ []) h) (cond-false _ _ (le-ltb (length (take most ms)) most (omega (arith, length-take-le most ms h)))))

-- ---- the loop
pub record Inv (bs : List ℕ) (g : CallMessages) (p : ParserState) (i : ℕ) : Type 0 where
  pub ms : List NoteMessage
  pub held : g ≡ gathered ms
  pub rest : prefixed ms (call_from p (drop i bs)) ≡ call_of bs

pub starts : (bs : List ℕ) {g : CallMessages} → g ≡ messages_with [] → Inv bs g start 0
unfolding call_of
starts bs e = record { ms = []; held = e; rest = prefixed-none (call_from start bs) }

-- what the byte at i does
here : (bs : List ℕ) (p : ParserState) (i b : ℕ) (s : Step) → i < length bs → b ≡ get_or bs i 0 → s ≡ stepped p b
    → call_from p (drop i bs) ≡ behind s (λ q. call_from q (drop (i + 1) bs))
unfolding call_from
here bs p i b s h e f =
    rw (add-one i, f, e) (ap (call_from p) (drop-cons bs i 0 h))

module _ {bs : List ℕ} {g : CallMessages} {p q : ParserState} {i b : ℕ} {s : Step} {h : Option NoteMessage} (v : Inv bs g p i) (l : i < length bs)
    (e : b ≡ get_or bs i 0) (f : s ≡ stepped p b) (k : s ≡ Ok (q, h)) where
  goes_on : prefixed (kept v.ms h) (call_from q (drop (i + 1) bs)) ≡ call_of bs
  goes_on = cc (prefixed-heard v.ms h (call_from q (drop (i + 1) bs)), here bs p i b (Ok (q, h)) l e (sym k ∙ f), v.rest)

  pub again : {g' : CallMessages} {m : NoteMessage} → h ≡ Some m → g' ≡ added g m → Inv bs g' q (i + 1)
  unfolding kept
  again {g'} {m} o a = record {
    ms = v.ms ++ m ∷ [];
    held = cc (v.held, add-whole v.ms m);
    rest = rw o at goes_on;
  }

  pub again-none : h ≡ None → Inv bs g q (i + 1)
  unfolding kept
  again-none o = record { ms = v.ms; held = v.held; rest = rw o at goes_on }

-- ---- its ends
module _ {bs : List ℕ} {g : CallMessages} {p : ParserState} {i : ℕ} (v : Inv bs g p i) where
  whole-call : (c : Call) → call_from p (drop i bs) ≡ c → prefixed v.ms c ≡ call_of bs
  whole-call c e = ap (prefixed v.ms) (sym e) ∙ v.rest

  refused : (a : Answer) → call_from p (drop i bs) ≡ fault a → Err a ≡ call_messages (call_of bs)
  unfolding call_messages prefixed
  refused a e = ap call_messages (whole-call (fault a) e)

  pub ends-fault : {b : ℕ} {s : Step} {a : Answer} → i < length bs → b ≡ get_or bs i 0 → s ≡ stepped p b → s ≡ Err a → Err a ≡ call_messages (call_of bs)
  ends-fault {b} {a = a} l e f k = refused a (here bs p i b (Err a) l e (sym k ∙ f))

  at-end : length bs ≤ i → call_from p (drop i bs) ≡ call_from p []
  at-end h = ap (call_from p) (drop_of_length-le bs h)

  pub ends-whole : length bs ≤ i → p.wants ≡ 0 → Ok g ≡ call_messages (call_of bs)
  unfolding call_from prefixed call_messages
  ends-whole h e =
      ap Ok v.held ∙ ap (λ (x : List NoteMessage). call_messages (whole x)) (sym (append-nil v.ms))
      ∙ ap call_messages (whole-call (whole []) (at-end h ∙ cond-true _ _ (eq-eqb p.wants 0 e)))

  pub ends-cut : length bs ≤ i → (p.wants ≡ 0 → ⊥) → Err CutShort ≡ call_messages (call_of bs)
  unfolding call_from
  ends-cut h e = refused CutShort (at-end h ∙ cond-false _ _ (ne_eqb p.wants 0 e))
