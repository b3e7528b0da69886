-- Note messages behind others, and the ways through a keyboard call.
use mathlib.Core.Path.{◌≡◌, refl, sym, ap, ◌∙◌, subst}
use mathlib.Core.Bool.{true, false, true≢false}
use mathlib.Core.List.{List, [], ◌∷◌, ◌++◌, append_assoc, append-nil}
use Prim.Native.Nat.{ℕ, ◌+◌, ◌-◌, ◌≤◌, ◌<◌, min}
use native.Mathlib.Omega.{arith}
use native.Mathlib.Numerals.{add-one}
use lib.ListN.{length, take, drop, get_or, set, length-append, length-take, take-append-drop}
use lib.Seq.{take-suc, take_at, take_all, length-take-le}
use borrow.Author.Tests.{le-leb, lt-leb}
use Rattle.base_laws.proofs.Lists.{take_min}
use Rattle.base_answer.specs.declared.Answer.{Answer}
use Rattle.base_answer.specs.declared.Answer.TheVariants.{NoRoom}
use Rattle.std.specs.Prelude.{Result, Ok, Err}
use Rattle.midi_messages.specs.Writing.{Call, whole, fault}
use Rattle.midi_messages.specs.inside.Reading.{most, padded, messages_with, call_messages, call_of}
use Rattle.midi_messages.specs.declared.NoteMessage.{NoteMessage}
use Rattle.midi_messages.specs.declared.CallMessages.{CallMessages}
use Rattle.player_model.specs.Lists.{over}
use Rattle.player_model.proofs.Lists.{cond-true, cond-false}
use Rattle.player_model.proofs.Loops.{over-set}
use Rattle.midi_queue.specs.Keyboard.{most_messages, messages_in, behind, enqueued_in}
use Rattle.midi_queue.specs.declared.MessageQueue.{MessageQueue}

-- ---- one message after the other

module _ (list more : List NoteMessage) (n : ℕ) where
  pub behind-none : n ≤ length list → list ≡ over (take n list ++ []) list
  behind-none h =
      sym (ap (λ (l : List NoteMessage). over l list) (append-nil (take n list))
      ∙ ap (λ (k : ℕ). take n list ++ drop k list) (length-take-le n list h) ∙ take-append-drop n list)

  pub behind_more : (out : List NoteMessage) (i : ℕ) (d : NoteMessage) → i < length more → n + i < length list
      → out ≡ over (take n list ++ take i more) list → set out (n + i) (get_or more i d) ≡ over (take n list ++ take (i + 1) more) list
  behind_more out i d h k e =
      let ks = take n list ++ take i more in
      let x = get_or more i d in
      let l : length ks ≡ n + i = length-append (take n list) (take i more) ∙ (λ j. length-take-le n list (omega arith) j + length-take-le i more (omega arith) j) in
      let s : ks ++ (x ∷ []) ≡ take n list ++ take (i + 1) more =
      append_assoc (take n list) (take i more) (x ∷ [])
      ∙ ap (λ (t : List NoteMessage). take n list ++ t) (sym (ap (λ (m : ℕ). take m more) (add-one i) ∙ take-suc more i d h)) in
      ap (λ (t : List NoteMessage). set t (n + i) x) e
      ∙ subst (λ (m : ℕ). set (over ks list) m x ≡ over (ks ++ (x ∷ [])) list) l (over-set ks list x (omega (arith, l)))
      ∙ ap (λ (t : List NoteMessage). over t list) s

-- ---- a call

-- the ways through it, of what its bytes were read as
refuses : (w : MessageQueue) (c : Call) {a : Answer} → Err a ≡ call_messages c → Err a ≡ enqueued_in w c
unfolding call_messages enqueued_in
refuses w (whole ms) e = cc
refuses w (fault a) e = cc

pub press-refuses : (w : MessageQueue) (bs : List ℕ) {r : Result CallMessages Answer} {a : Answer} → r ≡ call_messages (call_of bs) → r ≡ Err a
    → Err a ≡ enqueued_in w (call_of bs)
press-refuses w bs e t = refuses w (call_of bs) (sym t ∙ e)

module _ (w : MessageQueue) (long : length w.list ≡ 64) (n : ℕ) (is : n ≡ min w.count 64) where
  many : length (messages_in w) ≡ n
  many = length-take w.count w.list ∙ omega (arith, is, long)

  full : (c : Call) {g : CallMessages} → Ok g ≡ call_messages c → 64 - n < g.count → Err NoRoom ≡ enqueued_in w c
  unfolding call_messages enqueued_in
  full (fault a) e h = cc
  full (whole ms) {g} e h =
      let k : g.count ≡ length (take most ms) = cc in
      sym (cond-false _ _ (lt-leb (length (messages_in w) + length ms) most_messages (omega (arith, k, length-take most ms, many, is, h))))

  pub press-full : (bs : List ℕ) {r : Result CallMessages Answer} {g : CallMessages} → r ≡ call_messages (call_of bs) → r ≡ Ok g → 64 - n < g.count
      → Err NoRoom ≡ enqueued_in w (call_of bs)
  press-full bs e t h = full (call_of bs) (sym t ∙ e) h

  fits : (c : Call) {g : CallMessages} → Ok g ≡ call_messages c → g.count ≤ 64 - n → (list : List NoteMessage) → list ≡ over (take n w.list ++ take g.count g.list) w.list
      → Ok (record { list = list; count = n + g.count }) ≡ enqueued_in w c
  unfolding call_messages enqueued_in behind
  fits (fault a) e h list q = cc
  fits (whole ms) {g} e h list q =
      let s : g ≡ messages_with (take most ms) = cc in
      let k : g.count ≡ length (take most ms) = ap (λ (x : CallMessages). x.count) s in
      let few : length ms ≤ most = omega (arith, k, length-take most ms, is, h) in
      let all : take most ms ≡ ms = take_all most ms few in
      let k' : g.count ≡ length ms = k ∙ ap length all in
      let front : take n w.list ≡ messages_in w = ap (λ (m : ℕ). take m w.list) is ∙ take_min w.list w.count 64 long in
      let back : take g.count g.list ≡ ms =
      (λ i. take (k' i) ((ap (λ (x : CallMessages). x.list) s ∙ ap padded all) i)) ∙ take_at ms _ (length ms) refl in
      let c : n + g.count ≡ length (messages_in w ++ ms) = sym (length-append (messages_in w) ms ∙ (λ i. many i + sym k' i)) in
      (λ i. Ok (record { list = (q ∙ (λ j. over (front j ++ back j) w.list)) i; count = c i }))
      ∙ sym (cond-true _ _ (le-leb (length (messages_in w) + length ms) most_messages (omega (arith, k', many, is, h))))

  pub press-fits : (bs : List ℕ) {r : Result CallMessages Answer} {g : CallMessages} → r ≡ call_messages (call_of bs) → r ≡ Ok g → g.count ≤ 64 - n
      → (list : List NoteMessage) → list ≡ over (take n w.list ++ take g.count g.list) w.list
      → Ok (record { list = list; count = n + g.count }) ≡ enqueued_in w (call_of bs)
  press-fits bs e t h list q = fits (call_of bs) (sym t ∙ e) h list q
