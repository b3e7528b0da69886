-- What the note messages come to: keys pressed and released, one message after the other.
use mathlib.Core.Path.{◌≡◌, refl, sym, ap, ◌∙◌}
use mathlib.Core.Bool.{Bool, true, false, not, ◌&&◌, ◌||◌, true≢false}
use mathlib.Core.Logic.{◌⊎◌, inl, inr, by_cases}
use mathlib.Core.List.{List, [], ◌∷◌, ◌++◌, append_assoc, append-nil}
use Prim.Native.Nat.{ℕ, suc, ◌+◌, ◌-◌, ◌≤◌, min}
use native.Mathlib.Omega.{arith}
use native.Mathlib.Decide.{dec_lt}
use lib.ListN.{length, take, length-append}
use lib.Seq.{take-nil}
use lib.Dec.{ltb, eqb}
use borrow.Author.Tests.{le-ltb, ltb-false, eq-eqb, eqb-true, not-true}
use Rattle.std.specs.Prelude.{Option, Some, None}
use Rattle.std.specs.Option.{option_map_or}
use Rattle.base_laws.proofs.Choice.{both_true}
use Rattle.midi_messages.specs.declared.NoteMessage.{NoteMessage}
use Rattle.player_model.specs.Lists.{fold, each, All}
use Rattle.player_model.specs.Cycle.{Voices, Note, Started, release, is_held, release_oldest, joined_by, pressed, after_message, after_messages, goes_on}
use Rattle.player_model.specs.Results.{Held, KeysRelease, HasEnded, NotesGo, note_ons, MessagesPlay, MessagesInOrder}
use Rattle.player_model.proofs.Lists.{by-test, either_way, cond-true, cond-false, fold-append}
use Rattle.player_model.proofs.Results.{join-room, join-miss}

module _ {S : Type 0} (v : Voices S) (channel key : ℕ) where
  is-held : (n : Note S) → Held v channel key n → is_held channel key n ≡ true
  unfolding is_held
  is-held n h = rw (h.from_key, eq-eqb channel channel refl, eq-eqb key key refl, h.unmarked)

  not-held : (n : Note S) → (Held v channel key n → ⊥) → is_held channel key n ≡ false
  unfolding is_held
  not-held n f = by-test (is_held channel key n) (λ e.
      let a = both_true (option_map_or (λ (k : ℕ × ℕ). eqb k.0 channel && eqb k.1 key) n.key false) (not n.released) e in
      absurd (f (record { from_key = own n.key a.0; unmarked = not-true _ a.1 })))
      (λ e. e)
    where
      own : (o : Option (ℕ × ℕ)) → option_map_or (λ (k : ℕ × ℕ). eqb k.0 channel && eqb k.1 key) o false ≡ true → o ≡ Some (channel, key)
      own None h = absurd (true≢false (sym h))
      own (Some k) h =
          let b = both_true (eqb k.0 channel) (eqb k.1 key) h in
          λ i. Some (eqb-true k.0 channel b.0 i, eqb-true k.1 key b.1 i)

  marks-oldest : (before : List (Note S)) (n : Note S) (behind : List (Note S)) → All (λ (m : Note S). Held v channel key m → ⊥) before
      → Held v channel key n → release_oldest channel key (before ++ (n ∷ behind)) ≡ before ++ (release n ∷ behind)
  unfolding release_oldest
  marks-oldest [] n behind f h = cond-true _ _ (is-held n h)
  marks-oldest (m ∷ before) n behind f h = cc (not-held m f.0, marks-oldest before n behind f.1 h)

  marks-none : (notes : List (Note S)) → All (λ (m : Note S). Held v channel key m → ⊥) notes → release_oldest channel key notes ≡ notes
  unfolding release_oldest
  marks-none [] f = refl
  marks-none (m ∷ notes) f = cc (not-held m f.0, marks-none notes f.1)

  length_marked : (notes : List (Note S)) → length (release_oldest channel key notes) ≡ length notes
  unfolding release_oldest
  length_marked [] = refl
  length_marked (m ∷ notes) = either_way (λ (l : List (Note S)). length l ≡ suc (length notes)) (is_held channel key m) refl (ap suc (length_marked notes))

module _ {S : Type 0} (v : Voices S) where
  pub keys-release : KeysRelease v
  unfolding KeysRelease
  keys-release channel key = record { oldest = marks-oldest v channel key; none = marks-none v channel key }

  pub notes-go : NotesGo v
  unfolding NotesGo goes_on
  notes-go position n = (forth n.released n.end, back n.released n.end)
    where
      forth : (r : Bool) (o : Option ℕ) → (not r && option_map_or (ltb position) o true) ≡ false → (r ≡ true) ⊎ HasEnded position o
      forth true o h = inl refl
      forth false None h = absurd (true≢false h)
      forth false (Some e) h = inr (ltb-false position e h)

      back : (r : Bool) (o : Option ℕ) → (r ≡ true) ⊎ HasEnded position o → (not r && option_map_or (ltb position) o true) ≡ false
      back true o h = refl
      back false o (inl q) = absurd (true≢false (sym q))
      back false None (inr q) = absurd q
      back false (Some e) (inr q) = le-ltb position e q

  module _ (most chosen : ℕ) where
    record Plays (s : Started S) (ons : ℕ) (r : Started S) : Type 0 where
      notes : length r.notes ≡ length s.notes + min ons (most - length s.notes)
      missed : r.missed ≡ s.missed + (ons - (most - length s.notes))

    plays : (ms : List NoteMessage) (s : Started S) → Plays s (note_ons v ms) (after_messages v most chosen s ms)
    unfolding after_messages fold note_ons after_message pressed
    plays [] s = record { notes = omega arith; missed = omega arith }
    plays (m ∷ ms) s =
        let n = pressed v chosen m in
        by-test m.on
        (λ o. by_cases (dec_lt (length s.notes) most)
        (λ h. rw (o, join-room most s n h) (
        let q = plays ms (record { notes = s.notes ++ (n ∷ []); missed = s.missed }) in
        let l = length-append s.notes (n ∷ []) in
        record { notes = omega (arith, q.notes, l); missed = omega (arith, q.missed, l) }))
        (λ h. rw (o, join-miss most s n (omega arith) refl) (
        let q = plays ms (record { notes = s.notes; missed = s.missed + 1 }) in
        record { notes = omega (arith, q.notes); missed = omega (arith, q.missed) })))
        (λ o. rw o (
        let q = plays ms (record { notes = release_oldest m.channel m.key s.notes; missed = s.missed }) in
        let l = length_marked v m.channel m.key s.notes in
        record { notes = omega (arith, q.notes, l); missed = omega (arith, q.missed, l) }))

    ons-alone : (ms : List NoteMessage) (s : Started S) → All (λ (m : NoteMessage). m.on ≡ true) ms
        → (after_messages v most chosen s ms).notes ≡ s.notes ++ take (most - length s.notes) (each (pressed v chosen) ms)
    unfolding after_messages fold after_message pressed each
    ons-alone [] s h = rw (take-nil, append-nil)
    ons-alone (m ∷ ms) s h =
        let n = pressed v chosen m in
        let first : (r : Started S) → joined_by most s n ≡ r → (after_messages v most chosen s (m ∷ ms)).notes ≡ (after_messages v most chosen r ms).notes =
        λ r e. ap (λ (x : Started S). (after_messages v most chosen x ms).notes) (cond-true _ _ h.0 ∙ e) in
        by_cases (dec_lt (length s.notes) most)
        (λ k.
        let l : length (s.notes ++ (n ∷ [])) ≡ length s.notes + 1 = length-append s.notes (n ∷ []) in
        let d : most - length s.notes ≡ suc (most - length (s.notes ++ (n ∷ []))) = omega arith in
        first _ (join-room most s n k) ∙ ons-alone ms _ h.1 ∙ append_assoc s.notes (n ∷ []) _ ∙ rw d refl)
        (λ k.
        let d : most - length s.notes ≡ 0 = omega arith in
        first _ (join-miss most s n (omega arith) refl) ∙ ons-alone ms _ h.1 ∙ rw d refl)

    one_more : (ms : List NoteMessage) (s : Started S) (m : NoteMessage)
        → after_messages v most chosen s (ms ++ (m ∷ [])) ≡ after_message v most chosen (after_messages v most chosen s ms) m
    unfolding after_messages fold
    one_more ms s m = fold-append (after_message v most chosen) s ms (m ∷ [])

  pub messages-play : MessagesPlay v
  unfolding MessagesPlay
  messages-play most chosen s ms = let p = plays most chosen ms s in record { notes = p.notes; missed = p.missed }

  pub messages-in-order : MessagesInOrder v
  unfolding MessagesInOrder after_messages fold after_message
  messages-in-order most chosen s ms = record {
    none = refl;
    on = λ m e. one_more most chosen ms s m ∙ cond-true _ _ e;
    off = λ m e. one_more most chosen ms s m ∙ cond-false _ _ e;
    ons_alone = ons-alone most chosen ms s;
  }
