-- The count of missed notes never comes near 64 bits: at most 64 lines and 64 note messages a cycle, at least 1,024 ticks a cycle, and a limit on
-- position.
use mathlib.Core.Path.{◌≡◌, refl, ap}
use mathlib.Core.Bool.{Bool, true, false, ◌&&◌}
use mathlib.Core.Logic.{by_cases}
use mathlib.Core.List.{List, [], ◌∷◌}
use mathlib.Mathlib.Data.Bool.Basic.{or-eq-false-eq-eq-false-and-eq-false}
use Prim.Native.Nat.{ℕ, zero, suc, ◌+◌, ◌*◌, ◌≤◌, min}
use native.Mathlib.Decide.{dec_le}
use lib.IntN.{pos as whole}
use native.Mathlib.Omega.{arith}
use lib.Dec.{ltb, eqb}
use lib.Ieee.{Float, binary32, of_int, round, units, of_fields, le, lt, eq, span, climb, size, odd}
use lib.ListN.{length}
use borrow.Author.Tests.{ltb-false, eqb-true}
use Rattle.base_laws.proofs.Choice.{both_true}
use Rattle.settings_records.specs.declared.InUse.{InUse}
use Rattle.base_timebase.specs.Time.{cycle_in, cycle_of}
use Rattle.score_line.specs.declared.Event.{Event}
use Rattle.score_line.specs.declared.Event.TheVariants.{Instr, Control, End, Tempo}
use Rattle.score_line.specs.declared.Line.{Line}
use Rattle.midi_messages.specs.declared.NoteMessage.{NoteMessage}
use Rattle.player_model.specs.Lists.{filter, fold, All}
use Rattle.player_model.specs.Cycle.{Voices, Note, Started, is_due, earlier, insert, ordered, position_limit, any_end, tempo_from, last_tempo, can_cut, joined_by, started_by, started, born, controlled, pressed, after_message, after_messages}
use Rattle.player_model.specs.PlayerState.{Settings, PlayingState, PlayerState, Due, due_at, later_than, due_of, ends_by, started_of, notes_to_run, played}
use Rattle.player_model.specs.inside.PlayerState.{capped}
use Rattle.player_model.specs.Set.{starting_tempo}
use Rattle.player_model.proofs.Lists.{either_way, fold-keeps, length-filter, all_filter}

-- a tempo of at least 1: 1,024 ticks a cycle or more
abbrev pub steady : Event → Type 0
steady (Instr label i d) = Unit {0}
steady (Control label x value) = Unit {0}
steady End = Unit {0}
steady (Tempo t) = 1024 ≤ cycle_in t

abbrev pub AllSteady : List Line → Type 0
AllSteady ls = All (λ (l : Line). steady l.event) ls

-- ---- due lines: as many as wait at most, and of them what holds of all that wait

pub length-insert : (x : Line) (xs : List Line) → length (insert x xs) ≡ suc (length xs)
unfolding insert
length-insert x [] = refl
length-insert x (y ∷ ys) =
    either_way (λ (l : List Line). length l ≡ suc (suc (length ys))) (earlier x.when y.when) refl (ap suc (length-insert x ys))

pub all_insert : (P : Line → Type 0) (x : Line) (xs : List Line) → P x → All P xs → All P (insert x xs)
unfolding insert
all_insert P x [] h f = (h, tt)
all_insert P x (y ∷ ys) h f = either_way (All P) (earlier x.when y.when) (h, f) (f.0, all_insert P x ys h f.1)

pub length-onto : (acc xs : List Line) → length (fold (λ (a : List Line) (x : Line). insert x a) acc xs) ≡ length acc + length xs
unfolding fold
length-onto acc [] = omega arith
length-onto acc (x ∷ xs) = omega (arith, length-insert x acc, length-onto (insert x acc) xs)

tempo-steady : (t : Float) (x : Event) → steady x → 1024 ≤ cycle_in t → 1024 ≤ cycle_in (tempo_from t x)
tempo-steady t (Instr label i d) s h = h
tempo-steady t (Control label y value) s h = h
tempo-steady t End s h = h
tempo-steady t (Tempo u) s h = s

last-steady : (t : Float) (ls : List Line) → 1024 ≤ cycle_in t → AllSteady ls → 1024 ≤ cycle_in (last_tempo t ls)
unfolding last_tempo
last-steady t ls h f = fold-keeps (λ (t : Float). 1024 ≤ cycle_in t) (λ (l : Line). steady l.event) _ (λ t l. tempo-steady t l.event) ls f t h

module _ {S : Type 0} (h : PlayerState S) where
  due-few : length (due_of h).lines ≤ length h.waits
  unfolding due_at ordered
  due-few = omega (arith, length-onto [] (filter (is_due h.plays.position) h.waits), length-filter (is_due h.plays.position) h.waits)

  pub due_all : (P : Line → Type 0) → All P h.waits → All P (due_of h).lines
  unfolding due_at ordered
  due_all P f =
      fold-keeps (All P) P _ (λ before x p r. all_insert P x before p r) (filter (is_due h.plays.position) h.waits) (all_filter (is_due h.plays.position) P h.waits f) [] tt

-- ---- each line and each message misses one note at most

-- what misses one note at most with each, misses at most one for each
fold-least : {S A : Type 0} (f : Started S → A → Started S) → ((s : Started S) (x : A) → (f s x).missed ≤ s.missed + 1)
    → (s : Started S) (xs : List A) → (fold f s xs).missed ≤ s.missed + length xs
unfolding fold
fold-least f h s [] = omega arith
fold-least f h s (x ∷ xs) = omega (arith, h s x, fold-least f h (f s x) xs)

module _ {S : Type 0} (v : Voices S) (most : ℕ) where
  join-least : (s : Started S) (n : Note S) → (joined_by most s n).missed ≤ s.missed + 1
  unfolding joined_by
  join-least s n =
      let P : Started S → Type 0 = λ (t : Started S). t.missed ≤ s.missed + 1 in
      either_way P (ltb (length s.notes) most) (omega arith) (either_way P (n.priority && can_cut s.notes) (omega arith) (omega arith))

  start-least : (pos : ℕ) (l : Line) (s : Started S) (x : Event) → (started_by v most pos l s x).missed ≤ s.missed + 1
  start-least pos l s (Instr label i d) = join-least s (born v pos l label i d)
  start-least pos l s (Control label x value) = omega arith
  start-least pos l s End = omega arith
  start-least pos l s (Tempo t) = omega arith

  message-least : (chosen : ℕ) (s : Started S) (m : NoteMessage) → (after_message v most chosen s m).missed ≤ s.missed + 1
  unfolding after_message
  message-least chosen s m = either_way (λ (t : Started S). t.missed ≤ s.missed + 1) m.on (join-least s (pressed v chosen m)) (omega arith)

module _ {S : Type 0} (v : Voices S) (s : Settings) where
  missed-least : (h : PlayerState S) → (notes_to_run v s (due_of h) h.plays).missed ≤ length h.waits + length h.messages
  unfolding notes_to_run started_of started after_messages
  missed-least h =
      let a = started_of v s (due_of h) h.plays in
      let starts : Started S → Line → Started S = λ (t : Started S) (l : Line). started_by v s.most_notes h.plays.position l t l.event in
      omega (
        arith,
        due-few h,
        fold-least starts (λ t l. start-least v s.most_notes h.plays.position l t l.event) (record { notes = h.plays.notes; missed = 0 }) (due_of h).lines,
        fold-least (after_message v s.most_notes s.chosen) (message-least v s.most_notes s.chosen)
            (record { notes = controlled v a.notes (due_of h).lines; missed = a.missed }) h.messages,
      )

-- ---- the invariant

-- few notes missed for the position reached, and every tempo at least 1
pub record Slow {S : Type 0} (h : PlayerState S) : Type 0 where
  pub few : h.plays.counts.missed * 8 ≤ h.plays.position
  pub lines : AllSteady h.waits
  pub tempo : 1024 ≤ cycle_in h.plays.tempo

pub within-limit : {S : Type 0} (due : Due) (p : PlayingState S) → ends_by due p ≡ false → p.position ≤ position_limit
unfolding ends_by
within-limit due p e = ltb-false position_limit p.position ((or-eq-false-eq-eq-false-and-eq-false (ltb position_limit p.position) (any_end due.lines)).0 e).0

module _ {S : Type 0} (v : Voices S) (s : Settings) (h : PlayerState S) (short : length h.waits ≤ 64) (brief : length h.messages ≤ 64) (slow : Slow h)
    (near : h.plays.position ≤ position_limit) where
  pub cap-none : capped (played v s (due_of h) h.plays) ≡ played v s (due_of h) h.plays
  unfolding capped played
  cap-none =
      let m = h.plays.counts.missed + (notes_to_run v s (due_of h) h.plays).missed in
      let e : min m 18446744073709551615 ≡ m = omega (arith, missed-least v s h) in rw e

  pub slow-played : Slow (record { waits = later_than h.plays.position h.waits; messages = []; plays = played v s (due_of h) h.plays })
  unfolding played later_than
  slow-played =
      let t = last-steady h.plays.tempo (due_of h).lines slow.tempo (due_all h _ slow.lines) in
      record { few = omega (arith, missed-least v s h, t); lines = all_filter _ _ h.waits slow.lines; tempo = t }

-- every whole tempo has 1,024 times as many ticks a cycle: one test for all of them, computed
whole_up_to : ℕ → Bool
whole_up_to zero = true
whole_up_to (suc n) = eqb (cycle_in (of_int binary32 (whole (suc n)))) (suc n * 1024) && whole_up_to n

all_whole : whole_up_to 960 ≡ true
unfolding whole_up_to cycle_in cycle_of of_int round units of_fields le lt eq span climb size odd
all_whole = refl

below-whole : (most n : ℕ) → whole_up_to most ≡ true → 1 ≤ n → n ≤ most → cycle_in (of_int binary32 (whole n)) ≡ n * 1024
unfolding whole_up_to
below-whole zero n e low high = absurd (omega arith)
below-whole (suc most) n e low high =
    let b = both_true (eqb (cycle_in (of_int binary32 (whole (suc most)))) (suc most * 1024)) (whole_up_to most) e in
    by_cases (dec_le n most) (λ h. below-whole most n b.1 low h)
    (λ h. let q : n ≡ suc most = omega arith in rw q (eqb-true (cycle_in (of_int binary32 (whole (suc most)))) (suc most * 1024) b.0))

pub starting-ticks : (k : InUse) → 1 ≤ k.last.tempo → k.last.tempo ≤ 960 → cycle_in (starting_tempo k) ≡ k.last.tempo * 1024
unfolding starting_tempo
starting-ticks k low high = below-whole 960 k.last.tempo all_whole low high

-- the starting tempo is steady
pub starting : (k : InUse) → 1 ≤ k.last.tempo → k.last.tempo ≤ 960 → 1024 ≤ cycle_in (starting_tempo k)
starting k low high = omega (arith, starting-ticks k low high)
