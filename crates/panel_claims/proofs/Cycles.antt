-- What a cycle call leaves, of every panel.
use mathlib.Core.Path.{◌≡◌, refl, sym, ap, ◌∙◌}
use mathlib.Core.Bool.{Bool, true, false, not, cond}
use mathlib.Core.List.{List, [], ◌∷◌}
use native.Mathlib.Omega.{arith}
use lib.IntN.{ℤ}
use lib.ListN.{length, drop, length-take}
use lib.Seq.{take-append_seam}
use lib.Dec.{eqb}
use Rattle.base_answer.specs.Numbers.{number_of, is_taken}
use Rattle.base_answer.specs.declared.Answer.TheVariants as answer
use Rattle.score_line.specs.declared.Line.{Line}
use Rattle.note_state.specs.declared.Note.{Note}
use Rattle.player_model.specs.Lists.{each, filter, over}
use Rattle.player_model.specs.Cycle.{is_due, samples}
use Rattle.player_model.specs.Cycle as cycle
use Rattle.player_model.specs.PlayerState.{PlayingState, later_than, due_of, ends_by, block_of, played}
use Rattle.player_model.specs.inside.PlayerState.{capped}
use Rattle.player_model.specs.Calls.{cycle as cycle-call, one, numbered, only_block, After}
use Rattle.player_model.specs.History.{at}
use Rattle.player_model.proofs.Lists.{length-filter}
use Rattle.player_model.proofs.Loops.{length_over}
use Rattle.player_queue.specs.Admission.{waiting_in}
use Rattle.voices_compiled.specs.Voices.{VoiceState}
use Rattle.note_pool.specs.Notes.{notes_in}
use Rattle.note_lifecycle.specs.OneNote.{note_of, struct_of}
use Rattle.note_pool.proofs.Steps.{length-each}
use Rattle.player_state.specs.Playing.{playing_state_of}
use Rattle.player_steps.specs.Steps.{laid_over, advanced}
use Rattle.player_state.specs.declared.Playing.{Playing}
use Rattle.player_state.specs.States.{queue_after}
use Rattle.player_cycle.specs.OneCycle as one_cycle
use Rattle.player_cycle.specs.CycleCall.{cycled_of, block_left}
use Rattle.base_answer.specs.declared.Answered.{Answered}
use Rattle.panel.specs.State.{program_of, voices_of, player_state_of, settings_in, with_state, ended_of}
use Rattle.panel.specs.Calls.{cycle_of, block_after}
use Rattle.panel.specs.declared.Panel.{Panel}
use Rattle.panel_claims.specs.Claims.{core_after, after_of, reached_of}
use Rattle.player_state.specs.declared.State.{State}

-- ---- what is laid over an array is read back

note-struct : (ns : List (cycle.Note VoiceState)) → each note_of (each struct_of ns) ≡ ns
unfolding each
note-struct [] = refl
note-struct (n ∷ ns) = ap (λ (l : List (cycle.Note VoiceState)). n ∷ l) (note-struct ns)

notes-back : (ns : List (cycle.Note VoiceState)) (old : List Note) → notes_in (over (each struct_of ns) old) (length ns) ≡ ns
notes-back ns old = cc (length-each struct_of ns, take-append_seam (each struct_of ns) (drop (length (each struct_of ns)) old), note-struct ns)

plays-back : (old : Playing) (p : PlayingState VoiceState) → playing_state_of (laid_over old p) ≡ p
plays-back old p =
    λ i. record { notes = notes-back p.notes old.notes.notes i; position = p.position; tempo = p.tempo; counts = p.counts; ended = p.ended }

-- ---- the two ways of a cycle that is lent 320 samples

-- steps 2 to 8
unfoldable pub played_of : Panel → Panel
played_of p = with_state p (one_cycle.played_of (voices_of (program_of p)) (settings_in p.core) p.core.state)

pub holds-played : (p : Panel) → player_state_of (played_of p)
    ≡ record {
      waits = later_than (player_state_of p).plays.position (player_state_of p).waits;
      messages = [];
      plays = capped (played (voices_of (program_of p)) (settings_in p.core) (due_of (player_state_of p)) (player_state_of p).plays);
    }
unfolding played_of one_cycle.played_of queue_after advanced
holds-played p =
    let later = later_than (player_state_of p).plays.position (player_state_of p).waits in
    λ i. record {
      waits = take-append_seam later (drop (length later) p.core.state.queue.lines) i;
      messages = [];
      plays = plays-back p.core.state.playing (capped (played (voices_of (program_of p)) (settings_in p.core) (due_of (player_state_of p)) (player_state_of p).plays)) i;
    }

pub reached-played : (p : Panel) → reached_of (played_of p) ≡ at (player_state_of p).plays.position
unfolding played_of one_cycle.played_of queue_after
reached-played p = refl

-- a played panel still has its 64 places
pub played-long : (p : Panel) → length p.core.state.queue.lines ≡ 64 → length (played_of p).core.state.queue.lines ≡ 64
unfolding played_of one_cycle.played_of queue_after later_than
played-long p h =
    let k : Line → Bool = λ (l : Line). not (is_due p.core.state.playing.position l) in
    let w = waiting_in p.core.state.queue in
    length_over (filter k w) p.core.state.queue.lines (omega (arith, length-filter k w, length-take p.core.state.queue.count p.core.state.queue.lines)) ∙ h

-- its counts are how many lines, note messages and notes there then are
pub record Counted (p : Panel) : Type 0 where
  pub lines : p.core.state.queue.count ≡ length (player_state_of p).waits
  pub messages : p.core.state.messages.count ≡ length (player_state_of p).messages
  pub notes : p.core.state.playing.notes.count ≡ length (player_state_of p).plays.notes

pub played-counted : (p : Panel) → Counted (played_of p)
unfolding played_of one_cycle.played_of queue_after advanced
played-counted p =
    let later = later_than (player_state_of p).plays.position (player_state_of p).waits in
    let ns = (capped (played (voices_of (program_of p)) (settings_in p.core) (due_of (player_state_of p)) (player_state_of p).plays)).notes in
    record {
      lines = sym (ap length (take-append_seam later (drop (length later) p.core.state.queue.lines)));
      messages = refl;
      notes = sym (ap length (notes-back ns p.core.state.playing.notes.notes));
    }

-- ---- what the call leaves

pub data Cycles (p : Panel) (b : List ℤ) (a : After Panel) : Type 0 where
  off : numbered (cycle-call b) ≡ false → a ≡ record { player = p; answers = one 10 0; buffers = only_block b } → Cycles p b a
  over-before : numbered (cycle-call b) ≡ true → p.core.state.playing.ended ≡ true → a ≡ record { player = p; answers = one 9 0; buffers = only_block b } → Cycles p b a
  ends : numbered (cycle-call b) ≡ true → p.core.state.playing.ended ≡ false → ends_by (due_of (player_state_of p)) (player_state_of p).plays ≡ true
      → a ≡ record { player = ended_of p; answers = one 9 0; buffers = only_block b } → Cycles p b a
  plays : numbered (cycle-call b) ≡ true → p.core.state.playing.ended ≡ false → ends_by (due_of (player_state_of p)) (player_state_of p).plays ≡ false
      → a ≡ record { player = played_of p; answers = one 0 0; buffers = only_block (block_of (voices_of (program_of p)) (settings_in p.core) (due_of (player_state_of p)) (player_state_of p).plays) }
      → Cycles p b a

pub cycles : (p : Panel) (b : List ℤ) → Cycles p b (after_of p (cycle-call b))
unfolding after_of core_after cycle_of cycled_of block_after block_left played_of ended_of
cycles p b = go (eqb (length b) samples) p.core.state.playing.ended (ends_by (due_of (player_state_of p)) (player_state_of p).plays) refl refl refl
  where
    sound : List ℤ
    sound = block_of (voices_of (program_of p)) (settings_in p.core) (due_of (player_state_of p)) (player_state_of p).plays

    out : Bool → Bool → Bool → Answered State
    out w e d =
        cond w
        (cond e (record { left = p.core.state; answer = answer.Ended })
        (cond d (record { left = (ended_of p).core.state; answer = answer.Ended }) (record { left = (played_of p).core.state; answer = answer.Taken })))
        (record { left = p.core.state; answer = answer.BlockLength })

    go : (w e d : Bool) → eqb (length b) samples ≡ w → p.core.state.playing.ended ≡ e → ends_by (due_of (player_state_of p)) (player_state_of p).plays ≡ d
        → Cycles p b (record { player = with_state p (out w e d).left; answers = one (number_of (out w e d).answer) 0; buffers = only_block (cond (is_taken (out w e d).answer) sound b) })
    go true true d hw he hd = over-before hw he refl
    go true false true hw he hd = ends hw he hd refl
    go true false false hw he hd = plays hw he hd refl
    go false e d hw he hd = off hw refl
