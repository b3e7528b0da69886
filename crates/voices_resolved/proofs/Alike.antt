-- Voices that do the same to every note they have made give the same cycle, and so the same plain player.
use mathlib.Core.Path.{◌≡◌, refl, ap, ◌∙◌}
use mathlib.Core.Bool.{false, cond, ◌&&◌}
use mathlib.Core.List.{List, [], ◌∷◌}
use Prim.Native.Nat.{ℕ, zero, suc}
use lib.Dec.{ltb, eqb}
use lib.ListN.{length, take, replicate}
use lib.Ieee.{Float, binary32, of_bits}
use lib.Ieee.Bits.{of_bits-fits}
use Rattle.std.specs.Option.{option_map_or}
use Rattle.score_line.specs.declared.Label.{Label}
use Rattle.score_line.specs.declared.Event.{Event}
use Rattle.score_line.specs.declared.Event.TheVariants.{Instr, Control, End, Tempo}
use Rattle.score_line.specs.declared.Line.{Line}
use Rattle.code_translation.specs.Statements.{AllFit}
use Rattle.midi_keys.specs.Keys.{frequency_of, normalized_velocity}
use Rattle.midi_messages.specs.declared.NoteMessage.{NoteMessage}
use Rattle.player_model.specs.Lists.{each, All}
use Rattle.player_model.specs.Cycle.{Voices, Ran, Note, Started, samples, with_state, is_held, release_oldest, can_cut, cut_oldest, joined_by, born, started_by, started, controlled_by, control_event, controlled, pressed, after_message, after_messages, run_from, run_all, goes_on}
use Rattle.player_model.specs.PlayerState.{Settings, Due, PlayingState, PlayerState, due_of, ends_by, marked_ended, answer_of, started_of, notes_to_run, rendered_of, block_of, played, cycled}
use Rattle.player_model.specs.Plain.{plain_start, plain_at, answer_at, block_at}
use Rattle.player_model.proofs.Lists.{either_way, fold-keeps, fold_same, all_filter, all_append, all_of, each_same}

module _ {S : Type 0} (Good : S → Type 0) where
  -- a run's end: what the note holds is good, and the sums fit 32 bits
  pub record GoodRan (r : Ran S) : Type 0 where
    pub good : Good r.state
    pub fit : AllFit r.mix

  pub record Alike (v w : Voices S) : Type 0 where
    pub birth : (name : ℕ) (xs : List Float) → v.birth name xs ≡ w.birth name xs
    pub control : (x : ℕ) (a : Float) (s : S) → v.control x a s ≡ w.control x a s
    pub run : (s : S) (mix : List Float) → Good s → AllFit mix → v.run s mix ≡ w.run s mix
    pub birth-good : (name : ℕ) (xs : List Float) → Good (w.birth name xs)
    pub control-good : (x : ℕ) (a : Float) (s : S) → Good s → Good (w.control x a s)
    pub run-good : (s : S) (mix : List Float) → Good s → AllFit mix → GoodRan (w.run s mix)

  abbrev pub Notes : List (Note S) → Type 0
  Notes ns = All (λ (n : Note S). Good n.state) ns

  abbrev GoodStart : Started S → Type 0
  GoodStart s = Notes s.notes

  zeros-fit : (n : ℕ) → AllFit (replicate n (of_bits binary32 0))
  unfolding AllFit
  zeros-fit zero = tt
  zeros-fit (suc n) = (of_bits-fits binary32 0, zeros-fit n)

  cut-good : (ns : List (Note S)) → Notes ns → Notes (cut_oldest ns)
  unfolding cut_oldest
  cut-good [] h = tt
  cut-good (n ∷ ns) h = either_way Notes n.priority (h.0, cut-good ns h.1) h.1

  -- one note more, where there is room or one can be cut off
  joined-good : (most : ℕ) (s : Started S) (n : Note S) → Notes s.notes → Good n.state → Notes (joined_by most s n).notes
  unfolding joined_by
  joined-good most s n h g =
      either_way GoodStart (ltb (length s.notes) most) (all_append _ s.notes (n ∷ []) h (g, tt))
      (either_way GoodStart (n.priority && can_cut s.notes) (all_append _ (cut_oldest s.notes) (n ∷ []) (cut-good s.notes h) (g, tt)) h)

  module _ {v w : Voices S} (a : Alike v w) where
    -- ---- step 3

    born-same : (pos : ℕ) (l : Line) (label : Label) (i : ℕ) (d : Float) → born v pos l label i d ≡ born w pos l label i d
    unfolding born
    born-same pos l label i d = rw (a.birth i (take l.count l.values))

    born-good : (pos : ℕ) (l : Line) (label : Label) (i : ℕ) (d : Float) → Good (born w pos l label i d).state
    unfolding born
    born-good pos l label i d = a.birth-good i (take l.count l.values)

    module _ (most : ℕ) where
      starts-same : (pos : ℕ) (l : Line) (s : Started S) (ev : Event) → started_by v most pos l s ev ≡ started_by w most pos l s ev
      starts-same pos l s (Instr label i d) = ap (joined_by most s) (born-same pos l label i d)
      starts-same pos l s (Control label x value) = refl
      starts-same pos l s End = refl
      starts-same pos l s (Tempo t) = refl

      starts-good : (pos : ℕ) (l : Line) (s : Started S) (ev : Event) → Notes s.notes → Notes (started_by w most pos l s ev).notes
      starts-good pos l s (Instr label i d) h = joined-good most s (born w pos l label i d) h (born-good pos l label i d)
      starts-good pos l s (Control label x value) h = h
      starts-good pos l s End h = h
      starts-good pos l s (Tempo t) h = h

      started-same : (pos : ℕ) (ns : List (Note S)) (ls : List Line) → started v most pos ns ls ≡ started w most pos ns ls
      unfolding started
      started-same pos ns ls = fold_same _ _ (λ s l. starts-same pos l s l.event) _ ls

      started-good : (pos : ℕ) (ns : List (Note S)) (ls : List Line) → Notes ns → Notes (started w most pos ns ls).notes
      unfolding started
      started-good pos ns ls h = fold-keeps GoodStart (λ l. Unit {0}) _ (λ s l u. starts-good pos l s l.event) ls (all_of _ (λ l. tt) ls) _ h

    -- ---- step 4

    one_same : (label x : ℕ) (value : Float) (n : Note S) → controlled_by v label x value n ≡ controlled_by w label x value n
    unfolding controlled_by
    one_same label x value n = ap (λ (s : S). cond (option_map_or (eqb label) n.label false) (with_state n s) n) (a.control x value n.state)

    one-good : (label x : ℕ) (value : Float) (n : Note S) → Good n.state → Good (controlled_by w label x value n).state
    unfolding controlled_by
    one-good label x value n h = either_way (λ (m : Note S). Good m.state) (option_map_or (eqb label) n.label false) (a.control-good x value n.state h) h

    each-good : (label x : ℕ) (value : Float) (ns : List (Note S)) → Notes ns → Notes (each (controlled_by w label x value) ns)
    unfolding each
    each-good label x value [] h = tt
    each-good label x value (n ∷ ns) h = (one-good label x value n h.0, each-good label x value ns h.1)

    control-same : (ns : List (Note S)) (ev : Event) → control_event v ns ev ≡ control_event w ns ev
    control-same ns (Instr label i d) = refl
    control-same ns (Control label x value) = each_same _ _ (one_same label x value) ns
    control-same ns End = refl
    control-same ns (Tempo t) = refl

    controls-good : (ns : List (Note S)) (ev : Event) → Notes ns → Notes (control_event w ns ev)
    controls-good ns (Instr label i d) h = h
    controls-good ns (Control label x value) h = each-good label x value ns h
    controls-good ns End h = h
    controls-good ns (Tempo t) h = h

    controlled-same : (ns : List (Note S)) (ls : List Line) → controlled v ns ls ≡ controlled w ns ls
    unfolding controlled
    controlled-same ns ls = fold_same _ _ (λ ms l. control-same ms l.event) ns ls

    controlled-good : (ns : List (Note S)) (ls : List Line) → Notes ns → Notes (controlled w ns ls)
    unfolding controlled
    controlled-good ns ls h = fold-keeps Notes (λ l. Unit {0}) _ (λ ms l u. controls-good ms l.event) ls (all_of _ (λ l. tt) ls) ns h

    -- ---- the note messages

    pressed-same : (chosen : ℕ) (m : NoteMessage) → pressed v chosen m ≡ pressed w chosen m
    unfolding pressed
    pressed-same chosen m = rw (a.birth chosen (frequency_of m.key ∷ normalized_velocity m.velocity ∷ []))

    pressed-good : (chosen : ℕ) (m : NoteMessage) → Good (pressed w chosen m).state
    unfolding pressed
    pressed-good chosen m = a.birth-good chosen (frequency_of m.key ∷ normalized_velocity m.velocity ∷ [])

    marked-good : (channel key : ℕ) (ns : List (Note S)) → Notes ns → Notes (release_oldest channel key ns)
    unfolding release_oldest
    marked-good channel key [] h = tt
    marked-good channel key (n ∷ ns) h = either_way Notes (is_held channel key n) h (h.0, marked-good channel key ns h.1)

    module _ (most chosen : ℕ) where
      message-same : (s : Started S) (m : NoteMessage) → after_message v most chosen s m ≡ after_message w most chosen s m
      unfolding after_message
      message-same s m = rw (pressed-same chosen m)

      message-good : (s : Started S) (m : NoteMessage) → Notes s.notes → Notes (after_message w most chosen s m).notes
      unfolding after_message
      message-good s m h = either_way GoodStart m.on (joined-good most s (pressed w chosen m) h (pressed-good chosen m))
          (marked-good m.channel m.key s.notes h)

      messages-same : (s : Started S) (ms : List NoteMessage) → after_messages v most chosen s ms ≡ after_messages w most chosen s ms
      unfolding after_messages
      messages-same s ms = fold_same _ _ message-same s ms

      messages-good : (s : Started S) (ms : List NoteMessage) → Notes s.notes → Notes (after_messages w most chosen s ms).notes
      unfolding after_messages
      messages-good s ms h = fold-keeps GoodStart (λ m. Unit {0}) _ (λ t m u. message-good t m) ms (all_of _ (λ m. tt) ms) s h

    -- ---- step 5

    run-same : (ns : List (Note S)) (mix : List Float) → Notes ns → AllFit mix → run_from v ns mix ≡ run_from w ns mix
    unfolding run_from
    run-same [] mix h f = refl
    run-same (n ∷ ns) mix h f =
        rw (a.run n.state mix h.0 f, run-same ns (w.run n.state mix).mix h.1 (a.run-good n.state mix h.0 f).fit)

    run-notes-good : (ns : List (Note S)) (mix : List Float) → Notes ns → AllFit mix → Notes (run_from w ns mix).notes
    unfolding run_from
    run-notes-good [] mix h f = tt
    run-notes-good (n ∷ ns) mix h f =
        let r = a.run-good n.state mix h.0 f in
        (r.good, run-notes-good ns (w.run n.state mix).mix h.1 r.fit)

    -- ---- steps 2 to 8

    module _ (s : Settings) (due : Due) (p : PlayingState S) (h : Notes p.notes) where
      abbrev from : (u : Voices S) → Started S → Started S
      from u t = record { notes = controlled u t.notes due.lines; missed = t.missed }

      sounds-same : notes_to_run v s due p ≡ notes_to_run w s due p
      unfolding notes_to_run started_of
      sounds-same =
          ap (λ (t : Started S). after_messages v s.most_notes s.chosen (from v t) due.messages) (started-same s.most_notes p.position p.notes due.lines)
          ∙ ap (λ (ns : List (Note S)). after_messages v s.most_notes s.chosen (record { notes = ns; missed = (started_of w s due p).missed }) due.messages)
          (controlled-same (started_of w s due p).notes due.lines)
          ∙ messages-same s.most_notes s.chosen (from w (started_of w s due p)) due.messages

      abbrev sounding : List (Note S)
      sounding = (notes_to_run w s due p).notes

      sounding-good : Notes sounding
      unfolding notes_to_run started_of
      sounding-good =
          messages-good s.most_notes s.chosen (from w (started_of w s due p)) due.messages
          (controlled-good (started_of w s due p).notes due.lines (started-good s.most_notes p.position p.notes due.lines h))

      rendered-same : rendered_of v s due p ≡ rendered_of w s due p
      unfolding rendered_of run_all
      rendered-same =
          ap (λ (t : Started S). run_all v t.notes) sounds-same
          ∙ run-same sounding (replicate samples (of_bits binary32 0)) sounding-good (zeros-fit samples)

      rendered-good : Notes (rendered_of w s due p).notes
      unfolding rendered_of run_all
      rendered-good = run-notes-good sounding (replicate samples (of_bits binary32 0)) sounding-good (zeros-fit samples)

      pub block_same : block_of v s due p ≡ block_of w s due p
      unfolding block_of
      block_same = rw rendered-same

      pub played-same : played v s due p ≡ played w s due p
      unfolding played
      played-same = rw (rendered-same, sounds-same)

      pub played-good : Notes (played w s due p).notes
      unfolding played
      played-good = all_filter (goes_on p.position) (λ (n : Note S). Good n.state) (rendered_of w s due p).notes rendered-good

    -- ---- a whole cycle

    module _ (s : Settings) (h : PlayerState S) (g : Notes h.plays.notes) where
      pub cycled-same : cycled v s h ≡ cycled w s h
      unfolding cycled
      cycled-same = rw (played-same s (due_of h) h.plays g)

      pub cycled-good : Notes (cycled w s h).plays.notes
      unfolding cycled marked_ended
      cycled-good =
          let P : PlayerState S → Type 0 = λ (d : PlayerState S). Notes d.plays.notes in
          either_way P h.plays.ended g (either_way P (ends_by (due_of h) h.plays) g (played-good s (due_of h) h.plays g))

    -- ---- every cycle of the plain player

    module _ (start : Float) (settings : ℕ → Settings) (ls : List Line) where
      at-good : (k : ℕ) → Notes (plain_at w start settings ls k).plays.notes
      unfolding plain_at plain_start
      at-good zero = tt
      at-good (suc k) = cycled-good (settings k) (plain_at w start settings ls k) (at-good k)

      pub at_same : (k : ℕ) → plain_at v start settings ls k ≡ plain_at w start settings ls k
      unfolding plain_at
      at_same zero = refl
      at_same (suc k) = ap (cycled v (settings k)) (at_same k) ∙ cycled-same (settings k) (plain_at w start settings ls k) (at-good k)

      pub blocks-same : (k : ℕ) → block_at v start settings ls k ≡ block_at w start settings ls k
      unfolding block_at
      blocks-same k =
          ap (λ (h : PlayerState S). block_of v (settings k) (due_of h) h.plays) (at_same k)
          ∙ block_same (settings k) (due_of (plain_at w start settings ls k)) (plain_at w start settings ls k).plays (at-good k)

      pub answers-same : (k : ℕ) → answer_at v start settings ls k ≡ answer_at w start settings ls k
      unfolding answer_at
      answers-same k = ap answer_of (at_same k)
