-- Voices of two kinds of state that are related, birth by birth and run by run, give the same plain player.
use mathlib.Core.Path.{◌≡◌, refl, ap, ◌∙◌, subst, subst₂}
use mathlib.Core.Bool.{Bool, true, false, not, cond, ◌&&◌, ◌||◌, true≢false, false≢true}
use mathlib.Core.List.{List, [], ◌∷◌, ◌++◌}
use Prim.Native.Nat.{ℕ, zero, suc, ◌+◌}
use lib.Dec.{ltb, eqb}
use lib.ListN.{length, take, replicate}
use lib.Ieee.{Float, binary32, of_bits}
use Rattle.std.specs.Option.{option_map_or}
use Rattle.base_timebase.specs.Time.{cycle_in}
use Rattle.score_line.specs.declared.Event.{Event}
use Rattle.score_line.specs.declared.Event.TheVariants.{Instr, Control, End, Tempo}
use Rattle.score_line.specs.declared.Line.{Line}
use Rattle.midi_keys.specs.Keys.{frequency_of, normalized_velocity}
use Rattle.midi_messages.specs.declared.NoteMessage.{NoteMessage}
use Rattle.player_model.specs.Lists.{filter, each, All}
use Rattle.player_model.specs.Cycle.{Voices, Note, Started, samples, is_due, with_state, can_cut, cut_oldest, joined_by, born, started_by, started, controlled_by, control_event, controlled, run_from, run_all, any_end, position_limit, last_tempo, limited, goes_on, release, is_held, release_oldest, pressed, after_message, after_messages}
use Rattle.settings_records.specs.declared.InUse.{InUse}
use Rattle.player_model.specs.Set.{in_force, starting_tempo, set_with}
use Rattle.player_model.specs.PlayerState.{Settings, PlayerState, behind, due_at, later_than, due_of, ends_by, marked_ended, answer_of, started_of, rendered_of, block_of, played, cycled, Due, with_messages, notes_to_run}
use Rattle.player_model.specs.Plain.{plain_start, plain_at, answer_at, block_at}
use Rattle.player_model.specs.Calls.{numbered, Transition, taken_in, messages_taken, all_taken}
use Rattle.player_model.specs.History.{at, History, with_transition, history_from, history_of}
use Rattle.player_model.proofs.Lists.{fold-related, all_filter, all_append, all-parts, all_of}
use Rattle.player_model.proofs.Count.{due_all}
use Rattle.voices_source.specs.Alike.{NoteAs, NotesAs, StateAs}

-- two choices whose tests agree
chosen : {A B : Type 0} (R : A → B → Type 0) (b c : Bool) {x y : A} {x' y' : B} → b ≡ c → R x x' → R y y' → R (cond b x y) (cond c x' y')
chosen R true true e h k = h
chosen R true false e h k = absurd (true≢false e)
chosen R false true e h k = absurd (false≢true e)
chosen R false false e h k = k

module _ {S S' : Type 0} (R : S → S' → Type 0) (Ok : Line → Event → Type 0) where
  abbrev pub AllOk : List Line → Type 0
  AllOk ls = All (λ (l : Line). Ok l l.event) ls

  pub record Related (v : Voices S) (w : Voices S') : Type 0 where
    pub birth : (name : ℕ) (xs : List Float) → R (v.birth name xs) (w.birth name xs)
    pub control : (l : Line) (label : ℕ) (x : ℕ) (y : Float) (s : S) (t : S') → Ok l (Control label x y) → R s t → R (v.control x y s) (w.control x y t)
    pub run : (s : S) (t : S') (mix : List Float) → R s t → R (v.run s mix).state (w.run t mix).state
    pub mix : (s : S) (t : S') (mix : List Float) → R s t → (v.run s mix).mix ≡ (w.run t mix).mix

  -- note by note
  along : (P : List (Note S) → List (Note S') → Type 0) → P [] []
      → ((x : Note S) (y : Note S') (xs : List (Note S)) (ys : List (Note S')) → NoteAs R x y → NotesAs R xs ys → P xs ys → P (x ∷ xs) (y ∷ ys))
      → (xs : List (Note S)) (ys : List (Note S')) → NotesAs R xs ys → P xs ys
  along P n m [] [] h = n
  along P n m [] (y ∷ ys) h = absurd h
  along P n m (x ∷ xs) [] h = absurd h
  along P n m (x ∷ xs) (y ∷ ys) h = m x y xs ys h.0 h.1 (along P n m xs ys h.1)

  long : (xs : List (Note S)) (ys : List (Note S')) → NotesAs R xs ys → length xs ≡ length ys
  long = along (λ xs ys. length xs ≡ length ys) refl (λ x y xs ys g h r. ap suc r)

  one_more : (x : Note S) (y : Note S') → NoteAs R x y → (xs : List (Note S)) (ys : List (Note S')) → NotesAs R xs ys → NotesAs R (xs ++ x ∷ []) (ys ++ y ∷ [])
  one_more x y g = along (λ xs ys. NotesAs R (xs ++ x ∷ []) (ys ++ y ∷ [])) (g, tt) (λ u v xs ys f h r. (f, r))

  record Begun (s : Started S) (t : Started S') : Type 0 where
    notes : NotesAs R s.notes t.notes
    missed : s.missed ≡ t.missed

  -- the same note is cut off
  can-cut : (xs : List (Note S)) (ys : List (Note S')) → NotesAs R xs ys → can_cut xs ≡ can_cut ys
  unfolding can_cut
  can-cut = along (λ xs ys. can_cut xs ≡ can_cut ys) refl (λ x y xs ys g h r i. cond (g.priority i) (r i) true)

  cut-alike : (xs : List (Note S)) (ys : List (Note S')) → NotesAs R xs ys → NotesAs R (cut_oldest xs) (cut_oldest ys)
  unfolding cut_oldest
  cut-alike =
      along (λ xs ys. NotesAs R (cut_oldest xs) (cut_oldest ys)) tt (λ x y xs ys g h r. chosen (NotesAs R) x.priority y.priority g.priority (g, r) h)

  joined : (most : ℕ) (s : Started S) (t : Started S') (x : Note S) (y : Note S') → Begun s t → NoteAs R x y → Begun (joined_by most s x) (joined_by most t y)
  unfolding joined_by
  joined most s t x y h g =
      let more : s.missed + 1 ≡ t.missed + 1 = ap (λ m. m + 1) h.missed in
      chosen Begun _ _ (ap (λ (n : ℕ). ltb n most) (long s.notes t.notes h.notes))
      (record { notes = one_more x y g s.notes t.notes h.notes; missed = h.missed })
      (chosen Begun _ _ (λ i. g.priority i && can-cut s.notes t.notes h.notes i)
      (record { notes = one_more x y g (cut_oldest s.notes) (cut_oldest t.notes) (cut-alike s.notes t.notes h.notes); missed = more })
      (record { notes = h.notes; missed = more }))

  kept : {p p' : ℕ} → p ≡ p' → (xs : List (Note S)) (ys : List (Note S')) → NotesAs R xs ys → NotesAs R (filter (goes_on p) xs) (filter (goes_on p') ys)
  unfolding filter goes_on
  kept {p} {p'} e =
      along (λ xs ys. NotesAs R (filter (goes_on p) xs) (filter (goes_on p') ys)) tt (λ x y xs ys g h r.
      chosen (NotesAs R) (goes_on p x) (goes_on p' y) (λ j. not (g.released j) && option_map_or (ltb (e j)) (g.end j) true) (g, r) r)

  -- a note-off marks the same note
  marked-alike : (channel key : ℕ) (xs : List (Note S)) (ys : List (Note S')) → NotesAs R xs ys → NotesAs R (release_oldest channel key xs) (release_oldest channel key ys)
  unfolding release_oldest is_held
  marked-alike channel key =
      along (λ xs ys. NotesAs R (release_oldest channel key xs) (release_oldest channel key ys)) tt (λ x y xs ys g h r.
      chosen (NotesAs R) (is_held channel key x) (is_held channel key y)
      (λ j. option_map_or (λ (k : ℕ × ℕ). eqb k.0 channel && eqb k.1 key) (g.key j) false && not (g.released j))
      (let marked_ended : NoteAs R (release x) (release y) = search in (marked_ended, h)) (g, r))

  module _ {v : Voices S} {w : Voices S'} (a : Related v w) where
    -- ---- step 3

    begins : (most pos : ℕ) (l : Line) (s : Started S) (t : Started S') (ev : Event) → Ok l ev → Begun s t → Begun (started_by v most pos l s ev) (started_by w most pos l t ev)
    unfolding born
    begins most pos l s t (Instr label name d) o h =
        let b = a.birth name (take l.count l.values) in joined most s t (born v pos l label name d) (born w pos l label name d) h (search)
    begins most pos l s t (Control label x y) o h = h
    begins most pos l s t End o h = h
    begins most pos l s t (Tempo d) o h = h

    -- ---- step 4

    one : (l : Line) (label x : ℕ) (y : Float) (m : Note S) (n : Note S') → Ok l (Control label x y) → NoteAs R m n → NoteAs R (controlled_by v label x y m) (controlled_by w label x y n)
    unfolding controlled_by
    one l label x y m n o h =
        let c = a.control l label x y m.state n.state o h.state in
        let set : NoteAs R (with_state m (v.control x y m.state)) (with_state n (w.control x y n.state)) = search in
        chosen (NoteAs R) _ _ (λ j. option_map_or (eqb label) (h.label j) false) set h

    event : (l : Line) (ms : List (Note S)) (ns : List (Note S')) (ev : Event) → Ok l ev → NotesAs R ms ns → NotesAs R (control_event v ms ev) (control_event w ns ev)
    unfolding each
    event l ms ns (Instr label name d) o h = h
    event l ms ns (Control label x y) o h =
        along (λ ms ns. NotesAs R (each (controlled_by v label x y) ms) (each (controlled_by w label x y) ns)) tt (λ m n ms ns g h r. (one l label x y m n o g, r)) ms ns h
    event l ms ns End o h = h
    event l ms ns (Tempo d) o h = h

    -- ---- the note messages

    message : (most chosen : ℕ) (m : NoteMessage) (s : Started S) (t : Started S') → Begun s t → Begun (after_message v most chosen s m) (after_message w most chosen t m)
    unfolding after_message pressed
    message most choice m s t h =
        let b = a.birth choice (frequency_of m.key ∷ normalized_velocity m.velocity ∷ []) in
        chosen Begun m.on m.on refl (joined most s t (pressed v choice m) (pressed w choice m) h (search))
        (record { notes = marked-alike m.channel m.key s.notes t.notes h.notes; missed = h.missed })

    -- ---- step 5

    abbrev Rendered : List (Note S) → List (Note S') → Type 0
    Rendered ms ns =
        (mix : List Float) → NotesAs R (run_from v ms mix).notes (run_from w ns mix).notes × ((run_from v ms mix).mix ≡ (run_from w ns mix).mix)

    runs : (ms : List (Note S)) (ns : List (Note S')) → NotesAs R ms ns → Rendered ms ns
    unfolding run_from
    runs =
        along Rendered (λ mix. (tt, refl)) (λ m n ms ns g h r mix.
        let s = a.run m.state n.state mix g.state in
        let ran : NoteAs R (with_state m (v.run m.state mix).state) (with_state n (w.run n.state mix).state) = search in
        let e = a.mix m.state n.state mix g.state in
        ((ran, rw e (r (w.run n.state mix).mix).0), ap (λ (z : List Float). (run_from v ms z).mix) e ∙ (r (w.run n.state mix).mix).1))

    -- ---- one cycle

    record Cores (c : PlayerState S) (d : PlayerState S') : Type 0 where
      same : StateAs R c d
      ok : AllOk c.waits

    module _ (q : Settings) (c : PlayerState S) (d : PlayerState S') (cores : Cores c d) where
      abbrev h : StateAs R c d
      h = cores.same

      due-same : due_of c ≡ due_of d
      due-same = λ j. record { lines = due_at (h.position j) (h.waits j); messages = h.messages j }

      due-ok : AllOk (due_of c).lines
      due-ok = due_all c (λ l. Ok l l.event) cores.ok

      begun : Begun (started_of v q (due_of c) c.plays) (started_of w q (due_of d) d.plays)
      unfolding started_of started
      begun =
          subst₂ (λ (p : ℕ) (u : Due). Begun (started_of v q (due_of c) c.plays) (started w q.most_notes p d.plays.notes u.lines)) h.position due-same
          (fold-related Begun (λ l. Ok l l.event) _ _ (λ s t l. begins q.most_notes c.plays.position l s t l.event) (due_of c).lines due-ok _ _
          (record { notes = h.notes; missed = refl }))

      sounding : Begun (notes_to_run v q (due_of c) c.plays) (notes_to_run w q (due_of d) d.plays)
      unfolding notes_to_run controlled after_messages
      sounding =
          let s = started_of v q (due_of c) c.plays in
          let t = started_of w q (due_of d) d.plays in
          subst (λ (u : Due). Begun (notes_to_run v q (due_of c) c.plays) (after_messages w q.most_notes q.chosen (record { notes = controlled w t.notes u.lines; missed = t.missed }) u.messages)) due-same
          (fold-related Begun (λ m. Unit {0}) _ _ (λ s t m u. message q.most_notes q.chosen m s t) c.messages (all_of _ (λ m. tt) c.messages) _ _
          (record {
            notes = fold-related (NotesAs R) (λ l. Ok l l.event) _ _ (λ ms ns l. event l ms ns l.event) (due_of c).lines
                due-ok _ _ begun.notes;
            missed = begun.missed;
          }))

      rendered : NotesAs R (rendered_of v q (due_of c) c.plays).notes (rendered_of w q (due_of d) d.plays).notes × ((rendered_of v q (due_of c) c.plays).mix ≡ (rendered_of w q (due_of d) d.plays).mix)
      unfolding rendered_of run_all
      rendered =
          runs (notes_to_run v q (due_of c) c.plays).notes (notes_to_run w q (due_of d) d.plays).notes sounding.notes (replicate samples (of_bits binary32 0))

      block : block_of v q (due_of c) c.plays ≡ block_of w q (due_of d) d.plays
      unfolding block_of
      block = ap (limited q.ceiling) rendered.1

      ends_same : ends_by (due_of c) c.plays ≡ ends_by (due_of d) d.plays
      unfolding ends_by
      ends_same = λ j. ltb position_limit (h.position j) || any_end (due-same j).lines

      answer : answer_of c ≡ answer_of d
      unfolding answer_of
      answer = λ j. cond (h.ended j) 9 (cond (ends_same j) 9 0)

      steps : Cores (record { waits = later_than c.plays.position c.waits; messages = []; plays = played v q (due_of c) c.plays })
          (record { waits = later_than d.plays.position d.waits; messages = []; plays = played w q (due_of d) d.plays })
      unfolding played later_than
      steps =
          record {
            same = record {
              waits = λ j. filter (λ (l : Line). not (is_due (h.position j) l)) (h.waits j);
              messages = refl;
              notes = kept h.position (rendered_of v q (due_of c) c.plays).notes (rendered_of w q (due_of d) d.plays).notes rendered.0;
              position = λ j. h.position j + cycle_in (last_tempo (h.tempo j) (due-same j).lines);
              tempo = λ j. last_tempo (h.tempo j) (due-same j).lines;
              counts = λ j. record { missed = (h.counts j).missed + sounding.missed j };
              ended = refl;
            };
            ok = all_filter (λ (l : Line). not (is_due c.plays.position l)) (λ (l : Line). Ok l l.event) c.waits cores.ok;
          }

      stops : Cores (record { waits = c.waits; messages = c.messages; plays = marked_ended c.plays })
          (record { waits = d.waits; messages = d.messages; plays = marked_ended d.plays })
      unfolding marked_ended
      stops = search

      next : Cores (cycled v q c) (cycled w q d)
      unfolding cycled
      next = chosen Cores _ _ h.ended cores (chosen Cores _ _ ends_same stops steps)

    -- ---- every cycle

    begin : (start : Float) (ls : List Line) → AllOk ls → Cores (plain_start start ls) (plain_start start ls)
    unfolding plain_start
    begin start ls o = record { same = record { waits = refl; messages = refl; notes = tt; position = refl; tempo = refl; counts = refl; ended = refl }; ok = o }

    module _ (start : Float) (settings : ℕ → Settings) where
      at-cores : (ls : List Line) → AllOk ls → (n : ℕ) → Cores (plain_at v start settings ls n) (plain_at w start settings ls n)
      unfolding plain_at
      at-cores ls o zero = begin start ls o
      at-cores ls o (suc n) = next (settings n) (plain_at v start settings ls n) (plain_at w start settings ls n) (at-cores ls o n)

      pub blocks-related : (ls : List Line) (n : ℕ) → AllOk ls → block_at v start settings ls n ≡ block_at w start settings ls n
      unfolding block_at
      blocks-related ls n o = block (settings n) (plain_at v start settings ls n) (plain_at w start settings ls n) (at-cores ls o n)

      pub answers-related : (ls : List Line) (n : ℕ) → AllOk ls → answer_at v start settings ls n ≡ answer_at w start settings ls n
      unfolding answer_at
      answers-related ls n o = answer (settings n) (plain_at v start settings ls n) (plain_at w start settings ls n) (at-cores ls o n)

      pub holds-related : (ls : List Line) (n : ℕ) → AllOk ls → StateAs R (plain_at v start settings ls n) (plain_at w start settings ls n)
      holds-related ls n o = (at-cores ls o n).same

    -- ---- every list of calls

    module _ (name : ℕ) (in_use : InUse) where
      record Pasts (h : History S) (h' : History S') : Type 0 where
        holds : Cores h.holds h'.holds
        reached : h.reached ≡ h'.reached
        set : h.set ≡ h'.set

      module _ {P : Type 0} where
        one-transition : (m : Transition P) (h : History S) (h' : History S') → AllOk (taken_in m) → Pasts h h' → Pasts (with_transition v name h m) (with_transition w name h' m)
        unfolding behind with_messages
        one-transition m h h' o g =
            let k = in_force name h.set in
            let c = g.holds in
            let s = c.same in
            chosen Pasts (numbered m.call) (numbered m.call) refl
            (record {
              holds = subst (λ (x : InUse). Cores (cycled v k h.holds) (cycled w (in_force name x) h'.holds)) g.set (next k h.holds h'.holds c);
              reached = λ j. cond (eqb (answer k h.holds h'.holds c j) 0) (at (s.position j)) (g.reached j);
              set = g.set;
            })
            (record {
              holds = record {
                same = record {
                  waits = λ j. s.waits j ++ taken_in m;
                  messages = λ j. s.messages j ++ messages_taken m;
                  notes = s.notes;
                  position = s.position;
                  tempo = s.tempo;
                  counts = s.counts;
                  ended = s.ended;
                };
                ok = all_append _ h.holds.waits (taken_in m) c.ok o;
              };
              reached = g.reached;
              set = λ j. set_with (g.set j) m;
            })

        all-transitions : (ms : List (Transition P)) (h : History S) (h' : History S') → AllOk (all_taken ms) → Pasts h h' → Pasts (history_from v name h ms) (history_from w name h' ms)
        unfolding all_taken history_from
        all-transitions [] h h' o g = g
        all-transitions (m ∷ ms) h h' o g =
            let p = all-parts (λ (l : Line). Ok l l.event) (taken_in m) (all_taken ms) o in
            all-transitions ms (with_transition v name h m) (with_transition w name h' m) p.1 (one-transition m h h' p.0 g)

        past : (ms : List (Transition P)) → AllOk (all_taken ms) → Pasts (history_of v name in_use ms) (history_of w name in_use ms)
        past ms o = all-transitions ms _ _ o (record { holds = begin (starting_tempo in_use) [] tt; reached = refl; set = refl })

        pub past-related : (ms : List (Transition P)) → AllOk (all_taken ms)
            → StateAs R (history_of v name in_use ms).holds (history_of w name in_use ms).holds × ((history_of v name in_use ms).reached ≡ (history_of w name in_use ms).reached)
            × ((history_of v name in_use ms).set ≡ (history_of w name in_use ms).set)
        past-related ms o = let p = past ms o in (p.holds.same, p.reached, p.set)

        pub past-block-related : (q : Settings) (ms : List (Transition P)) → AllOk (all_taken ms)
            → block_of v q (due_of (history_of v name in_use ms).holds) (history_of v name in_use ms).holds.plays
            ≡ block_of w q (due_of (history_of w name in_use ms).holds) (history_of w name in_use ms).holds.plays
        past-block-related q ms o = block q (history_of v name in_use ms).holds (history_of w name in_use ms).holds (past ms o).holds
