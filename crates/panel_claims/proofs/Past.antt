-- The panel holds what its history says, its cycle is the cycle of its history, and so it keeps condition 3, notes by place.
use mathlib.Core.Path.{◌≡◌, refl, sym, ap, ◌∙◌, subst, subst⁻¹}
use mathlib.Core.Bool.{Bool, true, false, cond, true≢false, false≢true}
use mathlib.Core.List.{List, [], ◌∷◌, ◌++◌, append-nil}
use Prim.Native.Nat.{ℕ, ◌+◌, ◌≤◌, min}
use native.Mathlib.Omega.{arith}
use lib.IntN.{ℤ}
use lib.ListN.{length, length-take, length-replicate}
use lib.Dec.{eqb}
use Rattle.base_answer.specs.Numbers.{number_of, is_taken}
use Rattle.score_line.specs.declared.Line.{Line}
use Rattle.orchestra_syntax.specs.Tree.{Instrument}
use Rattle.voices_resolved.specs.Tree.{tree_voices}
use Rattle.voices_resolved.proofs.Plays.{Sixteen, alike}
use Rattle.voices_resolved.proofs.Alike.{Alike, Notes, block_same, played-same, played-good}
use Rattle.voices_compiled.specs.Voices.{VoiceState}
use Rattle.player_model.specs.Lists.{each}
use Rattle.player_model.specs.Cycle.{Voices, position_limit}
use Rattle.settings_records.specs.Form.{Valid}
use Rattle.settings_records.specs.declared.InUse.{InUse}
use Rattle.player_model.specs.Set.{set_by, in_force}
use Rattle.player_model.specs.PlayerState.{Settings, Due, settings_of, PlayerState, behind, with_messages, later_than, due_of, ends_by, marked_ended, answer_of, block_of, played, cycled}
use Rattle.player_model.specs.inside.PlayerState.{capped}
use Rattle.player_model.specs.Plain.{plain_start}
use Rattle.player_model.specs.Calls.{Entrance, unit, reads, Call, submit, burst, keyboard, cycle, change, undo, whole_messages, messages_in, Answer, one, no_buffers, only_block, After, numbered, lines_of, taken_of, is_zero, Last, none, cycles_with, last_with, transition_of, trace_from, trace, after_all}
use Rattle.player_model.specs.Condition3.{PlainAlike}
use Rattle.player_model.specs.History.{at, History, unbegun, with_cycle, with_transition, history_from, history_of}
use Rattle.player_model.proofs.Lists.{either_way, cond-true, cond-false, all_append, all_map}
use Rattle.player_model.proofs.Count.{AllSteady, steady, Slow, within-limit, cap-none, slow-played, starting}
use Rattle.player_model.proofs.Alike.{AllFollow, plain-alike}
use Rattle.player_queue.specs.declared.Queue.{Queue}
use Rattle.midi_messages.specs.Writing as midi
use Rattle.midi_messages.specs.inside.Reading.{blank, call_of}
use Rattle.midi_messages.specs.declared.NoteMessage.{NoteMessage}
use Rattle.midi_queue.specs.Keyboard.{no_messages, most_messages, messages_in as waiting_messages, behind as behind_messages}
use Rattle.score_line.specs.Reading.{blank_line}
use Rattle.player_state.specs.States.{stopped}
use Rattle.player_cycle.specs.OneCycle as one_cycle
use Rattle.code_program.specs.declared.Program.{Program}
use Rattle.code_loader.specs.Loading.{load_of}
use Rattle.code_loader_claims.specs.Claims.{StandsFor}
use Rattle.code_loader_claims.proofs.Loaded.{loaded}
use Rattle.panel.specs.State.{program_of, table_of, voices_of, player_state_of, settings_in, panel_at, with_in_use, with_queue, with_messages as panel_with, ended_of}
use Rattle.score_bursts.specs.Bursts.{Burst, units_in}
use Rattle.score_bursts.specs.inside.Reading.{burst_of}
use Rattle.panel.specs.Calls.{fresh_of}
use Rattle.player_start.specs.Starting.{start_of, starting_of}
use Rattle.panel.specs.declared.Panel.{Panel}
use Rattle.panel_claims.specs.Claims.{unit_answer, after_of, panel, reached_of, Given, first_in_use, fresh, panel_after}
use Rattle.panel_claims.specs.Fresh.{Setup}
use Rattle.panel_claims.proofs.Settings.{Sets, set-taken, set-refused, changes, undoes}
use Rattle.panel_claims.proofs.Starts.{first_taken}
use Rattle.panel_claims.proofs.Ranged.{ranged, ranged-steady, reads-ranged}
use Rattle.panel_claims.proofs.Entrances.{Behind, Brings, takes, refuses, brings}
use Rattle.panel_claims.proofs.Bursts.{singly, Receives, received, unreceived, receives, taken-of, leaves}
use Rattle.panel_claims.proofs.Keyboard.{waits-behind, count-behind, length-behind, Presses, keys-over, keys-faulty, keys-full, keys-taken, presses}
use Rattle.panel_claims.proofs.Chosen.{chosen-there}
use Rattle.panel_claims.proofs.Cycles.{played_of, holds-played, reached-played, played-long, Counted, played-counted, Cycles, off, over-before, ends, plays, cycles}

-- the history that a panel's own fields tell
abbrev pub own : Panel → History VoiceState
own p = record { holds = player_state_of p; reached = reached_of p; set = p.core.settings }

-- every line read has a tempo of at least 1, if it is a tempo line
reads-steady : (d : Entrance) (handed : List ℕ) → AllSteady (reads d handed).lines
reads-steady d handed =
    all_map (λ (l : Line). ranged l.event) (λ (l : Line). steady l.event) (λ l h. ranged-steady l.event h) (reads d handed).lines (reads-ranged d handed)

-- likewise every line taken of units
units-steady : (us : List (List ℕ)) (ns : List ℕ) → AllSteady (taken-of us ns)
unfolding each
units-steady [] ns = tt
units-steady (u ∷ us) [] = tt
units-steady (u ∷ us) (n ∷ ns) =
    all_append (λ (l : Line). steady l.event) (cond (eqb n 0) (reads unit u).lines []) (taken-of us ns)
    (either_way AllSteady (eqb n 0) (reads-steady unit u) tt) (units-steady us ns)

-- a call that holds no line
pub no_line : (given : List Answer) → taken_of ([] ∷ []) given ≡ []
no_line [] = refl
no_line (a ∷ given) = either_way (λ (l : List Line). l ++ [] ≡ []) (eqb a.number 0) refl refl

-- one whose own answer is the only one
pub no-others : (n : ℕ) (ls : List (List Line)) → taken_of ([] ∷ ls) (one n 0) ≡ []
no-others n [] = no_line (one n 0)
no-others n (l ∷ ls) = either_way (λ (l : List Line). l ++ [] ≡ []) (eqb n 0) refl refl

-- ---- what the panel keeps true of itself

module _ (program : Program) (chosen : ℕ) (is : List Instrument) (r : StandsFor is program) where
  pub record Invariant (p : Panel) : Type 0 where
    pub has : program_of p ≡ program
    pub valid : Valid p.core.settings.last
    pub choice : p.core.chosen ≡ chosen
    pub long : length p.core.state.queue.lines ≡ 64
    pub listed : length p.core.state.messages.list ≡ 64
    pub counted : Counted p
    pub slow : Slow (player_state_of p)
    pub good : Notes Sixteen (player_state_of p).plays.notes

  -- the voices of the tree, and the settings in force
  abbrev w : Voices VoiceState
  w = tree_voices is

  abbrev s : InUse → Settings
  s k = in_force chosen k

  settings-are : (p : Panel) → Invariant p → settings_in p.core ≡ s p.core.settings
  settings-are p k =
      let m : min p.core.settings.last.notes 16 ≡ p.core.settings.last.notes = omega (arith, k.valid.notes.1) in
      λ i. settings_of p.core.settings.last.ceiling (m i) (k.choice i)

  same : Alike Sixteen (voices_of program) w
  same = alike is (table_of program) program.code program.vals r

  few : (p : Panel) → Invariant p → length (player_state_of p).waits ≤ 64
  few p k = omega (arith, length-take p.core.state.queue.count p.core.state.queue.lines)

  brief : (p : Panel) → Invariant p → length (player_state_of p).messages ≤ 64
  brief p k = omega (arith, length-take p.core.state.messages.count p.core.state.messages.list)

  -- ---- lines and note messages behind

  -- what is held, with so many lines and note messages behind
  abbrev with : List Line → List NoteMessage → Panel → History VoiceState
  with ls ms p = record { holds = with_messages ms (behind ls (player_state_of p)); reached = reached_of p; set = p.core.settings }

  own-takes : (p : Panel) (ls : List Line) (q : Queue) → Behind p.core.state.queue ls q
      → own (with_queue p q) ≡ with ls [] p
  unfolding behind with_messages with_queue
  own-takes p ls q b = rw (append-nil, b.waits, b.ran, b.last)

  invariant-takes : (p : Panel) (ls : List Line) (q : Queue) → Behind p.core.state.queue ls q → AllSteady ls → Invariant p → Invariant (with_queue p q)
  unfolding with_queue
  invariant-takes p ls q b t k =
      let steady-lines = subst⁻¹ AllSteady b.waits (all_append _ (player_state_of p).waits ls k.slow.lines t) in
      let lines = b.counted k.counted.lines in search

  own-presses : (p : Panel) (ms : List NoteMessage) → own (panel_with p (behind_messages p.core.state.messages ms)) ≡ with [] ms p
  unfolding behind with_messages panel_with
  own-presses p ms = rw (append-nil, waits-behind p.core.state.messages ms)

  invariant-presses : (p : Panel) (ms : List NoteMessage) → length (waiting_messages p.core.state.messages) + length ms ≤ most_messages → Invariant p
      → Invariant (panel_with p (behind_messages p.core.state.messages ms))
  unfolding panel_with
  invariant-presses p ms l k =
      let listed = length-behind p.core.state.messages ms k.listed l in
      let messages = count-behind p.core.state.messages ms in search

  own-none : (p : Panel) → own p ≡ with [] [] p
  unfolding behind with_messages
  own-none p = rw (append-nil, append-nil)

  -- ---- a cycle of a history

  module _ (h : History VoiceState) where
    -- its answer, and what it leaves
    record Turns (n : ℕ) (x : History VoiceState) : Type 0 where
      answers : answer_of h.holds ≡ n
      leaves-so : x ≡ with_cycle w chosen h

    turns-so : {n : ℕ} {x : PlayerState VoiceState} → answer_of h.holds ≡ n → cycled w (s h.set) h.holds ≡ x
        → Turns n (record { holds = x; reached = cond (eqb n 0) (at h.holds.plays.position) h.reached; set = h.set })
    turns-so n x =
        record { answers = n; leaves-so = sym (λ i. record { holds = x i; reached = cond (eqb (n i) 0) (at h.holds.plays.position) h.reached; set = h.set }) }

    over-cycle : h.holds.plays.ended ≡ true → Turns 9 h
    unfolding answer_of cycled
    over-cycle e = turns-so (cond-true _ _ e) (cond-true _ _ e)

    end-cycle : h.holds.plays.ended ≡ false → ends_by (due_of h.holds) h.holds.plays ≡ true
        → Turns 9 (record { holds = record { waits = h.holds.waits; messages = h.holds.messages; plays = marked_ended h.holds.plays }; reached = h.reached; set = h.set })
    unfolding answer_of cycled
    end-cycle e d = turns-so (cond-false _ _ e ∙ cond-true _ _ d) (cond-false _ _ e ∙ cond-true _ _ d)

    play-cycle : h.holds.plays.ended ≡ false → ends_by (due_of h.holds) h.holds.plays ≡ false
        → Turns 0 (record {
          holds = record { waits = later_than h.holds.plays.position h.holds.waits; messages = []; plays = played w (s h.set) (due_of h.holds) h.holds.plays };
          reached = at h.holds.plays.position;
          set = h.set;
        })
    unfolding answer_of cycled
    play-cycle e d = turns-so (cond-false _ _ e ∙ cond-false _ _ d) (cond-false _ _ e ∙ cond-false _ _ d)

  -- ---- the panel's cycle

  module _ (p : Panel) (k : Invariant p) where
    abbrev due : Due
    due = due_of (player_state_of p)

    block-is : block_of (voices_of (program_of p)) (settings_in p.core) due (player_state_of p).plays ≡ block_of w (s p.core.settings) due (player_state_of p).plays
    block-is =
        (λ i. block_of (voices_of (k.has i)) (settings-are p k i) due (player_state_of p).plays)
        ∙ block_same Sixteen same (s p.core.settings) due (player_state_of p).plays k.good

    module _ (d : ends_by due (player_state_of p).plays ≡ false) where
      near : (player_state_of p).plays.position ≤ position_limit
      near = within-limit due (player_state_of p).plays d

      plays-is : capped (played (voices_of (program_of p)) (settings_in p.core) due (player_state_of p).plays) ≡ played w (s p.core.settings) due (player_state_of p).plays
      plays-is =
          (λ i. capped (played (voices_of (k.has i)) (settings-are p k i) due (player_state_of p).plays))
          ∙ cap-none (voices_of program) (s p.core.settings) (player_state_of p) (few p k) (brief p k) k.slow near
          ∙ played-same Sixteen same (s p.core.settings) due (player_state_of p).plays k.good

      own-played : own (played_of p)
          ≡ record {
            holds = record { waits = later_than (player_state_of p).plays.position (player_state_of p).waits; messages = []; plays = played w (s p.core.settings) due (player_state_of p).plays };
            reached = at (player_state_of p).plays.position;
            set = p.core.settings;
          }
      own-played = let same_set : (played_of p).core.settings ≡ p.core.settings = unfold played_of in refl in rw (holds-played p, reached-played p, plays-is, same_set)

      invariant-played : Invariant (played_of p)
      invariant-played =
          let e = ap (λ (h : History VoiceState). h.holds) own-played in
          record {
            has = unfold played_of in k.has;
            valid = unfold played_of in k.valid;
            choice = unfold played_of in k.choice;
            long = played-long p k.long;
            listed = unfold played_of one_cycle.played_of in k.listed;
            counted = played-counted p;
            slow = subst⁻¹ Slow e (slow-played w (s p.core.settings) (player_state_of p) (few p k) (brief p k) k.slow near);
            good = subst⁻¹ (λ (h : PlayerState VoiceState). Notes Sixteen h.plays.notes) e (played-good Sixteen same (s p.core.settings) due (player_state_of p).plays k.good);
          }

    own-ended : own (ended_of p)
        ≡ record {
          holds = record { waits = (player_state_of p).waits; messages = (player_state_of p).messages; plays = marked_ended (player_state_of p).plays };
          reached = reached_of p;
          set = p.core.settings;
        }
    unfolding ended_of stopped marked_ended
    own-ended = refl

    invariant-ended : Invariant (ended_of p)
    unfolding ended_of stopped
    invariant-ended = search

  -- ---- one call

  module _ (n : ℕ) (z : Last) (p : Panel) where
    pub record Step (c : Call) : Type 0 where
      pub invariant : Invariant (after_of p c).player
      pub next : own (after_of p c).player ≡ with_transition w chosen (own p) (transition_of panel n z p c)
      pub answer : numbered c ≡ true → (after_of p c).answers ≡ one (answer_of (player_state_of p)) 0
      pub block : is_zero (after_of p c).answers ≡ true → numbered c ≡ true → (after_of p c).buffers.block ≡ block_of w (s p.core.settings) (due_of (player_state_of p)) (player_state_of p).plays
      pub over : (player_state_of p).plays.ended ≡ true → taken_of (lines_of c) (after_of p c).answers ≡ []

    module _ (k : Invariant p) where
      -- what the history says of a call with these answers
      abbrev told : Call → List Answer → History VoiceState
      told c given = with (taken_of (lines_of c) given) (cond (is_zero given) (messages_in c) []) p

      -- a call that plays nothing: what it takes stands behind
      still : (c : Call) {a : After Panel} → ((b : Bool) → cond b (set_by p.core.settings c) p.core.settings ≡ p.core.settings) → numbered c ≡ false → after_of p c ≡ a
          → Invariant a.player → own a.player ≡ told c a.answers
          → ((player_state_of p).plays.ended ≡ true → taken_of (lines_of c) a.answers ≡ []) → Step c
      still c unset u x y own_is no_more =
          record {
            invariant = subst⁻¹ (λ (a : After Panel). Invariant a.player) x y;
            next = ap (λ (a : After Panel). own a.player) x ∙ own_is ∙ ap (λ (a : After Panel). told c a.answers) (sym x)
                ∙ (λ i. record { holds = (told c (after_of p c).answers).holds; reached = reached_of p; set = sym (unset (is_zero (after_of p c).answers)) i }) ∙ sym (cond-false _ _ u);
            answer = λ t. absurd (true≢false (sym t ∙ u));
            block = λ t. λ v. absurd (true≢false (sym v ∙ u));
            over = λ e. ap (λ (a : After Panel). taken_of (lines_of c) a.answers) x ∙ no_more e;
          }

      unset-same : (b : Bool) → cond b p.core.settings p.core.settings ≡ p.core.settings
      unset-same b = either_way (λ (x : InUse). x ≡ p.core.settings) b refl refl

      entrance-step : (d : Entrance) (handed : List ℕ) → Step (submit d handed)
      entrance-step d handed = go (brings p d handed)
        where
          go : Brings p (reads d handed).lines (after_of p (submit d handed)) → Step (submit d handed)
          go (takes l q e f x) =
              still (submit d handed) unset-same refl x (invariant-takes p (reads d handed).lines q (f k.long) (reads-steady d handed) k)
              (own-takes p (reads d handed).lines q (f k.long) ∙ ap (λ (xs : List Line). with xs [] p) (sym (append-nil (reads d handed).lines)))
              (λ u. absurd (true≢false (sym u ∙ e)))
          go (refuses n l e x) =
              still (submit d handed) unset-same refl x k (own-none p ∙ (λ i. with (cond (sym e i) (reads d handed).lines [] ++ []) (cond (sym e i) [] []) p))
              (λ u. ap (λ (x : List Line). x ++ []) (cond-false _ _ e))

      burst-step : (bytes area : List ℕ) → Step (burst bytes area)
      burst-step bytes area = go (receives p bytes area)
        where
          go : Receives p bytes area (after_of p (burst bytes area)) → Step (burst bytes area)
          go (received us q x) =
              let y = leaves us p k.long in
              let ls = taken-of us (singly p us).numbers in
              let given = one 0 0 ++ each unit_answer (singly p us).numbers in
              still (burst bytes area) unset-same refl x (subst⁻¹ Invariant y.same (invariant-takes p ls y.queue y.behind (units-steady us (singly p us).numbers) k))
              (ap own y.same ∙ own-takes p ls y.queue y.behind ∙ ap (λ (b : Burst). with (taken_of ([] ∷ each (λ (u : List ℕ). (reads unit u).lines) (units_in b)) given) [] p) (sym q))
              (λ u. ap (λ (b : Burst). taken_of ([] ∷ each (λ (u : List ℕ). (reads unit u).lines) (units_in b)) given) q ∙ y.none u)
          go (unreceived n z x) =
              let nothing = no-others n (each (λ (u : List ℕ). (reads unit u).lines) (units_in (burst_of bytes))) in
              still (burst bytes area) unset-same refl x k (own-none p ∙ (λ i. with (sym nothing i) (cond (sym z i) [] []) p)) (λ u. nothing)

      keyboard-step : (bytes : List ℕ) → Step (keyboard bytes)
      keyboard-step bytes = go (presses p bytes)
        where
          refused : (n : ℕ) → eqb n 0 ≡ false → after_of p (keyboard bytes) ≡ record { player = p; answers = one n 0; buffers = no_buffers } → Step (keyboard bytes)
          refused n e x =
              still (keyboard bytes) unset-same refl x k (own-none p ∙ (λ i. with (sym (no_line (one n 0)) i) (cond (sym e i) (whole_messages (call_of bytes)) []) p)) (λ u. no_line (one n 0))

          go : Presses p bytes (after_of p (keyboard bytes)) → Step (keyboard bytes)
          go (keys-over e x) = refused 9 refl x
          go (keys-faulty f e q z x) = refused (number_of f) z x
          go (keys-full ms e q l x) = refused 8 refl x
          go (keys-taken ms e q l x) =
              still (keyboard bytes) unset-same refl x (invariant-presses p ms l k) (own-presses p ms ∙ ap (λ (y : midi.Call). with [] (whole_messages y) p) (sym q)) (λ u. refl)

      -- a cycle of the list
      turns : (b : List ℤ) {q : Panel} {m : ℕ} {bs : List ℤ} {h : History VoiceState} → numbered (cycle b) ≡ true
          → after_of p (cycle b) ≡ record { player = q; answers = one m 0; buffers = only_block bs } → Invariant q → own q ≡ h → Turns (own p) m h
          → (eqb m 0 ≡ true → bs ≡ block_of w (s p.core.settings) (due_of (player_state_of p)) (player_state_of p).plays) → Step (cycle b)
      turns b u x y own_is t sounds =
          record {
            invariant = subst⁻¹ (λ (a : After Panel). Invariant a.player) x y;
            next = ap (λ (a : After Panel). own a.player) x ∙ own_is ∙ t.leaves-so ∙ sym (cond-true _ _ u);
            answer = λ v. ap (λ (a : After Panel). a.answers) x ∙ ap (λ (m : ℕ). one m 0) (sym t.answers);
            block = λ v. λ w. ap (λ (a : After Panel). a.buffers.block) x ∙ sounds (ap (λ (a : After Panel). is_zero a.answers) (sym x) ∙ v);
            over = λ v. no_line (after_of p (cycle b)).answers;
          }

      cycle-step : (b : List ℤ) → Step (cycle b)
      cycle-step b = go (cycles p b)
        where
          go : Cycles p b (after_of p (cycle b)) → Step (cycle b)
          go (off u x) = still (cycle b) unset-same u x k (own-none p) (λ t. refl)
          go (over-before u e x) = turns b u x k refl (over-cycle (own p) e) (λ t. absurd (false≢true t))
          go (ends u e d x) = turns b u x (invariant-ended p k) (own-ended p k) (end-cycle (own p) e d) (λ t. absurd (false≢true t))
          go (plays u e d x) = turns b u x (invariant-played p k d) (own-played p k d) (play-cycle (own p) e d) (λ t. block-is p k)

      -- a change or an undo: what it sets
      invariant-sets : (x : InUse) → Valid x.last → Invariant (with_in_use p x)
      invariant-sets x l = record { has = k.has; valid = l; choice = k.choice; long = k.long; listed = k.listed; counted = record { lines = k.counted.lines; messages = k.counted.messages; notes = k.counted.notes }; slow = k.slow; good = k.good }

      setting-step : (c : Call) {left : List ℕ} → numbered c ≡ false → ((given : List Answer) → taken_of (lines_of c) given ≡ []) → ((b : Bool) → cond b (messages_in c) [] ≡ [])
          → Sets p c left (after_of p c) → Step c
      setting-step c u no_lines no-messages v =
          record {
            invariant = (so v).0;
            next = (so v).1 ∙ own-so (after_of p c).answers ∙ sym (cond-false _ _ u);
            answer = λ t. absurd (true≢false (sym t ∙ u));
            block = λ t. λ q. absurd (true≢false (sym q ∙ u));
            over = λ e. no_lines (after_of p c).answers;
          }
        where
          set_now : List Answer → InUse
          set_now given = cond (is_zero given) (set_by p.core.settings c) p.core.settings

          held : InUse → History VoiceState
          held x = record { holds = player_state_of p; reached = reached_of p; set = x }

          so : {left : List ℕ} → Sets p c left (after_of p c) → Invariant (after_of p c).player × (own (after_of p c).player ≡ held (set_now (after_of p c).answers))
          so (set-taken e l x) = (
            subst⁻¹ (λ (a : After Panel). Invariant a.player) x (invariant-sets (set_by p.core.settings c) l),
            ap (λ (a : After Panel). own a.player) x ∙ ap (λ (a : After Panel). held (set_now a.answers)) (sym x),
          )
          so (set-refused m q x) = (
            subst⁻¹ (λ (a : After Panel). Invariant a.player) x k,
            ap (λ (a : After Panel). own a.player) x ∙ ap held (sym (cond-false (set_by p.core.settings c) p.core.settings q)) ∙ ap (λ (a : After Panel). held (set_now a.answers)) (sym x),
          )

          own-so : (given : List Answer) → held (set_now given)
              ≡ record { holds = with_messages (cond (is_zero given) (messages_in c) []) (behind (taken_of (lines_of c) given) (player_state_of p)); reached = reached_of p; set = set_now given }
          own-so given =
              ap (λ (h : History VoiceState). record { holds = h.holds; reached = h.reached; set = set_now given }) (own-none p)
              ∙ (λ i. record { holds = with_messages (sym (no-messages (is_zero given)) i) (behind (sym (no_lines given) i) (player_state_of p)); reached = reached_of p; set = set_now given })

      no-message : (b : Bool) → ◌≡◌ {A = List NoteMessage} (cond b [] []) []
      no-message b = either_way (λ (x : List NoteMessage). x ≡ []) b refl refl

      pub step : (c : Call) → Step c
      step (change area handed) = setting-step (change area handed) refl no_line no-message (changes p area handed)
      step (undo area) = setting-step (undo area) refl no_line no-message (undoes p area)
      step (submit d handed) = entrance-step d handed
      step (burst bytes area) = burst-step bytes area
      step (keyboard bytes) = keyboard-step bytes
      step (cycle b) = cycle-step b

  -- ---- every list of calls

  pub invariant-all : (cs : List Call) (p : Panel) → Invariant p → Invariant (after_all panel p cs)
  unfolding after_all
  invariant-all [] p k = k
  invariant-all (c ∷ cs) p k = invariant-all cs (after_of p c).player (step 0 none p k c).invariant

  pub own-all : (cs : List Call) (n : ℕ) (z : Last) (p : Panel) → Invariant p
      → own (after_all panel p cs) ≡ history_from w chosen (own p) (trace_from panel n z p cs)
  unfolding after_all history_from trace_from
  own-all [] n z p k = refl
  own-all (c ∷ cs) n z p k =
      let m = transition_of panel n z p c in
      let x = step n z p k c in
      own-all cs (cycles_with m) (last_with m) (after_of p c).player x.invariant
      ∙ ap (λ (h : History VoiceState). history_from w chosen h (trace_from panel (cycles_with m) (last_with m) (after_of p c).player cs)) x.next

  follows : (cs : List Call) (n : ℕ) (z : Last) (p : Panel) → Invariant p → AllFollow panel w chosen (own p) (trace_from panel n z p cs)
  unfolding trace_from
  follows [] n z p k = tt
  follows (c ∷ cs) n z p k =
      let m = transition_of panel n z p c in
      let x = step n z p k c in (
        record {
          answer = x.answer;
          block = λ q t. x.block t q;
          counts = ap (λ (h : History VoiceState). h.holds.plays.counts) x.next;
          over = x.over;
        },
        subst (λ (h : History VoiceState). AllFollow panel w chosen h (trace_from panel (cycles_with m) (last_with m) (after_of p c).player cs)) x.next
            (follows cs (cycles_with m) (last_with m) (after_of p c).player x.invariant),
      )

  -- a call that answers 0 leaves no block, or a cycle's
  pub sounded : (p : Panel) → Invariant p → (b : List ℤ) → is_zero (after_of p (cycle b)).answers ≡ true
      → (after_of p (cycle b)).buffers.block ≡ block_of w (s p.core.settings) (due_of (player_state_of p)) (player_state_of p).plays
  sounded p k b t = (step 0 none p k (cycle b)).block t (is-numbered (cycles p b))
    where
      is-numbered : Cycles p b (after_of p (cycle b)) → numbered (cycle b) ≡ true
      is-numbered (off u x) = absurd (false≢true (ap (λ (a : After Panel). is_zero a.answers) (sym x) ∙ t))
      is-numbered (over-before u e x) = u
      is-numbered (ends u e d x) = u
      is-numbered (plays u e d x) = u

-- ---- a fresh panel

-- what a list of calls leaves by its history, the notes' values by place
abbrev pub placed_past : Setup → List Instrument → List Call → History VoiceState
placed_past u is cs = history_of (tree_voices is) u.chosen (first_in_use u) (trace panel (fresh u) cs)

module _ (u : Setup) (is : List Instrument) (g : Given u is) where
  abbrev program : Program
  program = (load_of u.orchestra).left

  pub stands : StandsFor is program
  stands = (loaded u.orchestra is g.accepted).stands

  -- what it starts with
  abbrev begin : Panel
  begin = panel_at (start_of program (first_in_use u) u.chosen false (load_of u.orchestra).answer)

  fresh-is : fresh u ≡ begin
  unfolding fresh_of starting_of
  fresh-is =
      let f = first_taken u is g in
      ap panel_at
      (cond-true _ _ f.taken
      ∙ cond-true _ _ (ap is_taken (loaded u.orchestra is g.accepted).taken)
      ∙ cond-true _ _ (chosen-there is program stands u.chosen g.there)
      ∙ ap (λ (x : InUse). start_of program x u.chosen false (load_of u.orchestra).answer) f.keeps)

  start-own : own begin ≡ unbegun (first_in_use u)
  unfolding start_of plain_start each no_messages
  start-own = refl

  start-invariant : Invariant program u.chosen is stands begin
  unfolding start_of each no_messages
  start-invariant =
      let l = (first_taken u is g).valid in
      let slow : Slow (player_state_of begin) = record { few = omega arith; lines = tt; tempo = starting (first_in_use u) l.tempo.0 l.tempo.1 } in
      record { has = refl; valid = l; choice = refl; long = length-replicate 64 blank_line; listed = length-replicate 64 blank; counted = record { lines = refl; messages = refl; notes = refl }; slow = slow; good = tt }

  pub fresh-invariant : Invariant program u.chosen is stands (fresh u)
  fresh-invariant = subst⁻¹ (Invariant program u.chosen is stands) fresh-is start-invariant

  pub fresh-own : own (fresh u) ≡ unbegun (first_in_use u)
  fresh-own = ap own fresh-is ∙ start-own

  pub invariant-after : (cs : List Call) → Invariant program u.chosen is stands (panel_after u is cs)
  invariant-after cs = invariant-all program u.chosen is stands cs (fresh u) fresh-invariant

  pub past_is : (cs : List Call) → own (panel_after u is cs) ≡ placed_past u is cs
  past_is cs =
      own-all program u.chosen is stands cs 0 none (fresh u) fresh-invariant
      ∙ ap (λ (x : History VoiceState). history_from (tree_voices is) u.chosen x (trace panel (fresh u) cs)) fresh-own

  follows-past : (cs : List Call) → AllFollow panel (tree_voices is) u.chosen (unbegun (first_in_use u)) (trace panel (fresh u) cs)
  follows-past cs =
      rw fresh-own at (follows program u.chosen is stands cs 0 none (fresh u) fresh-invariant)

  -- what a cycle leaves, and condition 3, with the notes' values by place
  pub block-by-place : (cs : List Call) (lent : List ℤ) → is_zero (after_of (panel_after u is cs) (cycle lent)).answers ≡ true
      → (after_of (panel_after u is cs) (cycle lent)).buffers.block
      ≡ block_of (tree_voices is) (in_force u.chosen (placed_past u is cs).set) (due_of (placed_past u is cs).holds) (placed_past u is cs).holds.plays
  block-by-place cs lent t =
      sounded program u.chosen is stands (panel_after u is cs) (invariant-after cs) lent t
      ∙ ap (λ (h : History VoiceState). block_of (tree_voices is) (in_force u.chosen h.set) (due_of h.holds) h.holds.plays) (past_is cs)

  pub by-place : PlainAlike panel (tree_voices is) u.chosen (first_in_use u) (fresh u)
  by-place = plain-alike panel (tree_voices is) u.chosen (first_in_use u) (fresh u) follows-past
