-- One cycle of a piece that is fed: the panel holds what the plain player does, but for the lines that wait.
use mathlib.Core.Path.{◌≡◌, refl, sym, ap, ◌∙◌, subst, subst⁻¹}
use mathlib.Core.Bool.{Bool, true, false, not, cond, true≢false, false≢true}
use mathlib.Core.List.{List, [], ◌∷◌, ◌++◌, append-nil, append_assoc}
use Prim.Native.Nat.{ℕ, suc, ◌+◌, ◌≤◌, ◌<◌}
use native.Mathlib.Omega.{arith}
use lib.IntN.{ℤ}
use lib.Ieee.{Float}
use lib.ListN.{length, length-append}
use lib.Dec.{T, eqb, leb}
use borrow.Author.Tests.{eq-eqb, not-true}
use Rattle.score_line.specs.declared.When.{When}
use Rattle.score_line.specs.declared.When.TheVariants.{Timed, Untimed}
use Rattle.score_line.specs.declared.Line.{Line}
use Rattle.score_line.specs.declared.LineRead.{LineRead}
use Rattle.score_line.specs.LineFormat.{valid}
use Rattle.base_answer.specs.declared.Answer.TheVariants.{Taken}
use Rattle.score_line_writer.specs.Writing.{line_words}
use Rattle.score_line_writer.proofs.Proved.{words-read-back}
use Rattle.base_timebase.specs.Time.{ticks_in}
use Rattle.midi_messages.specs.declared.NoteMessage.{NoteMessage}
use Rattle.settings_records.specs.declared.InUse.{InUse}
use Rattle.orchestra_syntax.specs.Tree.{Instrument}
use Rattle.voices_resolved.specs.Tree.{tree_voices}
use Rattle.voices_compiled.specs.Voices.{VoiceState}
use Rattle.player_model.specs.Lists.{filter, each, All}
use Rattle.player_model.specs.Cycle.{Voices, due_when, is_due, ordered, samples}
use Rattle.player_model.specs.PlayerState.{Settings, PlayerState, behind, with_messages, due_at, later_than, due_of, ends_by, marked_ended, answer_of, block_of, cycled}
use Rattle.player_model.specs.Plain.{plain_at, answer_at, block_at}
use Rattle.player_model.specs.Calls.{keypad, single, reads, Call, submit, burst, keyboard, cycle, change, undo, Answer, one, numbered, taken_of, is_zero, Last, none, Transition, cycles_with, last_with, transition_of, trace_from, after_all}
use Rattle.player_model.specs.Condition3.{timed, AsPlain}
use Rattle.player_model.specs.Set.{in_force, starting_tempo, set_with}
use Rattle.player_model.specs.History.{Reached, at, History, with_cycle}
use Rattle.player_model.proofs.Lists.{by-test, either_way, cond-true, cond-false, all_map, all_filter, all_of}
use Rattle.player_model.proofs.Join.{behind-none}
use Rattle.player_model.proofs.BySettings.{Agree, agree-here, agree_after, next_set}
use Rattle.panel.specs.State.{player_state_of}
use Rattle.panel.specs.declared.Panel.{Panel}
use Rattle.code_loader.specs.Loading.{load_of}
use Rattle.code_loader_claims.specs.Claims.{StandsFor}
use Rattle.player_order.proofs.Order.{length-ordered}
use Rattle.player_order.proofs.Waits.{with_waits, left_of, SameDue, answer-same, block_same, cycle-same, cycle-waits}
use Rattle.panel_claims.specs.Verdict.{Playable, Fits, AllFit, too_late, most_lines, faulty, taken, with_lines}
use Rattle.panel_claims.specs.Verdict.{full as full-line}
use Rattle.panel_claims.specs.Fresh.{Setup}
use Rattle.panel_claims.specs.Claims.{after_of, panel, Given, first_in_use}
use Rattle.panel_claims.proofs.Past.{own, no_line, Invariant, Step, step, stands}
use Rattle.panel_claims.proofs.Answers.{at-entrance-given}
use Rattle.panel_piece_claims.specs.Playing.{SetsOnly, FewDue}

-- a timed line, every field of it in its range, that is not refused 4
pub record Valid (is : List Instrument) (l : Line) : Type 0 where
  pub in_range : T (valid l)
  pub timely : timed l.when
  pub playable : Playable is l.count l.event

-- a line handed over
abbrev pub handing : Line → Call
handing l = submit keypad (line_words l)

-- of the lines not yet handed over, those that the feeder hands over before the next cycle, and those that it keeps back
unfoldable pub offered : Panel → List Line → List Line
offered p rest = cond (player_state_of p).plays.ended [] (filter (is_due (player_state_of p).plays.position) rest)

unfoldable pub kept_back : Panel → List Line → List Line
kept_back p rest = cond (player_state_of p).plays.ended rest (later_than (player_state_of p).plays.position rest)

-- a valid line is its own keypad line
pub read_whole : (l : Line) → T (valid l) → (reads keypad (line_words l)).answer ≡ Taken
read_whole l h = ap (λ (r : LineRead). r.answer) (words-read-back l h)

pub read-itself : (l : Line) → T (valid l) → (reads keypad (line_words l)).lines ≡ l ∷ []
read-itself l h = ap (λ (r : LineRead). (single r).lines) (words-read-back l h)

-- ---- a test and its opposite

filter-twice : {A : Type 0} (f : A → Bool) (xs : List A) → filter f (filter f xs) ≡ filter f xs
unfolding filter
filter-twice f [] = refl
filter-twice f (x ∷ xs) = by-test (f x) (λ e. cc (filter-twice f xs)) (λ e. cc (filter-twice f xs))

filter-not : {A : Type 0} (f : A → Bool) (xs : List A) → filter (λ (x : A). not (f x)) (filter f xs) ≡ []
unfolding filter
filter-not f [] = refl
filter-not f (x ∷ xs) = by-test (f x) (λ e. cc (filter-not f xs)) (λ e. cc (filter-not f xs))

filter-holds : {A : Type 0} (f : A → Bool) (xs : List A) → All (λ (x : A). f x ≡ true) (filter f xs)
unfolding filter
filter-holds f [] = tt
filter-holds f (x ∷ xs) = by-test (f x) (λ e. rw e (e, filter-holds f xs)) (λ e. rw e (filter-holds f xs))

-- a line that was not due in a cycle is not late afterwards
not_late : (position : ℕ) (w : When) → not (due_when position w) ≡ true → too_late (at position) w ≡ false
not_late position (Timed late t) h = rw (not-true (leb (ticks_in t) position) h)
not_late position Untimed h = refl

module _ (u : Setup) (is : List Instrument) (g : Given u is) where
  abbrev pub v : Voices VoiceState
  v = tree_voices is

  abbrev pub start : Float
  start = starting_tempo (first_in_use u)

  abbrev pub K : Panel → Type 0
  K p = Invariant (load_of u.orchestra).left u.chosen is (stands u is g) p

  went : (k : ℕ) (z : Last) (p : Panel) → K p → (c : Call) → Step (load_of u.orchestra).left u.chosen is (stands u is g) k z p c
  went k z p kept c = step (load_of u.orchestra).left u.chosen is (stands u is g) k z p kept c

  -- ---- one line handed over

  module _ (k : ℕ) (z : Last) (p : Panel) (kept : K p) (l : Line) (ok : Valid is l) (runs : (player_state_of p).plays.ended ≡ false)
      (fits : Fits is keypad (own p).reached (length (own p).holds.waits) l) where
    pub zero-answered : (after_of p (handing l)).answers ≡ one 0 0
    zero-answered =
        at-entrance-given is p (subst⁻¹ (StandsFor is) kept.has (stands u is g)) kept.long keypad (line_words l) 0 0
        (taken (l ∷ []) (runs, read_whole l ok.in_range, read-itself l ok.in_range) (fits, tt))

    pub one_more : own (after_of p (handing l)).player ≡ with_lines (own p) (l ∷ [])
    unfolding behind with_messages
    one_more = (went k z p kept (handing l)).next ∙ rw (zero-answered, read-itself l ok.in_range, append-nil (l ∷ []), append-nil (player_state_of p).messages)

    pub hand-kept : K (after_of p (handing l)).player
    hand-kept = (went k z p kept (handing l)).invariant

  -- where 64 wait, a line is refused 8
  pub eight-answered : (p : Panel) → K p → (l : Line) → Valid is l → (player_state_of p).plays.ended ≡ false → too_late (own p).reached l.when ≡ false
      → most_lines ≤ length (own p).holds.waits → (after_of p (handing l)).answers ≡ one 8 0
  eight-answered p kept l ok runs early full =
      at-entrance-given is p (subst⁻¹ (StandsFor is) kept.has (stands u is g)) kept.long keypad (line_words l) 8 0
      (faulty [] l [] (runs, read_whole l ok.in_range, read-itself l ok.in_range) tt
      (full-line (λ u. absurd (false≢true u)) ok.playable early (omega arith)))

  -- ---- all the lines of a cycle

  lines-lines : (h : History VoiceState) (l : Line) (ls : List Line) → with_lines (with_lines h (l ∷ [])) ls ≡ with_lines h (l ∷ ls)
  unfolding behind
  lines-lines h l ls = rw (append_assoc h.holds.waits (l ∷ []) ls)

  pub fit_on : (p : Panel) (h : History VoiceState) (l : Line) (ls : List Line) → h ≡ with_lines (own p) (l ∷ []) → AllFit is keypad (own p).reached (suc (length (own p).holds.waits)) ls
      → AllFit is keypad h.reached (length h.holds.waits) ls
  unfolding behind
  fit_on p h l ls e f =
      let n : length ((own p).holds.waits ++ (l ∷ [])) ≡ suc (length (own p).holds.waits) = omega (arith, length-append (own p).holds.waits (l ∷ [])) in
      subst⁻¹ (λ (h : History VoiceState). AllFit is keypad h.reached (length h.holds.waits) ls) e (rw n f)

  pub handed-all : (ls : List Line) (p : Panel) → K p → All (Valid is) ls → All (λ (l : Line). (player_state_of p).plays.ended ≡ false) ls
      → AllFit is keypad (own p).reached (length (own p).holds.waits) ls
      → K (after_all panel p (each handing ls)) × (own (after_all panel p (each handing ls)) ≡ with_lines (own p) ls)
  unfolding each after_all
  handed-all [] p kept ok runs fit =
      (kept, ap (λ (h : PlayerState VoiceState). record { holds = h; reached = (own p).reached; set = (own p).set }) (sym (behind-none (player_state_of p))))
  handed-all (l ∷ ls) p kept ok runs fit =
      let e = one_more 0 none p kept l ok.0 runs.0 fit.0 in
      let q = (after_of p (handing l)).player in
      let ended : (player_state_of q).plays.ended ≡ (player_state_of p).plays.ended = unfold behind in ap (λ (h : History VoiceState). h.holds.plays.ended) e in
      let r = handed-all ls q (hand-kept 0 none p kept l ok.0 runs.0 fit.0) ok.1 (all_map _ _ (λ x u. ended ∙ u) ls runs.1) (fit_on p (own q) l ls e fit.1) in
      (r.0, r.1 ∙ ap (λ (h : History VoiceState). with_lines h ls) e ∙ lines-lines (own p) l ls)

  fit_all : (r : Reached) (ls : List Line) (n : ℕ) → All (Valid is) ls → All (λ (l : Line). too_late r l.when ≡ false) ls → n + length ls ≤ most_lines → AllFit is keypad r n ls
  fit_all r [] n ok early h = tt
  fit_all r (l ∷ ls) n ok early h = (
    record { timed = λ u. absurd (false≢true u); playable = ok.0.playable; early = early.0; room = omega arith },
    fit_all r ls (suc n) ok.1 early.1 (omega arith),
  )

  module _ (st : ℕ → Settings) (xs : List Line) where
    abbrev pub plain : ℕ → PlayerState VoiceState
    plain k = plain_at v start st xs k

    abbrev pub Good : Transition Panel → Type 0
    Good m = AsPlain panel v start st xs m

    pub record Running (k : ℕ) (p : Panel) (rest w : List Line) : Type 0 where
      pub empty : w ≡ []
      pub rest-is : rest ≡ (plain k).waits
      pub early : All (λ (l : Line). too_late (own p).reached l.when ≡ false) rest

    -- before a cycle's lines are handed over: the panel holds what the plain player does, but for the lines that wait; up to the end none waits,
    -- and those not handed over are those that the plain player has left
    pub record Stand (k : ℕ) (p : Panel) (rest : List Line) : Type 0 where
      pub w : List Line
      pub same : player_state_of p ≡ with_waits w (plain k)
      pub running : (plain k).plays.ended ≡ false → Running k p rest w

    -- ---- changes and undos

    no-message : (b : Bool) → ◌≡◌ {A = List NoteMessage} (cond b [] []) []
    no-message b = either_way (λ (x : List NoteMessage). x ≡ []) b refl refl

    nothing-held : (given : List Answer) (h : PlayerState VoiceState) → with_messages (cond (is_zero given) [] []) (behind (taken_of ([] ∷ []) given) h) ≡ h
    unfolding behind with_messages
    nothing-held given h = rw (no_line given, no-message (is_zero given), append-nil h.waits, append-nil h.messages)

    pub record SetStep (k : ℕ) (p : Panel) (rest : List Line) (m : Transition Panel) : Type 0 where
      pub good : Good m
      pub kept : K m.after.player
      pub stand : Stand k m.after.player rest
      pub set : (own m.after.player).set ≡ next_set (own p).set m

    set-step : (k : ℕ) (z : Last) (p : Panel) (rest : List Line) (c : Call) → K p → Stand k p rest → numbered c ≡ false
        → own (after_of p c).player ≡ record { holds = player_state_of p; reached = (own p).reached; set = set_with (own p).set (transition_of panel k z p c) }
        → SetStep k p rest (transition_of panel k z p c)
    set-step k z p rest c kept y n e =
        let held = ap (λ (h : History VoiceState). h.holds) e in
        record {
          good = record {
            answer = λ t. absurd (true≢false (sym t ∙ n));
            block = λ t. absurd (true≢false (sym t ∙ n));
            counts = ap (λ (h : PlayerState VoiceState). h.plays.counts) (held ∙ y.same) ∙ ap (λ (j : ℕ). (plain j).plays.counts) (sym (cond-false _ _ n));
          };
          kept = (went k z p kept c).invariant;
          stand = record {
            w = y.w;
            same = held ∙ y.same;
            running = λ r. let o = y.running r in
                record {
                  empty = o.empty;
                  rest-is = o.rest-is;
                  early = subst⁻¹ (λ (x : Reached). All (λ (l : Line). too_late x l.when ≡ false) rest) (ap (λ (h : History VoiceState). h.reached) e) o.early;
                };
          };
          set = ap (λ (h : History VoiceState). h.set) e ∙ sym (cond-false _ _ n);
        }

    module _ (rest : List Line) (k : ℕ) (z : Last) where
      one_set : (c : Call) → SetsOnly c → (p : Panel) → K p → Stand k p rest → SetStep k p rest (transition_of panel k z p c)
      one_set (submit d handed) s p kept y = absurd s
      one_set (burst bytes area) s p kept y = absurd s
      one_set (keyboard bytes) s p kept y = absurd s
      one_set (cycle b) s p kept y = absurd s
      one_set (change area handed) s p kept y =
          set-step k z p rest (change area handed) kept y refl
          ((went k z p kept (change area handed)).next
          ∙ ap (λ (h : PlayerState VoiceState). record { holds = h; reached = (own p).reached; set = set_with (own p).set (transition_of panel k z p (change area handed)) })
          (nothing-held (after_of p (change area handed)).answers (player_state_of p)))
      one_set (undo area) s p kept y =
          set-step k z p rest (undo area) kept y refl
          ((went k z p kept (undo area)).next
          ∙ ap (λ (h : PlayerState VoiceState). record { holds = h; reached = (own p).reached; set = set_with (own p).set (transition_of panel k z p (undo area)) })
          (nothing-held (after_of p (undo area)).answers (player_state_of p)))

      -- none of them is a cycle
      pub still-there : (c : Call) → SetsOnly c → (p : Panel) (cs : List Call)
          → trace_from panel k z p (c ∷ cs) ≡ transition_of panel k z p c ∷ trace_from panel k z (after_of p c).player cs
      unfolding trace_from
      still-there (submit d handed) s p cs = absurd s
      still-there (burst bytes area) s p cs = absurd s
      still-there (keyboard bytes) s p cs = absurd s
      still-there (cycle b) s p cs = absurd s
      still-there (change area handed) s p cs = refl
      still-there (undo area) s p cs = refl

      pub record AllSet (cs : List Call) (p : Panel) : Type 0 where
        pub good : All Good (trace_from panel k z p cs)
        pub kept : K (after_all panel p cs)
        pub stand : Stand k (after_all panel p cs) rest
        pub agrees : (ms : List (Transition Panel)) → Agree u.chosen st k (own p).set (trace_from panel k z p cs ++ ms)
            → Agree u.chosen st k (own (after_all panel p cs)).set ms

      no-cycle : (c : Call) → SetsOnly c → numbered c ≡ false
      no-cycle (submit d handed) s = absurd s
      no-cycle (burst bytes area) s = absurd s
      no-cycle (keyboard bytes) s = absurd s
      no-cycle (cycle b) s = absurd s
      no-cycle (change area handed) s = refl
      no-cycle (undo area) s = refl

      pub all_set : (cs : List Call) → All SetsOnly cs → (p : Panel) → K p → Stand k p rest → AllSet cs p
      unfolding trace_from after_all
      all_set [] s p kept y = record { good = tt; kept = kept; stand = y; agrees = λ ms a. a }
      all_set (c ∷ cs) s p kept y =
          let m = transition_of panel k z p c in
          let x = one_set c s.0 p kept y in
          let t = still-there c s.0 p cs in
          let o = all_set cs s.1 (after_of p c).player x.kept x.stand in
          record {
            good = subst⁻¹ (All Good) t (x.good, o.good);
            kept = o.kept;
            stand = o.stand;
            agrees = λ ms a. o.agrees ms
                (subst⁻¹ (λ (y : InUse). Agree u.chosen st k y (trace_from panel k z (after_of p c).player cs ++ ms)) x.set
                (subst (λ (j : ℕ). Agree u.chosen st j (next_set (own p).set m) (trace_from panel k z (after_of p c).player cs ++ ms)) (cond-false _ _ (no-cycle c s.0))
                (agree_after u.chosen st (own p).set m (trace_from panel k z (after_of p c).player cs ++ ms)
                (subst (λ (l : List (Transition Panel)). Agree u.chosen st k (own p).set (l ++ ms)) t a))));
          }

    -- ---- a cycle

    module _ (k : ℕ) (few : FewDue v start st xs k) (z : Last) (p : Panel) (rest : List Line) (kept : K p) (y : Stand k p rest) (ok : All (Valid is) rest) where
      abbrev ls : List Line
      ls = offered p rest

      ended_is : (player_state_of p).plays.ended ≡ (plain k).plays.ended
      ended_is = ap (λ (h : PlayerState VoiceState). h.plays.ended) y.same

      position-is : (player_state_of p).plays.position ≡ (plain k).plays.position
      position-is = ap (λ (h : PlayerState VoiceState). h.plays.position) y.same

      offered-none : (plain k).plays.ended ≡ true → ls ≡ []
      unfolding offered
      offered-none e = cond-true _ _ (ended_is ∙ e)

      offered-is : (e : (plain k).plays.ended ≡ false) → ls ≡ filter (is_due (plain k).plays.position) (plain k).waits
      unfolding offered
      offered-is e = cond-false _ _ (ended_is ∙ e) ∙ (λ i. filter (is_due (position-is i)) ((y.running e).rest-is i))

      pub offered-all : (P : Line → Type 0) → All P rest → All P ls
      unfolding offered
      offered-all P h = either_way (All P) (player_state_of p).plays.ended tt (all_filter (is_due (player_state_of p).plays.position) P rest h)

      pub runs-all : All (λ (l : Line). (player_state_of p).plays.ended ≡ false) ls
      runs-all =
          by-test (plain k).plays.ended (λ e. subst⁻¹ (All (λ (l : Line). (player_state_of p).plays.ended ≡ false)) (offered-none e) tt)
          (λ e. all_of _ (λ l. ended_is ∙ e) ls)

      pub all-fits : AllFit is keypad (own p).reached (length (own p).holds.waits) ls
      unfolding due_at
      all-fits =
          by-test (plain k).plays.ended
          (λ e. subst⁻¹ (AllFit is keypad (own p).reached (length (own p).holds.waits)) (offered-none e) tt)
          (λ e. let n : length (own p).holds.waits ≡ 0 = ap (λ (h : PlayerState VoiceState). length h.waits) y.same ∙ ap length (y.running e).empty in
          let m = length-ordered (filter (is_due (plain k).plays.position) (plain k).waits) in
          let o : length ls ≡ length (filter (is_due (plain k).plays.position) (plain k).waits) = ap length (offered-is e) in
          fit_all (own p).reached ls (length (own p).holds.waits) (offered-all _ ok) (offered-all _ (y.running e).early) (omega (arith, few e)))

      same-due : SameDue (plain k) (y.w ++ ls)
      unfolding due_at
      same-due e =
          (λ i. ordered (filter (is_due (plain k).plays.position) ((y.running e).empty i ++ offered-is e i)))
          ∙ ap ordered (filter-twice (is_due (plain k).plays.position) (plain k).waits)

      pub kept-all-of : (P : Line → Type 0) → All P rest → All P (kept_back p rest)
      unfolding kept_back later_than
      kept-all-of P h = either_way (All P) (player_state_of p).plays.ended h (all_filter (λ (l : Line). not (is_due (player_state_of p).plays.position l)) P rest h)

      module _ (b : List ℤ) (long : length b ≡ samples) (q : Panel) (kq : K q) (own_is : own q ≡ with_lines (own p) ls) (set_is : st k ≡ in_force u.chosen (own p).set) where
        abbrev s : Step (load_of u.orchestra).left u.chosen is (stands u is g) k z q (cycle b)
        s = went k z q kq (cycle b)

        abbrev m : Transition Panel
        m = transition_of panel k z q (cycle b)

        abbrev q' : Panel
        q' = (after_of q (cycle b)).player

        pub next-kept : K q'
        next-kept = s.invariant

        pub is-numbered : numbered (cycle b) ≡ true
        is-numbered = eq-eqb (length b) samples long

        pub one_later : cycles_with m ≡ suc k
        one_later = cond-true _ _ is-numbered

        set-q : in_force u.chosen (own q).set ≡ st k
        set-q = ap (λ (h : History VoiceState). in_force u.chosen h.set) own_is ∙ sym set_is

        holds-is : player_state_of q ≡ with_waits (y.w ++ ls) (plain k)
        unfolding behind
        holds-is = ap (λ (h : History VoiceState). h.holds) own_is ∙ ap (behind ls) y.same

        answer-is : answer_of (player_state_of q) ≡ answer_at v start st xs k
        unfolding answer_at
        answer-is = ap answer_of holds-is ∙ answer-same (plain k) (y.w ++ ls) same-due

        answers-are : (after_of q (cycle b)).answers ≡ one (answer_at v start st xs k) 0
        answers-are = s.answer is-numbered ∙ ap (λ (n : ℕ). one n 0) answer-is

        -- it leaves a block only before the end
        not-over : is_zero (after_of q (cycle b)).answers ≡ true → (plain k).plays.ended ≡ false
        unfolding answer_at answer_of
        not-over u =
            by-test (plain k).plays.ended
            (λ e. let n : answer_at v start st xs k ≡ 9 = cond-true _ _ e in
            absurd (false≢true (ap (λ (n : ℕ). eqb n 0) (sym n) ∙ ap is_zero (sym answers-are) ∙ u)))
            (λ e. e)

        block-is : is_zero (after_of q (cycle b)).answers ≡ true → (after_of q (cycle b)).buffers.block ≡ block_at v start st xs k
        unfolding block_at
        block-is u =
            s.block u is-numbered ∙ ap (λ (x : Settings). block_of v x (due_of (player_state_of q)) (player_state_of q).plays) set-q
            ∙ ap (λ (h : PlayerState VoiceState). block_of v (st k) (due_of h) h.plays) holds-is
            ∙ block_same (plain k) (y.w ++ ls) same-due (not-over u) v (st k)

        own-next : own q' ≡ with_cycle v u.chosen (own q)
        own-next = s.next ∙ cond-true _ _ is-numbered

        -- what is set stays
        pub set_next : (own q').set ≡ (own p).set
        set_next = ap (λ (h : History VoiceState). h.set) own-next ∙ ap (λ (h : History VoiceState). h.set) own_is

        holds-next : player_state_of q' ≡ with_waits (left_of (plain k) (y.w ++ ls)) (plain (suc k))
        unfolding plain_at
        holds-next =
            ap (λ (h : History VoiceState). h.holds) own-next ∙ ap (λ (x : Settings). cycled v x (player_state_of q)) set-q
            ∙ ap (cycled v (st k)) holds-is ∙ cycle-same (plain k) (y.w ++ ls) same-due v (st k)

        pub cycle-good : Good m
        cycle-good =
            record {
              answer = λ u. answers-are;
              block = λ u w. block-is w;
              counts = ap (λ (h : PlayerState VoiceState). h.plays.counts) holds-next ∙ ap (λ (n : ℕ). (plain n).plays.counts) (sym one_later);
            }

        -- a cycle after which the piece goes on has played
        went_on : (plain (suc k)).plays.ended ≡ false → ((plain k).plays.ended ≡ false) × (ends_by (due_of (plain k)) (plain k).plays ≡ false)
        unfolding plain_at cycled marked_ended
        went_on h =
            by-test (plain k).plays.ended (λ e. absurd (true≢false (sym e ∙ sym (ap (λ (d : PlayerState VoiceState). d.plays.ended) (cond-true _ _ e)) ∙ h)))
            (λ e. by-test (ends_by (due_of (plain k)) (plain k).plays)
            (λ t. absurd (true≢false (sym (ap (λ (d : PlayerState VoiceState). d.plays.ended) (cond-false _ _ e ∙ cond-true _ _ t)) ∙ h)))
            (λ t. (e, t)))

        kept-is : (plain k).plays.ended ≡ false → kept_back p rest ≡ later_than (plain k).plays.position (plain k).waits
        unfolding kept_back
        kept-is e = cond-false _ _ (ended_is ∙ e) ∙ (λ i. later_than (position-is i) ((y.running e).rest-is i))

        reached-is : answer_at v start st xs k ≡ 0 → (own q').reached ≡ at (plain k).plays.position
        reached-is n =
            ap (λ (h : History VoiceState). h.reached) own-next ∙ cond-true _ _ (ap (λ (n : ℕ). eqb n 0) (answer-is ∙ n)) ∙ ap (λ (h : PlayerState VoiceState). at h.plays.position) holds-is

        pub next-stand : Stand (suc k) q' (kept_back p rest)
        unfolding later_than is_due answer_at answer_of
        next-stand =
            record {
              w = left_of (plain k) (y.w ++ ls);
              same = holds-next;
              running = λ h. let e = went_on h in
                  let left : (a : List Line) → left_of (plain k) a ≡ later_than (plain k).plays.position a = λ a. cond-false _ _ e.0 ∙ cond-false _ _ e.1 in
                  record {
                    empty = left (y.w ++ ls) ∙ (λ i. later_than (plain k).plays.position ((y.running e.0).empty i ++ offered-is e.0 i))
                        ∙ filter-not (is_due (plain k).plays.position) (plain k).waits;
                    rest-is = kept-is e.0 ∙ sym (left (plain k).waits) ∙ sym (unfold plain_at in cycle-waits v (st k) (plain k));
                    early = subst⁻¹ (λ (r : Reached). All (λ (l : Line). too_late r l.when ≡ false) (kept_back p rest)) (reached-is (cond-false _ _ e.0 ∙ cond-false _ _ e.1))
                        (subst⁻¹ (All (λ (l : Line). too_late (at (plain k).plays.position) l.when ≡ false)) (kept-is e.0)
                        (all_map _ _ (λ l u. not_late (plain k).plays.position l.when u) (later_than (plain k).plays.position (plain k).waits)
                        (filter-holds (λ (l : Line). not (is_due (plain k).plays.position l)) (plain k).waits)));
                  };
            }
