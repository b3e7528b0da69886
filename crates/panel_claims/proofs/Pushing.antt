-- Lines on a queue: those that fit go in, and the first that does not gives its number.
use mathlib.Core.Path.{◌≡◌, refl, sym, ap, ◌∙◌}
use mathlib.Core.Bool.{Bool, true, false, cond}
use mathlib.Core.List.{List, [], ◌∷◌, ◌++◌}
use Prim.Native.Nat.{ℕ, suc, ◌+◌, ◌≤◌, ◌<◌}
use native.Mathlib.Omega.{arith}
use lib.ListN.{length, length-take, length-append}
use Rattle.base_answer.specs.Numbers.{number_of, is_taken}
use Rattle.base_answer.specs.declared.Answer.TheVariants as answer
use Rattle.score_line.specs.declared.Line.{Line}
use Rattle.text_format.specs.inside.Reading.{lines}
use Rattle.orchestra_syntax.specs.Tree.{Instrument}
use Rattle.voices_resolved.proofs.Lines.{fields-tree}
use Rattle.code_program.specs.InstrumentTable.{field_count_in}
use Rattle.player_model.specs.Calls.{Entrance, must_be_timed, has_time, Answer, one}
use Rattle.player_model.specs.History.{Reached, nowhere, at}
use Rattle.player_model.proofs.Lists.{cond-true, cond-false}
use Rattle.player_queue.specs.Waiting.{is_late}
use Rattle.player_queue.specs.Admission.{unfit_event, pushed, admitted, waiting_in}
use Rattle.std.specs.Prelude.{Option}
use Rattle.player_queue.specs.declared.Queue.{Queue}
use Rattle.base_answer.specs.declared.Answered.{Answered}
use Rattle.player_queue.proofs.Admission.{admit-unfit, admit-late, admit-taken, admit-full, waiting-pushed, length-pushed}
use Rattle.entrance_admission.specs.Submission.{line_admitted, admitted_all}
use Rattle.base_answer.specs.declared.AnsweredLine.{AnsweredLine}
use Rattle.panel.specs.State.{table_of}
use Rattle.code_program.specs.declared.Program.{Program}
use Rattle.code_loader_claims.specs.Claims.{StandsFor}
use Rattle.panel_claims.specs.Verdict.{Playable, too_late, Fits, AllFit, Faulty, untimed, unplayable, late, full}
use Rattle.panel_claims.proofs.Fitting.{Judged, judged-no, judged-yes, event-judged, late-same, time-passes, time-fails}

-- the answer of pushed lines
abbrev pub told : AnsweredLine Queue → List Answer
told r = one (number_of r.answer) r.line

-- ---- one line on a queue

module _ (is : List Instrument) (g : Program) (r : StandsFor is g) (d : Entrance) (reached : Reached) where
  -- a queue with so many lines
  pub record Has (q : Queue) (n : ℕ) : Type 0 where
    pub long : length q.lines ≡ 64
    pub many : length (waiting_in q) ≡ n
    pub is-reached : cond q.ran (at q.last) nowhere ≡ reached

  module _ (q : Queue) (n : ℕ) (h : Has q n) (l : Line) where
    f : Option ℕ
    f = field_count_in (table_of g) l.event

    judged : Judged (Playable is l.count l.event) (unfit_event f l.count l.event)
    unfolding f
    judged =
        rw (fields-tree is (table_of g) g.code g.vals r l.event) (event-judged is l.count l.event)

    on-time : (b : Bool) → too_late reached l.when ≡ b → is_late q.ran q.last l.when ≡ b
    on-time b e = sym (late-same q.ran q.last l.when) ∙ ap (λ (x : Reached). too_late x l.when) h.is-reached ∙ e

    room : n < 64 → q.count < 64
    room lt = omega (arith, length-take q.count q.lines)

    no-room : 64 ≤ n → 64 ≤ q.count
    no-room le = omega (arith, length-take q.count q.lines)

    timely : (must_be_timed d ≡ true → has_time l.when ≡ true) → line_admitted (must_be_timed d) (table_of g) q l ≡ admitted q l f
    unfolding line_admitted f
    timely t = cond-false _ _ (time-passes (must_be_timed d) (has_time l.when) t)

    fits-admits : Fits is d reached n l → line_admitted (must_be_timed d) (table_of g) q l ≡ record { left = pushed q l; answer = answer.Taken }
    fits-admits t = timely t.timed ∙ admit-taken q l f (judged-yes judged t.playable) (on-time false t.early) (room t.room)

    fits-has : Fits is d reached n l → Has (pushed q l) (suc n)
    unfolding pushed
    fits-has t =
        record {
          long = length-pushed q l f ∙ h.long;
          many = ap length (waiting-pushed q l f h.long (room t.room)) ∙ length-append (waiting_in q) (l ∷ []) ∙ omega (arith, h.many);
          is-reached = h.is-reached;
        }

    told-as : {a : Answered Queue} → line_admitted (must_be_timed d) (table_of g) q l ≡ a
        → (number_of (line_admitted (must_be_timed d) (table_of g) q l).answer ≡ number_of a.answer)
        × (is_taken (line_admitted (must_be_timed d) (table_of g) q l).answer ≡ is_taken a.answer)
    told-as e = (ap (λ (a : Answered Queue). number_of a.answer) e, ap (λ (a : Answered Queue). is_taken a.answer) e)

    faulty-admits : (number : ℕ) → Faulty is d reached n l number
        → (number_of (line_admitted (must_be_timed d) (table_of g) q l).answer ≡ number) × (is_taken (line_admitted (must_be_timed d) (table_of g) q l).answer ≡ false)
    unfolding line_admitted f
    faulty-admits number (untimed m t) =
        told-as {a = record { left = q; answer = answer.NoTime }} (cond-true _ _ (time-fails (must_be_timed d) (has_time l.when) m t))
    faulty-admits number (unplayable t u) = told-as (timely t ∙ admit-unfit q l f (judged-no judged u))
    faulty-admits number (late t u w) = told-as (timely t ∙ admit-late q l f (judged-yes judged u) (on-time true w))
    faulty-admits number (full t u w x) = told-as (timely t ∙ admit-full q l f (judged-yes judged u) (on-time false w) (no-room x))

  -- ---- all the lines of a call

  module _ (old : Queue) where
    abbrev pushes : Queue → ℕ → List Line → AnsweredLine Queue
    pushes q i ls = admitted_all (must_be_timed d) (table_of g) old q i ls

    step : (q : Queue) (n i : ℕ) (l : Line) (ls : List Line) → Has q n → Fits is d reached n l → pushes q i (l ∷ ls) ≡ pushes (pushed q l) (i + 1) ls
    unfolding admitted_all
    step q n i l ls h t = rw (fits-admits q n h l t)

    pub all_fit : (ls : List Line) (q : Queue) (n i : ℕ) → Has q n → AllFit is d reached n ls → told (pushes q i ls) ≡ one 0 0
    unfolding admitted_all
    all_fit [] q n i h t = refl
    all_fit (l ∷ ls) q n i h t = ap told (step q n i l ls h t.0) ∙ all_fit ls (pushed q l) (suc n) (i + 1) (fits-has q n h l t.0) t.1

    pub first-faulty : (before : List Line) (l : Line) (later : List Line) (number : ℕ) (q : Queue) (n i : ℕ) → Has q n → AllFit is d reached n before
        → Faulty is d reached (n + length before) l number → told (pushes q i (before ++ (l ∷ later))) ≡ one number (i + length before)
    unfolding admitted_all
    first-faulty [] l later number q n i h t f =
        let same : n + 0 ≡ n = omega arith in
        let x = faulty-admits q n h l number (rw same at f) in
        let i-same : i ≡ i + 0 = omega arith in
        ap told (cond-false _ _ x.1) ∙ (λ j. one (x.0 j) (i-same j))
    first-faulty (b ∷ before) l later number q n i h t f =
        let same : n + suc (length before) ≡ suc n + length before = omega arith in
        let i-same : i + 1 + length before ≡ i + suc (length before) = omega arith in
        ap told (step q n i b (before ++ (l ∷ later)) h t.0)
        ∙ first-faulty before l later number (pushed q b) (suc n) (i + 1) (fits-has q n h b t.0) t.1
        (rw same at f) ∙ ap (one number) i-same
