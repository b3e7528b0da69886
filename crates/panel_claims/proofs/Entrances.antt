-- What a call at an entrance leaves, of every panel.
use mathlib.Core.Path.{◌≡◌, refl, sym, ap, ◌∙◌}
use mathlib.Core.Bool.{Bool, true, false, not, ◌&&◌, true≢false, false≢true}
use mathlib.Core.List.{List, [], ◌∷◌, ◌++◌, append_assoc, append-nil}
use Prim.Native.Nat.{ℕ, ◌+◌}
use native.Mathlib.Omega.{arith}
use lib.ListN.{length, length-append}
use lib.Dec.{eqb}
use borrow.Author.Tests.{eqb-true}
use Rattle.base_answer.specs.Numbers.{number_of, is_taken}
use Rattle.score_line.specs.declared.Line.{Line}
use Rattle.score_reader.specs.Score.{Score}
use Rattle.player_queue.specs.Admission.{admitted, pushed, waiting_in}
use Rattle.player_queue.specs.declared.Queue.{Queue}
use Rattle.base_answer.specs.declared.Answered.{Answered}
use Rattle.std.specs.Prelude.{Option}
use Rattle.player_queue.proofs.Admission.{taken-pushed, taken-room, waiting-pushed, length-pushed}
use Rattle.code_program.specs.InstrumentTable.{field_count_in}
use Rattle.code_program.specs.declared.Instrument.{Instrument}
use Rattle.player_model.specs.Calls.{Entrance, must_be_timed, has_time, reads, submit, one, no_buffers, After}
use Rattle.player_model.proofs.Lists.{by-test, either_way}
use Rattle.entrance_admission.specs.Submission.{line_admitted, admitted_all, submitted_in}
use Rattle.base_answer.specs.declared.AnsweredLine.{AnsweredLine}
use Rattle.player_calls.specs.OnState as on_state
use Rattle.panel.specs.State.{program_of, table_of, with_queue}
use Rattle.panel.specs.Calls.{submitted_of, submit_of}
use Rattle.panel.specs.declared.Panel.{Panel}
use Rattle.panel_claims.specs.Claims.{core_after, after_of, Takes, TakenCalls}

-- ---- lines behind those that wait

pub record Behind (q : Queue) (ls : List Line) (q' : Queue) : Type 0 where
  pub waits : waiting_in q' ≡ waiting_in q ++ ls
  pub long : length q'.lines ≡ 64
  pub ran : q'.ran ≡ q.ran
  pub last : q'.last ≡ q.last
  -- the count is how many wait
  pub counted : q.count ≡ length (waiting_in q) → q'.count ≡ length (waiting_in q')

pub behind_more : {q : Queue} {ls ms : List Line} {q' q'' : Queue} → Behind q ls q' → Behind q' ms q'' → Behind q (ls ++ ms) q''
behind_more {q} {ls} {ms} x y =
    record { waits = cc (x.waits, y.waits, append_assoc (waiting_in q) ls ms); long = y.long; ran = y.ran ∙ x.ran; last = y.last ∙ x.last; counted = λ e. y.counted (x.counted e) }

module _ (timed : Bool) (table : List Instrument) where
  admits : (q : Queue) (l : Line) (f : Option ℕ) → length q.lines ≡ 64 → is_taken (admitted q l f).answer ≡ true → Behind q (l ∷ []) (admitted q l f).left
  unfolding pushed
  admits q l f long t =
      let waits = waiting-pushed q l f long (taken-room q l f t) in
      rw (taken-pushed q l f t)
      (record {
        waits = waits;
        long = length-pushed q l f ∙ long;
        ran = refl;
        last = refl;
        counted = λ e. omega (arith, e, ap length waits, length-append (waiting_in q) (l ∷ []));
      })

  line-took : (q : Queue) (l : Line) → length q.lines ≡ 64 → is_taken (line_admitted timed table q l).answer ≡ true → Behind q (l ∷ []) (line_admitted timed table q l).left
  unfolding line_admitted
  line-took q l long =
      either_way (λ (a : Answered Queue). is_taken a.answer ≡ true → Behind q (l ∷ []) a.left) (timed && not (has_time l.when))
      (λ t. absurd (false≢true t)) (admits q l (field_count_in table l.event) long)

  -- what pushed lines leave: they all wait behind the others, or the old queue stays
  pub data Went (old q : Queue) (ls : List Line) (r : AnsweredLine Queue) : Type 0 where
    in_all : is_taken r.answer ≡ true → (length q.lines ≡ 64 → Behind q ls r.left) → Went old q ls r
    in-none : is_taken r.answer ≡ false → r.left ≡ old → Went old q ls r

  all_lines : (old q : Queue) (i : ℕ) (ls : List Line) → Went old q ls (admitted_all timed table old q i ls)
  unfolding admitted_all
  all_lines old q i [] = in_all refl (λ long. record { waits = sym (append-nil (waiting_in q)); long = long; ran = refl; last = refl; counted = λ e. e })
  all_lines old q i (l ∷ ls) =
      let a = line_admitted timed table q l in
      by-test (is_taken a.answer) (λ e. rw e (go a (λ long. line-took q l long e) (all_lines old a.left (i + 1) ls))) (λ e. rw e (in-none e refl))
    where
      go : (a : Answered Queue) {r : AnsweredLine Queue} → (length q.lines ≡ 64 → Behind q (l ∷ []) a.left) → Went old a.left ls r → Went old q (l ∷ ls) r
      go a first (in_all t rest) = in_all t (λ long. behind_more (first long) (rest (first long).long))
      go a first (in-none t s) = in-none t s

  pub went : (q : Queue) (s : Score) → Went q q s.lines (submitted_in false timed table q s)
  unfolding submitted_in
  went q s = by-test (is_taken s.answer) (λ e. rw e (all_lines q q 0 s.lines)) (λ e. rw e (in-none e refl))

-- ---- what an entrance leaves: the lines read wait behind the others, or it is refused and the panel is as it was

pub data Brings (p : Panel) (ls : List Line) (a : After Panel) : Type 0 where
  takes : (l : ℕ) (q : Queue) → p.core.state.playing.ended ≡ false → (length p.core.state.queue.lines ≡ 64 → Behind p.core.state.queue ls q)
      → a ≡ record { player = with_queue p q; answers = one 0 l; buffers = no_buffers } → Brings p ls a
  refuses : (n l : ℕ) → eqb n 0 ≡ false → a ≡ record { player = p; answers = one n l; buffers = no_buffers } → Brings p ls a

pub brings : (p : Panel) (d : Entrance) (handed : List ℕ) → Brings p (reads d handed).lines (after_of p (submit d handed))
unfolding after_of core_after submit_of submitted_of on_state.submitted_of submitted_in with_queue
brings p d handed = go p.core.state.playing.ended refl
  where
    left : AnsweredLine Queue → After Panel
    left r = record { player = with_queue p r.left; answers = one (number_of r.answer) r.line; buffers = no_buffers }

    by_lines : p.core.state.playing.ended ≡ false → (r : AnsweredLine Queue) → Went (must_be_timed d) (table_of (program_of p)) p.core.state.queue p.core.state.queue (reads d handed).lines r
        → Brings p (reads d handed).lines (left r)
    by_lines e r (in_all t f) = takes r.line r.left e f (λ i. record { player = with_queue p r.left; answers = one (eqb-true (number_of r.answer) 0 t i) r.line; buffers = no_buffers })
    by_lines e r (in-none t s) = refuses (number_of r.answer) r.line t (λ i. record { player = with_queue p (s i); answers = one (number_of r.answer) r.line; buffers = no_buffers })

    go : (b : Bool) → p.core.state.playing.ended ≡ b
        → Brings p (reads d handed).lines (left (submitted_in b (must_be_timed d) (table_of (program_of p)) p.core.state.queue (reads d handed)))
    go true e = refuses 9 0 refl refl
    go false e =
        by_lines e (submitted_in false (must_be_timed d) (table_of (program_of p)) p.core.state.queue (reads d handed))
        (went (must_be_timed d) (table_of (program_of p)) p.core.state.queue (reads d handed))

pub taken-calls : TakenCalls
unfolding TakenCalls
taken-calls p d handed long t = go (brings p d handed)
  where
    go : Brings p (reads d handed).lines (after_of p (submit d handed)) → Takes p (reads d handed).lines (after_of p (submit d handed)).player
    go (takes l q e f x) = let b = f long in record { queue = q; left = cc; waits = b.waits; ran = b.ran; last = b.last }
    go (refuses n l z x) = absurd (true≢false (cc))
