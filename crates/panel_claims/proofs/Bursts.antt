-- What a burst leaves, of every panel: its units as if they came singly.
use mathlib.Core.Path.{◌≡◌, refl, sym, ap, ◌∙◌, subst⁻¹}
use mathlib.Core.Bool.{Bool, true, false, cond, true≢false}
use mathlib.Core.List.{List, [], ◌∷◌, ◌++◌, append-nil}
use Prim.Native.Nat.{ℕ, suc, ◌≤◌, ◌<◌}
use lib.Dec.{eqb, leb}
use lib.ListN.{length, take, drop}
use lib.Seq.{take-append_seam}
use borrow.Author.Tests.{le-leb, lt-leb, leb-true, leb-false}
use Rattle.base_answer.specs.Numbers.{number_of, is_taken}
use Rattle.base_answer.specs.declared.Answer as kind
use Rattle.base_answer.specs.declared.Answer.TheVariants as answer
use Rattle.score_bursts.specs.Bursts.{Burst, units, fault}
use Rattle.score_bursts.specs.inside.Reading.{burst_of}
use Rattle.score_bursts.proofs.Meaning.{Kind, is-units, is_cut, is-too-many, every-kind, one-parse}
use Rattle.score_line.specs.declared.Line.{Line}
use Rattle.score_line.specs.declared.LineRead.{LineRead}
use Rattle.score_reader.specs.Score.{unit_of}
use Rattle.base_bitstream.specs.Bits.{bits_of}
use Rattle.player_model.specs.Lists.{each, over}
use Rattle.player_model.specs.Calls.{unit, must_be_timed, single, reads, submit, burst, Answer, one, only_answers, After, taken_of, after_all, answers_all}
use Rattle.player_model.proofs.Lists.{by-test, either_way}
use Rattle.player_queue.specs.Admission.{waiting_in}
use Rattle.player_queue.specs.declared.Queue.{Queue}
use Rattle.code_program.specs.declared.Instrument.{Instrument}
use Rattle.entrance_admission.specs.Submission.{line_admitted, admitted_all, submitted_in}
use Rattle.base_answer.specs.declared.AnsweredLine.{AnsweredLine}
use Rattle.entrance_burst.specs.Singly.{singly_in, burst_submitted_in, area_in}
use Rattle.player_calls.specs.OnState as on_state
use Rattle.player_calls.specs.OnState.{burst_submitted_of}
use Rattle.panel.specs.State.{instruments_of, program_of, table_of, with_state, with_queue, entrance_on}
use Rattle.panel.specs.Calls.{submitted_of, submit_of, receive_of, area_after}
use Rattle.panel.specs.declared.Core.{Core}
use Rattle.panel.specs.declared.Panel.{Panel}
use Rattle.panel_claims.specs.Claims.{unit_answer, core_after, after_of, panel, unchanged, as_units, BurstAsUnits, answered_units, AnsweredUnits}
use Rattle.panel_claims.proofs.Entrances.{Behind, behind_more, Brings, takes, refuses, brings}

-- ---- a unit's answer is about its only line

abbrev pub at_unit : Panel → List ℕ → AnsweredLine Panel
at_unit p u = entrance_on p (submit_of p.core unit u)

alone-line : (ended : Bool) (table : List Instrument) (q : Queue) (r : LineRead) → (submitted_in ended false table q (single r)).line ≡ 0
unfolding submitted_in admitted_all
alone-line true table q r = refl
alone-line false table q r =
    by-test (is_taken r.answer)
    (λ e. rw e (either_way (λ (x : AnsweredLine Queue). x.line ≡ 0) (is_taken (line_admitted false table q r.line).answer) refl refl)) (λ e. rw e)

pub unit-line : (p : Panel) (u : List ℕ) → (at_unit p u).line ≡ 0
unfolding submit_of submitted_of on_state.submitted_of
unit-line p u = alone-line p.core.state.playing.ended (table_of (program_of p)) p.core.state.queue (unit_of (bits_of u))

-- ---- units that come singly, by the public unit call: the panel after them, and the number of each one's answer

pub record Singly : Type 0 where
  pub panel : Panel
  pub numbers : List ℕ

unfoldable pub singly : Panel → List (List ℕ) → Singly
singly p [] = record { panel = p; numbers = [] }
singly p (u ∷ us) =
    let r = at_unit p u in
    let rest = singly r.left us in
    record { panel = rest.panel; numbers = number_of r.answer ∷ rest.numbers }

-- they change nothing but the waiting lines
abbrev in-turn : Panel → List (List ℕ) → Singly
in-turn p us =
    let r = singly_in p.core.state.playing.ended (table_of (program_of p)) p.core.state.queue us in
    record { panel = with_queue p r.queue; numbers = r.numbers }

singly-is : (us : List (List ℕ)) (p : Panel) → in-turn p us ≡ singly p us
unfolding singly singly_in submit_of submitted_of on_state.submitted_of with_queue
singly-is [] p = refl
singly-is (u ∷ us) p =
    let r = submitted_in p.core.state.playing.ended (must_be_timed unit) (table_of (program_of p)) p.core.state.queue (reads unit u) in
    ap (λ (x : Singly). record { panel = x.panel; numbers = number_of r.answer ∷ x.numbers }) (singly-is us (with_queue p r.left))

pub singly-player : (us : List (List ℕ)) (p : Panel) → (singly p us).panel ≡ after_all panel p (each (submit unit) us)
unfolding singly each after_all after_of core_after
singly-player [] p = refl
singly-player (u ∷ us) p = singly-player us (at_unit p u).left

pub singly-answers : (us : List (List ℕ)) (p : Panel) → each unit_answer (singly p us).numbers ≡ answers_all panel p (each (submit unit) us)
unfolding singly each answers_all after_of core_after
singly-answers [] p = refl
singly-answers (u ∷ us) p =
    λ i. record { number = number_of (at_unit p u).answer; line = sym (unit-line p u) i } ∷ singly-answers us (at_unit p u).left i

numbers-back : (ns : List ℕ) → each (λ (a : Answer). a.number) (each unit_answer ns) ≡ ns
unfolding each
numbers-back [] = refl
numbers-back (n ∷ ns) = ap (λ (l : List ℕ). n ∷ l) (numbers-back ns)

pub length-singly : (us : List (List ℕ)) (p : Panel) → length (singly p us).numbers ≡ length us
unfolding singly
length-singly [] p = refl
length-singly (u ∷ us) p = ap suc (length-singly us (at_unit p u).left)

-- ---- what the call leaves, by what its bytes are

pub left : Panel → List ℕ → Burst → After Panel
left p area b =
    let r = burst_submitted_of (table_of (program_of p)) p.core.state (length area) b in
    let a = area_in p.core.state.playing.ended (table_of (program_of p)) p.core.state.queue area b in
    record { player = with_state p r.left; answers = one (number_of r.answer) 0 ++ each unit_answer (take r.units a); buffers = only_answers a }

pub left_is : (p : Panel) (bytes area : List ℕ) (b : Burst) → burst_of bytes ≡ b → after_of p (burst bytes area) ≡ left p area b
unfolding after_of core_after receive_of area_after left
left_is p bytes area b e = ap (left p area) e

pub left-fault : (p : Panel) (bytes area : List ℕ) (a : kind.Answer) → left p area (fault a) ≡ unchanged p (burst bytes area) (number_of a)
unfolding left burst_submitted_of burst_submitted_in area_in each
left-fault p bytes area a = refl

-- units with a place for each answer
abbrev pub taken-burst : Panel → List ℕ → List (List ℕ) → After Panel
taken-burst p area us =
    record { player = (singly p us).panel; answers = one 0 0 ++ each unit_answer (singly p us).numbers; buffers = only_answers (over (singly p us).numbers area) }

module _ (p : Panel) (area : List ℕ) (us : List (List ℕ)) where
  pub left-short : (bytes : List ℕ) → length area < length us → left p area (units us) ≡ unchanged p (burst bytes area) 8
  unfolding left burst_submitted_of burst_submitted_in area_in each
  left-short bytes h = rw (lt-leb (length us) (length area) h)

  pub left-taken : length us ≤ length area → left p area (units us) ≡ taken-burst p area us
  unfolding left burst_submitted_of burst_submitted_in area_in with_queue
  left-taken h =
      let ns = (singly p us).numbers in
      let first : take (length us) (over ns area) ≡ ns = cc (length-singly us p, take-append_seam ns (drop (length ns) area)) in
      rw (le-leb (length us) (length area) h)
      (ap (λ (x : Singly). record {
        player = x.panel;
        answers = one 0 0 ++ each unit_answer (take (length us) (over x.numbers area));
        buffers = only_answers (over x.numbers area);
      }) (singly-is us p)
      ∙ ap (λ (l : List ℕ). record { player = (singly p us).panel; answers = one 0 0 ++ each unit_answer l; buffers = only_answers (over ns area) }) first)

  units-singly : taken-burst p area us ≡ as_units p area us
  units-singly =
      λ i. record {
        player = singly-player us p i;
        answers = one 0 0 ++ singly-answers us p i;
        buffers = only_answers (over ((sym (numbers-back (singly p us).numbers) ∙ ap (each (λ (a : Answer). a.number)) (singly-answers us p)) i) area);
      }

pub burst-as-units : BurstAsUnits
unfolding BurstAsUnits
burst-as-units p bytes area =
    record {
      cut = λ s. left_is p bytes area _ (one-parse bytes _ s) ∙ left-fault p bytes area answer.CutShort;
      too_long = λ s. left_is p bytes area _ (one-parse bytes _ s) ∙ left-fault p bytes area answer.TooManyValues;
      no_room = λ us s h. left_is p bytes area _ (one-parse bytes _ s) ∙ left-short p area us bytes h;
      taken = λ us s h. left_is p bytes area _ (one-parse bytes _ s) ∙ left-taken p area us h ∙ units-singly p area us;
    }

-- the number of answered units
units_in : Core → List ℕ → Burst → ℕ
units_in c area b = (burst_submitted_of (instruments_of c) c.state (length area) b).units

units-are : (c : Core) (bytes area : List ℕ) (b : Burst) → burst_of bytes ≡ b → answered_units c bytes area ≡ units_in c area b
unfolding receive_of units_in
units-are c bytes area b e = ap (units_in c area) e

units-none : (c : Core) (area : List ℕ) (a : kind.Answer) → units_in c area (fault a) ≡ 0
unfolding units_in burst_submitted_of burst_submitted_in
units-none c area a = refl

module _ (c : Core) (area : List ℕ) (us : List (List ℕ)) where
  units-short : length area < length us → units_in c area (units us) ≡ 0
  unfolding units_in burst_submitted_of burst_submitted_in
  units-short h = rw (units_in, lt-leb (length us) (length area) h)

  units-all : length us ≤ length area → units_in c area (units us) ≡ length us
  unfolding units_in burst_submitted_of burst_submitted_in
  units-all h = rw (units_in, le-leb (length us) (length area) h)

pub answered-units : AnsweredUnits
unfolding AnsweredUnits
answered-units c bytes area =
    record {
      cut = λ s. units-are c bytes area _ (one-parse bytes _ s) ∙ units-none c area answer.CutShort;
      too_long = λ s. units-are c bytes area _ (one-parse bytes _ s) ∙ units-none c area answer.TooManyValues;
      no_room = λ us s h. units-are c bytes area _ (one-parse bytes _ s) ∙ units-short c area us h;
      taken = λ us s h. units-are c bytes area _ (one-parse bytes _ s) ∙ units-all c area us h;
    }

-- a burst is taken or refused
pub data Receives (p : Panel) (bytes area : List ℕ) (a : After Panel) : Type 0 where
  received : (us : List (List ℕ)) → burst_of bytes ≡ units us → a ≡ taken-burst p area us → Receives p bytes area a
  unreceived : (n : ℕ) → eqb n 0 ≡ false → a ≡ unchanged p (burst bytes area) n → Receives p bytes area a

pub receives : (p : Panel) (bytes area : List ℕ) → Receives p bytes area (after_of p (burst bytes area))
receives p bytes area = go (every-kind bytes) refl
  where
    go : {b : Burst} → Kind b → burst_of bytes ≡ b → Receives p bytes area (after_of p (burst bytes area))
    go (is-units us) q =
        by-test (leb (length us) (length area))
        (λ e. received us q (left_is p bytes area (units us) q ∙ left-taken p area us (leb-true (length us) (length area) e)))
        (λ e. unreceived 8 refl (left_is p bytes area (units us) q ∙ left-short p area us bytes (leb-false (length us) (length area) e)))
    go is_cut q = unreceived 1 refl (left_is p bytes area _ q ∙ left-fault p bytes area answer.CutShort)
    go is-too-many q = unreceived 5 refl (left_is p bytes area _ q ∙ left-fault p bytes area answer.TooManyValues)

-- ---- the lines taken of units that come singly wait behind the others, and nothing else of the panel changes

-- the lines of units with these answers' numbers
abbrev pub taken-of : List (List ℕ) → List ℕ → List Line
taken-of us ns = taken_of (each (λ (u : List ℕ). (reads unit u).lines) us) (each unit_answer ns)

pub record Leaves (p : Panel) (taken : List Line) (p' : Panel) : Type 0 where
  pub queue : Queue
  pub same : p' ≡ with_queue p queue
  pub behind : Behind p.core.state.queue taken queue
  pub none : p.core.state.playing.ended ≡ true → taken ≡ []

unfoldable pub first-number : List Answer → ℕ
first-number [] = 0
first-number (a ∷ given) = a.number

pub leaves : (us : List (List ℕ)) (p : Panel) → length p.core.state.queue.lines ≡ 64 → Leaves p (taken-of us (singly p us).numbers) (singly p us).panel
unfolding singly each with_queue after_of core_after first-number
leaves [] p long =
    record { queue = p.core.state.queue; same = refl; behind = record { waits = sym (append-nil (waiting_in p.core.state.queue)); long = long; ran = refl; last = refl; counted = λ e. e }; none = λ e. refl }
leaves (u ∷ us) p long = go (brings p unit u) (λ q h. leaves us q h)
  where
    Rest : After Panel → Type 0
    Rest a = Leaves p (cond (eqb (first-number a.answers) 0) (reads unit u).lines [] ++ taken-of us (singly a.player us).numbers) (singly a.player us).panel

    go : Brings p (reads unit u).lines (after_of p (submit unit u))
        → ((q : Panel) → length q.core.state.queue.lines ≡ 64 → Leaves q (taken-of us (singly q us).numbers) (singly q us).panel) → Rest (after_of p (submit unit u))
    go (takes l q e f x) rec =
        let b = f long in
        let y = rec (with_queue p q) b.long in
        subst⁻¹ Rest x
        (record { queue = y.queue; same = y.same; behind = behind_more b y.behind; none = λ t. absurd (true≢false (sym t ∙ e)) })
    go (refuses n l z x) rec =
        subst⁻¹ Rest x (rw z (rec p long))
