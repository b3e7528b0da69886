-- One timed line by any entrance: the same answer and the same panel.
use mathlib.Core.Path.{◌≡◌, refl, sym, ap, ◌∙◌, subst⁻¹}
use mathlib.Core.Bool.{Bool, true, false, not, cond}
use mathlib.Core.List.{List, [], ◌∷◌}
use Prim.Native.Nat.{ℕ}
use Rattle.base_answer.specs.Numbers.{number_of}
use Rattle.base_answer.specs.declared.Answer.TheVariants as answer
use Rattle.score_line.specs.declared.Line.{Line}
use Rattle.player_queue.specs.declared.Queue.{Queue}
use Rattle.code_program.specs.declared.Instrument.{Instrument}
use Rattle.player_model.specs.Lists.{each}
use Rattle.player_model.specs.Calls.{Entrance, unit, must_be_timed, has_time, reads, Call, submit, burst, keyboard, cycle, change, undo, After, after_all, answers_all}
use Rattle.player_model.proofs.Lists.{cond-false}
use Rattle.entrance_admission.specs.Submission.{line_admitted, admitted_all, submitted_in}
use Rattle.base_answer.specs.declared.AnsweredLine.{AnsweredLine}
use Rattle.player_calls.specs.OnState as on_state
use Rattle.panel.specs.State.{program_of, table_of, with_queue}
use Rattle.panel.specs.Calls.{submitted_of, submit_of}
use Rattle.panel.specs.declared.Panel.{Panel}
use Rattle.panel_claims.specs.Claims.{core_after, after_of, as_units, BurstAsUnits, ReadsAlone, last_answer, EntrancesAlike}
use Rattle.panel_claims.proofs.Bursts.{burst-as-units}

-- that an entrance asks for a time changes nothing for a line that has one
line-alike : (timed : Bool) (table : List Instrument) (q : Queue) (l : Line) → has_time l.when ≡ true → line_admitted timed table q l ≡ line_admitted false table q l
unfolding line_admitted
line-alike true table q l h = cond-false _ _ (ap not h)
line-alike false table q l h = refl

-- a timed line into the waiting lines, whoever reads it
entered : Panel → Line → AnsweredLine Queue
entered p l =
    cond p.core.state.playing.ended (record { left = p.core.state.queue; answer = answer.Ended; line = 0 })
    (admitted_all false (table_of (program_of p)) p.core.state.queue p.core.state.queue 0 (l ∷ []))

by-entrance : (p : Panel) (d : Entrance) (a : List ℕ) (l : Line) → has_time l.when ≡ true → (reads d a).answer ≡ answer.Taken → (reads d a).lines ≡ l ∷ []
    → submitted_in p.core.state.playing.ended (must_be_timed d) (table_of (program_of p)) p.core.state.queue (reads d a) ≡ entered p l
unfolding submitted_in admitted_all entered
by-entrance p d a l h t q = rw (t, q, line-alike (must_be_timed d) (table_of (program_of p)) p.core.state.queue l h)

-- what every entrance leaves that reads it alone
record Enters (p : Panel) (l : Line) (a : After Panel) : Type 0 where
  told : last_answer a.answers ≡ record { number = number_of (entered p l).answer; line = (entered p l).line }
  left : a.player ≡ with_queue p (entered p l).left

bring-enters : (p : Panel) (d : Entrance) (handed : List ℕ) (l : Line) → has_time l.when ≡ true → (reads d handed).answer ≡ answer.Taken → (reads d handed).lines ≡ l ∷ []
    → Enters p l (after_of p (submit d handed))
unfolding after_of core_after submit_of submitted_of on_state.submitted_of with_queue
bring-enters p d handed l h t q =
    let e = by-entrance p d handed l h t q in
    record { told = ap (λ (x : AnsweredLine Queue). record { number = number_of x.answer; line = x.line }) e; left = ap (λ (x : AnsweredLine Queue). with_queue p x.left) e }

-- of a burst of one unit, what its unit leaves
one_unit : (p : Panel) (u : List ℕ) (area : List ℕ) (l : Line) → Enters p l (after_of p (submit unit u)) → Enters p l (as_units p area (u ∷ []))
unfolding after_of core_after each after_all answers_all
one_unit p u area l x = record { told = x.told; left = x.left }

burst-enters : (p : Panel) (bytes area : List ℕ) (l : Line) → has_time l.when ≡ true → ReadsAlone (burst bytes area) l → Enters p l (after_of p (burst bytes area))
unfolding BurstAsUnits
burst-enters p bytes area l h r =
    subst⁻¹ (Enters p l) ((burst-as-units p bytes area).taken (r.0 ∷ []) r.1 r.2) (one_unit p r.0 area l (bring-enters p unit r.0 l h r.3 r.4))

enters : (p : Panel) (c : Call) (l : Line) → has_time l.when ≡ true → ReadsAlone c l → Enters p l (after_of p c)
enters p (submit d handed) l h r = bring-enters p d handed l h r.0 r.1
enters p (burst bytes area) l h r = burst-enters p bytes area l h r
enters p (keyboard bytes) l h r = absurd r
enters p (cycle b) l h r = absurd r
enters p (change area handed) l h r = absurd r
enters p (undo area) l h r = absurd r

pub entrances-alike : EntrancesAlike
unfolding EntrancesAlike
entrances-alike p c d l h r s =
    let x = enters p c l h r in
    let y = enters p d l h s in
    record { told = x.told ∙ sym y.told; left = x.left ∙ sym y.left }
