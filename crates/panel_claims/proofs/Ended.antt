-- A panel or a core that has ended stays as it is.
use mathlib.Core.Path.{◌≡◌, refl, sym, ap, ◌∙◌}
use mathlib.Core.Bool.{true, true≢false}
use mathlib.Core.List.{List, [], ◌∷◌}
use Prim.Native.Nat.{ℕ}
use lib.IntN.{ℤ}
use lib.Ieee.{Float}
use lib.ListN.{length}
use lib.Dec.{leb}
use borrow.Author.Tests.{leb-true, leb-false}
use Rattle.base_answer.specs.Numbers.{number_of}
use Rattle.base_answer.specs.declared.Answer.TheVariants.{Ended}
use Rattle.score_bursts.specs.Bursts.{Burst, units, fault}
use Rattle.score_bursts.specs.inside.Reading.{burst_of}
use Rattle.entrance_admission.specs.Submission.{submitted_in}
use Rattle.player_model.specs.Lists.{All, each}
use Rattle.player_model.proofs.Lists.{by-test, either_way}
use Rattle.player_model.specs.Calls.{unit, Call, submit, burst, keyboard, cycle, change, undo, After, Last, none, trace_from}
use Rattle.player_calls.specs.OnState as on_state
use Rattle.player_calls.specs.OnState.{keyboard_call_of}
use Rattle.panel.specs.State.{panel_of}
use Rattle.panel.specs.Calls.{submitted_of, submit_of, play_keys_of, changed_in, area_in, undone_in, undo_of}
use Rattle.panel.specs.Calls as calls
use Rattle.panel.specs.declared.Core.{Core}
use Rattle.panel.specs.declared.Panel.{Panel}
use Rattle.base_answer.specs.declared.AnsweredLine.{AnsweredLine}
use Rattle.panel_claims.specs.Claims.{core_after, after_of, panel, ended_burst, ended_after, AsEnded}
use Rattle.panel_claims.specs.Core.{LentCall, lent_from, CoreStaysEnded}
use Rattle.panel_claims.proofs.Bursts.{at_unit, Singly, singly, left, left_is, left-fault, left-short, left-taken}
use Rattle.panel_claims.proofs.Cycles.{Cycles, off, over-before, ends, plays, cycles}

-- a unit on a panel that has ended
unit-over : (p : Panel) (u : List ℕ) → p.core.state.playing.ended ≡ true → at_unit p u ≡ record { left = p; answer = Ended; line = 0 }
unfolding submit_of submitted_of on_state.submitted_of submitted_in
unit-over p u e = rw e

-- a burst on a panel that has ended: each unit answers 9
units-over : (us : List (List ℕ)) (p : Panel) → p.core.state.playing.ended ≡ true → singly p us ≡ record { panel = p; numbers = each {B = ℕ} (λ (u : List ℕ). 9) us }
unfolding singly each
units-over [] p e = refl
units-over (u ∷ us) p e =
    ap (λ (r : AnsweredLine Panel). record { panel = (singly r.left us).panel; numbers = number_of r.answer ∷ (singly r.left us).numbers }) (unit-over p u e)
    ∙ ap (λ (x : Singly). record { panel = x.panel; numbers = 9 ∷ x.numbers }) (units-over us p e)

burst-ended : (p : Panel) (bytes area : List ℕ) → p.core.state.playing.ended ≡ true → after_of p (burst bytes area) ≡ ended_after p (burst bytes area)
burst-ended p bytes area e = left_is p bytes area (burst_of bytes) refl ∙ by-burst (burst_of bytes)
  where
    by-burst : (b : Burst) → left p area b ≡ ended_burst p bytes area b
    by-burst (fault a) = left-fault p bytes area a
    by-burst (units us) =
        by-test (leb (length us) (length area))
        (λ q. rw q (left-taken p area us (leb-true (length us) (length area) q) ∙ rw (units-over us p e)))
        (λ q. rw q (left-short p area us bytes (leb-false (length us) (length area) q)))

cycle-ended : (p : Panel) (b : List ℤ) → p.core.state.playing.ended ≡ true → after_of p (cycle b) ≡ ended_after p (cycle b)
cycle-ended p b e = go (cycles p b)
  where
    go : Cycles p b (after_of p (cycle b)) → after_of p (cycle b) ≡ ended_after p (cycle b)
    go (off w x) = rw w x
    go (over-before w f x) = rw w x
    go (ends w f d x) = absurd (true≢false (sym e ∙ f))
    go (plays w f d x) = absurd (true≢false (sym e ∙ f))

-- a change or an undo on a panel that has ended
change-over : (p : Panel) (area handed : List ℕ) → p.core.state.playing.ended ≡ true → after_of p (change area handed) ≡ ended_after p (change area handed)
unfolding after_of core_after calls.change_of changed_in area_in
change-over p area handed e = rw e

undo-over : (p : Panel) (area : List ℕ) → p.core.state.playing.ended ≡ true → after_of p (undo area) ≡ ended_after p (undo area)
unfolding after_of core_after undo_of undone_in
undo-over p area e = rw e

-- a panel that has ended
ended-after : (p : Panel) (c : Call) → p.core.state.playing.ended ≡ true → after_of p c ≡ ended_after p c
unfolding after_of core_after submit_of submitted_of on_state.submitted_of submitted_in play_keys_of keyboard_call_of
ended-after p (submit d b) e = rw e
ended-after p (burst bytes area) e = burst-ended p bytes area e
ended-after p (keyboard b) e = rw e
ended-after p (cycle b) e = cycle-ended p b e
ended-after p (change area handed) e = change-over p area handed e
ended-after p (undo area) e = undo-over p area e

pub all-ended : (cs : List Call) (k : ℕ) (z : Last) (p : Panel) → p.core.state.playing.ended ≡ true → All AsEnded (trace_from panel k z p cs)
unfolding trace_from
all-ended [] k z p e = tt
all-ended (c ∷ cs) k z p e = (
  ended-after p c e,
  all-ended cs _ _ (after_of p c).player (ap (λ (a : After Panel). a.player.core.state.playing.ended) (ended-after p c e) ∙ still c),
)
  where
    by-burst : (bytes area : List ℕ) (b : Burst) → (ended_burst p bytes area b).player.core.state.playing.ended ≡ true
    by-burst bytes area (units us) = either_way (λ (a : After Panel). a.player.core.state.playing.ended ≡ true) (leb (length us) (length area)) e e
    by-burst bytes area (fault a) = e

    still : (c : Call) → (ended_after p c).player.core.state.playing.ended ≡ true
    still (submit d b) = e
    still (burst bytes area) = by-burst bytes area (burst_of bytes)
    still (keyboard b) = e
    still (cycle b) = e
    still (change area handed) = e
    still (undo area) = e

-- ---- a core, whatever it is lent

module _ (code : List ℕ) (vals : List Float) (c : Core) (e : c.state.playing.ended ≡ true) where
  abbrev p : Panel
  p = panel_of c code vals

  abbrev on_core : After Panel → After Core
  on_core a = record { player = a.player.core; answers = a.answers; buffers = a.buffers }

  core-burst : (bytes area : List ℕ) (b : Burst) → on_core (ended_burst p bytes area b) ≡ ended_burst c bytes area b
  core-burst bytes area (fault a) = refl
  core-burst bytes area (units us) = by-test (leb (length us) (length area)) (λ q. rw q refl) (λ q. rw q refl)

  core-same : (call : Call) → on_core (ended_after p call) ≡ ended_after c call
  core-same (submit d b) = refl
  core-same (burst bytes area) = core-burst bytes area (burst_of bytes)
  core-same (keyboard b) = refl
  core-same (cycle b) = refl
  core-same (change area handed) = refl
  core-same (undo area) = refl

  core-ended : (call : Call) → core_after code vals c call ≡ ended_after c call
  unfolding after_of
  core-ended call = ap on_core (ended-after p call e) ∙ core-same call

  still-burst : (bytes area : List ℕ) (b : Burst) → (ended_burst c bytes area b).player ≡ c
  still-burst bytes area (units us) = either_way (λ (a : After Core). a.player ≡ c) (leb (length us) (length area)) refl refl
  still-burst bytes area (fault a) = refl

  core-still : (call : Call) → (ended_after c call).player ≡ c
  core-still (submit d b) = refl
  core-still (burst bytes area) = still-burst bytes area (burst_of bytes)
  core-still (keyboard b) = refl
  core-still (cycle b) = refl
  core-still (change area handed) = refl
  core-still (undo area) = refl

lent-ended : (ls : List LentCall) (k : ℕ) (z : Last) (c : Core) → c.state.playing.ended ≡ true → All AsEnded (lent_from k z c ls)
unfolding lent_from
lent-ended [] k z c e = tt
lent-ended (l ∷ ls) k z c e = (
  core-ended l.code l.vals c e l.call,
  lent-ended ls _ _ (core_after l.code l.vals c l.call).player
      (ap (λ (a : After Core). a.player.state.playing.ended) (core-ended l.code l.vals c e l.call)
      ∙ ap (λ (x : Core). x.state.playing.ended) (core-still l.code l.vals c e l.call) ∙ e),
)

pub core-stays-ended : CoreStaysEnded
unfolding CoreStaysEnded
core-stays-ended c e ls = lent-ended ls 0 none c e
