-- What an admission gives, by its answer.
use mathlib.Core.Path.{◌≡◌, refl, ap, ◌∙◌}
use mathlib.Core.Bool.{Bool, true, false, cond}
use mathlib.Core.List.{[], ◌∷◌, ◌++◌}
use Prim.Native.Nat.{ℕ, ◌+◌, ◌≤◌, ◌<◌}
use native.Mathlib.Omega.{arith}
use native.Mathlib.Numerals.{add-one}
use lib.Dec.{ltb}
use lib.ListN.{length, length-set}
use lib.Seq.{take-suc-set}
use borrow.Author.Tests.{lt-ltb, le-ltb, ltb-true}
use Rattle.base_answer.specs.Numbers.{is_taken}
use Rattle.base_answer.specs.declared.Answer.{Answer}
use Rattle.base_answer.specs.declared.Answer.TheVariants.{Taken, NoInstrument, Late, NoRoom}
use Rattle.score_line.specs.declared.Line.{Line}
use Rattle.player_model.proofs.Lists.{cond-true, cond-false}
use Rattle.player_queue.specs.Waiting.{is_late}
use Rattle.player_queue.specs.Admission.{unfit_event, most_lines, admission, pushed, admitted, waiting_in}
use Rattle.std.specs.Prelude.{Option}
use Rattle.player_queue.specs.declared.Queue.{Queue}

module _ (q : Queue) (l : Line) (f : Option ℕ) where
  by_answer : (a : Answer) → admission q l f ≡ a → admitted q l f ≡ record { left = cond (is_taken a) (pushed q l) q; answer = a }
  unfolding admitted
  by_answer a e = ap (λ (x : Answer). record { left = cond (is_taken x) (pushed q l) q; answer = x }) e

  pub admit-unfit : unfit_event f l.count l.event ≡ true → admitted q l f ≡ record { left = q; answer = NoInstrument }
  unfolding admission
  admit-unfit a = by_answer NoInstrument (cond-true _ _ a)

  pub admit-late : unfit_event f l.count l.event ≡ false → is_late q.ran q.last l.when ≡ true
      → admitted q l f ≡ record { left = q; answer = Late }
  unfolding admission
  admit-late a b = by_answer Late (cond-false _ _ a ∙ cond-true _ _ b)

  pub admit-taken : unfit_event f l.count l.event ≡ false → is_late q.ran q.last l.when ≡ false → q.count < 64
      → admitted q l f ≡ record { left = pushed q l; answer = Taken }
  unfolding admission
  admit-taken a b c = by_answer Taken (cond-false _ _ a ∙ cond-false _ _ b ∙ cond-true _ _ (lt-ltb q.count 64 c))

  pub admit-full : unfit_event f l.count l.event ≡ false → is_late q.ran q.last l.when ≡ false → 64 ≤ q.count
      → admitted q l f ≡ record { left = q; answer = NoRoom }
  unfolding admission
  admit-full a b c = by_answer NoRoom (cond-false _ _ a ∙ cond-false _ _ b ∙ cond-false _ _ (le-ltb q.count 64 c))

  -- a refusal changes nothing
  pub refused-same : is_taken (admitted q l f).answer ≡ false → (admitted q l f).left ≡ q
  unfolding admitted
  refused-same e = cond-false _ _ e

  -- a line that is taken waits behind the others
  pub taken-pushed : is_taken (admitted q l f).answer ≡ true → (admitted q l f).left ≡ pushed q l
  unfolding admitted
  taken-pushed e = cond-true _ _ e

  pub taken-room : is_taken (admitted q l f).answer ≡ true → q.count < 64
  unfolding admitted admission
  taken-room e = go (unfit_event f l.count l.event) (is_late q.ran q.last l.when) (ltb q.count most_lines) refl e
    where
      go : (a b c : Bool) → ltb q.count most_lines ≡ c → is_taken (cond a NoInstrument (cond b Late (cond c Taken NoRoom))) ≡ true → q.count < 64
      go true b c h e = absurd (let z : ◌≡◌ {A = ℕ} 0 1 = cc in omega arith)
      go false true c h e = absurd (let z : ◌≡◌ {A = ℕ} 0 1 = cc in omega arith)
      go false false true h e = ltb-true q.count most_lines h
      go false false false h e = absurd (let z : ◌≡◌ {A = ℕ} 0 1 = cc in omega arith)

  pub waiting-pushed : length q.lines ≡ 64 → q.count < 64 → waiting_in (pushed q l) ≡ waiting_in q ++ (l ∷ [])
  unfolding pushed
  waiting-pushed long room = rw add-one (take-suc-set q.lines q.count l (omega arith))

  pub length-pushed : length (pushed q l).lines ≡ length q.lines
  unfolding pushed
  length-pushed = length-set q.lines q.count l

  -- the waiting count never passes 64
  pub count-within : q.count ≤ 64 → (admitted q l f).left.count ≤ 64
  unfolding admitted pushed
  count-within h = go (is_taken (admission q l f)) (taken-room)
    where
      go : (b : Bool) → (b ≡ true → q.count < 64) → (cond b (pushed q l) q).count ≤ 64
      go true r = let k = r refl in omega arith
      go false r = h
