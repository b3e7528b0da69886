-- Whether a line fits: 4 by the instruments, 6 and 7 by its time; each is decided.
use mathlib.Core.Path.{◌≡◌, refl}
use mathlib.Core.Bool.{Bool, true, false, not, cond, ◌&&◌, false≢true}
use mathlib.Core.List.{List, [], ◌∷◌, map}
use Prim.Native.Nat.{ℕ}
use native.Mathlib.Omega.{arith}
use lib.ListN.{length}
use lib.Dec.{eqb, ltb}
use borrow.Author.Tests.{eqb-true, eqb-false, ltb-true, ltb-false}
use Rattle.score_line.specs.declared.When.{When}
use Rattle.score_line.specs.declared.When.TheVariants.{Timed, Untimed}
use Rattle.score_line.specs.declared.Event.{Event}
use Rattle.score_line.specs.declared.Event.TheVariants.{Instr, Control, End, Tempo}
use Rattle.orchestra_syntax.specs.Tree.{Instrument}
use Rattle.orchestra_syntax.specs.Names.{has, title_of}
use Rattle.orchestra_semantics.specs.Meaning.{instrument_of}
use Rattle.voices_resolved.specs.Tree.{fields_of}
use Rattle.player_model.proofs.Lists.{by-test}
use Rattle.player_model.specs.History.{nowhere, at}
use Rattle.player_queue.specs.Waiting.{is_late}
use Rattle.player_queue.specs.Admission.{too_many, unfit_event}
use Rattle.std.specs.Prelude.{Some, None}
use Rattle.panel_claims.specs.Verdict.{HasFields, here, there, Playable, too_late}

pub data Judged (P : Type 0) : Bool → Type 0 where
  yes-so : P → Judged P false
  no-so : (P → ⊥) → Judged P true

nobody : {name n : ℕ} → HasFields name n [] → ⊥
nobody = elim [ ]

-- the first instrument of the list, and those behind it
not-here : {name n : ℕ} (i : Instrument) (is : List Instrument) → i.name ≡ name → ltb (length i.fields) n ≡ true → HasFields name n (i ∷ is) → ⊥
not-here {n = n} i is q t (here r h) = omega (arith, ltb-true (length i.fields) n t)
not-here i is q t (there r h) = r q

behind-it : {name n : ℕ} {i : Instrument} {is : List Instrument} → (i.name ≡ name → ⊥) → (HasFields name n is → ⊥) → HasFields name n (i ∷ is) → ⊥
behind-it q f (here r h) = q r
behind-it q f (there r h) = f h

fields-judged : (is : List Instrument) (name n : ℕ)
    → Judged (HasFields name n is) (too_many (cond (has name (map title_of is)) (Some (length (instrument_of is name).fields)) None) n)
unfolding has instrument_of
fields-judged [] name n = no-so nobody
fields-judged (i ∷ is) name n =
    by-test (eqb i.name name)
    (λ e. rw e (
    let q = eqb-true i.name name e in
    by-test (ltb (length i.fields) n) (λ t. rw t (no-so (not-here i is q t))) (λ t. rw t (yes-so (here q (ltb-false (length i.fields) n t))))))
    (λ e. rw e (rest (eqb-false i.name name e) (fields-judged is name n)))
  where
    rest : {t : Bool} → (i.name ≡ name → ⊥) → Judged (HasFields name n is) t → Judged (HasFields name n (i ∷ is)) t
    rest q (yes-so h) = yes-so (there q h)
    rest q (no-so f) = no-so (behind-it q f)

pub event-judged : (is : List Instrument) (n : ℕ) (e : Event) → Judged (Playable is n e) (unfit_event (fields_of is e) n e)
event-judged is n (Instr label name d) = fields-judged is name n
event-judged is n (Control label x value) = yes-so tt
event-judged is n End = yes-so tt
event-judged is n (Tempo t) = yes-so tt

pub judged-no : {P : Type 0} {b : Bool} → Judged P b → (P → ⊥) → b ≡ true
judged-no (yes-so p) f = absurd (f p)
judged-no (no-so g) f = refl

pub judged-yes : {P : Type 0} {b : Bool} → Judged P b → P → b ≡ false
judged-yes (yes-so p) q = refl
judged-yes (no-so g) q = absurd (g q)

-- ---- 7, 6

pub late-same : (ran : Bool) (x : ℕ) (w : When) → too_late (cond ran (at x) nowhere) w ≡ is_late ran x w
late-same true x (Timed u t) = refl
late-same true x Untimed = refl
late-same false x (Timed u t) = refl
late-same false x Untimed = refl

pub time-passes : (a b : Bool) → (a ≡ true → b ≡ true) → (a && not b) ≡ false
time-passes true true f = refl
time-passes true false f = absurd (false≢true (f refl))
time-passes false b f = refl

pub time-fails : (a b : Bool) → a ≡ true → b ≡ false → (a && not b) ≡ true
time-fails a b e f = rw (e, f) refl
