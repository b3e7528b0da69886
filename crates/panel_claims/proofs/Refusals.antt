-- Condition 1: a refusal changes nothing, save that the cycle call that finds the end marks it.
use mathlib.Core.Path.{◌≡◌, refl}
use mathlib.Core.Bool.{Bool, true, false, cond, true≢false}
use mathlib.Core.List.{List}
use Prim.Native.Nat.{ℕ}
use Rattle.score_line.specs.declared.Line.{Line}
use Rattle.player_model.specs.Calls.{Call, submit, burst, keyboard, cycle as cycle-call, change, undo, one, buffers_of}
use Rattle.panel.specs.State.{ended_of}
use Rattle.panel.specs.declared.Panel.{Panel}
use Rattle.panel_claims.specs.Claims.{after_of, finds_end, Refused, RefusalsChangeNothing}
use Rattle.panel_claims.proofs.Entrances.{Brings, takes, refuses, brings}
use Rattle.panel_claims.proofs.Bursts.{Receives, received, unreceived, receives}
use Rattle.panel_claims.proofs.Keyboard.{Presses, keys-over, keys-faulty, keys-full, keys-taken, presses}
use Rattle.panel_claims.proofs.Cycles.{Cycles, off, over-before, ends, plays, cycles}
use Rattle.panel_claims.proofs.Settings.{Sets, set-taken, set-refused, changes, undoes}

refused-so : (p : Panel) (c : Call) {b : Bool} {n l : ℕ} → finds_end p c ≡ b
    → after_of p c ≡ record { player = cond b (ended_of p) p; answers = one n l; buffers = buffers_of c } → Refused p c
refused-so p c f x = record { player = cc; buffers = cc }

pub refusals-change-nothing : RefusalsChangeNothing
unfolding RefusalsChangeNothing
refusals-change-nothing p (submit d handed) t = go (brings p d handed)
  where
    go : {ls : List Line} → Brings p ls (after_of p (submit d handed)) → Refused p (submit d handed)
    go (takes l q e f x) = absurd (true≢false (cc))
    go (refuses n l z x) = refused-so p (submit d handed) refl x
refusals-change-nothing p (burst bytes area) t = go (receives p bytes area)
  where
    go : Receives p bytes area (after_of p (burst bytes area)) → Refused p (burst bytes area)
    go (received us q x) = absurd (true≢false (cc))
    go (unreceived n z x) = refused-so p (burst bytes area) refl x
refusals-change-nothing p (keyboard bytes) t = go (presses p bytes)
  where
    go : Presses p bytes (after_of p (keyboard bytes)) → Refused p (keyboard bytes)
    go (keys-over e x) = refused-so p (keyboard bytes) refl x
    go (keys-faulty n e f z x) = refused-so p (keyboard bytes) refl x
    go (keys-full ms e f l x) = refused-so p (keyboard bytes) refl x
    go (keys-taken ms e f l x) = absurd (true≢false (cc))
refusals-change-nothing p (change area handed) t = go (changes p area handed)
  where
    go : {left : List ℕ} → Sets p (change area handed) left (after_of p (change area handed)) → Refused p (change area handed)
    go (set-taken e l x) = absurd (true≢false (cc))
    go (set-refused n z x) = refused-so p (change area handed) refl x
refusals-change-nothing p (undo area) t = go (undoes p area)
  where
    go : {left : List ℕ} → Sets p (undo area) left (after_of p (undo area)) → Refused p (undo area)
    go (set-taken e l x) = absurd (true≢false (cc))
    go (set-refused n z x) = refused-so p (undo area) refl x
refusals-change-nothing p (cycle-call b) t = go (cycles p b)
  where
    go : Cycles p b (after_of p (cycle-call b)) → Refused p (cycle-call b)
    go (off w x) = refused-so p (cycle-call b) {b = false} (cc) x
    go (over-before w e x) = refused-so p (cycle-call b) {b = false} (cc) x
    go (ends w e d x) = refused-so p (cycle-call b) {b = true} (cc) x
    go (plays w e d x) = absurd (true≢false (cc))
