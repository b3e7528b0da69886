-- Every message that is read is valid: its key is one of the 128 keys.
use mathlib.Core.Bool.{Bool, true, false, cond}
use mathlib.Core.List.{List, [], ◌∷◌}
use Prim.Native.Nat.{ℕ, zero, suc, ◌<◌}
use native.Mathlib.Nat.{mod-lt}
use lib.Dec.{eqb, lit≤}
use lib.ListN.{get_or}
use Rattle.midi_messages.specs.Message.{kind, channel_of, note_off, note_on, classified}
use Rattle.midi_messages.specs.Writing.{Call, whole, fault, before, AllData, Parses, nothing, written, running, system, stray, cut, running-cut}
use Rattle.midi_messages.specs.Claims.{Valid, AllValid, ValidCall, EveryMessageValid}
use Rattle.midi_messages.specs.declared.NoteMessage.{NoteMessage}
use Rattle.std.specs.Prelude.{Option, Some, None}
use Rattle.midi_messages.proofs.Meaning.{every_call}

ValidHeard : Option NoteMessage → Type 0
ValidHeard (Some m) = Valid m
ValidHeard None = Unit {0}

put-before : (h : Option NoteMessage) (c : Call) → ValidHeard h → ValidCall c → ValidCall (before h c)
unfolding ValidHeard ValidCall AllValid before
put-before (Some m) (whole ms) p q = (p, q)
put-before (Some m) (fault a) p q = tt
put-before None c p q = q

module _ (s k v : ℕ) (key : k < 128) (velocity : v < 128) where
  off : Valid (note_off (channel_of s) k)
  off = record { channel = mod-lt s (lit≤ tt); key = key; velocity = lit≤ tt }

  on : (b : Bool) → Valid (cond b (note_off (channel_of s) k) (record { on = true; channel = channel_of s; key = k; velocity = v }))
  on true = off
  on false = record { channel = mod-lt s (lit≤ tt); key = key; velocity = velocity }

  by_kind : (a b : Bool) → ValidHeard (cond a (Some (note_off (channel_of s) k)) (cond b (Some (note_on (channel_of s) k v)) None))
  unfolding ValidHeard note_on
  by_kind true b = off
  by_kind false true = on (eqb v 0)
  by_kind false false = tt

  valid-heard : ValidHeard (classified s k v)
  unfolding classified
  valid-heard = by_kind (eqb (kind s) 8) (eqb (kind s) 9)

small : (ds : List ℕ) (i : ℕ) → AllData ds → get_or ds i 0 < 128
unfolding AllData
small [] i p = lit≤ tt
small (d ∷ ds) zero p = p.0
small (d ∷ ds) (suc i) p = small ds i p.1

heard-valid : (s : ℕ) (ds : List ℕ) → AllData ds → ValidHeard (classified s (get_or ds 0 0) (get_or ds 1 0))
heard-valid s ds p = valid-heard s (get_or ds 0 0) (get_or ds 1 0) (small ds 0 p) (small ds 1 p)

says-valid : {s : ℕ} {bs : List ℕ} {c : Call} → Parses s bs c → ValidCall c
unfolding ValidCall AllValid
says-valid nothing = tt
says-valid (written {s} {k} {ds} {bs} {c} w r) = put-before _ c (heard-valid k ds w.plain) (says-valid r)
says-valid (running {s} {ds} {bs} {c} w r) = put-before _ c (heard-valid s ds w.plain) (says-valid r)
says-valid (system h) = tt
says-valid (stray h) = tt
says-valid (cut w z) = tt
says-valid (running-cut w z) = tt

pub every-message-valid : EveryMessageValid
every-message-valid bs = says-valid (every_call bs)
