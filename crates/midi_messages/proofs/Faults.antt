-- A call has no other faults than 1 and 2.
use mathlib.Core.List.{List}
use Prim.Native.Nat.{ℕ}
use Rattle.base_answer.specs.declared.Answer.TheVariants.{CutShort, NotCarried}
use Rattle.midi_messages.specs.Writing.{Call, whole, fault, before, Parses, nothing, written, running, system, stray, cut, running-cut}
use Rattle.midi_messages.specs.inside.Reading.{call_of}
use Rattle.std.specs.Prelude.{Option, Some, None}
use Rattle.midi_messages.specs.declared.NoteMessage.{NoteMessage}
use Rattle.midi_messages.proofs.Meaning.{every_call}

pub data Kind : Call → Type 0 where
  is_whole : (ms : List NoteMessage) → Kind (whole ms)
  is_cut : Kind (fault CutShort)
  is-not-carried : Kind (fault NotCarried)

kind-before : (h : Option NoteMessage) {c : Call} → Kind c → Kind (before h c)
unfolding before
kind-before (Some m) (is_whole ms) = is_whole _
kind-before (Some m) is_cut = is_cut
kind-before (Some m) is-not-carried = is-not-carried
kind-before None k = k

kind-said : {s : ℕ} {bs : List ℕ} {c : Call} → Parses s bs c → Kind c
kind-said nothing = is_whole _
kind-said (written w s) = kind-before _ (kind-said s)
kind-said (running w s) = kind-before _ (kind-said s)
kind-said (system h) = is-not-carried
kind-said (stray h) = is-not-carried
kind-said (cut p s) = is_cut
kind-said (running-cut p s) = is_cut

pub every-kind : (bs : List ℕ) → Kind (call_of bs)
every-kind bs = kind-said (every_call bs)
