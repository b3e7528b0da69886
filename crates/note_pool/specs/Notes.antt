-- The panel's notes as the notes of a cycle.
use Rattle.std.specs.Prelude.{cond, List, [], ◌∷◌, ℕ, zero, suc, length, take}
use Rattle.note_state.specs.declared.Note.{Note}
use Rattle.player_model.specs.Lists.{each, over}
use Rattle.player_model.specs.Cycle as cycle
use Rattle.voices_compiled.specs.Voices.{VoiceState}
use Rattle.note_lifecycle.specs.OneNote.{note_of, struct_of}
use Rattle.note_pool.specs.declared.Started.{Started}

-- the first notes of an array
abbrev pub notes_in : List Note → ℕ → List (cycle.Note VoiceState)
notes_in ns n = each note_of (take n ns)

abbrev pub started_in : List Note → ℕ → ℕ → cycle.Started VoiceState
started_in ns n missed = record { notes = notes_in ns n; missed = missed }

-- notes laid over the array, and how many were missed
unfoldable pub started_over : cycle.Started VoiceState → List Note → Started
started_over s old = record { notes = over (each struct_of s.notes) old; count = length s.notes; missed = s.missed }

-- the place of the oldest note without priority; with none, how many notes there are
unfoldable pub oldest_without_priority : List Note → ℕ
oldest_without_priority [] = 0
oldest_without_priority (n ∷ ns) = cond n.priority (suc (oldest_without_priority ns)) 0

-- a list without the element at a place
unfoldable pub without_element : {A : Type 0} → ℕ → List A → List A
without_element place [] = []
without_element zero (x ∷ xs) = xs
without_element (suc place) (x ∷ xs) = x ∷ without_element place xs
