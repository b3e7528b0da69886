-- A third piece, for the keyboard: a key that is pressed sounds, sounds in the cycle in which it is released, and is gone in the next.
use Rattle.std.specs.Prelude.{◌≡◌, List, [], ◌∷◌, ℕ, ℤ, pos, replicate}
use Rattle.orchestra_syntax.specs.Tree.{name, done, output, Instrument}
use Rattle.orchestra_reader.specs.Verdict.{Accepted}
use Rattle.player_model.specs.Cycle.{samples}
use Rattle.player_model.specs.Calls.{Call, keyboard, cycle, one}
use Rattle.panel.specs.declared.Panel.{Panel}
use Rattle.panel_claims.specs.Fresh.{Setup}
use Rattle.panel_claims.specs.Claims.{after_of, fresh}
use Rattle.panel_witness.specs.Growing.{setup}
use Rattle.panel_witness.specs.Calls.{lent}

-- instr s1 ( s2 , s3 ) { output ( s3 ) ; }
abbrev pub bytes : List ℕ
bytes = 1 ∷ 0xf0 ∷ 0 ∷ 1 ∷ 15 ∷ 0xf0 ∷ 0 ∷ 2 ∷ 19 ∷ 0xf0 ∷ 0 ∷ 3 ∷ 16 ∷ 17 ∷ 6 ∷ 15 ∷ 0xf0 ∷ 0 ∷ 3 ∷ 16 ∷ 20 ∷ 18 ∷ 0xff ∷ []

abbrev pub tree : List Instrument
tree = record { name = 1; fields = 2 ∷ 3 ∷ []; declarations = []; body = output (name 3) done } ∷ []

-- key 69 with velocity 64, and released
abbrev pub pressed : List ℕ
pressed = 0x90 ∷ 69 ∷ 64 ∷ []

abbrev pub release : List ℕ
release = 0x80 ∷ 69 ∷ 0 ∷ []

abbrev pub u : Setup
u = setup bytes

-- the panel before each call
abbrev pub p0 : Panel
p0 = fresh u

abbrev pub p1 : Panel
p1 = (after_of p0 (keyboard pressed)).player

abbrev pub p2 : Panel
p2 = (after_of p1 (cycle lent)).player

abbrev pub p3 : Panel
p3 = (after_of p2 (keyboard release)).player

abbrev pub p4 : Panel
p4 = (after_of p3 (cycle lent)).player

-- a call that is taken, and the block that it leaves
abbrev pub Sounds : Panel → ℤ → Type 0
Sounds p x = ((after_of p (cycle lent)).answers ≡ one 0 0) × ((after_of p (cycle lent)).buffers.block ≡ replicate samples x)

pub record Pressed : Type 0 where
  pub accepted : Accepted bytes tree
  pub on : (after_of p0 (keyboard pressed)).answers ≡ one 0 0
  -- field two is a half
  pub first : Sounds p1 (pos 16384)
  pub off : (after_of p2 (keyboard release)).answers ≡ one 0 0
  pub last : Sounds p3 (pos 16384)
  pub gone : Sounds p4 (pos 0)
