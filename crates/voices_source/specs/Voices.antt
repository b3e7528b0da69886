-- The voices of an orchestra as it is written: what a line's note does in steps 3, 4 and 5 of document 01's cycle, its values by symbol.
use Rattle.std.specs.Prelude.{ℕ, ◌≤◌, ◌<◌, List, length, take, Float}
use Rattle.score_line.specs.declared.Line.{Line}
use Rattle.score_line.specs.declared.Event.{Event}
use Rattle.score_line.specs.declared.Event.TheVariants.{Instr, Control, End, Tempo}
use Rattle.orchestra_syntax.specs.Tree.{Instrument}
use Rattle.player_model.specs.Cycle.{Voices}
use Rattle.orchestra_semantics.specs.Meaning.{instrument_of, no_symbol, Memory, birth, control, cycle}

pub record VoiceState : Type 0 where
  pub instrument : ℕ
  pub memory : Memory

module _ (is : List Instrument) where
  unfoldable pub written_voices : Voices VoiceState
  written_voices =
      record {
        birth = λ (name : ℕ) (xs : List Float). record { instrument = name; memory = (birth (instrument_of is name) xs).memory };
        control = λ (x : ℕ) (y : Float) (s : VoiceState). record { instrument = s.instrument; memory = control (instrument_of is s.instrument) x y s.memory };
        run = λ (s : VoiceState) (mix : List Float).
            let p = cycle (instrument_of is s.instrument) s.memory mix in
            record { state = record { instrument = s.instrument; memory = p.memory }; mix = p.mix };
      }

  -- what every line taken keeps: no more values than fields (4), a symbol of 16 bits
  abbrev pub Fits : Line → Event → Type 0
  Fits l (Instr label name d) = length (take l.count l.values) ≤ length (instrument_of is name).fields
  Fits l (Control label x y) = x < no_symbol
  Fits l End = Unit {0}
  Fits l (Tempo t) = Unit {0}
