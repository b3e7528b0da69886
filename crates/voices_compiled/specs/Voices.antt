-- The voices of the compiled orchestra: what a note of it holds, and what its code does to it.
use Rattle.std.specs.Prelude.{cond, List, [], ◌∷◌, ℕ, take, eqb, Float}
use Rattle.code_interpreter.specs.Passes.{stretch, fresh_of, once, played}
use Rattle.player_model.specs.Cycle.{Voices}
use Rattle.code_program.specs.InstrumentTable.{instrument_in}
use Rattle.code_program.specs.declared.Instrument.{Instrument}

-- what a note holds of its instrument and names
pub record VoiceState : Type 0 where
  pub instrument : ℕ
  pub values : List Float

-- the values with the one at the place of the imports ksig x set to a
unfoldable pub named : ℕ → Float → List ℕ → List Float → List Float
named x a [] vs = vs
named x a (i ∷ is) [] = []
named x a (i ∷ is) (v ∷ vs) = cond (eqb i x) a v ∷ named x a is vs

-- ---- the program's voices: its instruments, its code and its numbers

module _ (table : List Instrument) (code : List ℕ) (vals : List Float) where
  abbrev pub i_code : ℕ → List ℕ
  i_code name = stretch (instrument_in table name).istart (instrument_in table name).iend code

  abbrev pub k_code : ℕ → List ℕ
  k_code name = stretch (instrument_in table name).kstart (instrument_in table name).kend code

  abbrev pub a_code : ℕ → List ℕ
  a_code name = stretch (instrument_in table name).astart (instrument_in table name).aend code

  -- the fields have the values, as many as there are fields, and then zeros, all else is +0, and the i pass runs
  unfoldable pub birth_of : ℕ → List Float → List Float
  birth_of name xs = once vals (i_code name) (fresh_of (take (instrument_in table name).fields xs))

  -- the k pass, then an a pass for each sample
  unfoldable pub ran_values : ℕ → List Float → List Float → List Float
  ran_values name vs mix = (played vals (a_code name) (once vals (k_code name) vs) mix).values

  unfoldable pub ran_mix_of : ℕ → List Float → List Float → List Float
  ran_mix_of name vs mix = (played vals (a_code name) (once vals (k_code name) vs) mix).mix

  unfoldable pub voices : Voices VoiceState
  voices =
      record {
        birth = λ (name : ℕ) (xs : List Float). record { instrument = name; values = birth_of name xs };
        control = λ (x : ℕ) (a : Float) (s : VoiceState).
            record { instrument = s.instrument; values = named x a (instrument_in table s.instrument).imports s.values };
        run = λ (s : VoiceState) (mix : List Float).
            record {
              state = record { instrument = s.instrument; values = ran_values s.instrument s.values mix };
              mix = ran_mix_of s.instrument s.values mix;
            };
      }
