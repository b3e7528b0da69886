-- A program that represents a tree plays the tree.
use mathlib.Core.Path.{◌≡◌, ap, ◌∙◌}
use mathlib.Core.List.{List}
use Prim.Native.Nat.{ℕ}
use lib.ListN.{length, take}
use lib.Ieee.{Float}
use Rattle.orchestra_syntax.specs.Tree.{Instrument}
use Rattle.orchestra_semantics.specs.inside.Placed.{birth, k_pass, cycle}
use Rattle.code_interpreter.specs.Passes.{stretch, fresh_of, once, played}
use Rattle.code_translation.specs.Statements.{AllFit}
use Rattle.code_program.specs.declared.Instrument as row
use Rattle.code_program.specs.InstrumentTable.{instrument_in}
use Rattle.voices_compiled.specs.Voices.{VoiceState, named, voices, birth_of, ran_values, ran_mix_of}
use Rattle.voices_resolved.specs.Tree.{tree_voices, imports_of, body_of}
use Rattle.orchestra_semantics.specs.Meaning.{instrument_of}
use Rattle.voices_resolved.specs.Represents.{Represents}
use Rattle.voices_resolved.specs.Claims.{PlaysTree}
use Rattle.voices_resolved.proofs.Kept.{birth-size, k-size, a-size, a-fits, named-size}
use Rattle.voices_resolved.proofs.Alike.{Alike, at_same, blocks-same, answers-same}

-- a note has 16 values
abbrev pub Sixteen : VoiceState → Type 0
Sixteen s = length s.values ≡ 16

module _ (is : List Instrument) (table : List row.Instrument) (code : List ℕ) (vals : List Float) (r : Represents is table code vals) where
  born-is : (name : ℕ) (xs : List Float) → birth_of table code vals name xs ≡ birth (body_of is name) (take (length (instrument_of is name).fields) xs)
  unfolding birth_of
  born-is name xs =
      (λ i. once vals ((r.rows name).icode i) (fresh_of (take ((r.rows name).fields i) xs)))
      ∙ (r.rows name).sounds.born (take (length (instrument_of is name).fields) xs)

  module _ (name : ℕ) (vs mix : List Float) (h : length vs ≡ 16) (f : AllFit mix) where
    k-is : once vals (stretch (instrument_in table name).kstart (instrument_in table name).kend code) vs ≡ k_pass (body_of is name) vs
    k-is = ap (λ (ws : List ℕ). once vals ws vs) (r.rows name).kcode ∙ (r.rows name).sounds.cycled vs h

    k-sixteen : length (k_pass (body_of is name) vs) ≡ 16
    k-sixteen = k-size (body_of is name) vs ∙ h

    values-are : ran_values table code vals name vs mix ≡ (cycle (body_of is name) vs mix).values
    unfolding ran_values cycle
    values-are =
        (λ i. (played vals ((r.rows name).acode i) (k-is i) mix).values) ∙ (r.rows name).sounds.values (k_pass (body_of is name) vs) mix k-sixteen f

    mix-is : ran_mix_of table code vals name vs mix ≡ (cycle (body_of is name) vs mix).mix
    unfolding ran_mix_of cycle
    mix-is =
        (λ i. (played vals ((r.rows name).acode i) (k-is i) mix).mix) ∙ (r.rows name).sounds.sums (k_pass (body_of is name) vs) mix k-sixteen f

    cycle-sixteen : length (cycle (body_of is name) vs mix).values ≡ 16
    unfolding cycle
    cycle-sixteen = a-size (body_of is name) (k_pass (body_of is name) vs) mix ∙ k-sixteen

    cycle-fits : AllFit (cycle (body_of is name) vs mix).mix
    unfolding cycle
    cycle-fits = a-fits (body_of is name) (k_pass (body_of is name) vs) mix f

  pub alike : Alike Sixteen (voices table code vals) (tree_voices is)
  unfolding voices tree_voices
  alike =
      record {
        birth = λ name xs i. record { instrument = name; values = born-is name xs i };
        control = λ x a s i. record { instrument = s.instrument; values = named x a ((r.rows s.instrument).imports i) s.values };
        run = λ s mix h f i.
            record {
              state = record { instrument = s.instrument; values = values-are s.instrument s.values mix h f i };
              mix = mix-is s.instrument s.values mix h f i;
            };
        birth-good = λ name xs. birth-size (body_of is name) (take (length (instrument_of is name).fields) xs);
        control-good = λ x a s h. named-size x a (imports_of (instrument_of is s.instrument)) s.values ∙ h;
        run-good = λ s mix h f.
            record { good = cycle-sixteen s.instrument s.values mix h f; fit = cycle-fits s.instrument s.values mix h f };
      }

pub plays-tree : PlaysTree
plays-tree is table code vals r =
    let a = alike is table code vals r in
    record { holds = at_same Sixteen a; answers = answers-same Sixteen a; blocks = blocks-same Sixteen a }
