-- A row for each instrument, in order, is enough for a program to represent a tree.
use mathlib.Core.Path.{◌≡◌, refl, sym, ap, ◌∙◌, subst}
use mathlib.Core.Bool.{cond}
use mathlib.Core.List.{List, [], ◌∷◌, map}
use Prim.Native.Nat.{ℕ}
use lib.Dec.{eqb}
use lib.Ieee.{Float}
use Rattle.std.specs.Prelude.{Some}
use Rattle.std.specs.Option.{is_some, unwrap_or}
use Rattle.orchestra_syntax.specs.Tree.{Instrument, done}
use Rattle.orchestra_syntax.specs.Names.{has, title_of, named, named_by}
use Rattle.orchestra_syntax.specs.inside.Placed.{put}
use Rattle.code_bounds.proofs.Sounding.{sounds}
use Rattle.code_translation.specs.Translation.{lowered}
use Rattle.code_translation.specs.Statements.{Playable}
use Rattle.player_model.proofs.Lists.{by-test}
use Rattle.code_program.specs.declared.Instrument as row
use Rattle.code_program.specs.InstrumentTable.{lookup_in, instrument_in, blank}
use Rattle.orchestra_semantics.specs.Meaning.{silent, instrument_of}
use Rattle.voices_resolved.specs.Tree.{imports_of}
use Rattle.voices_resolved.specs.Represents.{Row, Rows, Represents}

module _ (code : List ℕ) (vals : List Float) where
  -- no instrument's row: no code, no imports
  silent-row : Row code vals silent blank
  unfolding silent blank imports_of named named_by put lowered Playable
  silent-row =
      record { fields = refl; imports = refl; start = 0; icode = refl; kcode = refl; acode = refl; sounds = sounds vals 0 done tt }

  known_in : (is : List Instrument) (table : List row.Instrument) → Rows code vals is table → (name : ℕ)
      → is_some (lookup_in name table) ≡ has name (map title_of is)
  unfolding lookup_in has Rows
  known_in [] [] h name = refl
  known_in [] (x ∷ xs) h name = absurd h
  known_in (i ∷ is) [] h name = absurd h
  known_in (i ∷ is) (x ∷ xs) h name =
      ap (λ (n : ℕ). is_some (cond (eqb n name) (Some x) (lookup_in name xs))) h.0
      ∙ by-test (eqb i.name name) (λ e. rw e) (λ e. rw e (known_in is xs h.1.1 name))

  row_of : (is : List Instrument) (table : List row.Instrument) → Rows code vals is table → (name : ℕ)
      → Row code vals (instrument_of is name) (instrument_in table name)
  unfolding lookup_in instrument_of Rows
  row_of [] [] h name = silent-row
  row_of [] (x ∷ xs) h name = absurd h
  row_of (i ∷ is) [] h name = absurd h
  row_of (i ∷ is) (x ∷ xs) h name =
      subst
      (λ (n : ℕ). Row code vals (cond (eqb i.name name) i (instrument_of is name)) (unwrap_or (cond (eqb n name) (Some x) (lookup_in name xs)) blank))
      (sym h.0) (by-test (eqb i.name name) (λ e. rw e h.1.0) (λ e. rw e (row_of is xs h.1.1 name)))

  pub represents : (is : List Instrument) (table : List row.Instrument) → Rows code vals is table → Represents is table code vals
  represents is table h = record { known = known_in is table h; rows = row_of is table h }
