-- What the tree's voices and fields are to a line: refusal 4 and control lines.
use mathlib.Core.Path.{◌≡◌, refl}
use mathlib.Core.Bool.{Bool, false, cond, ◌&&◌}
use mathlib.Core.List.{List, [], ◌∷◌, ◌++◌, map}
use Prim.Native.Nat.{ℕ, zero, suc, ◌≤◌, ◌<◌}
use native.Mathlib.Omega.{arith}
use lib.Dec.{eqb}
use lib.ListN.{length, take, replicate}
use lib.Ieee.{Float}
use borrow.Author.Tests.{ne_eqb}
use Rattle.score_line.specs.declared.Event.TheVariants.{Instr, Control, End, Tempo}
use Rattle.orchestra_syntax.specs.Tree.{imports_kind}
use Rattle.orchestra_syntax.specs.Names.{Named, names_of}
use Rattle.std.specs.Prelude.{Option, Some, None}
use Rattle.std.specs.Option.{is_some, unwrap_or}
use Rattle.code_program.specs.InstrumentTable.{lookup_in, blank, field_count_found}
use Rattle.code_program.specs.declared.Instrument as row
use Rattle.player_model.proofs.Lists.{by-test}
use Rattle.voices_compiled.specs.Voices.{named}
use Rattle.orchestra_semantics.specs.Meaning.{no_symbol, instrument_of}
use Rattle.voices_resolved.specs.Tree.{import_of, imports_of}
use Rattle.voices_resolved.specs.Claims.{FieldsTree, imported, ControlNames}

counted : (o : Option row.Instrument) {b : Bool} {n : ℕ} → is_some o ≡ b → (unwrap_or o blank).fields ≡ n → field_count_found o ≡ cond b (Some n) None
counted (Some x) e h = λ i. cond (e i) (Some (h i)) None
counted None {n = n} e h = λ i. cond (e i) (Some n) None

pub fields-tree : FieldsTree
fields-tree is table code vals r (Instr label name duration) =
    counted (lookup_in name table) (r.known name) (r.rows name).fields
fields-tree is table code vals r (Control label x value) = refl
fields-tree is table code vals r End = refl
fields-tree is table code vals r (Tempo t) = refl

module _ (x : ℕ) (a : Float) (small : x < no_symbol) where
  -- 65,536 is no symbol
  none : eqb no_symbol x ≡ false
  none = ne_eqb no_symbol x (λ (e : no_symbol ≡ x). omega arith)

  -- behind the names nothing is set
  behind : (k n : ℕ) (vs : List Float) → named x a (take k (replicate n no_symbol)) vs ≡ vs
  unfolding named
  behind zero n vs = refl
  behind (suc k) zero vs = refl
  behind (suc k) (suc n) [] = refl
  behind (suc k) (suc n) (v ∷ vs) = λ i. cond (none i) a v ∷ behind k n vs i

  hit : (n : Named) → eqb (import_of n) x ≡ (eqb n.kind imports_kind && eqb n.name x)
  hit n = by-test (eqb n.kind imports_kind) (λ e. rw e) (λ e. rw e none)

  sets : (k n : ℕ) (ns : List Named) (vs : List Float) → length vs ≤ k
      → named x a (take k (map import_of ns ++ replicate n no_symbol)) vs ≡ imported x a ns vs
  unfolding named imported
  sets k n [] vs h = behind k n vs
  sets zero n (m ∷ ns) [] h = refl
  sets zero n (m ∷ ns) (v ∷ vs) h = absurd (omega arith)
  sets (suc k) n (m ∷ ns) [] h = refl
  sets (suc k) n (m ∷ ns) (v ∷ vs) h = λ i. cond (hit m i) a v ∷ sets k n ns vs (omega arith) i

pub control-names : ControlNames
unfolding imports_of
control-names is x a s small h = sets x a small 16 16 (names_of (instrument_of is s.instrument)) s.values (omega arith)
