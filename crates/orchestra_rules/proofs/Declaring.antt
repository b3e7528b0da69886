-- All that an instrument declares, as one list of names.
use Prim.Native.Nat.{ℕ}
use mathlib.Core.Path.{◌≡◌, refl, ap}
use mathlib.Core.List.{List, [], ◌∷◌, ◌++◌, map, append_assoc, map-append}
use Rattle.orchestra_syntax.specs.Tree.{Declaration, Instrument, field_kind}
use Rattle.orchestra_syntax.specs.inside.Program.{Ins, ins_arg, op_class_of, instr_op, code, declare, declared, instrument}
use Rattle.orchestra_syntax.specs.Names.{Named, named, named_by, names_of}
use Rattle.orchestra_syntax.specs.declared.OpClass.TheVariants.{Declare}
use Rattle.orchestra_rules.specs.Formed.{FormedKinds}

abbrev entry : Named → Ins
entry m = ins_arg m.kind m.name

abbrev pub declare_all : List Named → List Ins
declare_all ms = map entry ms

unfoldable pub Kinds : List Named → Type 0
Kinds [] = Unit {0}
Kinds (m ∷ ms) = (op_class_of m.kind ≡ Declare) × Kinds ms

declare-named : (k : ℕ) (ns : List ℕ) → declare k ns ≡ declare_all (named k ns)
unfolding declare named
declare-named k [] = refl
declare-named k (n ∷ ns) = ap (λ l. ins_arg k n ∷ l) (declare-named k ns)

declared-named : (ds : List Declaration) → declared ds ≡ declare_all (named_by ds)
unfolding declared named_by
declared-named [] = refl
declared-named (d ∷ ds) = simp (declare-named, declared-named ds, map-append entry)

-- an instrument's program: its name, all that it declares, its statements
pub instrument-is : (i : Instrument) (c : List Ins) → instrument i ++ c ≡ ins_arg instr_op i.name ∷ (declare_all (names_of i) ++ (code i.body ++ c))
instrument-is i c = simp (declare-named, declared-named, map-append entry, append_assoc)

kinds-named : (k : ℕ) (ns : List ℕ) → op_class_of k ≡ Declare → Kinds (named k ns)
unfolding Kinds named
kinds-named k [] e = tt
kinds-named k (n ∷ ns) e = (e, kinds-named k ns e)

kinds-append : (ms ns : List Named) → Kinds ms → Kinds ns → Kinds (ms ++ ns)
unfolding Kinds
kinds-append [] ns p q = q
kinds-append (m ∷ ms) ns p q = (p.0, kinds-append ms ns p.1 q)

kinds-by : (ds : List Declaration) → FormedKinds ds → Kinds (named_by ds)
unfolding FormedKinds named_by Kinds
kinds-by [] p = tt
kinds-by (d ∷ ds) p = kinds-append (named d.kind d.names) (named_by ds) (kinds-named d.kind d.names p.0) (kinds-by ds p.1)

pub kinds-of : (i : Instrument) → FormedKinds i.declarations → Kinds (names_of i)
kinds-of i p = kinds-append (named field_kind i.fields) (named_by i.declarations) (kinds-named field_kind i.fields refl) (kinds-by i.declarations p)
