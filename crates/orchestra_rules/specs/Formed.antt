-- Trees whose kinds are kinds, as every tree of the grammar is; the parts of a program.
use Rattle.std.specs.Prelude.{ℕ, ◌≡◌, List, [], ◌∷◌, map, Float}
use Rattle.orchestra_syntax.specs.Tree.{Declaration, Instrument}
use Rattle.orchestra_syntax.specs.inside.Program.{Ins, op_class_of}
use Rattle.orchestra_syntax.specs.declared.OpClass.TheVariants.{Declare}

unfoldable pub FormedKinds : List Declaration → Type 0
FormedKinds [] = Unit {0}
FormedKinds (d ∷ ds) = (op_class_of d.kind ≡ Declare) × FormedKinds ds

unfoldable pub FormedAll : List Instrument → Type 0
FormedAll [] = Unit {0}
FormedAll (i ∷ is) = FormedKinds i.declarations × FormedAll is

-- a program's operations, names and numbers
abbrev pub op_of : Ins → ℕ
op_of i = i.op

abbrev pub arg_of : Ins → ℕ
arg_of i = i.arg

abbrev pub val_of : Ins → Float
val_of i = i.val

abbrev pub ops_of : List Ins → List ℕ
ops_of = map op_of

abbrev pub args_of : List Ins → List ℕ
args_of = map arg_of

abbrev pub vals_of : List Ins → List Float
vals_of = map val_of
