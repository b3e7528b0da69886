-- Every tree of the grammar has kinds for kinds.
use Prim.Native.Nat.{ℕ}
use mathlib.Core.Path.{◌≡◌, refl}
use mathlib.Core.List.{List}
use Rattle.orchestra_tokens.specs.declared.Token.{Token}
use Rattle.orchestra_syntax.specs.Tree.{Declaration, Instrument}
use Rattle.orchestra_syntax.specs.inside.Program.{op_class_of}
use Rattle.orchestra_syntax.specs.declared.OpClass.TheVariants.{Declare}
use Rattle.orchestra_syntax.specs.Grammar.{Kinds, ivar, ksig, asig, imports, Decls, none as no·decls, some as some·decls, is, Orchestra, last, next}
use Rattle.orchestra_rules.specs.Formed.{FormedKinds, FormedAll}

kind-declares : {k : ℕ} {ks : List Token} → Kinds k ks → op_class_of k ≡ Declare
kind-declares ivar = refl
kind-declares ksig = refl
kind-declares asig = refl
kind-declares imports = refl

pub formed-kinds : {ds : List Declaration} {ts : List Token} → Decls ds ts → FormedKinds ds
unfolding FormedKinds
formed-kinds no·decls = tt
formed-kinds (some·decls K N D) = (kind-declares K, formed-kinds D)

pub formed : {is : List Instrument} {ts : List Token} → Orchestra is ts → FormedAll is
unfolding FormedAll
formed (last (is n F D S)) = (formed-kinds D, tt)
formed (next (is n F D S) o) = (formed-kinds D, formed o)
