-- The kinds of an orchestra's declarations are kinds, also with its names put by their places.
use mathlib.Core.List.{List, [], ◌∷◌, map}
use Rattle.orchestra_reader.proofs.Formed.{formed-kinds}
use Rattle.orchestra_tokens.specs.declared.Token.{Token}
use Rattle.orchestra_syntax.specs.Tree.{Instrument}
use Rattle.orchestra_syntax.specs.inside.Placed.{placed}
use Rattle.orchestra_syntax.specs.Grammar as grammar
use Rattle.orchestra_syntax.specs.Grammar.{Instr, Orchestra}
use Rattle.orchestra_rules.specs.Formed.{FormedKinds}
use Rattle.code_loader_claims.specs.Code.{KindsAll}

instr-formed : {i : Instrument} {ts : List Token} → Instr i ts → FormedKinds i.declarations
instr-formed (grammar.is n f d b) = formed-kinds d

kinds-all : {is : List Instrument} {ts : List Token} → Orchestra is ts → KindsAll is
unfolding KindsAll
kinds-all (grammar.last i) = (instr-formed i, tt)
kinds-all (grammar.next i o) = (instr-formed i, kinds-all o)

kinds-placed : (is : List Instrument) → KindsAll is → KindsAll (map placed is)
unfolding KindsAll
kinds-placed [] h = tt
kinds-placed (i ∷ is) h = (h.0, kinds-placed is h.1)

pub orchestra-kinds : {is : List Instrument} {ts : List Token} → Orchestra is ts → KindsAll (map placed is)
orchestra-kinds {is} o = kinds-placed is (kinds-all o)
