-- The reader's stages are document 01's.
use mathlib.Core.Path.{refl, sym, ap, ◌∙◌}
use mathlib.Core.List.{map}
use Rattle.orchestra_syntax.specs.inside.Placed.{placed}
use Rattle.orchestra_syntax.specs.inside.Program.{program}
use Rattle.orchestra_syntax.proofs.Rates.{rates-agree}
use Rattle.orchestra_expressions.proofs.Runs.{took_of}
use Rattle.orchestra_grammar.proofs.Complete.{complete}
use Rattle.orchestra_grammar.proofs.Sound.{sound}
use Rattle.orchestra_grammar.proofs.Unique.{unique}
use Rattle.orchestra_rules.specs.Formed.{ops_of, args_of}
use Rattle.orchestra_rules.specs.Rating.{rates_pass}
use Rattle.orchestra_rules.proofs.NamesLaw.{names-law}
use Rattle.orchestra_rules.proofs.PlacesLaw.{places-law, ops-stay}
use Rattle.orchestra_rules.proofs.RatesLaw.{rates-law}
use Rattle.orchestra_reader.specs.inside.Stages.{GrammarComplete, GrammarSound, GrammarUnique, NamesJudged, RatesJudged}
use Rattle.orchestra_reader.proofs.Formed.{formed}

pub grammar-complete : GrammarComplete
grammar-complete is ts d = complete d

pub grammar-sound : GrammarSound
grammar-sound ts c r e = let o = took_of (sound ts) e in record { tree = o.tree; derives = o.derives; code = o.code; whole = o.nothing_left }

pub grammar-unique : GrammarUnique
grammar-unique is js ts d e = unique d e refl

pub names-judged : NamesJudged
names-judged is ts d = names-law is (formed d)

pub rates-judged : RatesJudged
rates-judged is ts d n =
    ap (rates_pass (ops_of (program is))) (places-law is (formed d) n)
    ∙ ap (λ l. rates_pass l (args_of (program (map placed is)))) (sym (ops-stay is))
    ∙ rates-law is (formed d) n
    ∙ rates-agree is n
