-- What reading an orchestra's bytes gives, stage by stage: each stage runs over the whole orchestra before the next.
use Rattle.std.specs.Prelude.{ℕ, suc, cond, List, [], ◌∷◌, length, take, eqb, ltb, Float}
use Rattle.base_answer.specs.declared.Answer.{Answer}
use Rattle.base_answer.specs.declared.Answer.TheVariants.{Taken, BadToken, BadGrammar, BadNames, BadRates, TooLarge}
use Rattle.orchestra_tokens.specs.inside.Scanning.{Scanned, none, some, tokens_of}
use Rattle.orchestra_tokens.specs.Measures.{longest, measured}
use Rattle.orchestra_syntax.specs.Names.{most_instruments}
use Rattle.orchestra_syntax.specs.inside.Program.{instr_op}
use Rattle.orchestra_expressions.specs.Reader.{Res, no, ok}
use Rattle.orchestra_grammar.specs.Reader.{orchestra}
use Rattle.orchestra_rules.specs.Naming.{names_pass, places_pass}
use Rattle.orchestra_rules.specs.Rating.{rates_pass}
use Rattle.orchestra_rules.specs.Formed.{ops_of, args_of, vals_of}
use Rattle.orchestra_reader.specs.inside.Compiled.{laid, blank}
use Rattle.orchestra_reader.specs.declared.PostfixProgram.{PostfixProgram}
use Rattle.orchestra_reader.specs.declared.OrchestraRead.{OrchestraRead}

abbrev pub taken : PostfixProgram → OrchestraRead
taken p = record { answer = Taken; program = p }

-- a refusal hands back a blank program
abbrev pub refused : Answer → OrchestraRead
refused a = record { answer = a; program = blank }

-- the places where an instrument starts, the first operation being at n; the name rules leave at most 8
unfoldable pub starts_from : ℕ → List ℕ → List ℕ
starts_from n [] = []
starts_from n (o ∷ os) = cond (eqb o instr_op) (n ∷ starts_from (suc n) os) (starts_from (suc n) os)

-- the rate rules (15), on names that are put by their places
abbrev pub by_rates : List ℕ → List ℕ → List Float → OrchestraRead
by_rates os ns vs = cond (rates_pass os ns) (taken (laid (take most_instruments (starts_from 0 os)) os ns vs)) (refused BadRates)

-- the name rules (14)
abbrev pub by_names : List ℕ → List ℕ → List Float → OrchestraRead
by_names os ns vs = cond (names_pass os ns) (by_rates os (places_pass os ns) vs) (refused BadNames)

-- the grammar (13)
abbrev pub by_grammar : Res → OrchestraRead
by_grammar no = refused BadGrammar
by_grammar (ok c r) = by_names (ops_of c) (args_of c) (vals_of c)

-- tokens (12), then their measures (16)
abbrev pub by_tokens : Scanned → OrchestraRead
by_tokens none = refused BadToken
by_tokens (some ts) = cond (measured ts) (by_grammar (orchestra ts)) (refused TooLarge)

-- the length first (16)
unfoldable pub read_of : List ℕ → OrchestraRead
read_of bs = cond (ltb longest (length bs)) (refused TooLarge) (by_tokens (tokens_of bs))
