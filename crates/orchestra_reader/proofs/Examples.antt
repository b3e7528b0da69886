-- Orchestras of each answer: the reader neither refuses all nor accepts all.
use Prim.Native.Nat.{ℕ}
use mathlib.Core.Path.{◌≡◌, refl}
use mathlib.Core.List.{List, [], ◌∷◌, ◌++◌}
use lib.ListN.{replicate}
use Rattle.base_answer.specs.declared.Answer.TheVariants.{Taken, BadToken, BadGrammar, BadNames, BadRates, TooLarge}
use Rattle.orchestra_tokens.specs.inside.Scanning.{tokens_after, token_from}
use Rattle.orchestra_tokens.specs.Measures.{opened, since, brackets_within, stretches_within}
use Rattle.orchestra_expressions.specs.Reader.{deep, reader}
use Rattle.orchestra_grammar.specs.Reader.{deep as deep·all, whole}
use Rattle.orchestra_syntax.specs.Names.{has}
use Rattle.orchestra_syntax.specs.inside.Placed.{place_from}
use Rattle.orchestra_rules.specs.Naming.{names_from, placed_from}
use Rattle.orchestra_rules.specs.Rating.{rates_from}
use Rattle.orchestra_reader.specs.inside.Reading.{read_of, starts_from}

-- the symbol n, below 256
abbrev sym : ℕ → List ℕ
sym n = 0xf0 ∷ 0 ∷ n ∷ []

-- instr 1 ( ) { .. }
abbrev around : List ℕ → List ℕ
around bs = 1 ∷ sym 1 ++ 15 ∷ 16 ∷ 17 ∷ (bs ++ 18 ∷ 0xff ∷ [])

-- output ( 7 ) ;
pub accepts : (read_of (around (6 ∷ 15 ∷ 0xf2 ∷ 0 ∷ 0 ∷ 0 ∷ 7 ∷ 16 ∷ 20 ∷ []))).answer ≡ Taken
unfolding read_of tokens_after token_from opened since brackets_within stretches_within deep reader deep·all whole has place_from names_from placed_from rates_from starts_from
accepts = refl

-- 12: no end token
pub refuses-tokens : (read_of []).answer ≡ BadToken
unfolding read_of tokens_after
refuses-tokens = refl

-- 16: 25 brackets open
pub refuses-brackets : (read_of (replicate 25 15 ++ 0xff ∷ [])).answer ≡ TooLarge
unfolding read_of tokens_after token_from opened since brackets_within stretches_within
refuses-brackets = refl

-- 13: no instrument
pub refuses-nothing : (read_of (0xff ∷ [])).answer ≡ BadGrammar
unfolding read_of tokens_after token_from opened since brackets_within stretches_within deep reader deep·all whole
refuses-nothing = refl

-- 14: output ( s2 ) ; where nothing is declared
pub refuses-names : (read_of (around (6 ∷ 15 ∷ sym 2 ++ 16 ∷ 20 ∷ []))).answer ≡ BadNames
unfolding read_of tokens_after token_from opened since brackets_within stretches_within deep reader deep·all whole has place_from names_from placed_from rates_from starts_from
refuses-names = refl

-- 15: ivar s2 ; ksig s3 ; s2 = s3 ;
pub refuses-rates : (read_of (around (2 ∷ sym 2 ++ 20 ∷ 3 ∷ sym 3 ++ 20 ∷ sym 2 ++ 21 ∷ sym 3 ++ 20 ∷ []))).answer ≡ BadRates
unfolding read_of tokens_after token_from opened since brackets_within stretches_within deep reader deep·all whole has place_from names_from placed_from rates_from starts_from
refuses-rates = refl
