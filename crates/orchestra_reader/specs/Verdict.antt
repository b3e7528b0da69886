-- When an orchestra is accepted, and with which number it is refused else, in terms of the tokens that it encodes and of its tree: condition 2 and
-- document 01's order of faults. The reader's program is `compile` of the one tree.
use Rattle.std.specs.Prelude.{ℕ, ◌≤◌, ◌<◌, ◌≡◌, true, false, List, length}
use Rattle.base_answer.specs.declared.Answer.TheVariants.{Taken, BadToken, BadGrammar, BadNames, BadRates, TooLarge}
use Rattle.orchestra_tokens.specs.declared.Token.{Token}
use Rattle.orchestra_tokens.specs.Encoding.{Bytes, Encodes}
use Rattle.orchestra_tokens.specs.Measures.{longest, measured}
use Rattle.orchestra_syntax.specs.Tree.{Instrument}
use Rattle.orchestra_syntax.specs.Names.{name_rules}
use Rattle.orchestra_syntax.specs.Rates.{rate_rules}
use Rattle.orchestra_syntax.specs.Grammar.{Orchestra}
use Rattle.orchestra_reader.specs.inside.Compiled.{compile, blank}
use Rattle.orchestra_reader.specs.inside.Reading.{taken, refused, read_of}
use Rattle.orchestra_reader.specs.declared.OrchestraRead.{OrchestraRead}

-- the bytes are these tokens, within the sizes
pub record Sized (bs : List ℕ) (ts : List Token) : Type 0 where
  pub short : length bs ≤ longest
  pub encodes : Encodes bs ts
  pub within : measured ts ≡ true

-- an orchestra that is accepted: tokens within the sizes, and a tree that derives them and keeps the name rules and the rate rules
pub record Accepted (bs : List ℕ) (is : List Instrument) : Type 0 where
  pub tokens : List Token
  pub sized : Sized bs tokens
  pub derived : Orchestra is tokens
  pub named : name_rules is ≡ true
  pub rated : rate_rules is ≡ true

-- what each orchestra is given
pub data Verdict (bs : List ℕ) : OrchestraRead → Type 0 where
  -- 16: length over 16,384 bytes
  too_long : longest < length bs → Verdict bs (refused TooLarge)
  -- 12: not the bytes of any tokens
  no_tokens : length bs ≤ longest → ((ts : List Token) → Encodes bs ts → ⊥) → Verdict bs (refused BadToken)
  -- 16: tokens that break the measures
  too_large : (ts : List Token) → length bs ≤ longest → Encodes bs ts → measured ts ≡ false → Verdict bs (refused TooLarge)
  -- 13: no tree derives them
  outside : (ts : List Token) → Sized bs ts → ((is : List Instrument) → Orchestra is ts → ⊥) → Verdict bs (refused BadGrammar)
  -- 14: the tree breaks the name rules
  misnamed : (ts : List Token) (is : List Instrument) → Sized bs ts → Orchestra is ts → name_rules is ≡ false → Verdict bs (refused BadNames)
  -- 15: it keeps those and breaks the rate rules
  misrated : (ts : List Token) (is : List Instrument) → Sized bs ts → Orchestra is ts → name_rules is ≡ true → rate_rules is ≡ false
      → Verdict bs (refused BadRates)
  -- 0: it keeps both
  accepted : (is : List Instrument) → Accepted bs is → Verdict bs (taken (compile is))

-- Every orchestra, which is bytes, is given what its tokens and its tree say.
abbrev pub EveryVerdict : Type 0
EveryVerdict = (bs : List ℕ) → Bytes bs → Verdict bs (read_of bs)

-- And each answer is given whenever its condition holds: with the above, exactly then.
abbrev pub VerdictGiven : Type 0
VerdictGiven = (bs : List ℕ) (r : OrchestraRead) → Bytes bs → Verdict bs r → read_of bs ≡ r

-- An orchestra is accepted exactly when some tree is its reading,
abbrev pub AcceptedExactly : Type 0
AcceptedExactly = (bs : List ℕ) → (Bytes bs → (read_of bs).answer ≡ Taken → (is : List Instrument) × Accepted bs is)
    × ((is : List Instrument) → Accepted bs is → read_of bs ≡ taken (compile is))

-- and it has one reading only.
abbrev pub OneReading : Type 0
OneReading = (bs : List ℕ) (is js : List Instrument) → Accepted bs is → Accepted bs js → is ≡ js

-- A refusal hands back a blank program.
abbrev pub RefusedBlank : Type 0
RefusedBlank = (bs : List ℕ) → ((read_of bs).answer ≡ Taken → ⊥) → (read_of bs).program ≡ blank
