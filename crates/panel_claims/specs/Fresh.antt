-- What a fresh start answers: an ordered list of checks, the first that fails gives the number.
use Rattle.std.specs.Prelude.{◌≡◌, true, List, [], ◌∷◌, ℕ, ◌≤◌, length}
use Rattle.orchestra_tokens.specs.declared.Token.{Token}
use Rattle.orchestra_tokens.specs.Encoding.{Encodes}
use Rattle.orchestra_tokens.specs.Measures.{longest, measured}
use Rattle.orchestra_syntax.specs.Tree.{Instrument}
use Rattle.orchestra_syntax.specs.Names.{name_rules}
use Rattle.orchestra_syntax.specs.Rates.{rate_rules}
use Rattle.orchestra_syntax.specs.Grammar.{Orchestra}
use Rattle.player_model.specs.Lists.{Some}
use Rattle.base_answer.specs.declared.Answer.TheVariants.{CutShort, LeftOver, UnknownVersion, OutOfRange}
use Rattle.settings_records.specs.Form.{Parses, IsRecord, refused_as}
use Rattle.settings_records.specs.Changes.{area_bytes}
use Rattle.settings_records.specs.declared.Setting.{Setting}

-- what is asked, and the number that is given where it does not hold
pub record Check : Type 1 where
  pub number : ℕ
  pub asks : Type 0

-- the number of the first check that fails, or 0
pub data First : List Check → ℕ → Type 1 where
  fails : {c : Check} {cs : List Check} → (c.asks → ⊥) → First (c ∷ cs) c.number
  holds : {c : Check} {cs : List Check} {n : ℕ} → c.asks → First cs n → First (c ∷ cs) n
  all : First [] 0

module _ (orchestra : List ℕ) where
  -- the bytes encode tokens of which something holds
  abbrev pub Tokens : (List Token → Type 0) → Type 0
  Tokens P = (ts : List Token) × Encodes orchestra ts × P ts

  -- the bytes encode the tokens of a tree of which something holds
  abbrev pub Tree : (List Instrument → Type 0) → Type 0
  Tree P = (ts : List Token) × (is : List Instrument) × Encodes orchestra ts × Orchestra is ts × P is

-- what a fresh start is given: the orchestra's bytes, the settings area as it is lent, the first settings record, and the instrument of the
-- keyboard's notes
pub record Setup : Type 0 where
  pub orchestra : List ℕ
  pub area : List ℕ
  pub first : List ℕ
  pub chosen : ℕ

-- Document 01: "An orchestra: length over 16,384 bytes (16); 12; token measures (16); 13; 14; 15". Document 02: "A chosen instrument that is not
-- there gives 4 at fresh start, after the orchestra's checks."
abbrev pub orchestra_checks : Setup → List Check
orchestra_checks u =
    record { number = 16; asks = length u.orchestra ≤ longest }
    ∷ record { number = 12; asks = Tokens u.orchestra (λ ts. Unit {0}) }
    ∷ record { number = 16; asks = Tokens u.orchestra (λ ts. measured ts ≡ true) }
    ∷ record { number = 13; asks = Tree u.orchestra (λ is. Unit {0}) }
    ∷ record { number = 14; asks = Tree u.orchestra (λ is. name_rules is ≡ true) }
    ∷ record { number = 15; asks = Tree u.orchestra (λ is. rate_rules is ≡ true) }
    ∷ record { number = 4; asks = Tree u.orchestra (λ is. Some (λ (i : Instrument). i.name ≡ u.chosen) is) }
    ∷ []

-- Document 02: "A fresh start does the same, without 9, before the orchestra's checks": an area of another length 8, the record cut 1, length
-- zero or wrong 11, another version 17, a bad number 3, bytes left over 11. (Its bytes say one of these at most.)
abbrev pub checks : Setup → List Check
checks u =
    record { number = 8; asks = length u.area ≡ area_bytes }
    ∷ record { number = 1; asks = Parses u.first (refused_as CutShort) → ⊥ }
    ∷ record { number = 11; asks = Parses u.first (refused_as LeftOver) → ⊥ }
    ∷ record { number = 17; asks = Parses u.first (refused_as UnknownVersion) → ⊥ }
    ∷ record { number = 3; asks = Parses u.first (refused_as OutOfRange) → ⊥ }
    ∷ record { number = 11; asks = (s : Setting) × IsRecord u.first s }
    ∷ orchestra_checks u
