-- What the first pass over an orchestra's bytes keeps and finds.
use Rattle.std.specs.Prelude.{Result, Ok, Err, ℕ, ◌+◌, Bool, true, ◌&&◌, cond, List, [], length, drop, get_or, eqb, leb}
use Rattle.base_answer.specs.declared.Answer.{Answer}
use Rattle.base_answer.specs.declared.Answer.TheVariants.{BadToken, TooLarge}
use Rattle.orchestra_tokens.specs.inside.Scanning.{Scanned, none, some, token_from, tokens_of}
use Rattle.orchestra_tokens.specs.Measures.{most_tokens, most_brackets, longest_stretch, opened, since, brackets_within, stretches_within}
use Rattle.orchestra_tokens.specs.declared.Token.{Token}
use Rattle.orchestra_tokens.specs.declared.Measure.{Measure}

-- the token that stands at a place
abbrev pub standing : List ℕ → ℕ → Token
standing bs at = token_from (get_or bs at 0) (drop (at + 1) bs)

abbrev pub measure : ℕ → ℕ → ℕ → Bool → Measure
measure c o r f = record { count = c; depth = o; run = r; fits = f }

-- the measures after one more token, of the kind k
unfoldable pub next : Measure → ℕ → Measure
next m k =
    measure (m.count + 1) (opened m.depth k) (since m.run k)
    (m.fits && (leb (opened m.depth k) most_brackets && leb (since m.run k) longest_stretch))

-- whether tokens that follow keep the measures too
abbrev pub measures_hold : Measure → List Token → Bool
measures_hold m ts = m.fits && (leb (m.count + length ts) most_tokens && (brackets_within m.depth ts && stretches_within m.run ts))

-- the number of tokens or the refusal, where m was measured and the tokens left are those got
abbrev pub finished : Measure → Scanned → Result ℕ Answer
finished m none = Err BadToken
finished m (some ts) = cond (measures_hold m ts) (Ok (m.count + length ts)) (Err TooLarge)

-- at the end token, with as many bytes left as it and those after it are
abbrev pub closed_of : Measure → ℕ → Result ℕ Answer
closed_of m left = finished m (cond (eqb left 1) (some []) none)

abbrev pub start : Measure
start = measure 0 0 0 true

unfoldable pub scanned : List ℕ → Result ℕ Answer
scanned bs = finished start (tokens_of bs)
