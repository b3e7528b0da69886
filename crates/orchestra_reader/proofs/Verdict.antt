-- Every orchestra is given what its tokens and its tree say, and has one reading only.
use Prim.Native.Nat.{ℕ, ◌≤◌}
use native.Mathlib.Omega.{arith}
use mathlib.Core.Path.{◌≡◌, refl, sym, ap, ◌∙◌}
use mathlib.Core.Bool.{Bool, true, false, cond}
use mathlib.Core.List.{List, [], map}
use lib.ListN.{length, take}
use lib.Dec.{ltb}
use borrow.Author.Tests.{ltb-true, ltb-false, lt-ltb, le-ltb}
use Rattle.base_answer.specs.declared.Answer.TheVariants.{Taken, BadGrammar, BadNames, BadRates}
use Rattle.orchestra_tokens.specs.declared.Token.{Token}
use Rattle.orchestra_tokens.specs.inside.Scanning.{Scanned, none, some, tokens_of}
use Rattle.orchestra_tokens.specs.Measures.{longest, measured}
use Rattle.orchestra_tokens.proofs.RoundTrip.{impossible as never, every-scan, encoded-found, one-decoding}
use Rattle.orchestra_syntax.specs.Tree.{Instrument}
use Rattle.orchestra_syntax.specs.Names.{name_rules}
use Rattle.orchestra_syntax.specs.inside.Placed.{placed}
use Rattle.orchestra_syntax.specs.Rates.{rate_rules}
use Rattle.orchestra_syntax.proofs.Rates.{rates-agree}
use Rattle.orchestra_syntax.specs.inside.Program.{program}
use Rattle.orchestra_expressions.specs.Reader.{Res, no, ok}
use Rattle.orchestra_expressions.proofs.ReaderSteps.{by_arm, All, none as unread, some as read}
use Rattle.orchestra_syntax.specs.Grammar.{Orchestra}
use Rattle.orchestra_grammar.specs.Reader.{orchestra}
use Rattle.orchestra_grammar.proofs.Complete.{complete}
use Rattle.orchestra_grammar.proofs.Sound.{Orchestrated, sound}
use Rattle.orchestra_grammar.proofs.Unique.{unique}
use Rattle.orchestra_rules.specs.Formed.{ops_of, args_of, vals_of}
use Rattle.orchestra_rules.specs.Naming.{names_pass, places_pass}
use Rattle.orchestra_rules.specs.Rating.{rates_pass}
use Rattle.orchestra_rules.proofs.NamesLaw.{names-law}
use Rattle.orchestra_rules.proofs.PlacesLaw.{places-law, ops-stay, vals-stay}
use Rattle.orchestra_rules.proofs.RatesLaw.{rates-law}
use Rattle.orchestra_reader.specs.declared.OrchestraRead.{OrchestraRead}
use Rattle.orchestra_reader.specs.inside.Compiled.{laid, compile, blank}
use Rattle.orchestra_reader.specs.inside.Reading.{taken, refused, starts_from, by_rates, by_names, by_grammar, by_tokens, read_of}
use Rattle.orchestra_reader.specs.Verdict.{Sized, Accepted, Verdict, too_long, no_tokens, too_large, outside, misnamed, misrated, accepted, EveryVerdict, VerdictGiven, AcceptedExactly, OneReading, RefusedBlank}
use Rattle.orchestra_reader.proofs.Formed.{formed}
use Rattle.orchestra_reader.proofs.Heads.{heads-are, all-heads, at-most-8}

module _ {is : List Instrument} {ts : List Token} (d : Orchestra is ts) where
  -- the program of a tree, judged by the name rules and then by the rate rules
  names-judged : (b : Bool) → name_rules is ≡ b
      → by_names (ops_of (program is)) (args_of (program is)) (vals_of (program is))
      ≡ cond b (by_rates (ops_of (program is)) (places_pass (ops_of (program is)) (args_of (program is))) (vals_of (program is))) (refused BadNames)
  names-judged b e = rw (names-law is (formed d), e)

  compiled : name_rules is ≡ true
      → laid (take 8 (starts_from 0 (ops_of (program is)))) (ops_of (program is)) (args_of (program (map placed is))) (vals_of (program is)) ≡ compile is
  unfolding compile
  compiled n = rw (heads-are is (formed d) 0, all-heads is (at-most-8 is n), ops-stay is, vals-stay is)

  rates-judged : name_rules is ≡ true → (b : Bool) → rate_rules is ≡ b
      → by_rates (ops_of (program is)) (places_pass (ops_of (program is)) (args_of (program is))) (vals_of (program is)) ≡ cond b (taken (compile is)) (refused BadRates)
  rates-judged n b e = rw (places-law is (formed d) n, rates_pass-is, compiled n)
    where
      rates_pass-is : rates_pass (ops_of (program is)) (args_of (program (map placed is))) ≡ b
      rates_pass-is = ap (λ l. rates_pass l (args_of (program (map placed is)))) (sym (ops-stay is)) ∙ rates-law is (formed d) n ∙ rates-agree is n ∙ e

-- a reading by the grammar, judged
module _ (bs : List ℕ) (ts : List Token) (s : Sized bs ts) where
  derived-verdict : (is : List Instrument) → Orchestra is ts → Verdict bs (by_grammar (ok (program is) []))
  derived-verdict is d =
      rw (names-law is (formed d))
      (by_arm (Verdict bs) (name_rules is) _ _
      (λ n. rw (rates-judged d n (rate_rules is) refl)
      (by_arm (Verdict bs) (rate_rules is) _ _ (λ e. accepted is (record { tokens = ts; sized = s; derived = d; named = n; rated = e })) (λ e. misrated ts is s d n e)))
      (λ n. misnamed ts is s d n))

  grammar-verdict : (x : Res) → orchestra ts ≡ x → All (Orchestrated ts) x → Verdict bs (by_grammar x)
  grammar-verdict no e unread = outside ts s (λ is d. let z = sym e ∙ complete d in let y : ◌≡◌ {A = ℕ} 0 1 = cc in omega arith)
  grammar-verdict (ok c r) e (read h) = rw h.code (derived-verdict h.tree h.derives)

pub every-verdict : EveryVerdict
unfolding read_of
every-verdict bs b =
    by_arm (Verdict bs) (ltb longest (length bs)) _ _ (λ e. too_long (ltb-true longest (length bs) e)) (λ e. by-tokens (ltb-false longest (length bs) e) (tokens_of bs) refl)
  where
    by-tokens : length bs ≤ longest → (g : Scanned) → tokens_of bs ≡ g → Verdict bs (by_tokens g)
    by-tokens le none e = no_tokens le ((every-scan bs b).unspelt e)
    by-tokens le (some ts) e =
        let s = (every-scan bs b).found ts e in
        by_arm (Verdict bs) (measured ts) _ _ (λ m. grammar-verdict bs ts (record { short = le; encodes = s; within = m }) (orchestra ts) refl (sound ts))
        (λ m. too_large ts le s m)

pub one-reading : OneReading
one-reading bs is js a b =
    unique a.derived b.derived (one-decoding bs a.tokens b.tokens a.sized.encodes b.sized.encodes)

-- the bytes of an accepted orchestra are read so
accepted-read : (bs : List ℕ) (is : List Instrument) → Accepted bs is → read_of bs ≡ taken (compile is)
unfolding read_of
accepted-read bs is a =
    let n : ltb longest (length bs) ≡ false = le-ltb longest (length bs) a.sized.short in
    rw (n, encoded-found bs a.tokens a.sized.encodes, a.sized.within, complete a.derived)
    (names-judged a.derived true a.named ∙ rates-judged a.derived a.named true a.rated)

-- no tree derives the tokens: nothing is read
unread-so : (ts : List Token) → ((is : List Instrument) → Orchestra is ts → ⊥) → (x : Res) → All (Orchestrated ts) x → by_grammar x ≡ refused BadGrammar
unread-so ts f no h = refl
unread-so ts f (ok c r) (read h) = absurd (f h.tree h.derives)

-- tokens within the sizes are judged by the grammar
sized-read : (bs : List ℕ) (ts : List Token) → Sized bs ts → read_of bs ≡ by_grammar (orchestra ts)
unfolding read_of
sized-read bs ts s = rw (le-ltb longest (length bs) s.short, encoded-found bs ts s.encodes, s.within)

pub verdict-given : VerdictGiven
unfolding read_of
verdict-given bs r b (too_long lt) = rw (lt-ltb longest (length bs) lt)
verdict-given bs r b (no_tokens le f) = rw (le-ltb longest (length bs) le, (every-scan bs b).nothing f)
verdict-given bs r b (too_large ts le s m) = rw (le-ltb longest (length bs) le, encoded-found bs ts s, m)
verdict-given bs r b (outside ts s f) = sized-read bs ts s ∙ unread-so ts f (orchestra ts) (sound ts)
verdict-given bs r b (misnamed ts is s d n) = sized-read bs ts s ∙ ap by_grammar (complete d) ∙ names-judged d false n
verdict-given bs r b (misrated ts is s d n e) = sized-read bs ts s ∙ ap by_grammar (complete d) ∙ names-judged d true n ∙ rates-judged d n false e
verdict-given bs r b (accepted is a) = accepted-read bs is a

-- a verdict of 0 comes from an accepted orchestra
taken-accepted : (bs : List ℕ) (r : OrchestraRead) → Verdict bs r → r.answer ≡ Taken → (is : List Instrument) × Accepted bs is
taken-accepted bs r (too_long lt) e = never (cc)
taken-accepted bs r (no_tokens le f) e = never (cc)
taken-accepted bs r (too_large ts le f m) e = never (cc)
taken-accepted bs r (outside ts s f) e = never (cc)
taken-accepted bs r (misnamed ts is s d f) e = never (cc)
taken-accepted bs r (misrated ts is s d n f) e = never (cc)
taken-accepted bs r (accepted is a) e = (is, a)

pub accepted-exactly : AcceptedExactly
accepted-exactly bs = ((λ b e. taken-accepted bs (read_of bs) (every-verdict bs b) e), λ is a. accepted-read bs is a)

-- ---- a refusal hands back a blank program, whatever was handed in

abbrev Blank : OrchestraRead → Type 0
Blank o = (o.answer ≡ Taken → ⊥) → o.program ≡ blank

blank-if : (b : Bool) (x y : OrchestraRead) → Blank x → Blank y → Blank (cond b x y)
blank-if b x y f g = by_arm Blank b x y (λ e. f) (λ e. g)

by-grammar : (x : Res) → Blank (by_grammar x)
by-grammar no = λ n. refl
by-grammar (ok c r) =
    blank-if (names_pass (ops_of c) (args_of c)) _ _
    (blank-if (rates_pass (ops_of c) (places_pass (ops_of c) (args_of c))) _ _ (λ n. absurd (n refl)) (λ n. refl)) (λ n. refl)

by-scan : (g : Scanned) → Blank (by_tokens g)
by-scan none = λ n. refl
by-scan (some ts) = blank-if (measured ts) _ _ (by-grammar (orchestra ts)) (λ n. refl)

pub refused-blank : RefusedBlank
unfolding read_of
refused-blank bs = blank-if (ltb longest (length bs)) _ _ (λ n. refl) (by-scan (tokens_of bs))
