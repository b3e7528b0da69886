-- What the first pass finds of the tokens, and what `read` gives by it.
use Prim.Native.Nat.{ℕ, ◌≤◌, ◌<◌}
use mathlib.Core.Path.{◌≡◌, refl, sym, ap, ◌∙◌}
use mathlib.Core.Bool.{Bool, true, false, ◌&&◌, cond}
use mathlib.Core.List.{List}
use native.Mathlib.Nat.{zero-add}
use lib.ListN.{length}
use lib.Dec.{leb}
use borrow.Author.Tests.{lt-ltb, le-ltb, leb-true}
use Rattle.std.specs.Prelude.{Result, Ok, Err}
use Rattle.base_answer.specs.declared.Answer.{Answer}
use Rattle.base_answer.specs.declared.Answer.TheVariants.{BadToken, TooLarge}
use Rattle.orchestra_tokens.specs.inside.Scanning.{Scanned, none, some, tokens_of, tokens_in}
use Rattle.orchestra_tokens.specs.Measures.{longest, brackets_within, stretches_within}
use Rattle.orchestra_tokens.specs.inside.Passes.{finished, start, scanned}
use Rattle.orchestra_tokens.specs.inside.Reading.{stored, judged, read_of}
use Rattle.orchestra_tokens.specs.declared.Token.{Token}
use Rattle.orchestra_tokens.specs.declared.Tokens.{Tokens}
use Rattle.orchestra_tokens.proofs.RoundTrip.{impossible}

-- tokens that fit are taken, all else is refused
data Ends (g : Scanned) : Result ℕ Answer → Result Tokens Answer → Type 0 where
  taken : (ts : List Token) → g ≡ some ts → length ts ≤ 2048 → Ends g (Ok (length ts)) (Ok (stored ts))
  refused : (a : Answer) → Ends g (Err a) (Err a)

ends : (g : Scanned) → Ends g (finished start g) (judged g)
ends none = refused BadToken
ends (some ts) = rw zero-add (go (leb (length ts) 2048) (brackets_within 0 ts && stretches_within 0 ts) refl)
  where
    go : (a b : Bool) → leb (length ts) 2048 ≡ a
        → Ends (some ts) (cond (a && b) (Ok (length ts)) (Err TooLarge)) (cond (a && b) (Ok (stored ts)) (Err TooLarge))
    go true true l = taken ts refl (leb-true (length ts) 2048 l)
    go true false l = refused TooLarge
    go false b l = refused TooLarge

refused-too : {g : Scanned} {r : Result ℕ Answer} {t : Result Tokens Answer} → Ends g r t → (a : Answer) → r ≡ Err a → t ≡ Err a
refused-too (taken ts e l) a h = impossible (cc)
refused-too (refused b) a h = let z : b ≡ a = cc in ap Err z

-- bytes that the first pass took
pub record Took (bs : List ℕ) (n : ℕ) : Type 0 where
  pub some_is : tokens_of bs ≡ some (tokens_in (tokens_of bs))
  pub count-is : n ≡ length (tokens_in (tokens_of bs))
  pub room : length (tokens_in (tokens_of bs)) ≤ 2048
  pub judged-is : judged (tokens_of bs) ≡ Ok (stored (tokens_in (tokens_of bs)))

took_by : {g : Scanned} {r : Result ℕ Answer} {t : Result Tokens Answer} → Ends g r t → (n : ℕ) → r ≡ Ok n
    → (g ≡ some (tokens_in g)) × (n ≡ length (tokens_in g)) × (length (tokens_in g) ≤ 2048) × (t ≡ Ok (stored (tokens_in g)))
took_by (taken ts e l) n h = let z : n ≡ length ts = cc in rw e (refl, z, l, refl)
took_by (refused a) n h = impossible (cc)

pub took : (bs : List ℕ) (n : ℕ) → scanned bs ≡ Ok n → Took bs n
unfolding scanned
took bs n e = let p = took_by (ends (tokens_of bs)) n e in record { some_is = p.0; count-is = p.1; room = p.2; judged-is = p.3 }

module _ (bs : List ℕ) where
  pub read-long : longest < length bs → Err TooLarge ≡ read_of bs
  unfolding read_of
  read-long lt = rw (lt-ltb longest (length bs) lt)

  pub read_taken : {t : Tokens} → length bs ≤ longest → judged (tokens_of bs) ≡ Ok t → Ok t ≡ read_of bs
  unfolding read_of
  read_taken le e = rw (le-ltb longest (length bs) le) (sym e)

  pub read-refused : {r : Result Tokens Answer} {s : Result ℕ Answer} (a : Answer) → length bs ≤ longest → s ≡ scanned bs → s ≡ Err a → r ≡ Err a → r ≡ read_of bs
  unfolding read_of scanned
  read-refused a le p e q = q ∙ rw (le-ltb longest (length bs) le) (sym (refused-too (ends (tokens_of bs)) a (sym p ∙ e)))
