-- The tokens of bytes and the bytes of tokens undo each other; what is stored gives the tokens back.
use Prim.Native.Nat.{ℕ, zero, suc, ◌+◌, ◌*◌, ◌/◌, ◌%◌, ◌^◌, ◌<◌}
use native.Mathlib.Omega.{arith}
use native.Mathlib.Nat.{mod-eq_of_lt}
use mathlib.Core.Path.{◌≡◌, refl, sym, ap, ◌∙◌, subst}
use mathlib.Core.Bool.{Bool, true, false, ◌&&◌}
use mathlib.Core.List.{List, [], ◌∷◌, ◌++◌, map}
use lib.ListN.{length, take, drop, replicate, length-map}
use lib.Seq.{take_at}
use denote.Floats.{passes}
use borrow.Table.Steps.{cases}
use lib.Dec.{eqb, leb, ltb}
use lib.Ieee.{Float, binary32, of_bits, to_bits, fits}
use lib.Ieee.Bits.{of_bits-to_bits, to_bits-of_bits, to_bits-lt}
use lib.Ieee.Scale.{finite}
use borrow.Author.Tests.{ltb-true, leb-true, eqb-true, ne_eqb}
use Rattle.base_timebase.proofs.RangesAndTicks.{finite-no-nan}
use Rattle.base_laws.proofs.Choice.{both_true}
use Rattle.orchestra_tokens.specs.inside.Token.{token_of}
use Rattle.orchestra_tokens.specs.Encoding.{valid, all_valid, two, four, encoded, bytes_of, Bytes, Encodes, OneDecoding}
use Rattle.orchestra_tokens.specs.inside.Scanning.{more, token_from, Scanned, none, some, with, ended, tokens_after, tokens_of, EveryScan}
use Rattle.orchestra_tokens.specs.Measures.{kind_of}
use Rattle.orchestra_tokens.specs.inside.Reading.{padded}
use Rattle.orchestra_tokens.specs.declared.Token.{Token}
use Rattle.orchestra_tokens.specs.declared.Token.TheVariants.{Number, Symbol, Whole, Sign}

pub impossible : {A : Type 0} → ◌≡◌ {A = ℕ} 0 1 → A
impossible z = absurd (omega arith)

pub with_first : (u : Token) (g : Scanned) (t : Token) (ts : List Token) → with u g ≡ some (t ∷ ts) → u ≡ t
with_first u none t ts e = impossible (cc)
with_first u (some us) t ts e = cc

pub with_rest : (u : Token) (g : Scanned) (t : Token) (ts : List Token) → with u g ≡ some (t ∷ ts) → g ≡ some ts
with_rest u none t ts e = impossible (cc)
with_rest u (some us) t ts e = let z : us ≡ ts = cc in ap some z

pub after-drop : (n : ℕ) (bs : List ℕ) → tokens_after n bs ≡ tokens_after 0 (drop n bs)
unfolding tokens_after
after-drop zero [] = refl
after-drop (suc n) [] = refl
after-drop zero (b ∷ bs) = refl
after-drop (suc n) (b ∷ bs) = after-drop n bs

-- ---- from tokens to bytes and back

four-back : (w : ℕ) → w < 2 ^ 32 → 16777216 * (w / 16777216) + (65536 * (w / 65536 % 256) + (256 * (w / 256 % 256) + w % 256)) ≡ w
four-back w h = omega arith

two_back : (s : ℕ) → s < 65536 → (256 * (s / 256) + s % 256) % 65536 ≡ s
two_back s h = omega arith

module _ (rest : List ℕ) where
  abbrev reads : Token → Type 0
  reads t = tokens_after 0 (encoded t ++ rest) ≡ with t (tokens_after 0 rest)

  pub token_back : (t : Token) → valid t ≡ true → reads t
  unfolding tokens_after encoded token_from
  token_back (Number x) e =
      let f = passes (fits binary32 x) (both_true (finite x) (fits binary32 x) e).1 in
      rw (four-back (to_bits binary32 x) (to_bits-lt binary32 x f), of_bits-to_bits binary32 x f, e)
  token_back (Symbol s) e = rw (two_back s (ltb-true s 65536 e), e)
  token_back (Whole w) e = let h = ltb-true w 16777217 e in rw (four-back w (omega arith), e)
  token_back (Sign k) e =
      let lo = ltb-true 0 k (both_true (ltb 0 k) (leb k 36) e).0 in
      let hi = leb-true k 36 (both_true (ltb 0 k) (leb k 36) e).1 in
      rw (ne_eqb k 0xff (λ q. omega arith), ne_eqb k 0xf0 (λ q. omega arith), ne_eqb k 0xf1 (λ q. omega arith), ne_eqb k 0xf2 (λ q. omega arith), e)

-- the tokens of the bytes of valid tokens are those tokens
pub tokens-bytes : (ts : List Token) → all_valid ts ≡ true → tokens_of (bytes_of ts) ≡ some ts
unfolding bytes_of all_valid tokens_after
tokens-bytes [] e = refl
tokens-bytes (t ∷ ts) e =
    token_back (bytes_of ts) t (both_true (valid t) (all_valid ts) e).0 ∙ ap (with t) (tokens-bytes ts (both_true (valid t) (all_valid ts) e).1)

-- ---- from bytes to tokens and back

bytes_drop : (n : ℕ) (bs : List ℕ) → Bytes bs → Bytes (drop n bs)
unfolding Bytes
bytes_drop zero [] p = p
bytes_drop zero (b ∷ bs) p = p
bytes_drop (suc n) [] p = p
bytes_drop (suc n) (b ∷ bs) p = bytes_drop n bs p.1

two-encoded : (h l : ℕ) → h < 256 → l < 256 → two ((256 * h + l) % 65536) ≡ h ∷ l ∷ []
two-encoded h l p q =
    let a : (256 * h + l) % 65536 / 256 ≡ h = omega arith in
    let b : (256 * h + l) % 65536 % 256 ≡ l = omega arith in
    rw (a, b)

four-encoded : (a b c d : ℕ) → a < 256 → b < 256 → c < 256 → d < 256
    → four (16777216 * a + (65536 * b + (256 * c + d))) ≡ a ∷ b ∷ c ∷ d ∷ []
four-encoded a b c d p q r s =
    let w = 16777216 * a + (65536 * b + (256 * c + d)) in
    let e : w / 16777216 ≡ a = omega arith in
    let f : w / 65536 % 256 ≡ b = omega arith in
    let g : w / 256 % 256 ≡ c = omega arith in
    let h : w % 256 ≡ d = omega arith in
    rw (e, f, g, h)

-- bytes that are left start with as many as belong to the token before
after_none : (n : ℕ) (ts : List Token) → tokens_after n [] ≡ some ts → ◌≡◌ {A = ℕ} 0 1
unfolding tokens_after
after_none n ts e = cc

module _ (ts : List Token) where
  symbol-encoded : (bs : List ℕ) → Bytes bs → tokens_after 2 bs ≡ some ts → encoded (token_from 0xf0 bs) ++ drop 2 bs ≡ 0xf0 ∷ bs
  unfolding tokens_after token_from encoded Bytes
  symbol-encoded [] p e = impossible (after_none 2 ts e)
  symbol-encoded (h ∷ []) p e = impossible (after_none 1 ts e)
  symbol-encoded (h ∷ l ∷ bs) p e = ap (λ m. 0xf0 ∷ (m ++ bs)) (two-encoded h l p.0 p.1.0)

  number-encoded : (bs : List ℕ) → Bytes bs → valid (token_from 0xf1 bs) ≡ true → tokens_after 4 bs ≡ some ts → encoded (token_from 0xf1 bs) ++ drop 4 bs ≡ 0xf1 ∷ bs
  unfolding tokens_after token_from encoded Bytes
  number-encoded [] p l e = impossible (after_none 4 ts e)
  number-encoded (a ∷ []) p l e = impossible (after_none 3 ts e)
  number-encoded (a ∷ b ∷ []) p l e = impossible (after_none 2 ts e)
  number-encoded (a ∷ b ∷ c ∷ []) p l e = impossible (after_none 1 ts e)
  number-encoded (a ∷ b ∷ c ∷ d ∷ bs) p l e =
      let w = 16777216 * a + (65536 * b + (256 * c + d)) in
      let h : w < 2 ^ 32 = omega (arith, p.0, p.1.0, p.1.1.0, p.1.1.1.0) in
      let n = finite-no-nan (of_bits binary32 w) (both_true (finite (of_bits binary32 w)) (fits binary32 (of_bits binary32 w)) l).0 in
      rw (to_bits-of_bits binary32 w h n) (ap (λ m. 0xf1 ∷ (m ++ bs)) (four-encoded a b c d p.0 p.1.0 p.1.1.0 p.1.1.1.0))

  whole-encoded : (bs : List ℕ) → Bytes bs → tokens_after 4 bs ≡ some ts → encoded (token_from 0xf2 bs) ++ drop 4 bs ≡ 0xf2 ∷ bs
  unfolding tokens_after token_from encoded Bytes
  whole-encoded [] p e = impossible (after_none 4 ts e)
  whole-encoded (a ∷ []) p e = impossible (after_none 3 ts e)
  whole-encoded (a ∷ b ∷ []) p e = impossible (after_none 2 ts e)
  whole-encoded (a ∷ b ∷ c ∷ []) p e = impossible (after_none 1 ts e)
  whole-encoded (a ∷ b ∷ c ∷ d ∷ bs) p e = ap (λ m. 0xf2 ∷ (m ++ bs)) (four-encoded a b c d p.0 p.1.0 p.1.1.0 p.1.1.1.0)

  -- the token that the first byte starts, encoded, and the bytes after it
  abbrev Encoded·on : List ℕ → ℕ → Type 0
  Encoded·on bs b = valid (token_from b bs) ≡ true → tokens_after (more b) bs ≡ some ts → encoded (token_from b bs) ++ drop (more b) bs ≡ b ∷ bs

  first-encoded : (b : ℕ) (bs : List ℕ) (x y z : Bool) → eqb b 0xf0 ≡ x → eqb b 0xf1 ≡ y → eqb b 0xf2 ≡ z → Bytes bs → Encoded·on bs b
  unfolding token_from encoded
  first-encoded b bs true y z i j k p = subst (Encoded·on bs) (sym (eqb-true b 0xf0 i)) (λ l e. symbol-encoded bs p e)
  first-encoded b bs false true z i j k p = subst (Encoded·on bs) (sym (eqb-true b 0xf1 j)) (λ l e. number-encoded bs p l e)
  first-encoded b bs false false true i j k p = subst (Encoded·on bs) (sym (eqb-true b 0xf2 k)) (λ l e. whole-encoded bs p e)
  first-encoded b bs false false false i j k p = λ l e. rw (i, j, k)

ended_some : (bs : List ℕ) (t : Token) (ts : List Token) → ended bs ≡ some (t ∷ ts) → ◌≡◌ {A = ℕ} 0 1
ended_some [] t ts e = cc
ended_some (b ∷ bs) t ts e = cc

ended-none : (bs : List ℕ) → ended bs ≡ some [] → bs ≡ []
ended-none [] e = refl
ended-none (b ∷ bs) e = impossible (cc)

with_none : (t : Token) (g : Scanned) → with t g ≡ some [] → ◌≡◌ {A = ℕ} 0 1
with_none t none e = cc
with_none t (some ts) e = cc

-- the first byte is no end token, and starts a valid token
record Starts (b : ℕ) (bs : List ℕ) (t : Token) (ts : List Token) : Type 0 where
  fine : valid (token_from b bs) ≡ true
  first : token_from b bs ≡ t
  rest : tokens_after (more b) bs ≡ some ts

starts : (b : ℕ) (bs : List ℕ) (t : Token) (ts : List Token) → tokens_after 0 (b ∷ bs) ≡ some (t ∷ ts) → Starts b bs t ts
unfolding tokens_after
starts b bs t ts e =
    cases (eqb b 0xff) (λ x. impossible (ended_some bs t ts (rw x at e)))
    (λ x.
    cases (valid (token_from b bs))
    (λ l.
    let f = rw (x, l) at e in
    let g = tokens_after (more b) bs in
    record { fine = l; first = with_first (token_from b bs) g t ts f; rest = with_rest (token_from b bs) g t ts f })
    (λ l. let f = rw (x, l) at e in impossible (cc)))

-- only the end token, alone, is no tokens
ends : (b : ℕ) (bs : List ℕ) → tokens_after 0 (b ∷ bs) ≡ some [] → 0xff ∷ [] ≡ b ∷ bs
unfolding tokens_after
ends b bs e =
    cases (eqb b 0xff) (λ x. rw (eqb-true b 0xff x, ended-none bs (rw x at e)))
    (λ x.
    cases (valid (token_from b bs)) (λ l. impossible (with_none (token_from b bs) (tokens_after (more b) bs) (rw (x, l) at e)))
    (λ l. let f = rw (x, l) at e in impossible (cc)))

none-back : (bs : List ℕ) → tokens_of bs ≡ some [] → 0xff ∷ [] ≡ bs
none-back [] e = impossible (after_none 0 [] e)
none-back (b ∷ bs) e = ends b bs e

more-back : (t : Token) (ts : List Token) (bs : List ℕ) → ((cs : List ℕ) → Bytes cs → tokens_of cs ≡ some ts → bytes_of ts ≡ cs)
    → Bytes bs → tokens_of bs ≡ some (t ∷ ts) → encoded t ++ bytes_of ts ≡ bs
unfolding Bytes
more-back t ts [] ih p e = impossible (after_none 0 (t ∷ ts) e)
more-back t ts (b ∷ bs) ih p e =
    let s = starts b bs t ts e in
    ap (λ u. encoded u ++ bytes_of ts) (sym s.first)
    ∙ ap (λ l. encoded (token_from b bs) ++ l) (ih (drop (more b) bs) (bytes_drop (more b) bs p.1) (sym (after-drop (more b) bs) ∙ s.rest))
    ∙ first-encoded ts b bs (eqb b 0xf0) (eqb b 0xf1) (eqb b 0xf2) refl refl refl p.1 s.fine s.rest

-- the bytes of the tokens of bytes are those bytes
pub bytes-tokens : (ts : List Token) (bs : List ℕ) → Bytes bs → tokens_of bs ≡ some ts → bytes_of ts ≡ bs
unfolding bytes_of
bytes-tokens [] bs p e = none-back bs e
bytes-tokens (t ∷ ts) bs p e = more-back t ts bs (λ cs q f. bytes-tokens ts cs q f) p e

more-valid : (t : Token) (ts : List Token) (bs : List ℕ) → ((cs : List ℕ) → tokens_of cs ≡ some ts → all_valid ts ≡ true)
    → tokens_of bs ≡ some (t ∷ ts) → (valid t && all_valid ts) ≡ true
more-valid t ts [] ih e = impossible (after_none 0 (t ∷ ts) e)
more-valid t ts (b ∷ bs) ih e =
    let s = starts b bs t ts e in
    let l : valid t ≡ true = ap valid (sym s.first) ∙ s.fine in
    rw l (ih (drop (more b) bs) (sym (after-drop (more b) bs) ∙ s.rest))

-- and those tokens are valid
pub tokens_valid : (ts : List Token) (bs : List ℕ) → tokens_of bs ≡ some ts → all_valid ts ≡ true
unfolding all_valid
tokens_valid [] bs e = refl
tokens_valid (t ∷ ts) bs e = more-valid t ts bs (λ cs f. tokens_valid ts cs f) e

-- ---- what is found is what is encoded

found-encoded : (bs : List ℕ) (ts : List Token) → Bytes bs → tokens_of bs ≡ some ts → Encodes bs ts
found-encoded bs ts b e = record { listed = tokens_valid ts bs e; encoded = bytes-tokens ts bs b e }

pub encoded-found : (bs : List ℕ) (ts : List Token) → Encodes bs ts → tokens_of bs ≡ some ts
encoded-found bs ts s = ap tokens_of (sym s.encoded) ∙ tokens-bytes ts s.listed

pub every-scan : EveryScan
every-scan bs b =
    record {
      found = λ ts e. found-encoded bs ts b e;
      finds = encoded-found bs;
      unspelt = λ n ts s. impossible (let f = sym n ∙ encoded-found bs ts s in cc);
      nothing = λ h. go h (tokens_of bs) refl;
    }
  where
    go : ((ts : List Token) → Encodes bs ts → ⊥) → (g : Scanned) → tokens_of bs ≡ g → tokens_of bs ≡ none
    go h none e = e
    go h (some ts) e = absurd (h ts (found-encoded bs ts b e))

pub one-decoding : OneDecoding
one-decoding bs ts us s u = let z = sym (encoded-found bs ts s) ∙ encoded-found bs us u in cc

-- ---- what is stored

-- the array holds the tokens that were put in
pub stored-tokens : (ts : List Token) → take (length ts) (padded (Sign 0) ts) ≡ ts
stored-tokens ts = take_at ts (drop (length ts) (replicate 2048 (Sign 0))) (length ts) refl
