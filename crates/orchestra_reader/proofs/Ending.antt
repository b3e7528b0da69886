-- The ways through the reading of a whole orchestra.
use Prim.Native.Nat.{ℕ, suc, ◌+◌, ◌≤◌}
use native.Mathlib.Omega.{arith}
use mathlib.Core.Path.{◌≡◌, refl, sym, ap, ◌∙◌, subst}
use mathlib.Core.Bool.{Bool, true, false, cond, ◌&&◌}
use mathlib.Core.List.{List, [], ◌∷◌, ◌++◌, map}
use lib.ListN.{length, take, drop, replicate, length-map, length-append, length-replicate, length-drop}
use lib.Seq.{take_at, drop_at, sets, sets-eq}
use lib.Dec.{ltb, leb}
use lib.Ieee.{Float}
use borrow.Author.Tests.{leb-true}
use Rattle.base_laws.proofs.Choice.{both_true}
use Rattle.std.specs.Prelude.{Result, Ok, Err}
use Rattle.base_answer.specs.Numbers.{is_taken}
use Rattle.base_answer.specs.declared.Answer.{Answer}
use Rattle.base_answer.specs.declared.Answer.TheVariants.{Taken, BadToken, BadGrammar, BadNames, BadRates, TooLarge}
use Rattle.orchestra_tokens.specs.declared.Token.{Token}
use Rattle.orchestra_tokens.specs.declared.Token.TheVariants.{Sign}
use Rattle.orchestra_tokens.specs.declared.Tokens.{Tokens}
use Rattle.orchestra_tokens.specs.inside.Scanning.{Scanned as Encoded, none, some, tokens_of}
use Rattle.orchestra_tokens.specs.Measures.{longest, measured, brackets_within, stretches_within}
use Rattle.orchestra_tokens.specs.inside.Reading.{stored as stored·tokens, judged, read_of as tokens·of}
use Rattle.orchestra_tokens.proofs.RoundTrip.{impossible as never, stored-tokens}
use Rattle.orchestra_syntax.specs.Tree.{Instrument}
use Rattle.orchestra_syntax.specs.inside.Program.{zero_f, program, op_class_of}
use Rattle.orchestra_syntax.specs.Names.{Named}
use Rattle.orchestra_expressions.specs.Reader.{Res, no, ok}
use Rattle.std.specs.Prelude.{Some, None}
use Rattle.orchestra_expressions.specs.Areas.{ParseState, Areas, areas}
use Rattle.orchestra_expressions.proofs.ReaderSteps.{by_arm, All, some as took}
use Rattle.orchestra_expressions.proofs.Moves.{same_out}
use Rattle.orchestra_expressions.proofs.Runs.{took_of}
use Rattle.orchestra_syntax.specs.Grammar.{Orchestra}
use Rattle.orchestra_grammar.specs.Reader.{orchestra, step_instruments}
use Rattle.orchestra_grammar.proofs.Steady.{whole-took}
use Rattle.orchestra_grammar.proofs.Steps.{steady-instruments}
use Rattle.orchestra_grammar.proofs.Complete.{complete}
use Rattle.orchestra_grammar.proofs.Sound.{Orchestrated, sound}
use Rattle.orchestra_parser.specs.Reading.{Reads, read, refused as unread}
use Rattle.orchestra_rules.specs.Formed.{ops_of, args_of, vals_of}
use Rattle.orchestra_name_rules.specs.Entries.{names_after}
use Rattle.orchestra_rules.specs.Naming.{names_pass, places_pass, placed_from}
use Rattle.orchestra_rules.specs.Rating.{rates_pass}
use Rattle.orchestra_reader.specs.declared.OrchestraRead.{OrchestraRead}
use Rattle.orchestra_reader.specs.inside.Compiled.{padded}
use Rattle.orchestra_reader.specs.inside.Reading.{taken, refused, starts_from, by_names, by_grammar, read_of}
use Rattle.orchestra_reader.specs.inside.Arrays.{judgement, placed_if, kept_in, finished_in}

-- ---- the rules, in arrays

module _ (os ns : List ℕ) (vs : List Float) (n : ℕ) {a : Answer} (e : a ≡ judgement (take n os) (take n ns)) {b : Bool} (f : b ≡ is_taken a) where
  pub finished-kept : {ms : List ℕ} {r : OrchestraRead} → ms ≡ placed_if (take n os) (take n ns) → b ≡ true → r ≡ kept_in os (ms ++ drop n ns) vs n → r ≡ finished_in os ns vs n
  finished-kept g h k = rw (← e, ← f, h) (k ∙ ap (λ l. kept_in os (l ++ drop n ns) vs n) g)

  pub finished-not : {r : OrchestraRead} → b ≡ false → r ≡ refused a → r ≡ finished_in os ns vs n
  finished-not h k = rw (← e, ← f, h) k

length-placed : (os ns : List ℕ) (ms : List Named) → length (placed_from os ns ms) ≡ length ns
unfolding placed_from
length-placed [] ns ms = refl
length-placed (o ∷ os) [] ms = refl
length-placed (o ∷ os) (w ∷ ns) ms = ap suc (length-placed os ns (names_after (op_class_of o) o w ms))

-- the first cells of an array that starts with some elements, and those behind them
cells : {A : Type 0} (d : A) (xs : List A) (n : ℕ) → length xs ≡ n → take n (padded 2048 d xs) ≡ xs
cells d xs n e = take_at xs (drop (length xs) (replicate 2048 d)) n e

behind : {A : Type 0} (d : A) (xs ys : List A) (n : ℕ) → length xs ≡ n → length ys ≡ n → ys ++ drop n (padded 2048 d xs) ≡ padded 2048 d ys
behind d xs ys n e f = ap (λ l. ys ++ l) (drop_at xs (drop (length xs) (replicate 2048 d)) n e ∙ ap (λ k. drop k (replicate 2048 d)) (e ∙ sym f))

module _ (os ns : List ℕ) (vs : List Float) (n : ℕ) (a : length os ≡ n) (b : length ns ≡ n) where
  -- a program of these, of the length k
  abbrev laid·as : ℕ → OrchestraRead
  laid·as k = taken (record {
    count = length (take 8 (starts_from 0 os));
    heads = padded 8 0 (take 8 (starts_from 0 os));
    length = k;
    ops = padded 2048 0 os;
    args = padded 2048 0 (places_pass os ns);
    vals = padded 2048 zero_f vs;
  })

  judged-so : (p q : Bool) → names_pass os ns ≡ p → rates_pass os (places_pass os ns) ≡ q
      → finished_in (padded 2048 0 os) (padded 2048 0 ns) (padded 2048 zero_f vs) n ≡ cond p (cond q (laid·as (length os)) (refused BadRates)) (refused BadNames)
  judged-so true true e f =
      rw (cells 0 os n a, cells 0 ns n b, e, f, behind 0 ns (places_pass os ns) n b (length-placed os ns [] ∙ b)) (ap laid·as (sym a))
  judged-so true false e f = rw (cells 0 os n a, cells 0 ns n b, e, f)
  judged-so false q e f = rw (cells 0 os n a, cells 0 ns n b, e)

  pub finished-is : finished_in (padded 2048 0 os) (padded 2048 0 ns) (padded 2048 zero_f vs) n ≡ by_names os ns vs
  finished-is = judged-so (names_pass os ns) (rates_pass os (places_pass os ns)) refl refl

-- ---- the grammar

front : {A : Type 0} (d : A) (xs : List A) → length xs ≤ 2048 → sets (replicate 2048 d) 0 xs ≡ padded 2048 d xs
front d xs le =
    let z : 0 + length xs ≡ length xs = omega arith in
    sets-eq xs (replicate 2048 d) 0 (omega (arith, length-replicate 2048 d)) ∙ ap (λ k. xs ++ drop k (replicate 2048 d)) z

program-short : {is : List Instrument} {ts : List Token} → Orchestra is ts → length (program is) ≤ length ts
program-short {ts = ts} d = omega (arith, (took_of (whole-took step_instruments steady-instruments ts) (complete d)).room)

module _ {ts : List Token} {m n : Areas} {g : ParseState} where
  pub parsed-fits : {at out : ℕ} → Reads ts m g n → g ≡ Some (at, out) → length ts ≤ 2048 → out ≤ 2048
  parsed-fits {out = out} (read is d e f) h le = let z : out ≡ length (program is) = same_out h e in omega (arith, program-short d)
  parsed-fits (unread c k e f) h le = never (let z = sym h ∙ e in cc)

  pub parsed-not : {r : OrchestraRead} → Reads ts m g n → g ≡ None → r ≡ refused BadGrammar → r ≡ by_grammar (orchestra ts)
  parsed-not (read is d e f) h k = never (let z = sym h ∙ e in cc)
  parsed-not {r} (unread c none·so e f) h k = go (orchestra ts) (sound ts)
    where
      go : (x : Res) → All (Orchestrated ts) x → r ≡ by_grammar x
      go no s = k
      go (ok c q) (took s) = absurd (none·so s.tree s.derives)

pub parsed-is : {ts : List Token} {g : ParseState} {os ns : List ℕ} {vs : List Float} {at out : ℕ} {r : OrchestraRead}
    → Reads ts (areas (replicate 2048 0) (replicate 2048 0) (replicate 2048 zero_f)) g (areas os ns vs) → g ≡ Some (at, out) → length ts ≤ 2048
    → r ≡ finished_in os ns vs out → r ≡ by_grammar (orchestra ts)
parsed-is {ts} {os = os} {ns = ns} {vs = vs} {out = out} {r = r} (read is d e f) h le k =
    let c = program is in
    let z : out ≡ length c = same_out h e in
    let s = program-short d in
    let o : os ≡ padded 2048 0 (ops_of c) = ap (λ (m : Areas). m.ops) f ∙ front 0 (ops_of c) (rw length-map (omega arith)) in
    let a : ns ≡ padded 2048 0 (args_of c) = ap (λ (m : Areas). m.args) f ∙ front 0 (args_of c) (rw length-map (omega arith)) in
    let v : vs ≡ padded 2048 zero_f (vals_of c) = ap (λ (m : Areas). m.vals) f ∙ front zero_f (vals_of c) (rw length-map (omega arith)) in
    k ∙ rw (o, a, v, z, complete d) (finished-is (ops_of c) (args_of c) (vals_of c) (length c) (length-map c _) (length-map c _))
parsed-is (unread c k e f) h le r = never (let z = sym h ∙ e in cc)

-- ---- the tokens

-- what the tokens of taken bytes lead to
pub record Encoded·so (bs : List ℕ) (t : Tokens) : Type 0 where
  pub few : t.count ≤ 2048
  pub cells : length t.tokens ≡ 2048
  pub means : by_grammar (orchestra (take t.count t.tokens)) ≡ read_of bs

data View (bs : List ℕ) : Result Tokens Answer → Type 0 where
  encoded : (ts : List Token) → length ts ≤ 2048 → tokens_of bs ≡ some ts → read_of bs ≡ by_grammar (orchestra ts) → View bs (Ok (stored·tokens ts))
  not·encoded : (a : Answer) → read_of bs ≡ refused a → View bs (Err a)

few-tokens : (ts : List Token) → measured ts ≡ true → length ts ≤ 2048
few-tokens ts e = leb-true (length ts) 2048 (both_true (leb (length ts) 2048) (brackets_within 0 ts && stretches_within 0 ts) e).0

view : (bs : List ℕ) → View bs (tokens·of bs)
unfolding tokens·of read_of
view bs = by_arm (View bs) (ltb longest (length bs)) _ _ (λ e. not·encoded TooLarge (rw e)) (λ e. by-tokens e (tokens_of bs) refl)
  where
    by-tokens : ltb longest (length bs) ≡ false → (g : Encoded) → tokens_of bs ≡ g → View bs (judged g)
    by-tokens l none e = not·encoded BadToken (rw (l, e))
    by-tokens l (some ts) e = by_arm (View bs) (measured ts) _ _ (λ m. encoded ts (few-tokens ts m) e (rw (l, e, m))) (λ m. not·encoded TooLarge (rw (l, e, m)))

length-padded : {A : Type 0} (d : A) (xs : List A) → length xs ≤ 2048 → length (xs ++ drop (length xs) (replicate 2048 d)) ≡ 2048
length-padded d xs le = omega (arith, length-append xs (drop (length xs) (replicate 2048 d)), length-drop (length xs) (replicate 2048 d), length-replicate 2048 d)

module _ (bs : List ℕ) where
  stored·so : (ts : List Token) → length ts ≤ 2048 → read_of bs ≡ by_grammar (orchestra ts) → Encoded·so bs (stored·tokens ts)
  stored·so ts le f = record {
    few = le;
    cells = length-padded (Sign 0) ts le;
    means = ap (λ l. by_grammar (orchestra l)) (stored-tokens ts) ∙ sym f;
  }

  viewed : {r : Result Tokens Answer} (t : Tokens) → View bs r → r ≡ Ok t → Encoded·so bs t
  viewed t (encoded ts le e f) h = let z : stored·tokens ts ≡ t = cc in subst (Encoded·so bs) z (stored·so ts le f)
  viewed t (not·encoded a f) h = never (cc)

  viewed-not : {r : Result Tokens Answer} (a : Answer) → View bs r → r ≡ Err a → refused a ≡ read_of bs
  viewed-not a (encoded ts le e f) h = never (cc)
  viewed-not a (not·encoded b f) h = let z : b ≡ a = cc in ap refused (sym z) ∙ sym f

  module _ {r : Result Tokens Answer} (e : r ≡ tokens·of bs) where
    pub tokens-taken : {t : Tokens} → r ≡ Ok t → Encoded·so bs t
    tokens-taken {t} g = viewed t (rw e (view bs)) g

    pub tokens-not : {a : Answer} {o : OrchestraRead} → r ≡ Err a → o ≡ refused a → o ≡ read_of bs
    tokens-not {a} g k = k ∙ viewed-not a (rw e (view bs)) g
