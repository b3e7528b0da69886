-- An accepted orchestra's program, as the loader keeps it, stands for its tree.
use Prim.Native.Nat.{ℕ, zero, suc, ◌≤◌, min}
use native.Mathlib.Omega.{arith}
use mathlib.Core.Path.{◌≡◌, refl, sym, ap, ap₂, ◌∙◌, subst, subst⁻¹, subst₂}
use mathlib.Core.Bool.{true}
use mathlib.Core.List.{List, [], ◌∷◌, ◌++◌, map}
use lib.ListN.{length, take, drop, replicate, length-map}
use lib.Seq.{take-append_seam}
use lib.Ieee.{Float}
use Rattle.orchestra_tokens.specs.declared.Token.{Token}
use Rattle.orchestra_tokens.specs.Measures.{measured}
use Rattle.orchestra_syntax.specs.Tree.{Instrument}
use Rattle.orchestra_syntax.specs.Names.{most_instruments, name_rules}
use Rattle.orchestra_syntax.specs.inside.Placed.{placed}
use Rattle.orchestra_syntax.specs.inside.Program.{zero_f}
use Rattle.orchestra_syntax.specs.Grammar.{Orchestra}
use Rattle.orchestra_rules.specs.Formed.{op_of, arg_of, ops_of, args_of, vals_of}
use Rattle.code_operations.specs.Words.{code_size, program_size}
use Rattle.code_lowering.specs.Orchestra.{Code, code, code_of, filled}
use Rattle.code_bounds.proofs.WholeOrchestra.{program-fits, orchestra-playable}
use Rattle.code_bounds.specs.Sizes.{numbers}
use Rattle.code_loader_claims.specs.Code.{words_of, starts_of, ProgramCode}
use Rattle.code_loader_claims.proofs.Stretches.{program-code}
use Rattle.code_loader_claims.proofs.KindsAll.{orchestra-kinds}
use Rattle.orchestra_reader.specs.declared.OrchestraRead.{OrchestraRead}
use Rattle.orchestra_reader.specs.inside.Compiled.{padded, laid, heads_from, compile}
use Rattle.orchestra_reader.proofs.Heads.{at-most-8, length-heads}
use Rattle.orchestra_reader.proofs.Verdict.{accepted-exactly}
use Rattle.code_program.specs.declared.Instrument as row
use Rattle.code_program.specs.InstrumentTable.{blank}
use Rattle.voices_resolved.specs.Represents.{Represents}
use Rattle.voices_resolved.proofs.Rows.{represents}
use Rattle.code_program.specs.declared.Program.{Program}
use Rattle.code_loader.specs.Loading as loading
use Rattle.code_loader.specs.Loading.{most_starts, laid_in, rows_from, program_of, kept_of, load_of}
use Rattle.code_loader_claims.specs.Claims.{StandsFor, Loaded, TakenOnly, a_codes, LoadedCode}
use Rattle.code_loader_claims.proofs.Declarations.{all_known}
use Rattle.code_loader_claims.proofs.Rows.{program_in, starts_in, words_in, all-rows, all_codes}

-- the cells that count
take-laid : {A : Type 0} (m : ℕ) (d : A) (xs : List A) → length xs ≤ m → take (length xs) (laid_in m d xs) ≡ xs
unfolding laid_in
take-laid m d [] le = refl
take-laid zero d (x ∷ xs) le = absurd (omega arith)
take-laid (suc m) d (x ∷ xs) le = ap (λ l. x ∷ l) (take-laid m d xs (omega arith))

length-rows : (os ns ss : List ℕ) (n j : ℕ) (hs : List ℕ) → length (rows_from os ns ss n j hs) ≡ length hs
unfolding rows_from
length-rows os ns ss n j [] = refl
length-rows os ns ss n j (h ∷ hs) = ap suc (length-rows os ns ss n (suc j) hs)

-- the arrays' first cells
module _ (hs os ns : List ℕ) (vs : List Float) (few : length hs ≤ most_instruments) (e : length os ≡ length ns) where
  kept-is : kept_of (laid hs os ns vs) ≡ program_of os ns (padded program_size zero_f vs) (padded most_instruments 0 hs) (length hs)
  kept-is =
      let a : take (length os) (padded program_size 0 os) ≡ os = take-append_seam os (drop (length os) (replicate program_size 0)) in
      let b : take (length os) (padded program_size 0 ns) ≡ ns = ap (λ k. take k (padded program_size 0 ns)) e ∙ take-append_seam ns (drop (length ns) (replicate program_size 0)) in
      let c : min (length hs) most_instruments ≡ length hs = omega arith in
      λ i. program_of (a i) (b i) (padded program_size zero_f vs) (padded most_instruments 0 hs) (c i)

  -- the rows that count, and the code, by the words and the starts
  module _ (ws ss : List ℕ) (p : code_of code_size most_starts os ns ≡ code ws ss) where
    abbrev made : Program
    made = program_of os ns (padded program_size zero_f vs) (padded most_instruments 0 hs) (length hs)

    table_is : take made.count made.table ≡ rows_from os ns (filled most_starts ss) (length hs) 0 hs
    unfolding program_of
    table_is =
        let h : take (length hs) (padded most_instruments 0 hs) ≡ hs = take-append_seam hs (drop (length hs) (replicate most_instruments 0)) in
        let s : loading.starts_in os ns ≡ filled most_starts ss = ap (λ (c : Code). filled most_starts c.starts) p in
        let r = rows_from os ns (filled most_starts ss) (length hs) 0 hs in
        let l : length r ≡ length hs = length-rows os ns (filled most_starts ss) (length hs) 0 hs in
        ap₂ (λ (u v : List ℕ). take (length hs) (laid_in most_instruments blank (rows_from os ns u (length hs) 0 v))) s h
        ∙ ap (λ k. take k (laid_in most_instruments blank r)) (sym l)
        ∙ take-laid most_instruments blank r (omega arith)

    code_is : made.code ≡ filled code_size ws
    unfolding program_of
    code_is = ap (λ (c : Code). filled code_size c.words) p

    stands_by : (is : List Instrument) → Represents is (rows_from os ns (filled most_starts ss) (length hs) 0 hs) (filled code_size ws) (padded program_size zero_f vs) → StandsFor is made
    unfolding program_of
    stands_by is r =
        subst₂ (λ (t : List row.Instrument) (c : List ℕ). Represents is t c (padded program_size zero_f vs)) (sym table_is) (sym code_is) r

module _ (is : List Instrument) (ts : List Token) (d : Orchestra is ts) (m : measured ts ≡ true) (named : name_rules is ≡ true) where
  abbrev os : List ℕ
  os = ops_of (program_in is)

  abbrev ns : List ℕ
  ns = args_of (program_in is)

  code-of : code_of code_size most_starts os ns ≡ code (words_of (map placed is)) (starts_of (map placed is))
  unfolding ProgramCode
  code-of =
      program-code (numbers (program_in is) ++ []) code_size most_starts (map placed is) (orchestra-playable is ts [] d m) (orchestra-kinds d)
      (omega (arith, program-fits is ts d m))
      (omega (arith, at-most-8 is named, length-map is placed))

  compiled-stands : StandsFor is (kept_of (compile is))
  unfolding compile
  compiled-stands =
      let hs = heads_from 0 is in
      let vs = vals_of (program_in is) in
      let n : length hs ≡ length is = length-heads 0 is in
      let few : length hs ≤ most_instruments = omega (arith, at-most-8 is named) in
      let e : length os ≡ length ns = length-map (program_in is) op_of ∙ sym (length-map (program_in is) arg_of) in
      let more = drop (length vs) (replicate program_size zero_f) in
      let r = represents (words_in is) (vs ++ more) is (rows_from os ns (starts_in is) (length is) 0 hs) (all-rows is more ts d m (all_known d)) in
      subst (StandsFor is) (sym (kept-is hs os ns vs few e))
      (stands_by hs os ns vs few e (words_of (map placed is)) (starts_of (map placed is)) code-of is
      (rw n r))

  compiled-codes : (take (kept_of (compile is)).count (kept_of (compile is)).table ≡ rows_from os ns (starts_in is) (length is) 0 (heads_from 0 is)) × ((kept_of (compile is)).code ≡ words_in is)
  unfolding compile
  compiled-codes =
      let hs = heads_from 0 is in
      let vs = vals_of (program_in is) in
      let n : length hs ≡ length is = length-heads 0 is in
      let few : length hs ≤ most_instruments = omega (arith, at-most-8 is named) in
      let e : length os ≡ length ns = length-map (program_in is) op_of ∙ sym (length-map (program_in is) arg_of) in
      let k = kept-is hs os ns vs few e in (
        ap (λ (p : Program). take p.count p.table) k ∙ table_is hs os ns vs few e (words_of (map placed is)) (starts_of (map placed is)) code-of
            ∙ ap (λ (c : ℕ). rows_from os ns (starts_in is) c 0 hs) n,
        ap (λ (p : Program). p.code) k ∙ code_is hs os ns vs few e (words_of (map placed is)) (starts_of (map placed is)) code-of,
      )

pub loaded-code : LoadedCode
unfolding load_of
loaded-code bs is a =
    let e = (accepted-exactly bs).1 is a in
    let ts = a.tokens in
    let c = compiled-codes is ts a.derived a.sized.within a.named in
    let t = ap (λ (o : OrchestraRead). take (kept_of o.program).count (kept_of o.program).table) e ∙ c.0 in
    let w = ap (λ (o : OrchestraRead). (kept_of o.program).code) e ∙ c.1 in
    record {
      rows = ap length t ∙ length-rows (ops_of (program_in is)) (args_of (program_in is)) (starts_in is) (length is) 0 (heads_from 0 is) ∙ length-heads 0 is;
      code = ap₂ a_codes t w ∙ all_codes is [] ts a.derived a.sized.within;
    }

pub loaded : Loaded
unfolding load_of
loaded bs is a =
    let e = (accepted-exactly bs).1 is a in
    record {
      taken = ap (λ (o : OrchestraRead). o.answer) e;
      stands = subst⁻¹ (λ (o : OrchestraRead). StandsFor is (kept_of o.program)) e (compiled-stands is a.tokens a.derived a.sized.within a.named);
    }

pub taken-only : TakenOnly
unfolding load_of
taken-only bs b e = (accepted-exactly bs).0 b e
