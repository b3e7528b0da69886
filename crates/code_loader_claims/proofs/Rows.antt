-- The rows of the loader's table are those of the tree's instruments.
use Prim.Native.Nat.{ℕ, suc, ◌+◌, ◌*◌, ◌<◌}
use native.Mathlib.Omega.{arith}
use mathlib.Core.Path.{◌≡◌, refl, sym, ap, ap₂, ◌∙◌}
use mathlib.Core.Bool.{true}
use mathlib.Core.List.{List, [], ◌∷◌, ◌++◌, map, append_assoc, append-nil}
use lib.ListN.{length, drop, get_or, length-map, length-append}
use lib.Ieee.{Float}
use Rattle.base_laws.proofs.Lists.{map-append}
use Rattle.orchestra_tokens.specs.declared.Token.{Token}
use Rattle.orchestra_tokens.specs.Measures.{measured}
use Rattle.orchestra_syntax.specs.Tree.{Instrument}
use Rattle.orchestra_syntax.specs.inside.Placed.{placed}
use Rattle.orchestra_syntax.specs.inside.Program.{Ins, ins_arg, instr_op, instrument, program}
use Rattle.orchestra_syntax.specs.Grammar.{Orchestra}
use Rattle.orchestra_rules.specs.Formed.{op_of, arg_of, ops_of, args_of, vals_of}
use Rattle.code_operations.specs.Words.{code_size}
use Rattle.code_interpreter.specs.Passes.{stretch}
use Rattle.code_translation.specs.Translation.{lowered}
use Rattle.code_lowering.specs.Orchestra.{filled}
use Rattle.code_bounds.specs.Sizes.{body_at, all_lowered}
use Rattle.code_bounds.proofs.Sounding.{instrument-sounds}
use Rattle.code_loader_claims.specs.Code.{words_of, starts_of, InstrumentCode}
use Rattle.code_loader_claims.specs.Claims.{a_codes}
use Rattle.code_loader_claims.proofs.Stretches.{instrument-code, get_d-filled}
use Rattle.orchestra_reader.specs.inside.Compiled.{heads_from}
use Rattle.code_program.specs.declared.Instrument as row
use Rattle.voices_resolved.specs.Represents.{Row, Rows}
use Rattle.code_loader.specs.Loading.{most_starts, row_at, rows_from}
use Rattle.code_loader_claims.proofs.Declarations.{Known, AllKnown, nil, cons, rest_of, fields-are, imports-are, imports-laid}

-- ---- a program around one instruction

arg-here : (b : List Ins) (x : Ins) (t : List Ins) → get_or (args_of (b ++ x ∷ t)) (length b) 0 ≡ x.arg
arg-here [] x t = refl
arg-here (y ∷ b) x t = arg-here b x t

rest-here : (f : Ins → ℕ) (b : List Ins) (x : Ins) (t : List Ins) → drop (length b + 1) (map f (b ++ x ∷ t)) ≡ map f t
rest-here f [] x t = refl
rest-here f (y ∷ b) x t = let s : suc (length b) + 1 ≡ suc (length b + 1) = omega arith in rw s (rest-here f b x t)

program-split : (before : List Instrument) (i : Instrument) (behind : List Instrument)
    → program (map placed (before ++ i ∷ behind)) ≡ program (map placed before) ++ (instrument (placed i) ++ program (map placed behind))
unfolding program
program-split [] i behind = refl
program-split (b ∷ before) i behind =
    cc (program-split before i behind, append_assoc (instrument (placed b)) (program (map placed before)) (instrument (placed i) ++ program (map placed behind)))

-- ---- what the loader has of a tree

abbrev pub program_in : List Instrument → List Ins
program_in is = program (map placed is)

abbrev pub starts_in : List Instrument → List ℕ
starts_in is = filled most_starts (starts_of (map placed is))

abbrev pub words_in : List Instrument → List ℕ
words_in is = filled code_size (words_of (map placed is))

abbrev row_in : List Instrument → ℕ → ℕ → row.Instrument
row_in is j head = row_at (ops_of (program_in is)) (args_of (program_in is)) (starts_in is) (length is) j head

-- a row has an instrument's name, and is its row
abbrev NamedRow : List Instrument → List Float → Instrument → row.Instrument → Type 0
NamedRow is more i x = (x.name ≡ i.name) × Row (words_in is) (vals_of (program_in is) ++ more) i x

module _ (before : List Instrument) (i : Instrument) (behind : List Instrument) where
  abbrev all : List Instrument
  all = before ++ i ∷ behind

  abbrev head : ℕ
  head = length (program_in before)

  code_at : (r at : ℕ) → r < 3 → at ≡ r * suc (length all) + length before
      → stretch (get_or (starts_in all) at 0) (get_or (starts_in all) (at + 1) 0) (words_in all) ≡ lowered r (body_at head (placed i)) 0 (placed i).body
  unfolding InstrumentCode
  code_at r at lt h =
      let e : map placed all ≡ map placed before ++ placed i ∷ map placed behind = map-append placed before (i ∷ behind) in
      let la : length all ≡ length (map placed before ++ placed i ∷ map placed behind) = sym (length-map all placed) ∙ ap length e in
      let q : at ≡ r * suc (length (map placed before ++ placed i ∷ map placed behind)) + length (map placed before) =
      h ∙ ap₂ (λ (a b : ℕ). r * suc a + b) la (sym (length-map before placed)) in
      let s : at + 1 ≡ suc at = omega arith in
      let t : at + 1 ≡ suc (r * suc (length (map placed before ++ placed i ∷ map placed behind)) + length (map placed before)) = s ∙ ap suc q in
      (λ k. stretch (get_d-filled most_starts at (starts_of (map placed all)) k) (get_d-filled most_starts (at + 1) (starts_of (map placed all)) k) (words_in all))
      ∙ (λ k. stretch (get_or (starts_of (e k)) (q k) 0) (get_or (starts_of (e k)) (t k) 0) (filled code_size (words_of (e k))))
      ∙ instrument-code r code_size (map placed before) (placed i) (map placed behind) lt

  row_is : (more : List Float) (ts : List Token) → Orchestra all ts → measured ts ≡ true → Known i.declarations
      → NamedRow all more i (row_in all (length before) head)
  row_is more ts d m k =
      let b = program_in before in
      let x = ins_arg instr_op i.name in
      let t = rest_of (placed i) ++ program_in behind in
      let p : program_in all ≡ b ++ x ∷ t = program-split before i behind in (
        rw p (arg-here b x t),
        record {
          fields = rw (p, rest-here op_of b x t) (fields-are (placed i) k (map placed behind));
          imports = rw (p, rest-here op_of b x t, rest-here arg_of b x t, imports-are (placed i) k (map placed behind)) (imports-laid i);
          start = body_at head (placed i);
          icode = code_at 0 (length before) (omega arith) (omega arith);
          kcode = code_at 1 (length all + 1 + length before) (omega arith) (omega arith);
          acode = code_at 2 (2 * (length all + 1) + length before) (omega arith) (omega arith);
          sounds = instrument-sounds before i behind ts more d m;
        },
      )

  length-next : length (before ++ i ∷ []) ≡ suc (length before)
  length-next = let l = length-append before (i ∷ []) in omega arith

  head-next : length (program_in (before ++ i ∷ [])) ≡ head + length (instrument (placed i))
  unfolding program
  head-next =
      ap length (program-split before i [])
      ∙ length-append (program_in before) (instrument (placed i) ++ [])
      ∙ ap (λ l. head + length l) (append-nil (instrument (placed i)))

-- ---- all rows

module _ (is : List Instrument) (more : List Float) (ts : List Token) (d : Orchestra is ts) (m : measured ts ≡ true) where
  abbrev rows : ℕ → ℕ → List Instrument → List row.Instrument
  rows j head rest = rows_from (ops_of (program_in is)) (args_of (program_in is)) (starts_in is) (length is) j (heads_from head rest)

  rows-from : (before rest : List Instrument) → is ≡ before ++ rest → AllKnown rest
      → Rows (words_in is) (vals_of (program_in is) ++ more) rest (rows (length before) (length (program_in before)) rest)
  unfolding Rows rows_from heads_from
  rows-from before [] e nil = tt
  rows-from before (i ∷ rest) e (cons _ k ks) =
      let r : NamedRow is more i (row_in is (length before) (length (program_in before))) = rw e (row_is before i rest more ts (rw e at d) m k) in
      let next = rows-from (before ++ i ∷ []) rest (e ∙ sym (append_assoc before (i ∷ []) rest)) ks in
      (r.0, (r.1, rw (length-next before i rest, head-next before i rest) at next))

  -- their a code, one behind the other
  codes-from : (before rest : List Instrument) → is ≡ before ++ rest
      → a_codes (rows (length before) (length (program_in before)) rest) (words_in is) ≡ all_lowered 2 (length (program_in before)) (map placed rest)
  unfolding a_codes rows_from heads_from all_lowered
  codes-from before [] e = refl
  codes-from before (i ∷ rest) e =
      let here : stretch (get_or (starts_in is) (2 * (length is + 1) + length before) 0) (get_or (starts_in is) (2 * (length is + 1) + length before + 1) 0) (words_in is) ≡ lowered 2 (body_at (length (program_in before)) (placed i)) 0 (placed i).body =
      rw e (code_at before i rest 2 (2 * (length (before ++ i ∷ rest) + 1) + length before) (omega arith) (omega arith)) in
      let next = codes-from (before ++ i ∷ []) rest (e ∙ sym (append_assoc before (i ∷ []) rest)) in
      ap₂ (λ (a b : List ℕ). a ++ b) here (rw (length-next before i rest, head-next before i rest) at next)

  pub all_codes : a_codes (rows 0 0 is) (words_in is) ≡ all_lowered 2 0 (map placed is)
  unfolding program
  all_codes = codes-from [] is refl

  pub all-rows : AllKnown is → Rows (words_in is) (vals_of (program_in is) ++ more) is (rows 0 0 is)
  unfolding program
  all-rows k = rows-from [] is refl k
