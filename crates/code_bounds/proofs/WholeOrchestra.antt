-- The sizes of document 01 suffice for the straight-line code of a whole orchestra.
use Prim.Native.Nat.{ℕ, suc, ◌+◌, ◌≤◌}
use native.Mathlib.Omega.{arith}
use mathlib.Core.Path.{◌≡◌, refl, sym, ap, subst}
use mathlib.Core.List.{List, [], ◌∷◌, ◌++◌, append_assoc, append-nil, map}
use mathlib.Core.Bool.{◌&&◌}
use lib.ListN.{length, length-append}
use lib.Dec.{leb}
use lib.Ieee.{Float}
use borrow.Author.Tests.{leb-true}
use Rattle.base_laws.proofs.Choice.{both_true}
use Rattle.base_laws.proofs.Lists.{map-append}
use Rattle.orchestra_tokens.specs.declared.Token.{Token}
use Rattle.orchestra_tokens.specs.declared.Token.TheVariants.{Symbol, Sign}
use Rattle.orchestra_tokens.specs.Measures.{most_tokens, brackets_within, stretches_within}
use Rattle.orchestra_syntax.specs.Tree.{Declaration, Instrument, field_kind}
use Rattle.orchestra_syntax.specs.inside.Program.{Ins, ins_arg, instr_op, declare, declared, code, instrument, program}
use Rattle.orchestra_syntax.specs.Names.{names_of}
use Rattle.orchestra_syntax.specs.inside.Placed.{placed}
use Rattle.orchestra_syntax.specs.Grammar.{Names, one, more, Fields, none as no·fields, some as some·fields, Kinds, ivar, ksig, asig, imports, Decls, none as no·decls, some as some·decls, Instr, is as an·instr, Orchestra, last, next}
use Rattle.code_operations.specs.Words.{program_size}
use Rattle.code_translation.specs.Statements.{Playable}
use Rattle.code_bounds.specs.Sizes.{Small, numbers, body_at, AllPlayable, ProgramFits, OrchestraPlayable, InstrumentPlayable}
use Rattle.code_bounds.proofs.Placing.{small_put, program-put}
use Rattle.code_bounds.proofs.Measures.{Kept, Within, within-nil, within-one, within-cons, pass-plain, pass-round, pass-round-end, pass-block, pass-block-end, pass-semicolon, plain-symbol, plain-sign}
use Rattle.code_bounds.proofs.Statements.{Goes, Fits, statements-fit, code-tokens}
use Rattle.code_bounds.proofs.Stands.{Stands, first, second, playable}

-- ---- lengths

declare-length : (k : ℕ) (ns : List ℕ) → length (declare k ns) ≡ length ns
unfolding declare
declare-length k [] = refl
declare-length k (n ∷ ns) = ap suc (declare-length k ns)

names-tokens : {ns : List ℕ} {ts : List Token} → Names ns ts → length ns ≤ length ts
names-tokens (one n) = omega arith
names-tokens (more n s) = omega (arith, names-tokens s)

fields-tokens : {ns : List ℕ} {ts : List Token} → Fields ns ts → length ns ≤ length ts
fields-tokens no·fields = omega arith
fields-tokens (some·fields s) = names-tokens s

declared-tokens : {ds : List Declaration} {ts : List Token} → Decls ds ts → length (declared ds) ≤ length ts
unfolding declared
declared-tokens no·decls = omega arith
declared-tokens (some·decls {k = k} {ns = ns} q s d) =
    simp length-append (omega (arith, declare-length k ns, names-tokens s, declared-tokens d))

instrument-tokens : {i : Instrument} {ts : List Token} → Instr i ts → length (instrument i) ≤ length ts
instrument-tokens (an·instr n {fs = fs} f d s) =
    simp length-append (omega (arith, declare-length field_kind fs, fields-tokens f, declared-tokens d, code-tokens s))

-- a program has no more instructions than tokens
pub program-tokens : {is : List Instrument} {ts : List Token} → Orchestra is ts → length (program is) ≤ length ts
unfolding program
program-tokens (last {i = i} d) = omega (arith, length-append (instrument i) [], instrument-tokens d)
program-tokens (next {i = i} {ts = ts} {is = is} {us = us} d s) =
    omega (arith, length-append (instrument i) (program is), length-append ts us, instrument-tokens d, program-tokens s)

pub program-fits : ProgramFits
program-fits is ts d m =
    omega (arith, program-put is, program-tokens d, leb-true (length ts) most_tokens (both_true (leb (length ts) most_tokens) _ m).0)

-- ---- the measures, up to an instrument's statements

names-within : {ns : List ℕ} {ts : List Token} → Names ns ts → Within ts
names-within (one n) = within-one (Symbol n) (plain-symbol n)
names-within (more n {ts = ts} s) =
    within-cons (Symbol n) (Sign 19 ∷ ts) (plain-symbol n) (within-cons (Sign 19) ts (plain-sign 19 refl refl refl) (names-within s))

fields_within : {ns : List ℕ} {ts : List Token} → Fields ns ts → Within ts
fields_within no·fields = within-nil
fields_within (some·fields s) = names-within s

kinds-within : {k : ℕ} {ts : List Token} → Kinds k ts → Within ts
kinds-within ivar = within-one (Sign 2) (plain-sign 2 refl refl refl)
kinds-within ksig = within-one (Sign 3) (plain-sign 3 refl refl refl)
kinds-within asig = within-one (Sign 4) (plain-sign 4 refl refl refl)
kinds-within imports =
    within-cons (Sign 5) (Sign 3 ∷ []) (plain-sign 5 refl refl refl) (within-one (Sign 3) (plain-sign 3 refl refl refl))

declarations-go : {ds : List Declaration} {ts : List Token} → Decls ds ts → (n : ℕ) (r : List Token) → Goes n (ts ++ r) → Goes n r
declarations-go no·decls n r h = h
declarations-go (some·decls {ks = ks} {ts = ts} {us = us} q s d) n r h =
    let f : Kept n h.count (ks ++ (ts ++ Sign 20 ∷ (us ++ r))) = simp append_assoc at h.kept in
    let a = kinds-within q n h.count (ts ++ Sign 20 ∷ (us ++ r)) h.short f in
    let b = names-within s n (h.count + length ks) (Sign 20 ∷ (us ++ r)) a.short a.kept in
    let p = pass-semicolon n (h.count + length ks + length ts) (us ++ r) b.kept in
    declarations-go d n r (record { count = 0; short = p.short; kept = p.kept })

-- an instrument's statements are small, and the measures go on after it
instrument-fit : {i : Instrument} {ts : List Token} → Instr i ts → (r : List Token) → Goes 0 (ts ++ r) → Fits 0 0 i.body r
instrument-fit (an·instr n {ts = ts} {us = us} {vs = vs} f d s) r h =
    let v = vs ++ Sign 18 ∷ r in
    let k = h.count in
    let w : Kept 0 k (Sign 1 ∷ Symbol n ∷ Sign 15 ∷ (ts ++ Sign 16 ∷ Sign 17 ∷ (us ++ v))) = simp append_assoc at h.kept in
    let a = pass-plain 0 k (Symbol n ∷ Sign 15 ∷ (ts ++ Sign 16 ∷ Sign 17 ∷ (us ++ v))) (Sign 1) (plain-sign 1 refl refl refl) w in
    let b = pass-plain 0 (suc k) (Sign 15 ∷ (ts ++ Sign 16 ∷ Sign 17 ∷ (us ++ v))) (Symbol n) (plain-symbol n) a.kept in
    let c = pass-round 0 (suc (suc k)) (ts ++ Sign 16 ∷ Sign 17 ∷ (us ++ v)) b.kept in
    let j = suc (suc (suc k)) in
    let e = fields_within f 1 j (Sign 16 ∷ Sign 17 ∷ (us ++ v)) c.short c.kept in
    let p = pass-round-end 0 (j + length ts) (Sign 17 ∷ (us ++ v)) e.kept in
    let o = pass-block 0 (suc (j + length ts)) (us ++ v) p.kept in
    let g = declarations-go d 1 v (record { count = 0; short = o.short; kept = o.kept }) in
    let x = statements-fit s 0 1 (Sign 18 ∷ r) (omega arith) g in
    let z = pass-block-end 0 x.goes.count r x.goes.kept in
    record { small = x.small; goes = record { count = 0; short = z.short; kept = z.kept } }

-- every instrument's statements are small
unfoldable AllSmall : List Instrument → Type 0
AllSmall [] = Unit {0}
AllSmall (i ∷ is) = Small 0 i.body × AllSmall is

orchestra-small : {is : List Instrument} {ts : List Token} → Orchestra is ts → Goes 0 ts → AllSmall is
unfolding AllSmall
orchestra-small (last {ts = ts} d) h = ((instrument-fit d [] (subst (Goes 0) (sym (append-nil ts)) h)).small, tt)
orchestra-small (next {us = us} d s) h = let w = instrument-fit d us h in (w.small, orchestra-small s w.goes)

-- ---- the theorem

pub body-length : (n : ℕ) (i : Instrument) → body_at n i + length (code i.body) ≡ n + length (instrument i)
body-length n i = simp length-append (omega arith)

module _ (vals : List Float) where
  -- the code of an instrument's statements stands after its names
  body-stands : (n : ℕ) (i : Instrument) → Stands vals n (instrument i) → Stands vals (body_at n i) (code i.body)
  body-stands n i s =
      let ds = declare field_kind i.fields ++ declared i.declarations in
      let e : instrument i ≡ (ins_arg instr_op i.name ∷ ds) ++ code i.body =
      ap (λ (l : List Ins). ins_arg instr_op i.name ∷ l) (sym (append_assoc (declare field_kind i.fields) (declared i.declarations) (code i.body))) in
      let z = second vals n (ins_arg instr_op i.name ∷ ds) (code i.body) (subst (Stands vals n) e s) in
      let k : n + suc (length ds) ≡ suc n + length ds = omega arith in
      rw k at z

  all-playable : (n : ℕ) (is : List Instrument) → AllSmall is → Stands vals n (program (map placed is)) → n + length (program (map placed is)) ≤ program_size
      → AllPlayable vals n (map placed is)
  unfolding AllSmall AllPlayable program
  all-playable n [] h s l = tt
  all-playable n (i ∷ is) h s l =
      let p = placed i in
      let q = length-append (instrument p) (program (map placed is)) in (
        playable vals (body_at n p) 0 p.body (small_put (names_of i) 0 i.body h.0)
            (body-stands n p (first vals n (instrument p) (program (map placed is)) s)) (omega (arith, body-length n p)),
        all-playable (n + length (instrument p)) is h.1 (second vals n (instrument p) (program (map placed is)) s) (omega arith),
      )

  -- one of them
  playable-at : (n : ℕ) (before : List Instrument) (i : Instrument) (behind : List Instrument) → AllPlayable vals n (before ++ i ∷ behind)
      → Playable vals (body_at (n + length (program before)) i) 0 i.body
  unfolding AllPlayable program
  playable-at n [] i behind h = let e : n + 0 ≡ n = omega arith in rw e h.0
  playable-at n (j ∷ before) i behind h =
      let e : n + length (instrument j ++ program before) ≡ n + length (instrument j) + length (program before) =
      omega (arith, length-append (instrument j) (program before)) in
      rw e (playable-at (n + length (instrument j)) before i behind h.1)

pub orchestra-playable : OrchestraPlayable
orchestra-playable is ts pad d m =
    let p = program (map placed is) in
    let (b, c) = both_true (brackets_within 0 ts) (stretches_within 0 ts) (both_true (leb (length ts) most_tokens) (brackets_within 0 ts && stretches_within 0 ts) m).1 in
    let f = program-fits is ts d m in
    all-playable (numbers p ++ pad) 0 is
    (orchestra-small d (record { count = 0; short = omega arith; kept = record { brackets = b; stretches = c } }))
    (record { behind = pad; here = refl }) (omega arith)

pub instrument-playable : InstrumentPlayable
instrument-playable before i behind ts pad d m =
    let vals = numbers (program (map placed (before ++ i ∷ behind))) ++ pad in
    let h = orchestra-playable (before ++ i ∷ behind) ts pad d m in
    let e : 0 + length (program (map placed before)) ≡ length (program (map placed before)) = omega arith in
    rw e at (playable-at vals 0 (map placed before) (placed i) (map placed behind) (subst (AllPlayable vals 0) (map-append placed before (i ∷ behind)) h))
