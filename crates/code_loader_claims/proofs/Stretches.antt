-- The code of a whole program, and where each instrument's stands in it.
use Prim.Native.Nat.{ℕ, zero, suc, ◌+◌, ◌-◌, ◌*◌, ◌≤◌, ◌<◌}
use native.Mathlib.Omega.{arith}
use mathlib.Core.Path.{◌≡◌, refl, sym, ap, ◌∙◌}
use mathlib.Core.List.{List, [], ◌∷◌, ◌++◌, append_assoc, append-nil}
use lib.ListN.{length, get_or, drop, replicate, length-append, get_or-append}
use lib.Seq.{take_at, drop_at, get_or-append-add}
use lib.Ieee.{Float}
use Rattle.orchestra_syntax.specs.Tree.{Instrument}
use Rattle.orchestra_syntax.specs.inside.Program.{instrument, program}
use Rattle.orchestra_rules.specs.Formed.{ops_of, args_of}
use Rattle.code_interpreter.specs.Passes.{stretch}
use Rattle.code_operations.specs.Words.{note_places}
use Rattle.code_translation.specs.Translation.{lowered}
use Rattle.code_emitter.proofs.Trims.{Ended, none, ended-append}
use Rattle.code_lowering.specs.Orchestra.{Code, code, rate_of_program, code_of, filled}
use Rattle.code_bounds.specs.Sizes.{body_at, AllPlayable, all_lowered}
use Rattle.code_bounds.proofs.Lengths.{all-lowered-length}
use Rattle.code_loader_claims.specs.Code.{KindsAll, starts_from, words_of, starts_of, ProgramCode, InstrumentCode}
use Rattle.code_loader_claims.proofs.Walks.{walk-program, all-ended}

pub starts-length : (r at n : ℕ) (is : List Instrument) → length (starts_from r at n is) ≡ suc (length is)
unfolding starts_from
starts-length r at n [] = refl
starts-length r at n (i ∷ is) = ap suc (starts-length r (at + length (lowered r (body_at n i) 0 i.body)) (n + length (instrument i)) is)

module _ (vals : List Float) (cap room : ℕ) (is : List Instrument) (p : AllPlayable vals 0 is) (h : KindsAll is) (f : 3 * length (program is) ≤ cap) (g : 3 * suc (length is) ≤ room) where
  abbrev one : (r : ℕ) → Code → Code
  one r c = rate_of_program cap room r (ops_of (program is)) (args_of (program is)) c

  rate-is : (r : ℕ) (c s : List ℕ) → length c + length (program is) ≤ cap → length s + suc (length is) ≤ room → Ended note_places c
      → one r (code c s) ≡ code (c ++ all_lowered r 0 is) (s ++ starts_from r (length c) 0 is)
  unfolding rate_of_program
  rate-is r c s a b j = walk-program cap r room vals is 0 c s p h a b j

  abbrev L : ℕ → List ℕ
  L r = all_lowered r 0 is

  three-rates : code_of cap room (ops_of (program is)) (args_of (program is)) ≡ code (words_of is) (starts_of is)
  unfolding code_of words_of starts_of
  three-rates =
      let S₀ = starts_from 0 0 0 is in
      let S₁ = starts_from 1 (length (L 0)) 0 is in
      let h₀ = all-lowered-length 0 0 is in
      let h₁ = all-lowered-length 1 0 is in
      let l = length-append (L 0) (L 1) in
      let k₀ = starts-length 0 0 0 is in
      let k₁ = starts-length 1 (length (L 0)) 0 is in
      let k = length-append S₀ S₁ in
      ap (λ (x : Code). one 2 (one 1 x)) (rate-is 0 [] [] (omega arith) (omega arith) (none refl))
      ∙ ap (one 2) (rate-is 1 (L 0) S₀ (omega arith) (omega arith) (all-ended 0 0 is))
      ∙ rate-is 2 (L 0 ++ L 1) (S₀ ++ S₁) (omega arith) (omega arith) (ended-append note_places (L 0) (L 1) (all-ended 0 0 is) (all-ended 1 0 is))
      ∙ (λ j. code (append_assoc (L 0) (L 1) (L 2) j) (append_assoc S₀ S₁ (starts_from 2 (l j) 0 is) j))

pub program-code : ProgramCode
unfolding ProgramCode
program-code vals cap room is p h f g = three-rates vals cap room is p h f g

-- ---- where an instrument's words stand

starts_first : (r at n : ℕ) (is : List Instrument) → get_or (starts_from r at n is) 0 0 ≡ at
unfolding starts_from
starts_first r at n [] = refl
starts_first r at n (i ∷ is) = refl

module _ (r : ℕ) (i : Instrument) (behind : List Instrument) where
  own : ℕ → List ℕ
  own n = lowered r (body_at n i) 0 i.body

  words-split : (n : ℕ) (before : List Instrument)
      → all_lowered r n (before ++ i ∷ behind)
      ≡ all_lowered r n before ++ (own (n + length (program before)) ++ all_lowered r (n + length (program before) + length (instrument i)) behind)
  unfolding all_lowered program own
  words-split n [] =
      let z : n + 0 ≡ n = omega arith in
      ap (λ (k : ℕ). lowered r (body_at k i) 0 i.body ++ all_lowered r (k + length (instrument i)) behind) (sym z)
  words-split n (b ∷ before) =
      let w = lowered r (body_at n b) 0 b.body in
      let m = n + length (instrument b) in
      let z : m + length (program before) ≡ n + length (instrument b ++ program before) = omega (arith, length-append (instrument b) (program before)) in
      ap (λ (l : List ℕ). w ++ l) (words-split m before)
      ∙ sym (append_assoc w (all_lowered r m before) (own (m + length (program before)) ++ all_lowered r (m + length (program before) + length (instrument i)) behind))
      ∙ ap (λ (k : ℕ). (w ++ all_lowered r m before) ++ (own k ++ all_lowered r (k + length (instrument i)) behind)) z

  starts-at : (at n : ℕ) (before : List Instrument) → get_or (starts_from r at n (before ++ i ∷ behind)) (length before) 0 ≡ at + length (all_lowered r n before)
  unfolding starts_from all_lowered
  starts-at at n [] = omega arith
  starts-at at n (b ∷ before) =
      let w = lowered r (body_at n b) 0 b.body in
      let m = n + length (instrument b) in
      starts-at (at + length w) m before ∙ omega (arith, length-append w (all_lowered r m before))

  starts-next : (at n : ℕ) (before : List Instrument)
      → get_or (starts_from r at n (before ++ i ∷ behind)) (suc (length before)) 0 ≡ at + length (all_lowered r n before) + length (own (n + length (program before)))
  unfolding starts_from all_lowered program own
  starts-next at n [] =
      let z : n + 0 ≡ n = omega arith in
      starts_first r (at + length (lowered r (body_at n i) 0 i.body)) (n + length (instrument i)) behind
      ∙ rw z (omega arith)
  starts-next at n (b ∷ before) =
      let w = lowered r (body_at n b) 0 b.body in
      let m = n + length (instrument b) in
      let z : m + length (program before) ≡ n + length (instrument b ++ program before) = omega (arith, length-append (instrument b) (program before)) in
      starts-next (at + length w) m before
      ∙ ap (λ (k : ℕ). at + length w + length (all_lowered r m before) + length (own k)) z
      ∙ omega (arith, length-append w (all_lowered r m before))

-- a part between two others
middle : (a w c : List ℕ) (from end : ℕ) → length a ≡ from → length a + length w ≡ end → stretch from end ((a ++ w) ++ c) ≡ w
middle a w c from end h k = ap (drop from) (take_at (a ++ w) c end (length-append a w ∙ k)) ∙ drop_at a w from h

module _ (r : ℕ) (before : List Instrument) (i : Instrument) (behind : List Instrument) where
  abbrev all : List Instrument
  all = before ++ i ∷ behind

  abbrev mine : List ℕ
  mine = own r i behind (length (program before))

  in-starts : (S U : List ℕ) (at k : ℕ) → k < suc (length all) → get_or (S ++ (starts_from r at 0 all ++ U)) (length S + k) 0 ≡ get_or (starts_from r at 0 all) k 0
  in-starts S U at k h =
      get_or-append-add S (starts_from r at 0 all ++ U) k 0 ∙ get_or-append (starts_from r at 0 all) U 0 k (omega (arith, starts-length r at 0 all))

  -- words A before those of this rate, D behind them, and the starts S before and U behind
  found : (A D S U : List ℕ)
      → stretch (get_or (S ++ (starts_from r (length A) 0 all ++ U)) (length S + length before) 0) (get_or (S ++ (starts_from r (length A) 0 all ++ U)) (suc (length S + length before)) 0)
      (A ++ (all_lowered r 0 all ++ D))
      ≡ mine
  found A D S U =
      let b = all_lowered r 0 before in
      let c = all_lowered r (length (program before) + length (instrument i)) behind in
      let la = length-append before (i ∷ behind) in
      let zp : 0 + length (program before) ≡ length (program before) = omega arith in
      let e : suc (length S + length before) ≡ length S + suc (length before) = omega arith in
      let x : get_or (S ++ (starts_from r (length A) 0 all ++ U)) (length S + length before) 0 ≡ length A + length b =
      in-starts S U (length A) (length before) (omega arith) ∙ starts-at r i behind (length A) 0 before in
      let y : get_or (S ++ (starts_from r (length A) 0 all ++ U)) (suc (length S + length before)) 0 ≡ length A + length b + length mine =
      ap (λ (k : ℕ). get_or (S ++ (starts_from r (length A) 0 all ++ U)) k 0) e
      ∙ in-starts S U (length A) (suc (length before)) (omega arith) ∙ starts-next r i behind (length A) 0 before
      ∙ ap (λ (k : ℕ). length A + length b + length (own r i behind k)) zp in
      let z : A ++ (all_lowered r 0 all ++ D) ≡ ((A ++ b) ++ mine) ++ (c ++ D) =
      ap (λ (l : List ℕ). A ++ (l ++ D)) (words-split r i behind 0 before ∙ ap (λ (k : ℕ). b ++ (own r i behind k ++ all_lowered r (k + length (instrument i)) behind)) zp)
      ∙ simp append_assoc in
      rw (x, y, z) (middle (A ++ b) mine (c ++ D) (length A + length b) (length A + length b + length mine) (length-append A b) (omega (arith, length-append A b)))

  joined : (W T : List ℕ) (at : ℕ) (A D S U : List ℕ) → W ≡ A ++ (all_lowered r 0 all ++ D) → T ≡ S ++ (starts_from r (length A) 0 all ++ U) → at ≡ length S + length before
      → stretch (get_or T at 0) (get_or T (suc at) 0) W ≡ mine
  joined W T at A D S U a b c = rw (a, b, c) (found A D S U)

-- the three rates
instrument-at : (r : ℕ) (zs : List ℕ) (before : List Instrument) (i : Instrument) (behind : List Instrument) → r < 3
    → let is = before ++ i ∷ behind in
    let at = r * suc (length is) + length before in
    stretch (get_or (starts_of is) at 0) (get_or (starts_of is) (suc at) 0) (words_of is ++ zs) ≡ own r i behind (length (program before))
unfolding starts_of words_of
instrument-at zero zs before i behind h =
    let is = before ++ i ∷ behind in
    let L : ℕ → List ℕ = λ (k : ℕ). all_lowered k 0 is in
    joined 0 before i behind (words_of is ++ zs) (starts_of is) (0 * suc (length is) + length before) [] ((L 1 ++ L 2) ++ zs) []
    (starts_from 1 (length (L 0)) 0 is ++ starts_from 2 (length (L 0) + length (L 1)) 0 is) (append_assoc (L 0) (L 1 ++ L 2) zs) refl (omega arith)
instrument-at (suc zero) zs before i behind h =
    let is = before ++ i ∷ behind in
    let L : ℕ → List ℕ = λ (k : ℕ). all_lowered k 0 is in
    joined 1 before i behind (words_of is ++ zs) (starts_of is) (1 * suc (length is) + length before) (L 0) (L 2 ++ zs) (starts_from 0 0 0 is)
    (starts_from 2 (length (L 0) + length (L 1)) 0 is) (simp append_assoc) refl (omega (arith, starts-length 0 0 0 is))
instrument-at (suc (suc zero)) zs before i behind h =
    let is = before ++ i ∷ behind in
    let L : ℕ → List ℕ = λ (k : ℕ). all_lowered k 0 is in
    let S₀ = starts_from 0 0 0 is in
    let S₁ = starts_from 1 (length (L 0)) 0 is in
    let t : starts_of is ≡ (S₀ ++ S₁) ++ (starts_from 2 (length (L 0 ++ L 1)) 0 is ++ []) =
    sym (append_assoc S₀ S₁ (starts_from 2 (length (L 0) + length (L 1)) 0 is))
    ∙ ap (λ (k : ℕ). (S₀ ++ S₁) ++ starts_from 2 k 0 is) (sym (length-append (L 0) (L 1)))
    ∙ ap (λ (l : List ℕ). (S₀ ++ S₁) ++ l) (sym (append-nil (starts_from 2 (length (L 0 ++ L 1)) 0 is))) in
    joined 2 before i behind (words_of is ++ zs) (starts_of is) (2 * suc (length is) + length before) (L 0 ++ L 1) zs (S₀ ++ S₁) [] (simp append_assoc) t
    (omega (arith, starts-length 0 0 0 is, starts-length 1 (length (L 0)) 0 is, length-append S₀ S₁))
instrument-at (suc (suc (suc r))) zs before i behind h = absurd (omega arith)

pub instrument-code : InstrumentCode
unfolding InstrumentCode filled own
instrument-code r cap before i behind h = instrument-at r (replicate (cap - length (words_of (before ++ i ∷ behind))) 0) before i behind h

-- zeros behind a list change no start
pub get_d-filled : (n i : ℕ) (l : List ℕ) → get_or (filled n l) i 0 ≡ get_or l i 0
unfolding filled
get_d-filled n i l = go l i (n - length l)
  where
    zeros : (k i : ℕ) → ◌≡◌ {A = ℕ} (get_or (replicate k 0) i 0) 0
    zeros zero i = refl
    zeros (suc k) zero = refl
    zeros (suc k) (suc i) = zeros k i

    go : (l : List ℕ) (i k : ℕ) → get_or (l ++ replicate k 0) i 0 ≡ get_or l i 0
    go [] i k = zeros k i
    go (a ∷ l) zero k = refl
    go (a ∷ l) (suc i) k = go l i k
