-- Straight-line code means its tree: one pass, and the a passes of a cycle.
use Prim.Native.Nat.{ℕ, zero, suc, ◌≤◌}
use native.Mathlib.Omega.{arith}
use mathlib.Core.Path.{◌≡◌, refl, sym, ap, ◌∙◌}
use mathlib.Core.List.{List, [], ◌∷◌, ◌++◌, append-nil}
use lib.ListN.{length, take, drop, replicate, drop_of_length-le}
use lib.Seq.{take_all, take_at, take-nil}
use lib.Ieee.{Float, binary32}
use lib.Ieee.Bits.{of_bits-fits}
use Rattle.code_interpreter.proofs.Rooms.{frame-places}
use Rattle.orchestra_syntax.specs.Tree.{Statements}
use Rattle.orchestra_syntax.specs.inside.Program.{zero_f}
use Rattle.orchestra_semantics.specs.inside.Placed.{Sounding, sounding, pass, birth, k_pass, a_passes, fresh}
use Rattle.code_operations.specs.Words.{note_places, frame_places}
use Rattle.code_interpreter.specs.Run.{run}
use Rattle.code_interpreter.specs.Passes.{laid, frame_of, fresh_of, once, Sums, sums, played}
use Rattle.code_interpreter.proofs.Numbers.{length-laid}
use Rattle.code_translation.specs.Translation.{lowered}
use Rattle.code_translation.specs.Statements.{Playable, AllFit, OnceMeans, BirthMeans, KMeans, PlayedMeans}
use Rattle.code_translation.proofs.Guards.{holds}
use Rattle.code_translation.proofs.Passing.{passes}

-- a note's 16 values in a frame, and taken out of it
framed : (vs : List Float) → length vs ≡ note_places → take note_places (frame_of vs) ≡ vs
unfolding frame_of laid
framed vs l = rw (take_all frame_places vs (omega arith)) (take_at vs (drop (length vs) (replicate frame_places zero_f)) note_places l)

unframed : (f vs : List Float) → length f ≡ frame_places → length vs ≡ note_places → laid f vs ≡ take note_places f
unfolding laid
unframed f vs a b = rw (b, drop_of_length-le vs {i = length f} (omega arith)) (append-nil (take note_places f))

pub once-means : OnceMeans
unfolding OnceMeans once holds
once-means vals r n t vs p l =
    let f = frame_of vs in
    let d = passes vals t r n 0 f p (omega arith) (frame-places vs) in
    unframed (run vals (lowered r n 0 t) f).frame vs d.size l
    ∙ ap (λ (x : Sounding). x.values) (d.is zero_f (of_bits-fits binary32 0))
    ∙ ap (λ (u : List Float). (pass r t (sounding u zero_f)).values) (framed vs l)

-- ---- birth

zeros-take : (n m : ℕ) → n ≤ m → take n (replicate m zero_f) ≡ replicate n zero_f
zeros-take zero m h = refl
zeros-take (suc n) zero h = absurd (omega arith)
zeros-take (suc n) (suc m) h = ap (λ (l : List Float). zero_f ∷ l) (zeros-take n m (omega arith))

padded : (vs : List Float) (n m : ℕ) → n ≤ m → take n (vs ++ replicate m zero_f) ≡ take n vs ++ drop (length vs) (replicate n zero_f)
padded [] n m h = zeros-take n m h ∙ ap (λ (l : List Float). l ++ replicate n zero_f) (sym (take-nil n))
padded (v ∷ vs) zero m h = refl
padded (v ∷ vs) (suc n) m h = ap (λ (l : List Float). v ∷ l) (padded vs n m (omega arith))

pub fresh-is : (vs : List Float) → fresh_of vs ≡ fresh vs
unfolding fresh_of laid fresh
fresh-is vs = sym (padded vs note_places note_places (omega arith))

pub fresh-size : (vs : List Float) → length (fresh_of vs) ≡ note_places
unfolding fresh_of
fresh-size vs = length-laid vs (replicate note_places zero_f)

pub birth-means : BirthMeans
unfolding BirthMeans birth OnceMeans
birth-means vals n t vs p =
    once-means vals 0 n t (fresh_of vs) p (fresh-size vs) ∙ ap (λ (u : List Float). (pass 0 t (sounding u zero_f)).values) (fresh-is vs)

pub k-means : KMeans
unfolding KMeans k_pass OnceMeans
k-means vals n t vs p l = once-means vals 1 n t vs p l

-- ---- the a passes

pub record Meant (t : Statements) (f mix : List Float) (s : Sums) : Type 0 where
  pub size : length s.frame ≡ frame_places
  pub values : take note_places s.frame ≡ (a_passes t (take note_places f) mix).values
  pub sums : s.mix ≡ (a_passes t (take note_places f) mix).mix

module _ (vals : List Float) (n : ℕ) (t : Statements) (p : Playable vals n 0 t) where
  meant : (f mix : List Float) → length f ≡ frame_places → AllFit mix → Meant t f mix (sums vals (lowered 2 n 0 t) f mix)
  unfolding sums a_passes AllFit holds
  meant f [] l a = record { size = l; values = refl; sums = refl }
  meant f (x ∷ xs) l a =
      let s = run vals (lowered 2 n 0 t) f in
      let d = passes vals t 2 n 0 f p (omega arith) l in
      let e = d.is x a.0 in
      let k = meant s.frame xs d.size a.1 in
      record {
        size = k.size;
        values = k.values ∙ ap (λ (y : Sounding). (a_passes t y.values xs).values) e;
        sums = λ i. (e i).sample ∷ (k.sums ∙ ap (λ (y : Sounding). (a_passes t y.values xs).mix) e) i;
      }

pub played-means : PlayedMeans
unfolding PlayedMeans played
played-means vals n t vs mix p l a =
    let m = meant vals n t p (frame_of vs) mix (frame-places vs) a in
    let q = framed vs l in (
      unframed (sums vals (lowered 2 n 0 t) (frame_of vs) mix).frame vs m.size l ∙ m.values ∙ ap (λ (u : List Float). (a_passes t u mix).values) q,
      m.sums ∙ ap (λ (u : List Float). (a_passes t u mix).mix) q,
    )
