-- The straight-line code of every instrument means its tree.
use Prim.Native.Nat.{ℕ}
use mathlib.Core.List.{List}
use lib.Ieee.{Float}
use Rattle.orchestra_syntax.specs.Tree.{Statements}
use Rattle.code_translation.specs.Statements.{Playable, BirthMeans, KMeans, PlayedMeans}
use Rattle.code_translation.proofs.CodeMeans.{birth-means, k-means, played-means}
use Rattle.code_bounds.specs.Sounds.{Sounds, InstrumentSounds}
use Rattle.code_bounds.proofs.WholeOrchestra.{instrument-playable}

pub sounds : (vals : List Float) (n : ℕ) (t : Statements) → Playable vals n 0 t → Sounds vals n t
unfolding BirthMeans KMeans PlayedMeans
sounds vals n t p =
    record {
      born = λ vs. birth-means vals n t vs p;
      cycled = λ vs l. k-means vals n t vs p l;
      values = λ vs mix l f. (played-means vals n t vs mix p l f).0;
      sums = λ vs mix l f. (played-means vals n t vs mix p l f).1;
    }

pub instrument-sounds : InstrumentSounds
instrument-sounds before i behind ts more d m = sounds _ _ _ (instrument-playable before i behind ts more d m)
