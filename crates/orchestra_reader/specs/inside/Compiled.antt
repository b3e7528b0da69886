-- The program of a tree, in the arrays that the panel keeps.
use Rattle.std.specs.Prelude.{ℕ, ◌+◌, List, [], ◌∷◌, ◌++◌, map, length, drop, replicate, Float}
use Rattle.orchestra_syntax.specs.Tree.{Instrument}
use Rattle.orchestra_syntax.specs.inside.Placed.{placed}
use Rattle.orchestra_syntax.specs.inside.Program.{zero_f, program, instrument}
use Rattle.orchestra_rules.specs.Formed.{ops_of, args_of, vals_of}
use Rattle.orchestra_reader.specs.declared.PostfixProgram.{PostfixProgram}

-- an array of n cells that starts with some elements, and else holds d
abbrev pub padded : {A : Type 0} → ℕ → A → List A → List A
padded n d xs = xs ++ drop (length xs) (replicate n d)

-- a program of these instructions, whose instruments start at these places
abbrev pub laid : List ℕ → List ℕ → List ℕ → List Float → PostfixProgram
laid hs os ns vs =
    record {
      count = length hs;
      heads = padded 8 0 hs;
      length = length os;
      ops = padded 2048 0 os;
      args = padded 2048 0 ns;
      vals = padded 2048 zero_f vs;
    }

-- where each instrument's code starts, the first at n
unfoldable pub heads_from : ℕ → List Instrument → List ℕ
heads_from n [] = []
heads_from n (i ∷ is) = n ∷ heads_from (n + length (instrument (placed i))) is

-- The program of an orchestra: the code of each instrument, its names put by their places, one after the other.
unfoldable pub compile : List Instrument → PostfixProgram
compile is =
    let code = program (map placed is) in
    laid (heads_from 0 is) (ops_of code) (args_of code) (vals_of code)

-- the program of no instruments
abbrev pub blank : PostfixProgram
blank = laid [] [] [] []
