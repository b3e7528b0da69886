-- One whole orchestra that uses every sign, as the bytes that a host hands in: its tree, and what a note of it does in two cycles.
use Rattle.std.specs.Prelude.{ℕ, ◌≡◌, List, [], ◌∷◌, ◌++◌, Float, pos}
use Rattle.std.specs.Float.{nan, binary32}
use Rattle.std.specs.Float.Ieee.{of_bits, of_int}
use Rattle.base_float32.specs.Builtins.{zero_f}
use Rattle.orchestra_signs.specs.Operators as O
use Rattle.orchestra_syntax.specs.Tree.{Expr, number, name, unary, binary, choose, done, assign, output, branch, Instrument, ivar_kind, ksig_kind, asig_kind, imports_kind}
use Rattle.orchestra_reader.specs.Verdict.{Accepted}
use Rattle.orchestra_semantics.specs.Meaning.{Memory, Played, birth, cycle}

-- a symbol and a whole number, both below 256
abbrev s : ℕ → List ℕ
s n = 0xf0 ∷ 0 ∷ n ∷ []

abbrev w : ℕ → List ℕ
w n = 0xf2 ∷ 0 ∷ 0 ∷ 0 ∷ n ∷ []

-- instr s1 ( s2 , s3 ) { ivar s4 , s8 , s9 ; ksig s5 ; asig s6 ; imports ksig s7 ;
abbrev head : List ℕ
head = 1 ∷ s 1 ++ 15 ∷ s 2 ++ 19 ∷ s 3 ++ 16 ∷ 17 ∷ 2 ∷ s 4 ++ 19 ∷ s 8 ++ 19 ∷ s 9 ++ 20 ∷ 3 ∷ s 5 ++ 20 ∷ 4 ∷ s 6 ++ 20 ∷ 5 ∷ 3 ∷ s 7 ++ 20 ∷ []

-- s4 = min ( s2 , 9 ) - max ( s3 , 1 ) ;
abbrev first : List ℕ
first = s 4 ++ 21 ∷ 13 ∷ 15 ∷ s 2 ++ 19 ∷ w 9 ++ 16 ∷ 33 ∷ 14 ∷ 15 ∷ s 3 ++ 19 ∷ w 1 ++ 16 ∷ 20 ∷ []

-- s8 = 1 / - 0 ; s9 = s8 - s8 ;
abbrev endless : List ℕ
endless = s 8 ++ 21 ∷ w 1 ++ 35 ∷ 33 ∷ w 0 ++ 20 ∷ s 9 ++ 21 ∷ s 8 ++ 33 ∷ s 8 ++ 20 ∷ []

-- if ( s5 == 0 || s7 != 0 && ! s5 ) { s5 = s4 * 3 / 2 ; } else { s5 = 7 ; }
abbrev choice : List ℕ
choice =
    7 ∷ 15 ∷ s 5 ++ 26 ∷ w 0 ++ 24 ∷ s 7 ++ 27 ∷ w 0 ++ 25 ∷ 36 ∷ s 5 ++ 16 ∷ 17 ∷ s 5 ++ 21 ∷ s 4 ++ 34 ∷ w 3 ++ 35 ∷ w 2 ++ 20 ∷ 18 ∷ 8 ∷ 17 ∷ s 5 ++ 21 ∷ w 7 ++ 20 ∷ 18 ∷ []

-- s6 = s5 < 4 ? abs ( s4 ) : int ( s5 ) + frac ( s5 ) ;
abbrev wave : List ℕ
wave = s 6 ++ 21 ∷ s 5 ++ 28 ∷ w 4 ++ 22 ∷ 9 ∷ 15 ∷ s 4 ++ 16 ∷ 23 ∷ 11 ∷ 15 ∷ s 5 ++ 16 ∷ 32 ∷ 12 ∷ 15 ∷ s 5 ++ 16 ∷ 20 ∷ []

-- output ( s6 > 4 ? s6 : sgn ( s6 ) ) ; output ( ( s6 >= 4 ) + ( s6 <= 4 ) ) ;
abbrev heard : List ℕ
heard =
    6 ∷ 15 ∷ s 6 ++ 29 ∷ w 4 ++ 22 ∷ s 6 ++ 23 ∷ 10 ∷ 15 ∷ s 6 ++ 16 ∷ 16 ∷ 20 ∷ 6 ∷ 15 ∷ 15 ∷ s 6 ++ 31 ∷ w 4 ++ 16 ∷ 32 ∷ 15 ∷ s 6 ++ 30 ∷ w 4 ++ 16 ∷ 16 ∷ 20 ∷ []

-- output ( s9 && int ( s8 ) < 0 ? - s3 : 0 ) ; }
abbrev lowered : List ℕ
lowered = 6 ∷ 15 ∷ s 9 ++ 25 ∷ 11 ∷ 15 ∷ s 8 ++ 16 ∷ 28 ∷ w 0 ++ 22 ∷ 33 ∷ s 3 ++ 23 ∷ w 0 ++ 16 ∷ 20 ∷ 18 ∷ []

abbrev pub bytes : List ℕ
bytes = head ++ first ++ endless ++ choice ++ wave ++ heard ++ lowered ++ 0xff ∷ []

abbrev n : ℕ → Expr
n k = number (of_int binary32 (pos k))

abbrev pub instrument : Instrument
instrument =
    record {
      name = 1;
      fields = 2 ∷ 3 ∷ [];
      declarations =
          record { kind = ivar_kind; names = 4 ∷ 8 ∷ 9 ∷ [] } ∷ record { kind = ksig_kind; names = 5 ∷ [] } ∷ record { kind = asig_kind; names = 6 ∷ [] }
          ∷ record { kind = imports_kind; names = 7 ∷ [] } ∷ [];
      body =
          assign 4 (binary O.minus (binary O.least (name 2) (n 9)) (binary O.greatest (name 3) (n 1)))
          (assign 8 (binary O.over (n 1) (unary O.negative (n 0)))
          (assign 9 (binary O.minus (name 8) (name 8))
          (branch
          (binary O.or (binary O.equal (name 5) (n 0)) (binary O.and (binary O.unequal (name 7) (n 0)) (unary O.not (name 5))))
          (assign 5 (binary O.over (binary O.times (name 4) (n 3)) (n 2)) done)
          (assign 5 (n 7) done)
          (assign 6 (choose (binary O.less (name 5) (n 4)) (unary O.absolute (name 4)) (binary O.plus (unary O.whole (name 5)) (unary O.fraction (name 5))))
          (output (choose (binary O.greater (name 6) (n 4)) (name 6) (unary O.signum (name 6)))
          (output (binary O.plus (binary O.at_least (name 6) (n 4)) (binary O.at_most (name 6) (n 4)))
          (output (choose (binary O.and (name 9) (binary O.less (unary O.whole (name 8)) (n 0))) (unary O.negative (name 3)) (n 0)) done)))))));
    }

-- a note of the values 5 and 2, and its cycles, of one sample each
abbrev pub born : Memory
born = (birth instrument (of_bits binary32 0x40a00000 ∷ of_bits binary32 0x40000000 ∷ [])).memory

abbrev pub once : Played
once = cycle instrument born (zero_f ∷ [])

abbrev pub twice : Played
twice = cycle instrument once.memory (zero_f ∷ [])

-- It is accepted as this tree; s4 is 3, s8 minus infinity, since - 0 is -0, and s9 not a number, which counts as true. In the first cycle s5 is 4.5 and
-- the sample 4.5 + 1 - 2, in the second s5 is 7 and the sample 7 + 1 - 2.
pub record Works : Type 0 where
  pub accepted : Accepted bytes (instrument ∷ [])
  pub s4 : born.values 4 ≡ of_bits binary32 0x40400000
  pub s8 : born.values 8 ≡ of_bits binary32 0xff800000
  pub s9 : born.values 9 ≡ nan
  pub first : once.mix ≡ of_bits binary32 0x40600000 ∷ []
  pub second : twice.mix ≡ of_bits binary32 0x40c00000 ∷ []
