-- The orchestra of every sign, computed.
use Prim.Native.Nat.{ℕ}
use native.Mathlib.Omega.{arith}
use mathlib.Core.Path.{refl}
use mathlib.Core.List.{List, [], ◌∷◌, ◌++◌}
use lib.Ieee.{binary32, of_bits, of_int, to_bits, fits, size, neg, add, sub, mul, div, round, lt, le, eq, ne}
use Rattle.base_float32.specs.Builtins.{abs_of, sgn_of, int_of, frac_of, min_of, max_of, flag_of, truth, either_of, both_of, not_of}
use Rattle.orchestra_signs.specs.Signs as S
use Rattle.orchestra_tokens.specs.declared.Token.{Token}
use Rattle.orchestra_tokens.specs.declared.Token.TheVariants.{Symbol, Whole}
use Rattle.orchestra_tokens.specs.Encoding.{all_valid, encoded, bytes_of}
use Rattle.orchestra_tokens.specs.Measures.{opened, since, brackets_within, stretches_within}
use Rattle.orchestra_syntax.specs.Names.{named, named_by, has, apart, known_in, known, all_obey_name_rules}
use Rattle.orchestra_syntax.specs.Rates.{rate_of, rate, obeys_rate_rules, rate_rules}
use Rattle.orchestra_syntax.specs.Grammar as G
use Rattle.orchestra_syntax.specs.Grammar.{sign, Orchestra, Binds, Call, Call2, Prefix, whole, prefixed, bracketed, called, called2, sides, chosen, set, out, either, one, more, is, last}
use Rattle.orchestra_reader.specs.Verdict.{Sized, Accepted}
use Rattle.orchestra_semantics.specs.Meaning as M
use Rattle.orchestra_example.specs.Piece.{bytes, instrument, Works}

abbrev s : ℕ → List Token
s n = Symbol n ∷ []

abbrev w : ℕ → List Token
w n = Whole n ∷ []

abbrev g : S.Sign → List Token
g k = sign k ∷ []

abbrev tokens : List Token
tokens =
    g S.instr ++ s 1 ++ g S.round_open ++ s 2 ++ g S.comma ++ s 3 ++ g S.round_close ++ g S.curly_open
    ++ g S.ivar ++ s 4 ++ g S.comma ++ s 8 ++ g S.comma ++ s 9 ++ g S.semicolon ++ g S.ksig ++ s 5 ++ g S.semicolon ++ g S.asig ++ s 6 ++ g S.semicolon ++ g S.imports ++ g S.ksig ++ s 7 ++ g S.semicolon
    ++ s 4 ++ g S.becomes ++ g S.min ++ g S.round_open ++ s 2 ++ g S.comma ++ w 9 ++ g S.round_close ++ g S.- ++ g S.max ++ g S.round_open ++ s 3 ++ g S.comma ++ w 1 ++ g S.round_close ++ g S.semicolon
    ++ s 8 ++ g S.becomes ++ w 1 ++ g S./ ++ g S.- ++ w 0 ++ g S.semicolon ++ s 9 ++ g S.becomes ++ s 8 ++ g S.- ++ s 8 ++ g S.semicolon
    ++ g S.if ++ g S.round_open ++ s 5 ++ g S.== ++ w 0 ++ g S.|| ++ s 7 ++ g S.!= ++ w 0 ++ g S.&& ++ g S.! ++ s 5 ++ g S.round_close
    ++ g S.curly_open ++ s 5 ++ g S.becomes ++ s 4 ++ g S.* ++ w 3 ++ g S./ ++ w 2 ++ g S.semicolon ++ g S.curly_close
    ++ g S.else ++ g S.curly_open ++ s 5 ++ g S.becomes ++ w 7 ++ g S.semicolon ++ g S.curly_close
    ++ s 6 ++ g S.becomes ++ s 5 ++ g S.< ++ w 4 ++ g S.question ++ g S.abs ++ g S.round_open ++ s 4 ++ g S.round_close ++ g S.colon
    ++ g S.int ++ g S.round_open ++ s 5 ++ g S.round_close ++ g S.+ ++ g S.frac ++ g S.round_open ++ s 5 ++ g S.round_close ++ g S.semicolon
    ++ g S.output ++ g S.round_open ++ s 6 ++ g S.> ++ w 4 ++ g S.question ++ s 6 ++ g S.colon ++ g S.sgn ++ g S.round_open ++ s 6 ++ g S.round_close ++ g S.round_close ++ g S.semicolon
    ++ g S.output ++ g S.round_open ++ g S.round_open ++ s 6 ++ g S.>= ++ w 4 ++ g S.round_close ++ g S.+ ++ g S.round_open ++ s 6 ++ g S.<= ++ w 4 ++ g S.round_close ++ g S.round_close ++ g S.semicolon
    ++ g S.output ++ g S.round_open ++ s 9 ++ g S.&& ++ g S.int ++ g S.round_open ++ s 8 ++ g S.round_close ++ g S.< ++ w 0 ++ g S.question ++ g S.- ++ s 3 ++ g S.colon ++ w 0 ++ g S.round_close ++ g S.semicolon
    ++ g S.curly_close

sized : Sized bytes tokens
unfolding all_valid encoded bytes_of opened since brackets_within stretches_within
sized = record { short = omega arith; encodes = record { listed = refl; encoded = refl }; within = refl }

derived : Orchestra (instrument ∷ []) tokens
derived =
    last (is 1 (G.Fields.some (more 2 (one 3)))
    (G.Decls.some G.Kinds.ivar (more 4 (more 8 (one 9))) (G.Decls.some G.Kinds.ksig (one 5) (G.Decls.some G.Kinds.asig (one 6) (G.Decls.some G.Kinds.imports (one 7) G.Decls.none))))
    (set 4 (sides {m = 0} {l = 5} Binds.minus (omega arith) (called2 Call2.min (G.Derives.named 2) (whole 9)) (called2 Call2.max (G.Derives.named 3) (whole 1)))
    (set 8 (sides {m = 0} {l = 6} Binds.over (omega arith) (whole 1) (prefixed Prefix.negative (whole 0)))
    (set 9 (sides {m = 0} {l = 5} Binds.minus (omega arith) (G.Derives.named 8) (G.Derives.named 8))
    (either
    (sides {m = 0} {l = 1} Binds.or (omega arith) (sides {m = 1} {l = 3} Binds.equal (omega arith) (G.Derives.named 5) (whole 0))
    (sides {m = 2} {l = 2} Binds.and (omega arith) (sides {m = 2} {l = 3} Binds.unequal (omega arith) (G.Derives.named 7) (whole 0)) (prefixed Prefix.not (G.Derives.named 5))))
    (set 5 (sides {m = 0} {l = 6} Binds.over (omega arith) (sides {m = 6} {l = 6} Binds.times (omega arith) (G.Derives.named 4) (whole 3)) (whole 2)) G.Stmts.none)
    (set 5 (whole 7) G.Stmts.none)
    (set 6
    (chosen (sides {m = 1} {l = 4} Binds.less (omega arith) (G.Derives.named 5) (whole 4)) (called Call.abs (G.Derives.named 4))
    (sides {m = 0} {l = 5} Binds.plus (omega arith) (called Call.int (G.Derives.named 5)) (called Call.frac (G.Derives.named 5))))
    (out (chosen (sides {m = 1} {l = 4} Binds.greater (omega arith) (G.Derives.named 6) (whole 4)) (G.Derives.named 6) (called Call.sgn (G.Derives.named 6)))
    (out
    (sides {m = 0} {l = 5} Binds.plus (omega arith) (bracketed (sides {m = 0} {l = 4} Binds.at_least (omega arith) (G.Derives.named 6) (whole 4)))
    (bracketed (sides {m = 0} {l = 4} Binds.at_most (omega arith) (G.Derives.named 6) (whole 4))))
    (out
    (chosen (sides {m = 1} {l = 2} Binds.and (omega arith) (G.Derives.named 9) (sides {m = 3} {l = 4} Binds.less (omega arith) (called Call.int (G.Derives.named 8)) (whole 0)))
    (prefixed Prefix.negative (G.Derives.named 3)) (whole 0))
    G.Stmts.none)))))))))

accepted : Accepted bytes (instrument ∷ [])
unfolding named named_by has apart known_in known all_obey_name_rules rate_of rate obeys_rate_rules rate_rules
accepted = record { tokens = tokens; sized = sized; derived = derived; named = refl; rated = refl }

pub every-sign-works : Works
unfolding M.birth M.cycle M.a_passes M.pass M.value M.fresh named named_by rate_of abs_of sgn_of int_of frac_of min_of max_of flag_of truth either_of both_of not_of neg add sub mul div round of_bits of_int lt le eq ne
every-sign-works = record { accepted = accepted; s4 = refl; s8 = refl; s9 = refl; first = refl; second = refl }
