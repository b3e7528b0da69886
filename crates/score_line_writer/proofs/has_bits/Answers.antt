use native.Mathlib.Omega.{arith}
use borrow.Author.Rules.{rules}
use Rattle.score_line_writer.proofs.Writes.{fit-far, fit-bytes}
use Rattle.score_line_writer.proofs.has_bits.Goals as goal

pub returns-then-at-gt-FARTHEST : goal.returns-then-at-gt-FARTHEST
returns-then-at-gt-FARTHEST c =
    fit-far _ _ _ (omega arith)

pub returns-then-n-gt-FARTHEST : goal.returns-then-n-gt-FARTHEST
returns-then-n-gt-FARTHEST c =
    fit-far _ _ _ (omega arith)

pub returns-then-at-n-gt-FARTHEST : goal.returns-then-at-n-gt-FARTHEST
returns-then-at-n-gt-FARTHEST c =
    fit-far _ _ _ (omega arith)

pub returns : goal.returns
returns c =
    search (fit-bytes, arith)
