use borrow.Author.Tests.{lt-ltb, le-ltb}
use native.Mathlib.Omega.{arith}
use Rattle.text_numerals.specs.Numeral.{width_of}
use Rattle.text_number_writer.proofs.width.Goals as goal

pub returns-then-n-lt10 : goal.returns-then-n-lt10
unfolding width_of
returns-then-n-lt10 c =
    (search (lt-ltb, le-ltb), omega arith)

pub returns-then-n-lt100 : goal.returns-then-n-lt100
unfolding width_of
returns-then-n-lt100 c =
    (search (lt-ltb, le-ltb), omega arith)

pub returns-then-n-lt1000 : goal.returns-then-n-lt1000
unfolding width_of
returns-then-n-lt1000 c =
    (search (lt-ltb, le-ltb), omega arith)

pub returns-then-n-lt10000 : goal.returns-then-n-lt10000
unfolding width_of
returns-then-n-lt10000 c =
    (search (lt-ltb, le-ltb), omega arith)

pub returns-then-n-lt100000 : goal.returns-then-n-lt100000
unfolding width_of
returns-then-n-lt100000 c =
    (search (lt-ltb, le-ltb), omega arith)

pub returns-then-n-lt1000000 : goal.returns-then-n-lt1000000
unfolding width_of
returns-then-n-lt1000000 c =
    (search (lt-ltb, le-ltb), omega arith)

pub returns-then-n-lt10000000 : goal.returns-then-n-lt10000000
unfolding width_of
returns-then-n-lt10000000 c =
    (search (lt-ltb, le-ltb), omega arith)

pub returns : goal.returns
unfolding width_of
returns c =
    (search (lt-ltb, le-ltb), omega arith)
