use Rattle.std.proofs.Common.{rules}
use Rattle.program_io.specs.Decimal.{is_digit}
use Rattle.program_io.proofs.Reading.{digits-end, other-stops, long-stops, digit-again}
use Rattle.program_io.proofs.number.Goals.{then-not-is_ascii_digit-via-then-not-is_ascii_digit, then-not-is_ascii_digit-via-else-not-is_ascii_digit+then-n-gt99999999}
use Rattle.program_io.proofs.number.Goals as goal

pub returns-then-not-is_ascii_digit : goal.returns-then-not-is_ascii_digit
unfolding is_digit
returns-then-not-is_ascii_digit c =
    elim c.then-not-is_ascii_digit.branch [
      | then-not-is_ascii_digit-via-then-not-is_ascii_digit w ↦ other-stops c.loop-b.invariant c.loop-b-test.true c.is_ascii_digit.ensures.value (search rules)
      | then-not-is_ascii_digit-via-else-not-is_ascii_digit+then-n-gt99999999 w ↦ long-stops c.loop-b.invariant c.loop-b-test.true c.is_ascii_digit.ensures.value (search rules) (search rules)
    ]

pub loop-b-preserved : goal.loop-b-preserved
unfolding is_digit
loop-b-preserved c = digit-again c.loop-b.invariant c.loop-b-test.true c.is_ascii_digit.ensures.value (search rules) (search rules)

pub returns : goal.returns
returns c = digits-end c.loop-b.invariant c.loop-b-test.false
