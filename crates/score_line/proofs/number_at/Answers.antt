use Rattle.score_line.proofs.Parts.{keypad-in, keypad-short, bits-gives}
use Rattle.score_line.proofs.number_at.Goals as goal

pub returns-in-Bits : goal.returns-in-Bits
returns-in-Bits c =
    rw c.in-Bits.is (bits-gives _ _ _ _ _ c.read.ensures c.ok_or.ensures.value)

pub returns-then-at-words : goal.returns-then-at-words
returns-then-at-words c =
    rw c.in-Keypad.is (search keypad-in)

pub returns-else-at-words : goal.returns-else-at-words
returns-else-at-words c =
    rw c.in-Keypad.is (search keypad-short)
