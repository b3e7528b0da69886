use Rattle.std.proofs.Common.{rules}
use Rattle.program_io.proofs.Reading.{words-start, words-again, words-end}
use Rattle.program_io.proofs.words_of.Goals as goal

pub loop-i-init : goal.loop-i-init
loop-i-init c = words-start _ _

pub loop-i-preserved : goal.loop-i-preserved
loop-i-preserved c = search (words-again, rules)

pub returns : goal.returns
returns c = search (words-end, rules)
