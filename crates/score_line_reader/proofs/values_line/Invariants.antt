use Rattle.base_formats.specs.inside.Source.{source_of}
use Rattle.score_line_reader.proofs.Lines.{Filling}
use Rattle.score_line_reader.proofs.values_line.Given as goal

abbrev pub invariant-loop-i : goal.invariant-loop-i
invariant-loop-i l = Filling (source_of l.source) l.when l.priority l.event l.n l.at l.values l.p l.i
