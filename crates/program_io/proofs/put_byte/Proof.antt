use Rattle.std.proofs.Common.{rules}
use Rattle.program_io.proofs.Putting.{put-past}
use Rattle.program_io.proofs.put_byte.Statement.{statement}
use Rattle.program_io.proofs.put_byte.Tie as tie

pub put_byte_spec : {M : Type 1} → statement M
put_byte_spec =
    tie.close (tie.spec
    (λ c. search rules) (λ c. search rules) (λ c. search rules) (λ c. search rules)
    (λ c. put-past (search rules)))
