use Rattle.text_event_reader.proofs.EventReaders.{tempo-word, tempo-value, tempo-is}
use Rattle.text_event_reader.proofs.tempo_at.Goals as goal

pub returns-in_err-p : goal.returns-in_err-p
returns-in_err-p c =
    search (tempo-word, c.in_err-p.was)

pub returns-in_err-tempo : goal.returns-in_err-tempo
returns-in_err-tempo c =
    search (tempo-value, c.in_ok-p.was, c.in_err-tempo.was)

pub returns : goal.returns
returns c =
    search (tempo-is, c.in_ok-p.was, c.in_ok-tempo.was)
