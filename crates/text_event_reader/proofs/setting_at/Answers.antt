use Rattle.text_event_reader.proofs.EventReaders.{setting-name, setting-value, setting-is}
use Rattle.text_event_reader.proofs.setting_at.Goals as goal

pub returns-in_err-name : goal.returns-in_err-name
returns-in_err-name c =
    search (setting-name, c.in_err-name.was)

pub returns-in_err-value : goal.returns-in_err-value
returns-in_err-value c =
    search (setting-value, c.in_ok-name.was, c.in_err-value.was)

pub returns : goal.returns
returns c =
    search (setting-is, c.in_ok-name.was, c.in_ok-value.was)
