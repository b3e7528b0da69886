use Rattle.text_decoder.proofs.Texts.{text-taken, text-short, text-refused}
use Rattle.text_decoder.proofs.decode_text.Goals as goal

pub returns-then-count-area : goal.returns-then-count-area
returns-then-count-area c =
    search text-taken

pub returns-then-is_taken : goal.returns-then-is_taken
returns-then-is_taken c =
    search text-short

pub returns : goal.returns
returns c =
    search text-refused
