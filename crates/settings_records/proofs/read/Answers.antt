use mathlib.Core.Path.{◌∙◌}
use lib.ListN.{get_or}
use Rattle.base_answer.specs.declared.Answer.TheVariants.{CutShort, LeftOver, UnknownVersion}
use Rattle.settings_records.specs.Form.{version_one_tempo, refused_as}
use Rattle.settings_records.specs.inside.Reading.{judged_of, found_in}
use Rattle.settings_records.proofs.Ways.{read_short, read-cut, read-zero, read_one, read-one-length, read-two, read-two-length, read-other}
use Rattle.settings_records.proofs.Telling.{told_as}
use Rattle.settings_records.proofs.read.Goals as goal

pub returns-then-s-lt-LENGTH_BYTES : goal.returns-then-s-lt-LENGTH_BYTES
returns-then-s-lt-LENGTH_BYTES c =
    told_as (refused_as CutShort) (found_in c.args.s.now) (search read_short)

pub returns-then-s-k : goal.returns-then-s-k
returns-then-s-k c =
    told_as (refused_as CutShort) (found_in c.args.s.now) (search read-cut)

pub returns-then-k-eq0 : goal.returns-then-k-eq0
returns-then-k-eq0 c =
    told_as (refused_as LeftOver) (found_in c.args.s.now) (search read-zero)

pub returns-then-k-eq4 : goal.returns-then-k-eq4
returns-then-k-eq4 c =
    let f = judged_of c.two.result (get_or c.args.s.now 5 0) version_one_tempo 6 in
    c.judged.ensures ∙ told_as f (found_in c.args.s.now) (search read_one)

pub returns-then-version-eq1 : goal.returns-then-version-eq1
returns-then-version-eq1 c =
    told_as (refused_as LeftOver) (found_in c.args.s.now) (search read-one-length)

pub returns-then-k-eq6 : goal.returns-then-k-eq6
returns-then-k-eq6 c =
    let f = judged_of c.two-then-k-eq6.result (get_or c.args.s.now 5 0) c.two-then-k-eq6-2.result 8 in
    c.judged-then-k-eq6.ensures ∙ told_as f (found_in c.args.s.now) (search read-two)

pub returns-then-version-eq2 : goal.returns-then-version-eq2
returns-then-version-eq2 c =
    told_as (refused_as LeftOver) (found_in c.args.s.now) (search read-two-length)

pub returns : goal.returns
returns c =
    told_as (refused_as UnknownVersion) (found_in c.args.s.now) (search read-other)
