use Rattle.settings_records.proofs.Changing.{undo-length}
use Rattle.settings_records.proofs.Telling.{told-undo-fault, told-undo-nothing, told-fewer, told-undo-taken}
use Rattle.settings_records.proofs.undo.Goals as goal

pub returns-then-area-ne-AREA : goal.returns-then-area-ne-AREA
returns-then-area-ne-AREA c =
    search undo-length

pub returns-in-Err : goal.returns-in-Err
returns-in-Err c =
    search told-undo-fault

pub returns-then-settings-lt2 : goal.returns-then-settings-lt2
returns-then-settings-lt2 c =
    search told-undo-nothing

pub unwrap-requires : goal.unwrap-requires
unwrap-requires c =
    let r = told-fewer c.args.settings c.args.area.now c.if-area-ne-AREA.false c.read_records.ensures c.in_default.is c.if-settings-lt2.false in
    rw (c.read_records-2.ensures, r)

pub returns : goal.returns
returns c =
    told-undo-taken c.args.settings c.args.area.now c.if-area-ne-AREA.false c.read_records.ensures c.in_default.is c.if-settings-lt2.false c.read_records-2.ensures c.unwrap.ensures
