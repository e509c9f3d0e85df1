use Rattle.midicsv_scan.specs.FieldAt.{field_as}
use Rattle.midicsv_read.proofs.DataLaws.{number_found, other_found, data_bad}
use mathlib.Core.Path.{refl}
use Rattle.midicsv_read.proofs.write_row.data_at.Goals as goal

pub returns-in_default : goal.returns-in_default
unfolding field_as
returns-in_default c = data_bad c.args.line.now _ c.in_default.ensures.fact_1

pub returns-in-Number : goal.returns-in-Number
returns-in-Number c =
    let a = c.after_comma-next.ensures in
    number_found c.args.line.now _ c.in-Some.field _ c.in-Number.value c.in-Number.next c.in-Number.is c.in-Some.ensures.fact_1 c.byte.ensures (rw c.next.ensures at a.fact_1) a.fact_2

pub returns-in_default-field : goal.returns-in_default-field
returns-in_default-field c =
    let a = c.after_comma-next.ensures in
    other_found c.args.line.now _ c.in-Some.field _ c.in_default-field.not-Number c.in-Some.ensures.fact_1 refl (rw c.next.ensures at a.fact_1) a.fact_2
