use Rattle.event.specs.Outcome.{value_or}
use Rattle.midicsv.specs.ReadRecord.{size_of}
use Rattle.midicsv_scan.specs.FieldAt.{field_as}
use Rattle.midicsv_record.specs.Column.{value_as}
use Rattle.midicsv_record.proofs.OtherFieldLaws.{no_number}
use mathlib.Core.Path.{refl}
use Rattle.midicsv_record.proofs.column.number_of.Goals as goal

pub returns-in-Number : goal.returns-in-Number
unfolding value_as size_of value_or field_as
returns-in-Number c = λ l. rw c.in-Number.is refl

pub returns-in_default : goal.returns-in_default
unfolding value_as
returns-in_default c = λ l. no_number l c.args.f c.in_default.not-Number
