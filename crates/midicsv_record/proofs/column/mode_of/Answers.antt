use Rattle.event.specs.Outcome.{value_or}
use Rattle.midicsv_scan.specs.FieldAt.{field_as}
use Rattle.midicsv_record.specs.Column.{value_as}
use Rattle.midicsv_record.proofs.OtherFieldLaws.{no_mode}
use Rattle.midicsv_record.proofs.column.mode_of.Goals as goal

pub returns-in-Quoted : goal.returns-in-Quoted
unfolding value_or field_as
returns-in-Quoted c = rw c.in-Quoted.is c.mode_at.ensures

pub returns-in_default : goal.returns-in_default
unfolding value_as
returns-in_default c = no_mode c.args.line.now c.args.f c.in_default.not-Quoted
