use Rattle.midicsv.specs.ReadRecord.{read_column}
use Rattle.midicsv_record.specs.Table.{column_as}
use Rattle.midicsv_record.proofs.column.value_in.Goals as goal

pub returns-in-Range : goal.returns-in-Range
unfolding column_as
returns-in-Range c = rw c.in-Range.is (c.number_in.ensures c.args.line.now)

pub returns-in-Key : goal.returns-in-Key
unfolding column_as read_column
returns-in-Key c = rw c.in-Key.is (c.signed_of.ensures c.args.line.now)

pub returns-in-Mode : goal.returns-in-Mode
unfolding column_as
returns-in-Mode c = rw c.in-Mode.is c.mode_of.ensures

pub returns-in-FreeType : goal.returns-in-FreeType
unfolding column_as
returns-in-FreeType c = rw c.in-FreeType.is (c.free_type.ensures c.args.line.now)

pub returns-in-Division : goal.returns-in-Division
unfolding column_as
returns-in-Division c = rw c.in-Division.is (c.division_of.ensures c.args.line.now)
