use Rattle.std.specs.Prelude.{Some, None}
use lib.ListN.{drop}
use Rattle.midicsv_scan.specs.FieldAt.{field_as}
use Rattle.midicsv_record.specs.Column.{value_as}
use Rattle.midicsv_record.specs.Table.{column_as}
use Rattle.midicsv_record.specs.InTurn.{fitting, cell_as}
use Rattle.midicsv_record.proofs.RecordLaws.{column_told}
use Rattle.midicsv_record.proofs.InTurnLaws.{column_missing}
use Rattle.midicsv_record.proofs.in_turn.column_after.Goals as goal

pub returns-in_err-f : goal.returns-in_err-f
unfolding cell_as field_as
returns-in_err-f c = rw c.from_residual.ensures (column_missing (column_as c.args.column) _ c.in_err-f.ensures.fact_1)

pub returns-in_err-value : goal.returns-in_err-value
unfolding cell_as fitting value_as
returns-in_err-value c =
    let a = c.args in
    rw c.from_residual-in_err-value.ensures (column_told (column_as a.column) a.line.now (drop a.comma a.line.now) _ None c.in_ok-f.ensures.fact_1 c.in_err-value.ensures)

pub returns : goal.returns
unfolding cell_as fitting value_as
returns c =
    let a = c.args in
    rw c.next.ensures (column_told (column_as a.column) a.line.now (drop a.comma a.line.now) _ (Some c.in_ok-value.value) c.in_ok-f.ensures.fact_1 c.in_ok-value.ensures)
