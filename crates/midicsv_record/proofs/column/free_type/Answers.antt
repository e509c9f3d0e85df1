use Rattle.midicsv_record.specs.Column.{value_as, field_in}
use Rattle.midicsv_record.proofs.ColumnLaws.{free_tested}
use Rattle.midicsv_record.proofs.column.free_type.Goals as goal

pub returns-in_err-value : goal.returns-in_err-value
unfolding value_as
returns-in_err-value c = rw c.from_residual.ensures (λ l. (free_tested (field_in l c.args.f)).missed (c.in_err-value.ensures l))

pub returns : goal.returns
unfolding value_as
returns c = rw c.then_some.ensures (λ l. (free_tested (field_in l c.args.f)).taken _ _ (c.in_ok-value.ensures l) c.is_free.ensures)
