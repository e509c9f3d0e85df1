use Rattle.midicsv_record.specs.Column.{value_as, field_in}
use Rattle.midicsv_record.proofs.ColumnLaws.{division_tested}
use Rattle.midicsv_record.proofs.column.division_of.Goals as goal

pub returns-in_err-bits : goal.returns-in_err-bits
unfolding value_as
returns-in_err-bits c = rw c.from_residual.ensures (λ l. (division_tested (field_in l c.args.f)).missed (c.in_err-bits.ensures l))

pub returns : goal.returns
unfolding value_as
returns c = rw c.then_some.ensures (λ l. (division_tested (field_in l c.args.f)).taken _ _ (c.in_ok-bits.ensures l) c.division_ok.ensures)
