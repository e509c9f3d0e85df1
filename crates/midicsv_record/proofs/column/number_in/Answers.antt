use Rattle.midicsv_record.specs.Column.{value_as, field_in}
use Rattle.midicsv_record.proofs.ColumnLaws.{range_tested}
use native.Mathlib.Omega.{arith}
use Rattle.std.proofs.lemmas.Bool.Decides.{nat_tests}
use Rattle.midicsv_record.proofs.column.number_in.Goals as goal

pub returns-in_err-value : goal.returns-in_err-value
unfolding value_as
returns-in_err-value c = rw c.from_residual.ensures (λ l. (range_tested c.args.lo c.args.hi (field_in l c.args.f)).missed (c.in_err-value.ensures l))

pub returns : goal.returns
unfolding value_as
returns c = rw c.then_some.ensures (λ l. (range_tested c.args.lo c.args.hi (field_in l c.args.f)).taken _ _ (c.in_ok-value.ensures l) (grind (arith, nat_tests)))
