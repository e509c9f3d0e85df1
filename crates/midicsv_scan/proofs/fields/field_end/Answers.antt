use Rattle.midicsv_scan.proofs.FieldsLaws.{field_ends, bad_ends}
use Rattle.midicsv_scan.proofs.fields.field_end.Goals as goal

pub returns-in_err-field_at : goal.returns-in_err-field_at
returns-in_err-field_at c = rw c.from_residual.ensures (bad_ends _ _ c.in_err-field_at.ensures)

pub returns : goal.returns
returns c = rw c.next.ensures (field_ends _ _ _ c.in_ok-field_at.ensures)
