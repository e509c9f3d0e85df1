use Rattle.event.proofs.BytesLaws.{bytes_of}
use Rattle.midicsv_scan.proofs.FieldsLaws.{field_is}
use native.Mathlib.Omega.{arith}
use Rattle.midicsv_scan.proofs.fields.field.Goals as goal

pub returns : goal.returns
returns c = field_is _ _ _ c.field_at.result (bytes_of c.args.line.now (λ i. omega (arith, c.type_inv.line i))) c.field_place-p.ensures c.field_at.ensures
