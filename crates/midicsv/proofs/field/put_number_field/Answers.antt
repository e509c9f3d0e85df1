use Rattle.event_write.proofs.WriteLaws.{then}
use Rattle.midicsv.specs.Show.{show}
use Rattle.midicsv.specs.Code.Form.{form_of}
use Rattle.midicsv.proofs.FieldLaws.{gap_length}
use native.Mathlib.Omega.{arith}
use Rattle.midicsv.proofs.field.put_number_field.Goals as goal

pub put_decimal-requires : goal.put_decimal-requires
put_decimal-requires c = omega (arith, c.put_comma-a.ensures.place, gap_length (form_of c.args.sheet), c.requires)

pub returns : goal.returns
unfolding show
returns c = then c.put_comma-a.ensures c.put_decimal.ensures
