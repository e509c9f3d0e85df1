use lib.ListN.{length, length-append}
use Rattle.event_write.proofs.WriteLaws.{then}
use Rattle.midicsv.specs.Show.{gap, show, further}
use Rattle.midicsv.specs.Field.{decimal}
use Rattle.midicsv.specs.Code.Form.{form_of}
use Rattle.midicsv.specs.Record.{tail_fields}
use Rattle.midicsv.proofs.FieldLaws.{decimal_length, gap_length}
use native.Mathlib.Omega.{arith}
use Rattle.midicsv.proofs.field.put_sized.Goals as goal

pub put_byte_fields-requires-clause-fact_1 : goal.put_byte_fields-requires-clause-fact_1
unfolding show
put_byte_fields-requires-clause-fact_1 c = omega (arith, c.put_number_field-a.ensures.place, decimal_length (length c.args.body.now), gap_length (form_of c.args.sheet), length-append (gap (form_of c.args.sheet)) (decimal (length c.args.body.now)))

pub returns : goal.returns
unfolding further tail_fields
returns c = then c.put_number_field-a.ensures c.put_byte_fields.ensures
