use Rattle.event_write.proofs.WriteLaws.{then}
use Rattle.midicsv.specs.Code.Form.{form_of}
use Rattle.midicsv.proofs.FieldLaws.{decimal_length}
use Rattle.midicsv_write.proofs.LineLaws.{number_length}
use native.Mathlib.Omega.{arith}
use Rattle.midicsv_write.proofs.record.put_line_start.Goals as goal

pub put_number_field-q-requires : goal.put_number_field-q-requires
put_number_field-q-requires c = omega (arith, c.put_decimal-p.ensures.place, decimal_length c.args.track, c.requires)

pub put_comma-requires : goal.put_comma-requires
put_comma-requires c = let a = c.args in
    omega (arith, c.put_number_field-q.ensures.place, c.put_decimal-p.ensures.place, number_length (form_of a.sheet) a.time, decimal_length a.track, c.requires)

pub returns : goal.returns
returns c = then (then c.put_decimal-p.ensures c.put_number_field-q.ensures) c.put_comma.ensures
