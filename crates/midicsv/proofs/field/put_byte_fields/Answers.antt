use Rattle.std.proofs.Common.{arith}
use Rattle.event_write.proofs.WriteLaws.{all_remains, go_on_lem, done}
use Rattle.midicsv.specs.Code.Form.{form_of}
use Rattle.midicsv.proofs.FieldLaws.{data_more, data_end, data_length}
use Rattle.midicsv.proofs.field.put_byte_fields.Goals as goal

pub loop-b-init : goal.loop-b-init
loop-b-init c = all_remains _ _ _

pub put_number_field-next-requires : goal.put_number_field-next-requires
put_number_field-next-requires c = omega (arith, c.loop-b.invariant.place, data_length (form_of c.args.sheet) c.args.values.now)

pub loop-b-preserved : goal.loop-b-preserved
loop-b-preserved c =
    let a = c.args in
    go_on_lem _ _ _ c.loop-b.invariant (data_more (form_of a.sheet) a.values.now c.loop-b.b-index c.loop-b-test.true) c.put_number_field-next.ensures

pub returns : goal.returns
returns c =
    let a = c.args in done _ c.loop-b.invariant (data_end (form_of a.sheet) a.values.now c.loop-b.b-index c.loop-b-test.false)
