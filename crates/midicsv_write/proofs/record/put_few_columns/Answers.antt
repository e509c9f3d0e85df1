use Rattle.std.proofs.Common.{arith}
use Rattle.event.specs.Step.{kind_from}
use Rattle.event_write.proofs.WriteLaws.{then}
use Rattle.midicsv.specs.Field.{num}
use Rattle.midicsv.specs.Show.{further}
use Rattle.midicsv.specs.Table.{mode, event_shape}
use Rattle.midicsv.specs.Record.{column_field, tail_fields, fields_of, name_of, values_of}
use Rattle.midicsv.specs.Code.Form.{form_of}
use Rattle.midicsv_write.proofs.LineLaws.{last_field, number_length, field_length, key_fields}
use Rattle.midicsv_write.proofs.record.put_few_columns.Goals as goal

pub put_number_field-requires : goal.put_number_field-requires
put_number_field-requires c = omega (arith, c.put_number_field-p.ensures.place, number_length (form_of c.args.sheet) c.in-PitchBend.channel)

pub returns-in-PitchBend : goal.returns-in-PitchBend
unfolding kind_from name_of event_shape values_of fields_of column_field tail_fields further
returns-in-PitchBend c =
    rw c.in-PitchBend.is (then c.put_number_field-p.ensures (last_field (form_of c.args.sheet) (num c.in-PitchBend.value) c.put_number_field.ensures))

pub put_mode_field-requires : goal.put_mode_field-requires
put_mode_field-requires c = omega (arith, c.put_signed_field-p.ensures.place, field_length (form_of c.args.sheet) 8 256 c.in-KeySignature.key)

pub returns-in-KeySignature : goal.returns-in-KeySignature
unfolding kind_from further
returns-in-KeySignature c =
    let k = c.in-KeySignature in
    let w = form_of c.args.sheet in
    rw (k.is, ← key_fields w k.key k.minor (omega arith)) (then c.put_signed_field-p.ensures (last_field w (column_field mode k.minor) c.put_mode_field.ensures))
