use Rattle.event_write.proofs.WriteLaws.{Remains}
use Rattle.midicsv.specs.Code.Form.{form_of}
use Rattle.midicsv.proofs.FieldLaws.{DataLeft}
use Rattle.midicsv.proofs.field.put_byte_fields.Given as goal

abbrev pub invariant-loop-b : goal.invariant-loop-b
invariant-loop-b l = Remains l.initial.out l.at (DataLeft (form_of l.sheet) l.values 0) l.out l.next (DataLeft (form_of l.sheet) l.values l.b-index)
