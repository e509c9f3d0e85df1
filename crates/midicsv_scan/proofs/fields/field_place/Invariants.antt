use Rattle.midicsv_scan.proofs.FieldsLaws.{Counting}
use Rattle.midicsv_scan.proofs.fields.field_place.Given as goal

abbrev pub invariant-loop-n : goal.invariant-loop-n
invariant-loop-n l = Counting l.line l.at l.n
