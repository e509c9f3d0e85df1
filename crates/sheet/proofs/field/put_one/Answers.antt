use Rattle.event_write.proofs.WriteLaws.{then}
use Rattle.sheet.proofs.FieldLaws.{one_plain, one_other, one_quote}
use Rattle.sheet.proofs.field.put_one.Goals.{then-not-double-via-then-not-double, then-not-double-via-else-not-double+then-b-ne34}
use Rattle.sheet.proofs.field.put_one.Goals as goal

pub returns-then-not-double : goal.returns-then-not-double
returns-then-not-double c =
    elim c.then-not-double.branch [
      | then-not-double-via-then-not-double w ↦ rw (one_plain c.args.double c.args.b w.if-not-double.true) at c.put_byte.ensures
      | then-not-double-via-else-not-double+then-b-ne34 w ↦ rw (one_other c.args.double c.args.b w.if-b-ne34.true) at c.put_byte.ensures
    ]

pub returns : goal.returns
returns c = rw (one_quote c.args.double c.args.b c.if-not-double.false c.if-b-ne34.false) at (then c.put_byte-a.ensures c.put_byte-2.ensures)
