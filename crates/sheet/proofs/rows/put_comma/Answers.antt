use Rattle.event_write.proofs.WriteLaws.{nothing}
use Rattle.sheet.proofs.RowLaws.{no_comma, a_comma}
use Rattle.sheet.proofs.rows.put_comma.Goals as goal

pub returns-then-i-eq0 : goal.returns-then-i-eq0
returns-then-i-eq0 c = rw (no_comma c.args.i c.if-i-eq0.true) (nothing _ _)

pub returns : goal.returns
returns c = rw (a_comma c.args.i c.if-i-eq0.false) c.put_byte.ensures
