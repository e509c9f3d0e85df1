use Rattle.sheet.proofs.CellLaws.{closing}
use Rattle.sheet.proofs.LinePart.closed_end.Given as goal

abbrev pub ghost-past : goal.ghost-past
ghost-past a = closing a.test.0.now
