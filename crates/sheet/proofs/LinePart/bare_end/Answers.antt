use Rattle.sheet.proofs.CellLaws.{bare_first, bare_on}
use Rattle.sheet.proofs.LinePart.bare_end.Goals as goal

pub loop-p-init : goal.loop-p-init
loop-p-init c = bare_first _ _ _ _ c.requires

pub loop-p-preserved : goal.loop-p-preserved
loop-p-preserved c = bare_on c.loop-p.invariant c.loop-p-test.true c.if-self-p.false c.after_byte-p.ensures
