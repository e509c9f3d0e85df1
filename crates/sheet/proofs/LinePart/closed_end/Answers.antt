use Rattle.sheet.proofs.CellLaws.{closed_to}
use Rattle.sheet.proofs.LinePart.closed_end.Goals as goal

pub returns : goal.returns
returns c = closed_to _ _ _ _ c.requires c.past.ensures
