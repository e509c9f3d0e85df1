use Rattle.sheet.proofs.CellLaws.{bare_found}
use Rattle.sheet.proofs.LinePart.bare_cell.Goals as goal

pub returns : goal.returns
returns c = bare_found _ _ _ _ _ c.bare_end-to.ensures
