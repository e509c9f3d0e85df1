use Rattle.sheet.proofs.BlankLaws.{skipped_to}
use Rattle.sheet.proofs.LinePart.skip_beside.Goals as goal

pub returns : goal.returns
returns c = skipped_to _ _ _ _ c.requires c.past.ensures
