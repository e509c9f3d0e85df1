use Rattle.midicsv_scan.proofs.EndLaws.{skipped}
use Rattle.midicsv_scan.proofs.ends.skip_blanks.Goals as goal

pub returns : goal.returns
returns c = skipped _ _ _ c.requires c.past.ensures
