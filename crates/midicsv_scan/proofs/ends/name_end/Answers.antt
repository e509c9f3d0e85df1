use Rattle.midicsv_scan.proofs.EndLaws.{name_ends}
use Rattle.midicsv_scan.proofs.ends.name_end.Goals as goal

pub returns : goal.returns
returns c = name_ends _ _ _ c.requires c.past.ensures
