use Rattle.midicsv.proofs.WordLaws.{same_told}
use Rattle.midicsv.proofs.word.same_name.Goals as goal

pub returns : goal.returns
returns c = same_told _ _ _ c.eq_ignore_ascii_case.ensures.test
