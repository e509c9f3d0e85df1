use mathlib.Core.Path.{◌∙◌}
use Rattle.sheet.proofs.BlankLaws.{all_blank}
use Rattle.sheet.proofs.Content.is_empty.Goals as goal

pub returns : goal.returns
returns c = c.are_blank.ensures ∙ all_blank _ _ _
