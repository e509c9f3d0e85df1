use mathlib.Core.Path.{ap, ◌∙◌}
use Rattle.fold.specs.Code.Row.{row_of}
use Rattle.fold.proofs.rows.row_at.Goals as goal

pub returns : goal.returns
returns c = c.row_of.ensures ∙ ap (row_of _ _ _) c.read_event.ensures
