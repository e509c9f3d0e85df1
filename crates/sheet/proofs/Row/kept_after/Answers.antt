use Rattle.event.specs.Choice.{pick}
use mathlib.Core.Path.{sym}
use Rattle.sheet.proofs.Row.kept_after.Goals as goal

pub returns-then-is_empty : goal.returns-then-is_empty
unfolding pick
returns-then-is_empty c = rw (sym c.if-is_empty.ensures)

pub returns-else-is_empty : goal.returns-else-is_empty
unfolding pick
returns-else-is_empty c = rw (sym c.if-is_empty.ensures)
