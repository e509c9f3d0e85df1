use Rattle.fold.specs.Code.Row.{row_of}
use Rattle.event.specs.Choice.{pick}
use mathlib.Core.Path.{sym, ◌∙◌}
use Rattle.fold.proofs.rows.row_of.Goals as goal

pub returns-then-is_end : goal.returns-then-is_end
unfolding row_of pick
returns-then-is_end c = simp (c.in-Ok.is, sym c.is_end.ensures ∙ c.if-is_end.true)

pub returns-in-Err : goal.returns-in-Err
unfolding row_of pick
returns-in-Err c = simp c.in-Err.is

pub returns-else-is_end : goal.returns-else-is_end
unfolding row_of pick
returns-else-is_end c = simp (c.in-Ok.is, sym c.is_end.ensures ∙ c.if-is_end.false)
