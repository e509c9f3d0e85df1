use borrow.Author.Tests.{eq-eqb, ne_eqb}
use Rattle.event.proofs.ChoiceLaws.{pick_true, pick_false}
use mathlib.Core.Path.{sym, ◌∙◌}
use Rattle.sheet.proofs.Row.place_after.Goals as goal

pub returns-then-cells-eq3 : goal.returns-then-cells-eq3
returns-then-cells-eq3 c = c.text_place.ensures ∙ sym (pick_true _ _ (eq-eqb c.args.cells 3 c.if-cells-eq3.true))

pub returns : goal.returns
returns c = sym (pick_false _ _ (ne_eqb c.args.cells 3 c.if-cells-eq3.false))
