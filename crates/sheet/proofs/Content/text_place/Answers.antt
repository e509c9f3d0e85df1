use mathlib.Core.Path.{◌∙◌}
use Rattle.sheet.specs.Code.Row.{place_as}
use Rattle.sheet.proofs.NameCellLaws.{none_here, other_here, short_here, name_here, name_within}
use Rattle.sheet.proofs.Content.text_place.Goals as goal

pub returns-in_err-start : goal.returns-in_err-start
unfolding place_as
returns-in_err-start c = rw c.from_residual.ensures (none_here _ _ _ c.in_err-start.ensures.fact_1)

pub returns-in_default : goal.returns-in_default
unfolding place_as
returns-in_default c = other_here _ _ _ _ c.in_default.not-Name c.in_ok-start.ensures.fact_1

pub returns-then-next-self : goal.returns-then-next-self
unfolding place_as
returns-then-next-self c = short_here _ _ _ _ _ _ (rw c.in-Name.is at c.in_ok-start.ensures.fact_1) c.if-next-self.true

pub slice_bounds-place_of_name-count : goal.slice_bounds-place_of_name-count
slice_bounds-place_of_name-count c = (name_within _ _ _ _ (rw c.in-Name.is at c.in_ok-start.ensures.fact_2)).0

pub slice_bounds-place_of_name-end : goal.slice_bounds-place_of_name-end
slice_bounds-place_of_name-end c = (name_within _ _ _ _ (rw c.in-Name.is at c.in_ok-start.ensures.fact_2)).1

pub returns : goal.returns
returns c = c.place_of_name.ensures ∙ name_here _ _ _ _ _ _ (rw c.in-Name.is at c.in_ok-start.ensures.fact_1) c.if-next-self.false

pub slice_bounds-place_of_name-start : goal.slice_bounds-place_of_name-start
slice_bounds-place_of_name-start c = (name_within _ _ _ _ (rw c.in-Name.is at c.in_ok-start.ensures.fact_2)).0
