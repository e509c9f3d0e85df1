use mathlib.Core.Path.{sym, ◌∙◌}
use Rattle.sheet.specs.Code.Row.{place_as}
use Rattle.sheet.proofs.PlaceLaws.{text_named, key_named, none_named}
use Rattle.sheet.proofs.name.place_of_name.Goals as goal

pub returns-then-is_one_of : goal.returns-then-is_one_of
unfolding place_as
returns-then-is_one_of c = text_named _ (sym c.is_one_of.ensures ∙ c.if-is_one_of.true)

pub returns-then-same_name : goal.returns-then-same_name
unfolding place_as
returns-then-same_name c = key_named _ (sym c.same_name.ensures ∙ c.if-same_name.true)

pub returns : goal.returns
unfolding place_as
returns c = none_named _ (sym c.is_one_of.ensures ∙ c.if-is_one_of.false) (sym c.same_name.ensures ∙ c.if-same_name.false)
