use native.Mathlib.Omega.{arith}
use mathlib.Core.Path.{◌≡◌, ◌∙◌}
use Rattle.sheet.proofs.FieldsInLaws.{count_nowhere, count_short, count_text}
use Rattle.sheet.proofs.Row.field_count.Goals as goal

pub returns-in-None : goal.returns-in-None
returns-in-None c = count_nowhere _ _ _ c.in-None.is

pub returns-in-Some : goal.returns-in-Some
returns-in-Some c = count_short _ _ _ _ c.in-Some.is c.if-self-place.true

pub returns-in-Some-2 : goal.returns-in-Some-2
returns-in-Some-2 c =
    let z : c.in-Some.place ≡ c.in-Some-2.place = cc in
    c.max.ensures ∙ count_text _ _ _ _ c.in-Some-2.is (omega (arith, z))
