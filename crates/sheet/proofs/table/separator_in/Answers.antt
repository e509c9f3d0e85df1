use mathlib.Core.Path.{◌≡◌, refl, ◌∙◌}
use mathlib.Core.Bool.{true, false}
use Rattle.sheet.proofs.FieldLaws.{has_any}
use Rattle.event.specs.Choice.{pick}
use Rattle.sheet_table.specs.Cut.{has}
use Rattle.sheet_table.specs.Table.{sep_in}
use Rattle.sheet.proofs.table.separator_in.Goals as goal

pub returns-then-contains : goal.returns-then-contains
unfolding sep_in pick
returns-then-contains c = let a : true ≡ has 44 c.args.line.now = c.if-contains.ensures.value ∙ has_any 44 _ in rw (← a) refl

pub returns-then-contains-2 : goal.returns-then-contains-2
unfolding sep_in pick
returns-then-contains-2 c =
    let a : false ≡ has 44 c.args.line.now = c.if-contains.ensures.value ∙ has_any 44 _ in
    let b : true ≡ has 59 c.args.line.now = c.if-contains-2.ensures.value ∙ has_any 59 _ in
    rw (← a, ← b) refl

pub returns-then-contains-3 : goal.returns-then-contains-3
unfolding sep_in pick
returns-then-contains-3 c =
    let a : false ≡ has 44 c.args.line.now = c.if-contains.ensures.value ∙ has_any 44 _ in
    let b : false ≡ has 59 c.args.line.now = c.if-contains-2.ensures.value ∙ has_any 59 _ in
    let d : true ≡ has 9 c.args.line.now = c.if-contains-3.ensures.value ∙ has_any 9 _ in
    rw (← a, ← b, ← d) refl

pub returns-else-contains-3 : goal.returns-else-contains-3
unfolding sep_in pick
returns-else-contains-3 c =
    let a : false ≡ has 44 c.args.line.now = c.if-contains.ensures.value ∙ has_any 44 _ in
    let b : false ≡ has 59 c.args.line.now = c.if-contains-2.ensures.value ∙ has_any 59 _ in
    let d : false ≡ has 9 c.args.line.now = c.if-contains-3.ensures.value ∙ has_any 9 _ in
    rw (← a, ← b, ← d) refl
