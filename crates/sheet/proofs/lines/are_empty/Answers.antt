use mathlib.Core.Path.{sym}
use native.Mathlib.Omega.{arith}
use Rattle.sheet.proofs.WalkLaws.{cell_found, cell_open, in_part}
use Rattle.sheet.proofs.LoneLaws.{emptied_first, emptied_open, emptied_not, emptied_last, emptied_on}
use Rattle.sheet.proofs.lines.are_empty.Goals as goal

pub loop-cell-init : goal.loop-cell-init
loop-cell-init c = emptied_first _ _ _ c.requires.fact_1

pub returns-in_default : goal.returns-in_default
returns-in_default c = emptied_open c.loop-cell.invariant (cell_open _ _ _ _ (rw c.requires.fact_2 at c.in_default.ensures))

pub content-requires : goal.content-requires
content-requires c = in_part (cell_found _ _ _ _ (rw c.requires.fact_2 at c.in-Some.ensures))

pub returns-then-not-is_empty : goal.returns-then-not-is_empty
returns-then-not-is_empty c = emptied_not c.loop-cell.invariant (cell_found _ _ _ _ (rw c.requires.fact_2 at c.in-Some.ensures)) (sym (rw (c.content.ensures.quoted, c.content.ensures.twice, c.requires.fact_2, c.content.ensures.bytes) at c.if-not-is_empty.ensures))

pub returns-then-line-cell : goal.returns-then-line-cell
returns-then-line-cell c = emptied_last c.loop-cell.invariant (cell_found _ _ _ _ (rw c.requires.fact_2 at c.in-Some.ensures)) (sym (rw (c.content.ensures.quoted, c.content.ensures.twice, c.requires.fact_2, c.content.ensures.bytes) at c.if-not-is_empty.ensures)) c.if-line-cell.true

pub loop-cell-smaller : goal.loop-cell-smaller
loop-cell-smaller c = let k = cell_found _ _ _ _ c.in-Some.ensures in omega (arith, k.after, k.ordered, k.before, c.if-line-cell.false)

pub loop-cell-preserved : goal.loop-cell-preserved
loop-cell-preserved c = emptied_on c.loop-cell.invariant (cell_found _ _ _ _ (rw c.requires.fact_2 at c.in-Some.ensures)) (sym (rw (c.content.ensures.quoted, c.content.ensures.twice, c.requires.fact_2, c.content.ensures.bytes) at c.if-not-is_empty.ensures)) c.if-line-cell.false
