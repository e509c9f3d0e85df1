use native.Mathlib.Omega.{arith}
use Rattle.sheet.proofs.WalkLaws.{cell_found, cell_open, in_part, looking_first, looking_open, looking_last, looking_on}
use Rattle.sheet.proofs.LinePart.look.Goals as goal

pub loop-cell-init : goal.loop-cell-init
loop-cell-init c = looking_first _ _ _

pub returns-in_err-cell : goal.returns-in_err-cell
returns-in_err-cell c = rw c.from_residual.ensures (looking_open c.loop-cell.invariant (cell_open _ _ _ _ c.in_err-cell.ensures))

pub content-requires : goal.content-requires
content-requires c = in_part (cell_found _ _ _ _ c.in_ok-cell.ensures)

pub returns-then-self-cell : goal.returns-then-self-cell
returns-then-self-cell c = looking_last c.loop-cell.invariant c.with_cell-row.result (cell_found _ _ _ _ c.in_ok-cell.ensures) (rw (c.content.ensures.quoted, c.content.ensures.twice, c.content.ensures.bytes) at c.with_cell-row.ensures) c.if-self-cell.true

pub loop-cell-smaller : goal.loop-cell-smaller
loop-cell-smaller c =
    let k = cell_found _ _ _ _ c.in_ok-cell.ensures in
    omega (arith, k.after, k.ordered, k.before, c.after_byte-at.ensures.later, c.after_byte-at.ensures.inside)

pub loop-cell-preserved : goal.loop-cell-preserved
loop-cell-preserved c = looking_on c.loop-cell.invariant c.with_cell-row.result (cell_found _ _ _ _ c.in_ok-cell.ensures) (rw (c.content.ensures.quoted, c.content.ensures.twice, c.content.ensures.bytes) at c.with_cell-row.ensures) c.after_byte-at.ensures
