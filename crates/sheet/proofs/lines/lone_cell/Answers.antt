use mathlib.Core.Path.{sym}
use Rattle.sheet.proofs.WalkLaws.{cell_found, cell_open}
use Rattle.sheet.specs.Code.Seen.{seen}
use Rattle.event.specs.Choice.{pick}
use Rattle.sheet.proofs.LoneLaws.{remark_several, open_several, cells_several, lone_among, lone_last}
use Rattle.sheet.proofs.lines.lone_cell.Goals.{then-line-cell-via-then-line-cell, then-line-cell-via-else-line-cell+then-are_empty}
use Rattle.sheet.proofs.lines.lone_cell.Goals as goal

pub returns-then-is_remark : goal.returns-then-is_remark
unfolding seen pick
returns-then-is_remark c = remark_several _ _ (sym (rw c.requires at c.if-is_remark.ensures))

pub returns-in_err-cell : goal.returns-in_err-cell
returns-in_err-cell c = rw c.from_residual.ensures (open_several _ _ (cell_open _ _ _ _ (rw c.requires at c.in_err-cell.ensures)))

pub returns-then-line-cell : goal.returns-then-line-cell
unfolding seen pick
returns-then-line-cell c =
    let k = cell_found _ _ _ _ (rw c.requires at c.in_ok-cell.ensures) in
    let n = sym (rw c.requires at c.if-is_remark.ensures) in
    elim c.then-line-cell.branch [
      | then-line-cell-via-then-line-cell w ↦ lone_last _ _ k n w.if-line-cell.true
      | then-line-cell-via-else-line-cell+then-are_empty w ↦ lone_among _ _ k n w.if-line-cell.false (sym w.if-are_empty.ensures)
    ]

pub returns : goal.returns
returns c = cells_several _ _ (cell_found _ _ _ _ (rw c.requires at c.in_ok-cell.ensures)) c.if-line-cell.false (sym c.if-are_empty.ensures)
