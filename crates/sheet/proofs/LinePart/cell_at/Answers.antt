use native.Mathlib.Omega.{arith}
use Rattle.sheet.specs.Code.Cell.{QuotedIs, BareIs}
use Rattle.sheet.proofs.CellLaws.{opens_end, opens_bare, opens_quoted}
use Rattle.sheet.proofs.LinePart.cell_at.Goals.{then-self-p-via-then-self-p, then-self-p-via-else-self-p+then-self-p-ne34}
use Rattle.sheet.proofs.LinePart.cell_at.Goals as goal

pub returns-then-self-p : goal.returns-then-self-p
unfolding QuotedIs BareIs
returns-then-self-p c =
    elim c.then-self-p.branch [
      | then-self-p-via-then-self-p w ↦ c.bare_cell.ensures (opens_end _ _ _ _ _ c.skip_beside-p.ensures w.if-self-p.true)
      | then-self-p-via-else-self-p+then-self-p-ne34 w ↦ c.bare_cell.ensures (opens_bare _ _ _ _ _ c.skip_beside-p.ensures w.if-self-p.false w.if-self-p-ne34.true)
    ]

pub returns : goal.returns
unfolding QuotedIs BareIs
returns c =
    let k = c.skip_beside-p.ensures in
    let p = c.after_byte.ensures in
    c.quoted_cell.ensures _ (omega arith) (opens_quoted _ _ _ _ _ k _ c.if-self-p-ne34.false p)
