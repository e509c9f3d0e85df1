use Rattle.sheet.proofs.CellLaws.{quoted_unclosed, quoted_end_found, quoted_sep_found, quoted_other}
use native.Mathlib.Omega.{arith}
use Rattle.sheet.proofs.LinePart.quoted_cell.Goals.{else-next-self-via-then-next-self+else-self-next, else-next-self-via-else-next-self}
use Rattle.sheet.proofs.LinePart.quoted_cell.Goals as goal

pub returns-then-self-to : goal.returns-then-self-to
returns-then-self-to c = quoted_unclosed _ _ _ _ _ c.quote_end-to.ensures (omega (arith, c.if-self-to.true))

pub returns-then-self-next : goal.returns-then-self-next
returns-then-self-next c = quoted_other _ _ _ _ _ _ _ c.quote_end-to.ensures (omega (arith, c.if-self-to.false)) c.after_byte.ensures c.closed_end-next.ensures c.if-next-self.true c.if-self-next.true

pub returns : goal.returns
returns c =
    elim c.else-next-self.branch [
      | else-next-self-via-then-next-self+else-self-next w ↦ quoted_sep_found _ _ _ _ _ _ _ c.quote_end-to.ensures (omega (arith, c.if-self-to.false)) c.after_byte.ensures c.closed_end-next.ensures w.if-self-next.false
      | else-next-self-via-else-next-self w ↦ quoted_end_found _ _ _ _ _ _ _ c.quote_end-to.ensures (omega (arith, c.if-self-to.false)) c.after_byte.ensures c.closed_end-next.ensures w.if-next-self.false
    ]
