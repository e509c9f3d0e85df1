use Rattle.sheet.proofs.CellLaws.{quoted_first, quoted_byte, quoted_pair, quoted_last, quoted_closes}
use Rattle.sheet.proofs.cutting.quote_end.Goals as goal
use Rattle.sheet.proofs.cutting.quote_end.Goals.{then-bytes-next-via-then-bytes-next, then-bytes-next-via-else-bytes-next+then-bytes-next-ne34}

pub loop-p-init : goal.loop-p-init
loop-p-init c = quoted_first _ _ _ c.requires

pub loop-p-preserved-then-bytes-p-ne34 : goal.loop-p-preserved-then-bytes-p-ne34
loop-p-preserved-then-bytes-p-ne34 c = quoted_byte c.loop-p.invariant c.loop-p-test.true c.after_byte-next.ensures c.if-bytes-p-ne34.true

pub returns-then-bytes-next : goal.returns-then-bytes-next
returns-then-bytes-next c =
    elim c.then-bytes-next.branch [
      | then-bytes-next-via-then-bytes-next w ↦ quoted_last c.loop-p.invariant c.loop-p-test.true c.after_byte-next.ensures c.if-bytes-p-ne34.false w.if-bytes-next.true
      | then-bytes-next-via-else-bytes-next+then-bytes-next-ne34 w ↦
          quoted_closes c.loop-p.invariant c.loop-p-test.true c.after_byte-next.ensures c.if-bytes-p-ne34.false w.if-bytes-next.false w.if-bytes-next-ne34.true
    ]

pub loop-p-preserved : goal.loop-p-preserved
loop-p-preserved c = quoted_pair c.loop-p.invariant c.loop-p-test.true c.after_byte-next.ensures c.if-bytes-p-ne34.false c.if-bytes-next.false c.if-bytes-next-ne34.false c.after_byte-p.ensures
