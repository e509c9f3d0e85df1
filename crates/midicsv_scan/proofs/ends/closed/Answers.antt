use Rattle.midicsv_scan.proofs.EndLaws.{closed_end_lem, closed_comma, closed_not}
use Rattle.midicsv_scan.proofs.ends.closed.Goals as goal
use Rattle.midicsv_scan.proofs.ends.closed.Goals.{then-line-p-via-then-line-p, then-line-p-via-else-line-p+then-line-p-eq44}

pub returns-then-line-p : goal.returns-then-line-p
returns-then-line-p c =
    elim c.then-line-p.branch [
      | then-line-p-via-then-line-p w ↦ closed_end_lem c.skip_blanks-p.ensures w.if-line-p.true
      | then-line-p-via-else-line-p+then-line-p-eq44 w ↦ closed_comma c.skip_blanks-p.ensures w.if-line-p.false w.if-line-p-eq44.true
    ]

pub returns : goal.returns
returns c = closed_not c.skip_blanks-p.ensures c.if-line-p.false c.if-line-p-eq44.false
