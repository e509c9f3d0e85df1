use mathlib.Core.Path.{◌≡◌, sym, ◌∙◌}
use mathlib.Core.Bool.{true, false}
use lib.Dec.{eqb}
use lib.ListN.{get_or}
use borrow.Author.Tests.{le-leb}
use Rattle.midicsv_scan.proofs.FrameLaws.{over_end, over_other}
use Rattle.midicsv_scan.proofs.frame.passed_over.Goals as goal
use Rattle.midicsv_scan.proofs.frame.passed_over.Goals.{then-line-p, else-line-p}

pub returns-then-line-p-eq35 : goal.returns-then-line-p-eq35
returns-then-line-p-eq35 c =
    elim c.if-line-p.branch [
      | then-line-p w ↦ c.if-line-p-eq35.true ∙ over_end _ _ c.skip_blanks-p.ensures w.if-line-p.true
      | else-line-p w ↦
          let t : eqb (get_or c.args.line.now c.skip_blanks-p.result 0) 35 ≡ true = sym w.value-is ∙ c.if-line-p-eq35.true in
          c.if-line-p-eq35.true ∙ (rw t at (over_other _ _ c.skip_blanks-p.ensures w.if-line-p.false))
    ]

pub returns-else-line-p-eq35 : goal.returns-else-line-p-eq35
returns-else-line-p-eq35 c =
    elim c.if-line-p.branch [
      | then-line-p w ↦ cc (le-leb _ _ w.if-line-p.true)
      | else-line-p w ↦
          let t : eqb (get_or c.args.line.now c.skip_blanks-p.result 0) 35 ≡ false = sym w.value-is ∙ c.if-line-p-eq35.false in
          rw t at (over_other _ _ c.skip_blanks-p.ensures w.if-line-p.false)
    ]
