use Rattle.midicsv_scan.proofs.TextLaws.{Reading}
use Rattle.midicsv_scan.proofs.text.text_end.Given as goal

abbrev pub invariant-loop-p : goal.invariant-loop-p
invariant-loop-p l = Reading l.line l.at l.look l.p
