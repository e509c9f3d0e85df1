use Rattle.midicsv_scan.proofs.NumberLaws.{Going}
use Rattle.midicsv_scan.proofs.number.digits.Given as goal

abbrev pub invariant-loop-p : goal.invariant-loop-p
invariant-loop-p l = Going l.line l.at l.value l.p
