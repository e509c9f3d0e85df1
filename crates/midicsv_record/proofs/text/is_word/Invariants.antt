use Rattle.midicsv_record.proofs.WordLaws.{Agrees}
use Rattle.midicsv_record.proofs.text.is_word.Given as goal

abbrev pub invariant-loop-i : goal.invariant-loop-i
invariant-loop-i l = Agrees l.line l.word l.start l.i l.k l.passed
