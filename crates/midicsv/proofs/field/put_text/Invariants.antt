use Rattle.event_write.proofs.WriteLaws.{Remains}
use Rattle.midicsv.proofs.FieldLaws.{TextLeft}
use Rattle.midicsv.proofs.field.put_text.Given as goal

abbrev pub invariant-loop-c : goal.invariant-loop-c
invariant-loop-c l = Remains l.initial.out l.initial.next (TextLeft l.text 0) l.out l.next (TextLeft l.text l.c-index)
