use Rattle.std.proofs.Common.{drop}
use Rattle.event_write.proofs.WriteLaws.{Remains}
use Rattle.midicsv.specs.Spell.{octal_all}
use Rattle.midicsv.proofs.spell.put_octals.Given as goal

abbrev pub invariant-loop-c : goal.invariant-loop-c
invariant-loop-c l = Remains l.initial.out l.at (octal_all l.text) l.out l.next (octal_all (drop l.c-index l.text))
