use Rattle.std.proofs.Common.{drop}
use Rattle.event_write.proofs.WriteLaws.{Remains}
use Rattle.midicsv.specs.Spell.{spell_rest}
use Rattle.midicsv.proofs.spell.put_rest.Given as goal

abbrev pub invariant-loop-c : goal.invariant-loop-c
invariant-loop-c l = Remains l.initial.out l.at (spell_rest l.free l.first l.rest) l.out l.next (spell_rest l.free l.before (drop l.c-index l.rest))
