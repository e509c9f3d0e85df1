use Rattle.std.proofs.Common.{arith}
use Rattle.event_write.proofs.WriteLaws.{all_remains, go_on_lem, done}
use Rattle.midicsv.proofs.SpellLaws.{octals_size}
use Rattle.midicsv.proofs.SpellWriteLaws.{octals_more, octals_end}
use Rattle.midicsv.proofs.spell.put_octals.Goals as goal

pub loop-c-init : goal.loop-c-init
loop-c-init c = all_remains _ _ _

pub put_octal-next-requires : goal.put_octal-next-requires
put_octal-next-requires c = omega (arith, c.loop-c.invariant.place, octals_size c.args.text.now)

pub loop-c-preserved : goal.loop-c-preserved
loop-c-preserved c =
    go_on_lem _ _ _ c.loop-c.invariant (octals_more c.args.text.now c.loop-c.c-index c.loop-c-test.true) c.put_octal-next.ensures

pub returns : goal.returns
returns c = done _ c.loop-c.invariant (octals_end c.args.text.now c.loop-c.c-index c.loop-c-test.false)
