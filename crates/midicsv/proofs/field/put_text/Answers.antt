use Rattle.std.proofs.Common.{arith}
use Rattle.event_write.proofs.WriteLaws.{then, all_remains, go_on_lem, finish}
use Rattle.midicsv.specs.Show.{spell_in, quote}
use Rattle.midicsv.proofs.FieldLaws.{text_more, text_end_lem, text_length}
use Rattle.midicsv.proofs.field.put_text.Goals as goal

pub loop-c-init : goal.loop-c-init
loop-c-init c = all_remains _ _ _

pub put_escaped-next-requires : goal.put_escaped-next-requires
put_escaped-next-requires c = omega (arith, c.put_byte-next.ensures.place, c.loop-c.invariant.place, text_length c.args.text.now)

pub loop-c-preserved : goal.loop-c-preserved
loop-c-preserved c =
    go_on_lem _ _ _ c.loop-c.invariant (text_more c.args.text.now c.loop-c.c-index c.loop-c-test.true) c.put_escaped-next.ensures

pub put_byte-requires : goal.put_byte-requires
put_byte-requires c = omega (arith, c.put_byte-next.ensures.place, c.loop-c.invariant.place, text_length c.args.text.now)

pub returns : goal.returns
unfolding quote spell_in
returns c =
    then c.put_byte-next.ensures
    (finish _ _ c.loop-c.invariant (text_end_lem c.args.text.now c.loop-c.c-index c.loop-c-test.false) c.put_byte.ensures)
