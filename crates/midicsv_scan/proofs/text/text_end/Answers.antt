use Rattle.midicsv_scan.proofs.TextLaws.{reading_first, reading_on, reading_ended, reading_broken, reading_last, reading_cut}
use Rattle.midicsv_scan.proofs.text.text_end.Goals as goal

pub loop-p-init : goal.loop-p-init
loop-p-init c = reading_first _ _ c.requires

pub returns-in-Ended : goal.returns-in-Ended
returns-in-Ended c = reading_ended c.loop-p.invariant c.loop-p-test.true _ c.after_byte.ensures c.in-Ended.is

pub returns-in-Broken : goal.returns-in-Broken
returns-in-Broken c = reading_broken c.loop-p.invariant c.loop-p-test.true _ c.after_byte.ensures c.in-Broken.is

pub loop-p-preserved : goal.loop-p-preserved
loop-p-preserved c = reading_on c.loop-p.invariant c.loop-p-test.true _ c.after_byte.ensures c.in-On.is

pub returns-then-eq : goal.returns-then-eq
returns-then-eq c = reading_last c.loop-p.invariant c.loop-p-test.false c.if-eq.ensures

pub returns : goal.returns
returns c = reading_cut c.loop-p.invariant c.loop-p-test.false c.if-eq.ensures
