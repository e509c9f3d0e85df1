use Rattle.midicsv_record.proofs.WordLaws.{agrees_first, agrees_past, agrees_nothing, agrees_byte, differs, word_short, agrees_closed}
use Rattle.midicsv_record.proofs.text.is_word.Goals as goal
use Rattle.midicsv_record.proofs.text.is_word.Goals.{in-Nothing, in-Byte+else-word-k+else-b-word}

pub loop-i-init : goal.loop-i-init
loop-i-init c = agrees_first _ _ _

pub returns-then-word-k : goal.returns-then-word-k
returns-then-word-k c = let a = c.args in let l = c.loop-i in word_short a.line.now a.word.now a.start l.i l.k l.passed l.invariant c.loop-i-test.true c.text_step.result c.text_step.ensures.fact_1 _ _ c.in-Byte.is c.if-word-k.true

pub returns-then-b-word : goal.returns-then-b-word
returns-then-b-word c = let a = c.args in let l = c.loop-i in differs a.line.now a.word.now a.start l.i l.k l.passed l.invariant c.loop-i-test.true c.text_step.result c.text_step.ensures.fact_1 _ _ c.in-Byte.is c.if-word-k.false c.if-b-word.true

pub loop-i-preserved : goal.loop-i-preserved
loop-i-preserved c =
    let a = c.args in
    let l = c.loop-i in
    elim c.match-text_step.branch [
      | in-Nothing w ↦ rw (w.k-is, w.passed-is) (agrees_nothing a.line.now a.word.now a.start l.i l.k l.passed l.invariant c.loop-i-test.true c.text_step.result c.text_step.ensures.fact_1 _ w.in-Nothing.is c.text_step.ensures.fact_2)
      | in-Byte+else-word-k+else-b-word w ↦ rw (w.k-is, w.passed-is) (agrees_byte a.line.now a.word.now a.start l.i l.k l.passed l.invariant c.loop-i-test.true c.text_step.result c.text_step.ensures.fact_1 _ _ w.in-Byte.is c.text_step.ensures.fact_2 w.if-word-k.false w.if-b-word.false)
    ]

pub returns-in-Closed : goal.returns-in-Closed
returns-in-Closed c = let a = c.args in let l = c.loop-i in agrees_closed a.line.now a.word.now a.start l.i l.k l.passed l.invariant c.loop-i-test.true c.text_step.result c.text_step.ensures.fact_1 c.in-Closed.is

pub returns : goal.returns
returns c = let a = c.args in let l = c.loop-i in
    agrees_past a.line.now a.word.now a.start l.i l.k l.passed l.invariant c.loop-i-test.false
