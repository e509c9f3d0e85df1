use Rattle.event_write.specs.Head.{manner_of}
use Rattle.midicsv_scan.proofs.CutLaws.{cut_size}
use Rattle.midicsv_read.proofs.TakeLaws.{sized}
use Rattle.midicsv_read.proofs.PassLaws.{going_first, going_on, going_bad, going_done, going_short, stopped}
use native.Mathlib.Omega.{arith}
use mathlib.Core.Path.{refl, ◌∙◌}
use Rattle.midicsv_read.specs.Progress.{passed_as}
use Rattle.midicsv_read.proofs.PhaseLaws.{not_same, not_other}
use Rattle.midicsv_read.proofs.to_file.pass.Goals as goal

pub loop-i-init : goal.loop-i-init
loop-i-init c = (refl, going_first _ _ _)

pub take_line-requires : goal.take_line-requires
take_line-requires c = let a = c.args in
    let l = c.loop-i in
    let g = l.invariant.1 in
    let cut = c.line_at-cut.ensures in
    record { fact_1 = sized (manner_of a.short) g.state _ _ _ g.held (omega (arith, g.small, g.within, c.requires)); fact_2 = omega (arith, cut_size a.text.now l.i _ _ cut, c.line_at-cut.ensures.high, c.requires) }

pub returns-in-Err : goal.returns-in-Err
unfolding passed_as
returns-in-Err c = let a = c.args in
    let l = c.loop-i in
    let h = stopped (manner_of a.short) _ _ _ _ _ (going_bad (manner_of a.short) _ _ _ _ _ _ l.invariant.1 _ _ c.line_at-cut.ensures c.take_line.new.out c.take_line.result c.take_line.ensures.fact_1 _ c.in-Err.is) in record { fact_1 = h.0; fact_2 = h.1 }

pub loop-i-preserved : goal.loop-i-preserved
loop-i-preserved c = let a = c.args in
    let l = c.loop-i in
    (c.take_line.auto.out ∙ l.invariant.0, going_on (manner_of a.short) _ _ _ _ _ _ l.invariant.1 _ _ c.line_at-cut.ensures c.take_line.new.out c.take_line.result c.take_line.ensures.fact_1 _ c.in-Ok.is c.take_line.ensures.fact_2)

pub returns-then-ne : goal.returns-then-ne
unfolding passed_as
returns-then-ne c = let l = c.loop-i in
    let h = going_short (manner_of c.args.short) _ _ _ _ _ _ l.invariant.1 c.loop-i-test.false (not_same l.st.phase _ c.if-ne.ensures) in record { fact_1 = h.0; fact_2 = h.1 }

pub returns : goal.returns
unfolding passed_as
returns c = let l = c.loop-i in
    let h = going_done (manner_of c.args.short) _ _ _ _ _ _ l.invariant.1 c.loop-i-test.false (not_other l.st.phase _ c.if-ne.ensures) in record { fact_1 = h.0; fact_2 = h.1 }
