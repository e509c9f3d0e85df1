use Rattle.event_write.proofs.WriteLaws.{go_on_lem, done}
use Rattle.sheet.proofs.FieldLaws.{left_more, left_none, left_length}
use native.Mathlib.Omega.{arith}
use mathlib.Core.Path.{◌∙◌}
use Rattle.sheet.proofs.field.put_seen.Goals as goal

pub put_one-next-requires : goal.put_one-next-requires
put_one-next-requires c = let a = c.args in omega (arith, c.loop-p.invariant.2.place, left_length a.twice a.double a.raw.now, c.requires.fact_1, c.requires.fact_2)

pub loop-p-preserved : goal.loop-p-preserved
loop-p-preserved c = let l = c.loop-p in
    let p = c.after_byte-p.ensures in
    (c.after_byte-p.ensures.inside, c.put_one-next.auto.out ∙ l.invariant.1, go_on_lem _ _ _ l.invariant.2 (left_more c.args.double p) c.put_one-next.ensures)

pub returns : goal.returns
returns c = let a = c.args in done _ c.loop-p.invariant.2 (left_none a.twice a.double a.raw.now c.loop-p.p c.loop-p-test.false)
