use mathlib.Core.List.{[], ◌∷◌}
use Rattle.event_write.proofs.WriteLaws.{go_on_lem, done}
use Rattle.sheet.proofs.TableLeftLaws.{line_left, line_size, no_lines_left}
use native.Mathlib.Omega.{arith}
use mathlib.Core.Path.{refl, ◌∙◌}
use Rattle.sheet.proofs.table.put_lines.Goals as goal

pub put_line-next-requires : goal.put_line-next-requires
put_line-next-requires c =
    let long = line_size c.args.table.now c.loop-at.at _ _ _ c.line_at-cut.ensures c.trim.ensures in
    record { fact_1 = omega (arith, c.loop-at.invariant.1.place, c.requires.fact_2); fact_2 = omega (arith, long, c.requires.fact_1) }

pub put_byte-next-requires : goal.put_byte-next-requires
put_byte-next-requires c =
    let a = c.args in
    let left = line_left a.sep a.table.now c.loop-at.at _ _ _ c.line_at-cut.ensures c.trim.ensures in
    let r = go_on_lem _ _ _ c.loop-at.invariant.1 left c.put_line-next.ensures in
    omega (arith, r.place, c.requires.fact_2)

pub loop-at-preserved : goal.loop-at-preserved
loop-at-preserved c =
    let a = c.args in
    let left = line_left a.sep a.table.now c.loop-at.at _ _ _ c.line_at-cut.ensures c.trim.ensures in
    let r = go_on_lem _ _ _ c.loop-at.invariant.1 left c.put_line-next.ensures in
    (c.put_byte-next.auto.out ∙ c.put_line-next.auto.out ∙ c.loop-at.invariant.0, go_on_lem _ (10 ∷ []) _ r refl c.put_byte-next.ensures)

pub returns : goal.returns
returns c = done _ c.loop-at.invariant.1 (no_lines_left c.args.sep c.args.table.now c.loop-at.at c.loop-at-test.false)
