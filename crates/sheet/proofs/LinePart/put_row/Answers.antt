use mathlib.Core.Path.{refl, ◌∙◌}
use native.Mathlib.Omega.{arith}
use Rattle.sheet.proofs.WalkLaws.{cell_found, cell_open, in_part}
use Rattle.sheet.proofs.RowLaws.{comma_few, is_at, as_field, row_first, row_place, row_open, row_on, row_done}
use Rattle.sheet.proofs.LinePart.put_row.Goals as goal

pub loop-i-init : goal.loop-i-init
loop-i-init c = (refl, row_first _ _ _ _ _ _ _ c.requires.fact_2)

pub put_comma-start-requires : goal.put_comma-start-requires
put_comma-start-requires c = omega (arith, row_place c.loop-i.invariant.1 c.requires.fact_2, c.requires.fact_1, c.args.self.short)

pub returns-in_default : goal.returns-in_default
returns-in_default c = row_open c.loop-i.invariant.1 (cell_open _ _ _ _ c.in_default.ensures)

pub content-requires : goal.content-requires
content-requires c = in_part (cell_found _ _ _ _ c.in-Some.ensures)

pub put-next-requires : goal.put-next-requires
put-next-requires c =
    record {
      fact_1 = omega (arith, row_place c.loop-i.invariant.1 c.requires.fact_2, c.requires.fact_1, c.args.self.short, c.put_comma-start.ensures.place, comma_few c.loop-i.i);
      fact_2 = rw (c.content.ensures.quoted, c.content.ensures.twice, c.content.ensures.bytes) (cell_found _ _ _ _ c.in-Some.ensures).paired;
    }

pub after_cell-p-requires : goal.after_cell-p-requires
after_cell-p-requires c = (cell_found _ _ _ _ c.in-Some.ensures).inside

pub loop-i-preserved : goal.loop-i-preserved
loop-i-preserved c =
    let k = cell_found _ _ _ _ c.in-Some.ensures in
    let w = rw (c.content.ensures.quoted, c.content.ensures.twice, c.content.ensures.bytes) at c.put-next.ensures in
    let f = as_field _ c.args.place c.loop-i.i _ (c.eq-text.ensures ∙ is_at c.args.place c.loop-i.i) w in (
      c.put-next.auto.out ∙ c.put_comma-start.auto.out ∙ c.loop-i.invariant.0,
      row_on c.loop-i.invariant.1 k c.loop-i-test.true c.put_comma-start.ensures f c.after_cell-p.ensures.fact_1 c.after_cell-p.ensures.fact_2,
    )

pub returns : goal.returns
returns c = row_done c.loop-i.invariant.1 c.loop-i-test.false
