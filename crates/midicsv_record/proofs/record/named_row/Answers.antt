use Rattle.midicsv_record.specs.declared.Row.{Row}
use Rattle.midicsv_record.specs.InTurn.{columns_as, tail_step_as, TailInside, row_as, RowInside}
use Rattle.midicsv_record.proofs.RecordLaws.{no_columns, no_tail, named_good, named_apart}
use mathlib.Core.Path.{sym, ◌∙◌}
use Rattle.midicsv_record.proofs.record.named_row.Goals as goal

pub returns-in_err-found : goal.returns-in_err-found
unfolding row_as RowInside columns_as
returns-in_err-found c = let a = c.args in rw c.from_residual.ensures (record { fact_1 = no_columns a.track a.time a.name _ c.in_err-found.ensures; fact_2 = tt })

pub returns-in_err-body : goal.returns-in_err-body
unfolding row_as RowInside columns_as tail_step_as
returns-in_err-body c = let a = c.args in rw c.from_residual-in_err-body.ensures (record { fact_1 = no_tail a.track a.time a.name _ _ _ c.in_ok-found.ensures c.in_err-body.ensures.fact_1; fact_2 = tt })

pub returns-then-not-is_together : goal.returns-then-not-is_together
unfolding row_as RowInside columns_as tail_step_as
returns-then-not-is_together c =
    let a = c.args in
    let row : Row = record { name = a.name; track = a.track; time = a.time; columns = c.in_ok-found.found.values; start = c.in_ok-body.body.start; len = c.in_ok-body.body.len } in
    record { fact_1 = named_apart a.line.now row _ _ c.in_ok-found.ensures c.in_ok-body.ensures.fact_1 (sym c.if-not-is_together.true ∙ c.is_together.ensures); fact_2 = tt }

pub returns : goal.returns
unfolding row_as RowInside columns_as tail_step_as TailInside
returns c =
    let a = c.args in
    let row : Row = record { name = a.name; track = a.track; time = a.time; columns = c.in_ok-found.found.values; start = c.in_ok-body.body.start; len = c.in_ok-body.body.len } in
    let inside = c.in_ok-body.ensures.fact_2 in
    record { fact_1 = named_good a.line.now row _ _ c.in_ok-found.ensures c.in_ok-body.ensures.fact_1 (sym c.if-not-is_together.false ∙ c.is_together.ensures); fact_2 = (inside.0, inside.1) }
