use mathlib.Core.Path.{◌∙◌}
use Rattle.std.specs.Prelude.{Some, None}
use native.Mathlib.Omega.{arith}
use lib.ListN.{drop}
use Rattle.event.specs.Outcome.{and_then}
use Rattle.event.proofs.BytesLaws.{bytes_of}
use Rattle.midicsv_scan.specs.FieldAt.{field_as}
use Rattle.midicsv_record.specs.Row.{body_in}
use Rattle.midicsv_record.specs.Column.{value_as}
use Rattle.midicsv_record.specs.InTurn.{fitting, tail_step_as, TailInside}
use Rattle.midicsv_record.proofs.BodyLaws.{size_fits, size_missing, data_good, data_bad}
use Rattle.midicsv_record.proofs.body.sized_after.Goals as goal

pub returns-in_err-f : goal.returns-in_err-f
unfolding tail_step_as TailInside field_as
returns-in_err-f c = rw c.from_residual.ensures (record { fact_1 = size_missing _ c.in_err-f.ensures.fact_1; fact_2 = tt })

pub returns-in_err-v : goal.returns-in_err-v
unfolding tail_step_as TailInside fitting value_as and_then
returns-in_err-v c =
    let l = c.args.line.now in
    rw c.from_residual-in_err-v.ensures (record { fact_1 = size_fits l (drop c.args.comma l) _ None c.in_ok-f.ensures.fact_1 (c.in_err-v.ensures l); fact_2 = tt })

pub returns-then-not-are_data : goal.returns-then-not-are_data
unfolding tail_step_as TailInside body_in fitting value_as and_then
returns-then-not-are_data c =
    let l = c.args.line.now in
    record { fact_1 = data_bad _ (drop c.next-next.result l) (rw c.if-not-are_data.true at c.are_data.ensures) ∙ rw c.next-next.ensures (size_fits l (drop c.args.comma l) _ (Some c.in_ok-v.v) c.in_ok-f.ensures.fact_1 (c.in_ok-v.ensures l)); fact_2 = tt }

pub returns : goal.returns
unfolding tail_step_as TailInside body_in fitting value_as and_then
returns c =
    let l = c.args.line.now in
    let read = data_good l _ c.next-next.result c.after_comma-start.result (bytes_of l (λ i. omega (arith, c.type_inv.line i))) (rw c.if-not-are_data.false at c.are_data.ensures) c.after_comma-start.ensures.fact_1 in
    record { fact_1 = read.0 ∙ rw c.next-next.ensures (size_fits l (drop c.args.comma l) _ (Some c.in_ok-v.v) c.in_ok-f.ensures.fact_1 (c.in_ok-v.ensures l)); fact_2 = (c.after_comma-start.ensures.fact_2, read.1) }
