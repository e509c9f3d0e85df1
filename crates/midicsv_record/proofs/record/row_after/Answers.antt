use Rattle.std.specs.Prelude.{Some, None}
use Rattle.event.specs.Outcome.{and_then}
use Rattle.midicsv_scan.specs.FieldAt.{field_as}
use Rattle.midicsv_scan.proofs.FieldLaws.{within_from}
use Rattle.midicsv_record.specs.Name.{name_as}
use Rattle.midicsv_record.specs.InTurn.{fitting, record_after, row_as, RowInside}
use Rattle.midicsv_record.proofs.RecordLaws.{name_told}
use lib.ListN.{drop}
use native.Mathlib.Omega.{arith}
use mathlib.Core.Path.{refl, ◌∙◌}
use Rattle.midicsv_record.proofs.record.row_after.Goals as goal

pub returns-in_err-f : goal.returns-in_err-f
unfolding row_as RowInside record_after and_then field_as
returns-in_err-f c = rw c.from_residual.ensures (record { fact_1 = rw (← c.in_err-f.ensures.fact_1) refl; fact_2 = tt })

pub name_of-requires : goal.name_of-requires
name_of-requires c = within_from c.args.line.now 0 c.args.comma _ (omega arith) c.in_ok-f.ensures.fact_2

pub returns-in_err-name : goal.returns-in_err-name
unfolding row_as RowInside name_as fitting and_then
returns-in_err-name c =
    let a = c.args in
    let l = a.line.now in
    rw c.from_residual-in_err-name.ensures (record { fact_1 = name_told a.track a.time l (drop a.comma l) c.in_ok-f.f None c.in_ok-f.ensures.fact_1 c.in_err-name.ensures; fact_2 = tt })

pub returns : goal.returns
unfolding name_as fitting and_then
returns c =
    let a = c.args in
    let l = a.line.now in
    let r = c.named_row.ensures in
    record { fact_1 = (rw c.next.ensures at r.fact_1) ∙ name_told a.track a.time l (drop a.comma l) c.in_ok-f.f (Some c.in_ok-name.name) c.in_ok-f.ensures.fact_1 c.in_ok-name.ensures; fact_2 = r.fact_2 }
