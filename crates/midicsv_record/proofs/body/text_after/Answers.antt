use mathlib.Core.Path.{refl}
use Prim.Native.Nat.{ℕ}
use mathlib.Core.List.{List}
use native.Mathlib.Omega.{arith}
use Rattle.event.specs.Outcome.{and_then}
use Rattle.midicsv.specs.ReadRecord.{read_text}
use Rattle.midicsv_scan.specs.FieldAt.{field_as, Within}
use Rattle.midicsv_record.specs.Row.{body_in}
use Rattle.midicsv_record.specs.InTurn.{fitting, tail_after, last_after, tail_step_as, TailInside}
use Rattle.midicsv_record.proofs.BodyLaws.{end_past, end_short}
use lib.ListN.{drop}
use Rattle.midicsv_record.proofs.InTurnLaws.{field_fits}
use Rattle.midicsv_record.proofs.OtherFieldLaws.{no_text}
use Rattle.midicsv_record.proofs.body.text_after.Goals as goal

pub returns-in_err-start : goal.returns-in_err-start
unfolding tail_step_as last_after tail_after field_as and_then TailInside
returns-in_err-start c = rw c.from_residual.ensures (record { fact_1 = rw (← c.in_err-start.ensures.fact_1) refl; fact_2 = tt })

pub returns-in_default : goal.returns-in_default
unfolding tail_step_as TailInside fitting last_after tail_after and_then
returns-in_default c =
    let l = c.args.line.now in
    let text = field_fits read_text l (drop c.args.comma l) c.in_ok-start.field-0 c.in_ok-start.ensures.fact_1 in
    record { fact_1 = rw (← text, ← (no_text l _ c.in_default.not-Quoted)) refl; fact_2 = tt }

pub returns-then-next-line : goal.returns-then-next-line
unfolding tail_step_as last_after tail_after field_as and_then fitting read_text TailInside
returns-then-next-line c = record { fact_1 = rw (← (rw c.in-Quoted.is at c.in_ok-start.ensures.fact_1), end_short {A = List ℕ} _ _ _ c.if-next-line.true) refl; fact_2 = tt }

pub returns : goal.returns
unfolding tail_step_as last_after tail_after field_as and_then fitting read_text TailInside body_in Within
returns c =
    let w = rw c.in-Quoted.is at c.in_ok-start.ensures.fact_2 in
    record { fact_1 = rw (← (rw c.in-Quoted.is at c.in_ok-start.ensures.fact_1), end_past {A = List ℕ} _ _ _ c.if-next-line.false) refl; fact_2 = (w.0, omega arith) }
