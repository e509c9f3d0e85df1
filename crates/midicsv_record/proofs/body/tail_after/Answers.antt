use mathlib.Core.Path.{refl}
use Prim.Native.Nat.{ℕ}
use mathlib.Core.List.{List, []}
use native.Mathlib.Omega.{arith}
use Rattle.event.specs.Outcome.{and_then}
use Rattle.midicsv_record.specs.Row.{body_in}
use Rattle.midicsv_record.specs.Table.{tail_as}
use Rattle.midicsv_record.specs.InTurn.{tail_after, last_after, tail_step_as, TailInside}
use Rattle.midicsv_record.proofs.BodyLaws.{end_past, end_short}
use Rattle.midicsv_record.proofs.body.tail_after.Goals as goal

pub returns-then-comma-line : goal.returns-then-comma-line
unfolding tail_step_as TailInside tail_as last_after tail_after and_then
returns-then-comma-line c = record { fact_1 = rw (← c.tail_kind.ensures, c.in-NoTail.is, end_short {A = List ℕ} [] _ _ c.if-comma-line.true) refl; fact_2 = tt }

pub returns-else-comma-line : goal.returns-else-comma-line
unfolding tail_step_as TailInside tail_as last_after tail_after and_then body_in
returns-else-comma-line c = record { fact_1 = rw (← c.tail_kind.ensures, c.in-NoTail.is, end_past {A = List ℕ} [] _ _ c.if-comma-line.false) refl; fact_2 = (omega arith, omega arith) }

pub returns-in-OneText : goal.returns-in-OneText
unfolding tail_as
returns-in-OneText c = rw (← c.tail_kind.ensures, c.in-OneText.is) (record { fact_1 = c.text_after.ensures.fact_1; fact_2 = c.text_after.ensures.fact_2 })

pub returns-in-Sized : goal.returns-in-Sized
unfolding tail_as
returns-in-Sized c = rw (← c.tail_kind.ensures, c.in-Sized.is) (record { fact_1 = c.sized_after.ensures.fact_1; fact_2 = c.sized_after.ensures.fact_2 })
