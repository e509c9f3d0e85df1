use Rattle.event_write.proofs.WriteLaws.{then}
use Rattle.midicsv.specs.Show.{show}
use Rattle.midicsv.specs.Code.Form.{form_of}
use Rattle.midicsv.proofs.FieldLaws.{gap_length}
use native.Mathlib.Omega.{arith}
use Rattle.midicsv.proofs.field.put_text_field.Goals as goal

pub put_cell_text-requires-clause-fact_1 : goal.put_cell_text-requires-clause-fact_1
put_cell_text-requires-clause-fact_1 c = omega (arith, c.put_comma-a.ensures.place, gap_length (form_of c.args.sheet))

pub returns-then-sheet : goal.returns-then-sheet
unfolding show form_of
returns-then-sheet c = rw c.if-sheet.true (then (rw c.if-sheet.true at c.put_comma-a.ensures) c.put_cell_text.ensures)

pub put_text-requires-clause-fact_1 : goal.put_text-requires-clause-fact_1
put_text-requires-clause-fact_1 c = omega (arith, c.put_comma-a.ensures.place, gap_length (form_of c.args.sheet))

pub returns : goal.returns
unfolding show form_of
returns c = rw c.if-sheet.false (then (rw c.if-sheet.false at c.put_comma-a.ensures) c.put_text.ensures)
