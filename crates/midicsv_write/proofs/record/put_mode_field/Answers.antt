use Rattle.event.specs.Choice.{pick}
use Rattle.event_write.proofs.WriteLaws.{then}
use Rattle.midicsv.specs.Code.Form.{form_of}
use Rattle.midicsv.proofs.FieldLaws.{gap_length}
use Rattle.midicsv.proofs.LineBoundLaws.{mode_shown}
use native.Mathlib.Omega.{arith}
use borrow.Author.Tests.{eq-eqb, ne_eqb}
use Rattle.midicsv_write.proofs.record.put_mode_field.Goals as goal

pub put_bytes-requires : goal.put_bytes-requires
put_bytes-requires c = record { fact_1 = omega (arith, c.put_comma-a.ensures.place, gap_length (form_of c.args.sheet), c.requires); fact_2 = omega arith }

pub returns-then-minor-eq0 : goal.returns-then-minor-eq0
unfolding pick
returns-then-minor-eq0 c = rw (mode_shown (form_of c.args.sheet) c.args.minor, eq-eqb _ _ c.if-minor-eq0.true) (then c.put_comma-a.ensures c.put_bytes.ensures)

pub put_bytes-requires-2 : goal.put_bytes-requires-2
put_bytes-requires-2 c = record { fact_1 = omega (arith, c.put_comma-a.ensures.place, gap_length (form_of c.args.sheet), c.requires); fact_2 = omega arith }

pub returns : goal.returns
unfolding pick
returns c = rw (mode_shown (form_of c.args.sheet) c.args.minor, ne_eqb _ _ c.if-minor-eq0.false) (then c.put_comma-a.ensures c.put_bytes-2.ensures)
