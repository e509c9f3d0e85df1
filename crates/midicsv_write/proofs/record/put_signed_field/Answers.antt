use Rattle.event.specs.Choice.{pick}
use Rattle.event_write.proofs.WriteLaws.{then}
use Rattle.midicsv.specs.Code.Form.{form_of}
use Rattle.midicsv.specs.Show.{show}
use Rattle.midicsv.specs.Record.{signed_field}
use Rattle.midicsv.proofs.FieldLaws.{gap_length}
use native.Mathlib.Omega.{arith}
use borrow.Author.Tests.{lt-ltb, le-ltb}
use Rattle.midicsv_write.proofs.record.put_signed_field.Goals as goal

pub returns-then-n-first : goal.returns-then-n-first
unfolding signed_field pick
returns-then-n-first c = rw (lt-ltb _ _ c.if-n-first.true) c.put_number_field.ensures

pub put_byte-b-requires : goal.put_byte-b-requires
put_byte-b-requires c = omega (arith, c.put_comma-a.ensures.place, gap_length (form_of c.args.sheet), c.requires.fact_1)

pub put_decimal-requires : goal.put_decimal-requires
put_decimal-requires c = omega (arith, c.put_byte-b.ensures.place, c.put_comma-a.ensures.place, gap_length (form_of c.args.sheet), c.requires.fact_1)

pub returns : goal.returns
unfolding signed_field show pick
returns c = rw (le-ltb _ _ c.if-n-first.false) (then c.put_comma-a.ensures (then c.put_byte-b.ensures c.put_decimal.ensures))
