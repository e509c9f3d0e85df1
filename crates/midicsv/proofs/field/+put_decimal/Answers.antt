use Prim.Native.Nat.{◌/◌}
use native.Mathlib.Omega.{arith}
use Rattle.event_write.proofs.WriteLaws.{then}
use Rattle.midicsv.proofs.FieldLaws.{decimal_more, decimal_one, decimal_length}
use Rattle.midicsv.proofs.field.+put_decimal.Goals as goal

pub returns-then-n-lt-TEN : goal.returns-then-n-lt-TEN
returns-then-n-lt-TEN t c = rw (decimal_one _ c.if-n-lt-TEN.true) at c.put_byte.ensures

pub put_byte-requires-2 : goal.put_byte-requires-2
put_byte-requires-2 t c = omega (arith, decimal_length (c.args.n / 10), c.put_decimal-m.ensures.place)

pub returns : goal.returns
returns t c = rw (decimal_more c.args.n c.if-n-lt-TEN.false (omega arith)) at (then c.put_decimal-m.ensures c.put_byte-2.ensures)
