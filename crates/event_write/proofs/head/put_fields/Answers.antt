use Rattle.std.proofs.Common.{length}
use Rattle.event_write.proofs.WriteLaws.{then}
use Rattle.event_write.proofs.HeadLaws.{meta_length}
use native.Mathlib.Omega.{arith}
use Rattle.event_write.proofs.head.put_fields.Goals as goal

pub put_bytes-requires-clause-fact_1 : goal.put_bytes-requires-clause-fact_1
put_bytes-requires-clause-fact_1 c = omega (arith, meta_length c.args.t (length c.args.fields.now))

pub returns : goal.returns
returns c = then c.put_meta-p.ensures c.put_bytes.ensures
