use Rattle.event_write.proofs.WriteLaws.{then}
use Rattle.event_write.proofs.HeadLaws.{status_length}
use Rattle.event_write.specs.Head.{manner_of}
use native.Mathlib.Omega.{arith}
use Rattle.event_write.proofs.head.put_channel.Goals as goal

pub put_bytes-requires-clause-fact_1 : goal.put_bytes-requires-clause-fact_1
put_bytes-requires-clause-fact_1 c =
    let r = c.args.running in
    omega (arith, status_length (manner_of r.short) r.force c.args.status)

pub returns : goal.returns
returns c = then c.put_status-p.ensures c.put_bytes.ensures
