use Rattle.event_write.proofs.WriteLaws.{then}
use Rattle.event_write.specs.Head.{meta_bytes}
use Rattle.event_write.proofs.head.put_meta.Goals as goal

pub returns : goal.returns
unfolding meta_bytes
returns c = then c.put_bytes-p.ensures c.put_length.ensures
