use Rattle.event_write.proofs.WriteLaws.{then}
use Rattle.event_write.proofs.head.put_exclusive.Goals as goal

pub returns : goal.returns
returns c = then c.put_byte-p.ensures c.put_length.ensures
