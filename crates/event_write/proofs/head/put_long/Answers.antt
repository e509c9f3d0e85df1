use Rattle.event_write.proofs.WriteLaws.{then}
use Rattle.event_write.specs.Head.{long_bytes}
use Rattle.event_write.proofs.head.put_long.Goals as goal

pub returns-in-SequenceNumber : goal.returns-in-SequenceNumber
unfolding long_bytes
returns-in-SequenceNumber c = rw c.in-SequenceNumber.is (then c.put_meta-p.ensures c.put_big_endian.ensures)

pub returns-in-Tempo : goal.returns-in-Tempo
unfolding long_bytes
returns-in-Tempo c = rw c.in-Tempo.is (then c.put_meta-p-in-Tempo.ensures c.put_big_endian-in-Tempo.ensures)
