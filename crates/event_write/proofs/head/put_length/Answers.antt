use Rattle.event_write.proofs.NumberLaws.{fewest_low}
use Rattle.event_write.proofs.head.put_length.Goals as goal

pub returns : goal.returns
returns c = rw fewest_low at c.put_number.ensures
