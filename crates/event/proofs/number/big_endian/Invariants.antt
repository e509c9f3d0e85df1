use Rattle.std.proofs.Common.{◌≡◌, ◌<◌, drop}
use Rattle.event.specs.Bytes.{number, below}
use Rattle.event.specs.Step.{bytes_from}
use Rattle.event.proofs.number.big_endian.Given as goal

abbrev pub invariant-loop-k : goal.invariant-loop-k
invariant-loop-k g l = (l.number ≡ number (bytes_from l.k (drop l.at l.body) 0)) × (l.number < below l.k)
