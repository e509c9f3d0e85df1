use Prim.Native.Nat.{◌+◌, ◌-◌, ◌<◌}
use mathlib.Core.Path.{◌≡◌}
use lib.ListN.{drop}
use Rattle.event.specs.Padding.{vlq_padding}
use Rattle.event.proofs.PaddingLaws.{significant}
use Rattle.event.proofs.LoopLaws.{room, More}
use Rattle.event.proofs.number.read_number.Given as goal

-- besides the number: so many bytes have come, the padding and the significant ones
abbrev pub invariant-loop-come : goal.invariant-loop-come
invariant-loop-come l =
    (l.acc < room (4 - l.come)) × (More (vlq_padding (drop l.at l.body)) l.body 4 0 l.at ≡ More (vlq_padding (drop l.at l.body)) l.body (4 - l.come) l.acc l.p)
    × (l.p ≡ l.at + l.come) × (l.padding + significant l.acc ≡ l.come)
