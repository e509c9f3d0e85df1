-- The four sizes: computed from the definitions.
use mathlib.Core.Path.{refl}
use Rattle.event.specs.Choice.{pick}
use Rattle.event.specs.Number.{vlq, least}
use Rattle.event_write.specs.Head.{fewest}
use Rattle.event_write.specs.Sizes.{AllWritten, sizes}

pub all_sizes : AllWritten sizes
unfolding AllWritten fewest vlq least pick
all_sizes = (refl, (refl, (refl, (refl, (refl, (refl, (refl, (refl, (refl, (refl, (refl, (refl, tt))))))))))))
