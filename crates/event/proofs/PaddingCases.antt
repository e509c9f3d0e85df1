-- Request 8's examples, computed from the definitions.
use mathlib.Core.Path.{refl}
use Rattle.event.specs.Choice.{pick}
use Rattle.event.specs.Number.{least}
use Rattle.event.specs.Reader.{read_vlq, read_more}
use Rattle.event.specs.Padding.{padding_in, vlq_padding, meta_padding, frame_padding, rest_of, event_padding}
use Rattle.event.specs.PaddingCases.{Pads, AllPad, padded_numbers, padded_events}

pub numbers_padded : AllPad padded_numbers
unfolding AllPad Pads vlq_padding padding_in read_vlq read_more least pick
numbers_padded = (refl, (refl, (refl, (refl, (refl, (refl, (refl, (refl, (refl, tt)))))))))

pub events_padded : AllPad padded_events
unfolding AllPad Pads event_padding frame_padding meta_padding rest_of vlq_padding padding_in read_vlq read_more least pick
events_padded = (refl, (refl, (refl, (refl, (refl, (refl, (refl, tt)))))))
