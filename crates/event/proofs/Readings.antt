-- The starred readings hold: computed from the definitions.
use mathlib.Core.Path.{refl}
use Rattle.event.specs.Choice.{pick}
use Rattle.event.specs.Bytes.{number, horner}
use Rattle.event.specs.Meta.{kind_of}
use Rattle.event.specs.Outcome.{and_then, check}
use Rattle.event.specs.Reader.{read_vlq, read_more, read_frame, channel_data, one_byte, one_data, two_data, data_byte, read_meta, read_meta_of, meta_data, read_data, length_ok, value_ok, kind_in, kind2, meta_of, key_of}
use Rattle.event.specs.Readings.{Holds, AllHold, starred}

pub all_starred : AllHold starred
unfolding AllHold Holds read_vlq read_more read_frame channel_data one_byte one_data two_data data_byte read_meta read_meta_of meta_data read_data length_ok value_ok kind_in kind2 meta_of key_of kind_of number horner and_then check pick
all_starred = (refl, (refl, (refl, (refl, (refl, (refl, (refl, (refl, (refl, (refl, (refl, (refl, tt))))))))))))
