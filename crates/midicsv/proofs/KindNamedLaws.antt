-- The record of an event has the event's kind.
use mathlib.Core.Path.{◌≡◌, refl, ap}
use Prim.Native.Nat.{◌≤◌}
use native.Mathlib.Omega.{arith}
use lib.ListN.{length}
use Rattle.event.specs.Event.{Kind, note_off, note_on, poly_aftertouch, control, program, channel_aftertouch, pitch_bend, system_exclusive, system_exclusive_packet, sequence_number, text, channel_prefix, midi_port, end_track, tempo, smpte_offset, time_signature, key_signature, sequencer_specific, unknown_meta, Fits}
use Rattle.event.specs.Frame.{frame}
use Rattle.event.proofs.KindLaws.{key_back}
use Rattle.midicsv.specs.Record.{name_of, values_of}
use Rattle.midicsv.specs.KindOf.{kind_named}
use Rattle.midicsv.proofs.LayableLaws.{data_size}

pub kind_named_lem : (k : Kind) → Fits k → kind_named (name_of k) (values_of k) ≡ k
unfolding name_of values_of kind_named Fits
kind_named_lem (note_off c k v) h = refl
kind_named_lem (note_on c k v) h = refl
kind_named_lem (poly_aftertouch c k v) h = refl
kind_named_lem (control c k v) h = refl
kind_named_lem (program c p) h = refl
kind_named_lem (channel_aftertouch c v) h = refl
kind_named_lem (pitch_bend c v) h = refl
kind_named_lem (system_exclusive d) h = refl
kind_named_lem (system_exclusive_packet d) h = refl
kind_named_lem (sequence_number n) h = refl
kind_named_lem (text t d) h = refl
kind_named_lem (channel_prefix n) h = refl
kind_named_lem (midi_port n) h = refl
kind_named_lem end_track h = refl
kind_named_lem (tempo n) h = refl
kind_named_lem (smpte_offset a m s f u) h = refl
kind_named_lem (time_signature n d c b) h = refl
kind_named_lem (key_signature k m) h = ap (λ z. key_signature z m) (key_back k h.0)
kind_named_lem (sequencer_specific d) h = refl
kind_named_lem (unknown_meta t d) h = refl

-- its Text or Data is no longer than the data bytes of the file
pub body_size : (k : Kind) → length (values_of k).body ≤ data_size (frame k)
unfolding values_of frame data_size
body_size (note_off c k v) = omega arith
body_size (note_on c k v) = omega arith
body_size (poly_aftertouch c k v) = omega arith
body_size (control c k v) = omega arith
body_size (program c p) = omega arith
body_size (channel_aftertouch c v) = omega arith
body_size (pitch_bend c v) = omega arith
body_size (system_exclusive d) = omega arith
body_size (system_exclusive_packet d) = omega arith
body_size (sequence_number n) = omega arith
body_size (text t d) = omega arith
body_size (channel_prefix n) = omega arith
body_size (midi_port n) = omega arith
body_size end_track = omega arith
body_size (tempo n) = omega arith
body_size (smpte_offset a m s f u) = omega arith
body_size (time_signature n d c b) = omega arith
body_size (key_signature k m) = omega arith
body_size (sequencer_specific d) = omega arith
body_size (unknown_meta t d) = omega arith
