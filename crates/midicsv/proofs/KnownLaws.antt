-- The names that are written are found again.
use mathlib.Core.Path.{◌≡◌, refl}
use Prim.Native.Nat.{ℕ, zero, suc, ◌≤◌}
use mathlib.Core.Bool.{true}
use native.Mathlib.Omega.{arith}
use lib.ListN.{length}
use Rattle.event.specs.Choice.{pick}
use Rattle.event.specs.Event.{Kind, note_off, note_on, poly_aftertouch, control, program, channel_aftertouch, pitch_bend, system_exclusive, system_exclusive_packet, sequence_number, text, channel_prefix, midi_port, end_track, tempo, smpte_offset, time_signature, key_signature, sequencer_specific, unknown_meta, Fits}
use Rattle.midicsv.specs.Field.{name}
use Rattle.midicsv.specs.Table.{words, RecordName, header, start_track, end_of_file, event, event_spelled, spelled}
use Rattle.midicsv.specs.Record.{name_of}
use Rattle.midicsv.specs.Result.{good}
use Rattle.midicsv.specs.ReadField.{is_letter}
use Rattle.midicsv.specs.Names.{lower, same_name, find, name_from}
use Rattle.midicsv.proofs.FieldReadLaws.{all_letters}

-- spelled with letters, and found again
abbrev pub Known : RecordName → Type 0
Known n = (1 ≤ length (spelled n)) × (all_letters (spelled n) ≡ true) × (name_from (name (spelled n)) ≡ good n)

pub record FramesKnown : Type 0 where
  pub first : Known header
  pub start : Known start_track
  pub last : Known end_of_file

pub frames_known : FramesKnown
unfolding name_from spelled event_spelled find same_name lower pick all_letters is_letter
frames_known = record { first = (omega arith, refl, refl); start = (omega arith, refl, refl); last = (omega arith, refl, refl) }

pub words_known : (t : ℕ) → 1 ≤ t → t ≤ 7 → Known (event (words t))
unfolding name_from spelled event_spelled find same_name lower pick all_letters is_letter
words_known zero h k = absurd (omega arith)
words_known (suc zero) h k = (omega arith, refl, refl)
words_known (suc (suc zero)) h k = (omega arith, refl, refl)
words_known (suc (suc (suc zero))) h k = (omega arith, refl, refl)
words_known (suc (suc (suc (suc zero)))) h k = (omega arith, refl, refl)
words_known (suc (suc (suc (suc (suc zero))))) h k = (omega arith, refl, refl)
words_known (suc (suc (suc (suc (suc (suc zero)))))) h k = (omega arith, refl, refl)
words_known (suc (suc (suc (suc (suc (suc (suc zero))))))) h k = (omega arith, refl, refl)
words_known (suc (suc (suc (suc (suc (suc (suc (suc t)))))))) h k = absurd (omega arith)

pub kind_known : (k : Kind) → Fits k → Known (event (name_of k))
unfolding name_of name_from spelled event_spelled find same_name lower pick all_letters is_letter Fits
kind_known (note_off c k v) h = (omega arith, refl, refl)
kind_known (note_on c k v) h = (omega arith, refl, refl)
kind_known (poly_aftertouch c k v) h = (omega arith, refl, refl)
kind_known (control c k v) h = (omega arith, refl, refl)
kind_known (program c p) h = (omega arith, refl, refl)
kind_known (channel_aftertouch c v) h = (omega arith, refl, refl)
kind_known (pitch_bend c v) h = (omega arith, refl, refl)
kind_known (system_exclusive d) h = (omega arith, refl, refl)
kind_known (system_exclusive_packet d) h = (omega arith, refl, refl)
kind_known (sequence_number n) h = (omega arith, refl, refl)
kind_known (text t d) h = words_known t h.0 h.1
kind_known (channel_prefix n) h = (omega arith, refl, refl)
kind_known (midi_port n) h = (omega arith, refl, refl)
kind_known end_track h = (omega arith, refl, refl)
kind_known (tempo n) h = (omega arith, refl, refl)
kind_known (smpte_offset a m s f u) h = (omega arith, refl, refl)
kind_known (time_signature n d c b) h = (omega arith, refl, refl)
kind_known (key_signature k m) h = (omega arith, refl, refl)
kind_known (sequencer_specific d) h = (omega arith, refl, refl)
kind_known (unknown_meta t d) h = (omega arith, refl, refl)
