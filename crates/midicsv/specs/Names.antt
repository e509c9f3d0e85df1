-- The third field of a line: one of the listed names, "case ignored".
use Rattle.std.specs.Prelude.{ℕ, ◌+◌, Bool, true, false, ◌&&◌, List, [], ◌∷◌, leb, eqb}
use Rattle.event.specs.Choice.{pick}
use Rattle.midicsv.specs.Field.{Field, num, minus, name, quoted}
use Rattle.midicsv.specs.Table.{note_off_name, note_on_name, poly_aftertouch_name, control_change_name, program_change_name, channel_aftertouch_name, pitch_bend_name, system_exclusive_name, system_exclusive_packet_name, sequence_number_name, words, channel_prefix_name, midi_port_name, end_track_name, set_tempo_name, smpte_offset_name, time_signature_name, key_signature_name, sequencer_specific_name, unknown_meta_name, RecordName, header, start_track, end_of_file, event, spelled}
use Rattle.midicsv.specs.Result.{Result, good, bad}

-- the names, those of events in the order of document 01's table
abbrev pub all_names : List RecordName
all_names =
    header ∷ start_track ∷ end_of_file
    ∷ event note_off_name ∷ event note_on_name ∷ event poly_aftertouch_name ∷ event control_change_name ∷ event program_change_name ∷ event channel_aftertouch_name ∷ event pitch_bend_name
    ∷ event system_exclusive_name ∷ event system_exclusive_packet_name ∷ event sequence_number_name
    ∷ event (words 1) ∷ event (words 2) ∷ event (words 3) ∷ event (words 4) ∷ event (words 5) ∷ event (words 6) ∷ event (words 7)
    ∷ event channel_prefix_name ∷ event midi_port_name ∷ event end_track_name ∷ event set_tempo_name ∷ event smpte_offset_name ∷ event time_signature_name ∷ event key_signature_name
    ∷ event sequencer_specific_name ∷ event unknown_meta_name ∷ []

-- a capital as its small letter
unfoldable pub lower : ℕ → ℕ
lower c = pick (leb 65 c && leb c 90) (c + 32) c

-- "case ignored"
unfoldable pub same_name : List ℕ → List ℕ → Bool
same_name [] [] = true
same_name [] (d ∷ t) = false
same_name (c ∷ s) [] = false
same_name (c ∷ s) (d ∷ t) = eqb (lower c) (lower d) && same_name s t

-- 23: "third field not a listed name"
unfoldable pub find : List ℕ → List RecordName → Result RecordName
find s [] = bad 23
find s (n ∷ ns) = pick (same_name s (spelled n)) (good n) (find s ns)

-- a number or a quoted text is no name
unfoldable pub name_from : Field → Result RecordName
name_from (num n) = bad 23
name_from (minus n) = bad 23
name_from (name s) = find s all_names
name_from (quoted d) = bad 23
