-- Reading one event, with the refusals of document 01 in its order: "delta (per byte 6, then 5), 7, status or meta type (6, 8),
-- data bytes singly (6, 9), length (6, 5), 10, body (6), 11". Places are 0 here: whoever reads the track sets the event's.
use Rattle.std.specs.Prelude.{ℕ, zero, suc, ◌+◌, ◌-◌, ◌*◌, ◌%◌, Bool, true, ◌&&◌, ◌||◌, List, [], ◌∷◌, length, get_or, take, drop, leb, ltb, eqb}
use Rattle.event.specs.Choice.{pick}
use Rattle.event.specs.Outcome.{Outcome, ok, refused, and_then, check}
use Rattle.event.specs.Bytes.{number}
use Rattle.event.specs.Meta.{MetaKind, sequence_kind, text_kind, prefix_kind, port_kind, end_kind, tempo_kind, offset_kind, time_kind, key_kind, specific_kind, unknown_kind, kind_of}
use Rattle.event.specs.Event.{Key, sharps, flats, Kind, note_off, note_on, poly_aftertouch, control, program, channel_aftertouch, pitch_bend, system_exclusive, system_exclusive_packet, sequence_number, text, channel_prefix, midi_port, end_track, tempo, smpte_offset, time_signature, key_signature, sequencer_specific, unknown_meta, Event}
use Rattle.event.specs.Frame.{Frame, channel1, channel2, exclusive, meta}

-- ---- numbers and runs of bytes

-- a variable-length number of at most k bytes more, after those that gave acc; 5: "fourth byte .. has its top bit set"
unfoldable pub read_more : ℕ → ℕ → List ℕ → Outcome ℕ
unfolding pick
read_more zero acc l = refused 5 0
read_more (suc k) acc [] = refused 6 0
read_more (suc k) acc (b ∷ l) = pick (ltb b 128) (ok (acc * 128 + b) l) (read_more k (acc * 128 + (b - 128)) l)

-- "A variable-length number has 1 to 4 bytes"
unfoldable pub read_vlq : List ℕ → Outcome ℕ
read_vlq l = read_more 4 0 l

-- a run of n bytes; 6: "the event needs a byte past the track's end"
unfoldable pub read_data : ℕ → List ℕ → Outcome (List ℕ)
read_data n l = check (leb n (length l)) 6 0 (ok (take n l) (drop n l))

-- a number of n bytes, high byte first
unfoldable pub read_number : ℕ → List ℕ → Outcome ℕ
read_number n l = and_then (read_data n l) (λ d r. ok (number d) r)

-- ---- channel events

-- 9: "channel data byte over 127"
unfoldable pub data_byte : List ℕ → Outcome ℕ
data_byte [] = refused 6 0
data_byte (a ∷ l) = check (leb a 127) 9 0 (ok a l)

-- "Cn p, Dn v": the data byte after the status s
unfoldable pub one_data : ℕ → List ℕ → Outcome Frame
one_data s l = and_then (data_byte l) (λ a r. ok (channel1 s a) r)

-- "8n, 9n, An k v", "Bn c v", "En l m": "data bytes singly (6, 9)"
unfoldable pub two_data : ℕ → List ℕ → Outcome Frame
two_data s l = and_then (data_byte l) (λ a r. and_then (data_byte r) (λ b q. ok (channel2 s a b) q))

-- one data byte follows Cn and Dn, two the others
unfoldable pub one_byte : ℕ → Bool
one_byte s = leb 0xc0 s && leb s 0xdf

-- the data bytes after the status s, written or in force
unfoldable pub channel_data : ℕ → List ℕ → Outcome Frame
channel_data s l = pick (one_byte s) (one_data s l) (two_data s l)

-- a status byte of a channel event
unfoldable pub is_channel : ℕ → Bool
is_channel s = leb 0x80 s && leb s 0xef

-- ---- system exclusive and meta events

-- "F0, F7, then length, data": "length (6, 5), .. body (6)"
unfoldable pub read_exclusive : ℕ → List ℕ → Outcome Frame
read_exclusive s l = and_then (read_vlq l) (λ n r. and_then (read_data n r) (λ d q. ok (exclusive s d) q))

-- "Fixed metas need the length shown"
unfoldable pub length_ok : MetaKind → ℕ → Bool
length_ok sequence_kind n = eqb n 2
length_ok text_kind n = true
length_ok prefix_kind n = eqb n 1
length_ok port_kind n = eqb n 1
length_ok end_kind n = eqb n 0
length_ok tempo_kind n = eqb n 3
length_ok offset_kind n = eqb n 5
length_ok time_kind n = eqb n 4
length_ok key_kind n = eqb n 2
length_ok specific_kind n = true
length_ok unknown_kind n = true

-- 11: "value out of range"
unfoldable pub value_ok : MetaKind → List ℕ → Bool
value_ok sequence_kind d = true
value_ok text_kind d = true
value_ok prefix_kind d = true
value_ok port_kind d = true
value_ok end_kind d = true
value_ok tempo_kind d = leb 1 (number d)
value_ok offset_kind d = leb (get_or d 4 0) 99
value_ok time_kind d = true
value_ok key_kind d = (leb (get_or d 0 0) 7 || leb 249 (get_or d 0 0)) && leb (get_or d 1 0) 1
value_ok specific_kind d = true
value_ok unknown_kind d = true

-- the n data bytes of a meta event of the type t
unfoldable pub meta_data : ℕ → ℕ → List ℕ → Outcome Frame
meta_data t n l = and_then (read_data n l) (λ d q. check (value_ok (kind_of t) d) 11 0 (ok (meta t d) q))

-- after FF and the type t: "8", "length (6, 5), 10, body (6), 11"
unfoldable pub read_meta_of : ℕ → List ℕ → Outcome Frame
read_meta_of t l =
    check (leb t 127) 8 0
    (and_then (read_vlq l) (λ n r.
    check (length_ok (kind_of t) n) 10 0 (meta_data t n r)))

-- after FF: "status or meta type (6, 8)"
unfoldable pub read_meta : List ℕ → Outcome Frame
read_meta [] = refused 6 0
read_meta (t ∷ l) = read_meta_of t l

-- ---- an event after its delta, with the status force in force

-- 8: "data byte with no status in force; F1..F6, F8..FE; meta type over 127"
unfoldable pub read_frame : ℕ → List ℕ → Outcome Frame
read_frame force [] = refused 6 0
read_frame force (b ∷ l) =
    pick (leb b 0x7f) (check (is_channel force) 8 0 (channel_data force (b ∷ l)))
    (pick (leb b 0xef) (channel_data b l)
    (pick (eqb b 0xff) (read_meta l)
    (pick (eqb b 0xf0 || eqb b 0xf7) (read_exclusive b l) (refused 8 0))))

-- ---- the kind and fields of what was read (of bytes that read_frame accepts: others do not come here)

-- a key from its byte: "A key below 0 is written with 256 added"
unfoldable pub key_of : ℕ → Key
key_of b = pick (leb b 7) (sharps b) (flats (256 - b))

-- the rows of two data bytes, by the status: "Pitch_bend_c: channel, 128·m + l"
unfoldable pub kind2 : ℕ → ℕ → ℕ → Kind
kind2 s a b =
    pick (leb s 0x8f) (note_off (s % 16) a b)
    (pick (leb s 0x9f) (note_on (s % 16) a b)
    (pick (leb s 0xaf) (poly_aftertouch (s % 16) a b)
    (pick (leb s 0xbf) (control (s % 16) a b) (pitch_bend (s % 16) (128 * b + a)))))

-- the rows that begin with FF, by the type's row, the type and the data
unfoldable pub meta_of : MetaKind → ℕ → List ℕ → Kind
meta_of sequence_kind t d = sequence_number (number d)
meta_of text_kind t d = text t d
meta_of prefix_kind t d = channel_prefix (number d)
meta_of port_kind t d = midi_port (number d)
meta_of end_kind t d = end_track
meta_of tempo_kind t d = tempo (number d)
meta_of offset_kind t d = smpte_offset (get_or d 0 0) (get_or d 1 0) (get_or d 2 0) (get_or d 3 0) (get_or d 4 0)
meta_of time_kind t d = time_signature (get_or d 0 0) (get_or d 1 0) (get_or d 2 0) (get_or d 3 0)
meta_of key_kind t d = key_signature (key_of (get_or d 0 0)) (get_or d 1 0)
meta_of specific_kind t d = sequencer_specific d
meta_of unknown_kind t d = unknown_meta t d

-- the row of the table, by the shape of its bytes
unfoldable pub kind_in : Frame → Kind
kind_in (channel1 s a) = pick (leb s 0xcf) (program (s % 16) a) (channel_aftertouch (s % 16) a)
kind_in (channel2 s a b) = kind2 s a b
kind_in (exclusive s d) = pick (eqb s 0xf0) (system_exclusive d) (system_exclusive_packet d)
kind_in (meta t d) = meta_of (kind_of t) t d

-- ---- an event, after one at the Time prev, with the status force in force; 7: "Time over 4,294,967,295"

-- "Event: delta (per byte 6, then 5), 7, status or meta type .."
unfoldable pub read_event : ℕ → ℕ → List ℕ → Outcome Event
read_event prev force l =
    and_then (read_vlq l) (λ d m.
    check (leb (prev + d) 4294967295) 7 0
    (and_then (read_frame force m) (λ x r. ok (record { time = prev + d; kind = kind_in x }) r)))
