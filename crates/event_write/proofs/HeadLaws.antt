-- The bytes of an event before its data, and the data, are the event laid out in its manner.
use mathlib.Core.Path.{◌≡◌, refl, sym, ◌∙◌}
use mathlib.Core.Bool.{Bool, true, false}
use mathlib.Core.List.{List, [], ◌∷◌, ◌++◌, append_assoc, append-nil}
use Prim.Native.Nat.{ℕ, ◌+◌, ◌-◌, ◌/◌, ◌%◌, ◌<◌, ◌≤◌}
use native.Mathlib.Omega.{arith}
use lib.ListN.{length}
use lib.Dec.{eqb}
use Rattle.event.specs.Choice.{pick}
use Rattle.event.specs.Bytes.{big_endian, bytes_onto}
use Rattle.event.specs.Number.{Width, limit, least}
use Rattle.event.specs.Event.{Event, Lawful, Fits, Kind, note_off, note_on, poly_aftertouch, control, program, channel_aftertouch, pitch_bend, system_exclusive, system_exclusive_packet, sequence_number, text, channel_prefix, midi_port, end_track, tempo, smpte_offset, time_signature, key_signature, sequencer_specific, unknown_meta}
use Rattle.event.specs.Frame.{Frame, channel1, channel2, exclusive, meta, frame, key_byte}
use Rattle.event.specs.Spelling.{Rest, left_out, length_in, Spelling, Spelled, Permitted}
use Rattle.event.specs.Layout.{lay_channel, lay_frame, lay_event}
use Rattle.event.specs.Manner.{Manner, full, short, status_in, rest_in, spell_event}
use Rattle.event.specs.Step.{kind_at}
use Rattle.event.proofs.NumberLaws.{limit_most}
use Rattle.event.proofs.DataLaws.{frame_data}
use Rattle.event_write.specs.Head.{fewest, status_bytes, meta_bytes, long_bytes, tail_bytes, head_bytes, data_of}
use Rattle.event_write.proofs.NumberLaws.{fewest_length, fewest_is}

-- ---- how long they are

pub status_length : (m : Manner) (force s : ℕ) → length (status_bytes m force s) ≤ 1
unfolding status_bytes pick
status_length full force s = omega arith
status_length short force s = by (eqb force s)
  where
    by : (out : Bool) → length (pick out [] (s ∷ [])) ≤ 1
    by true = omega arith
    by false = omega arith

pub meta_length : (t n : ℕ) → length (meta_bytes t n) ≤ 6
unfolding meta_bytes
meta_length t n = omega (arith, fewest_length n)

-- ---- the bytes of each row

-- the status s, where it is not left out, and the bytes l after it
status_row : (m : Manner) (force s : ℕ) (l : List ℕ) (x : Frame) → ((out : Bool) → lay_frame x (left_out out) ≡ lay_channel out s l)
    → lay_frame x (status_in m force s) ≡ status_bytes m force s ++ l
unfolding status_in status_bytes lay_channel pick
status_row full force s l x laid = laid false
status_row short force s l x laid = laid (eqb force s) ∙ by (eqb force s)
  where
    by : (out : Bool) → lay_channel out s l ≡ pick out [] (s ∷ []) ++ l
    by true = refl
    by false = refl

channel_row : (m : Manner) (force base c : ℕ) (l : List ℕ) (x : Frame) → c < 16 → ((out : Bool) → lay_frame x (left_out out) ≡ lay_channel out (base + c) l)
    → lay_frame x (status_in m force (base + c)) ≡ (status_bytes m force (base + c % 16) ++ l) ++ []
channel_row m force base c l x h laid =
    let e : c % 16 ≡ c = omega arith in
    rw e (status_row m force (base + c) l x laid ∙ sym (append-nil _))

one_row : (m : Manner) (force base c a : ℕ) → c < 16 → lay_frame (channel1 (base + c) a) (status_in m force (base + c)) ≡ (status_bytes m force (base + c % 16) ++ (a ∷ [])) ++ []
unfolding lay_frame
one_row m force base c a h = channel_row m force base c (a ∷ []) (channel1 (base + c) a) h (λ out. refl)

two_row : (m : Manner) (force base c a b : ℕ) → c < 16 → lay_frame (channel2 (base + c) a b) (status_in m force (base + c)) ≡ (status_bytes m force (base + c % 16) ++ (a ∷ b ∷ [])) ++ []
unfolding lay_frame
two_row m force base c a b h = channel_row m force base c (a ∷ b ∷ []) (channel2 (base + c) a b) h (λ out. refl)

meta_row : (t : ℕ) (d : List ℕ) → length d < 268435456 → lay_frame (meta t d) (length_in (least (length d))) ≡ meta_bytes t (length d) ++ d
unfolding lay_frame meta_bytes
meta_row t d h = rw (fewest_is (length d) h)

exclusive_row : (s : ℕ) (d : List ℕ) → length d < 268435456 → lay_frame (exclusive s d) (length_in (least (length d))) ≡ (s ∷ fewest (length d)) ++ d
unfolding lay_frame
exclusive_row s d h = rw (fewest_is (length d) h)

-- a meta event with fields: its bytes d are part of the head
fields_row : (t : ℕ) (d : List ℕ) → length d < 268435456 → lay_frame (meta t d) (length_in (least (length d))) ≡ (meta_bytes t (length d) ++ d) ++ []
fields_row t d h = meta_row t d h ∙ sym (append-nil _)

tail_row : (m : Manner) (force next : ℕ) (k : Kind) → Fits k → length (frame_data (frame k)) < 268435456
    → lay_frame (frame k) (rest_in m force (frame k)) ≡ tail_bytes m force (kind_at next k) ++ data_of k
unfolding Fits frame frame_data rest_in tail_bytes long_bytes kind_at data_of big_endian bytes_onto
tail_row m force next (note_off c k v) f h = two_row m force 0x80 c k v f.0
tail_row m force next (note_on c k v) f h = two_row m force 0x90 c k v f.0
tail_row m force next (poly_aftertouch c k v) f h = two_row m force 0xa0 c k v f.0
tail_row m force next (control c k v) f h = two_row m force 0xb0 c k v f.0
tail_row m force next (program c p) f h = one_row m force 0xc0 c p f.0
tail_row m force next (channel_aftertouch c v) f h = one_row m force 0xd0 c v f.0
tail_row m force next (pitch_bend c v) f h =
    let e : v / 128 % 128 ≡ v / 128 = omega arith in
    rw e (two_row m force 0xe0 c (v % 128) (v / 128) f.0)
tail_row m force next (system_exclusive d) f h = exclusive_row 0xf0 d h
tail_row m force next (system_exclusive_packet d) f h = exclusive_row 0xf7 d h
tail_row m force next (sequence_number n) f h = fields_row 0x00 (big_endian 2 n) h
tail_row m force next (text t d) f h = meta_row t d h
tail_row m force next (channel_prefix n) f h = let e : n % 256 ≡ n = omega arith in rw e (fields_row 0x20 (n ∷ []) h)
tail_row m force next (midi_port n) f h = let e : n % 256 ≡ n = omega arith in rw e (fields_row 0x21 (n ∷ []) h)
tail_row m force next end_track f h = meta_row 0x2f [] h
tail_row m force next (tempo n) f h = fields_row 0x51 (big_endian 3 n) h
tail_row m force next (smpte_offset a b c d e) f h = fields_row 0x54 (a ∷ b ∷ c ∷ d ∷ e ∷ []) h
tail_row m force next (time_signature a b c d) f h = fields_row 0x58 (a ∷ b ∷ c ∷ d ∷ []) h
tail_row m force next (key_signature k a) f h = fields_row 0x59 (key_byte k ∷ a ∷ []) h
tail_row m force next (sequencer_specific d) f h = meta_row 0x7f d h
tail_row m force next (unknown_meta t d) f h = meta_row t d h

-- ---- an event

-- a number that fits some bytes has 28 bits
small : (w : Width) (v : ℕ) → v < limit w → v < 268435456
small w v h = omega (arith, limit_most w)

data_small : (force : ℕ) (x : Frame) (s : Rest) → Spelled force x s → length (frame_data x) < 268435456
unfolding Spelled frame_data
data_small force (channel1 s a) r p = omega arith
data_small force (channel2 s a b) r p = omega arith
data_small force (exclusive s d) (left_out out) p = absurd p
data_small force (exclusive s d) (length_in w) p = small w (length d) p
data_small force (meta t d) (left_out out) p = absurd p
data_small force (meta t d) (length_in w) p = small w (length d) p

pub event_bytes : (m : Manner) (prev force next : ℕ) (e : Event) → Lawful prev e → (s : Spelling) → Permitted prev force e s
    → lay_event prev e (spell_event m prev force e) ≡ head_bytes m force (e.time - prev) (kind_at next e.kind) ++ data_of e.kind
unfolding lay_event spell_event head_bytes
event_bytes m prev force next e l s p =
    let t = tail_row m force next e.kind l.fits (data_small force (frame e.kind) s.rest p.rest) in
    rw (t, fewest_is (e.time - prev) (small s.delta _ p.delta), append_assoc)
