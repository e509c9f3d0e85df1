-- "The text of an accepted file of n bytes has at most 25·n bytes"; its sheet form at most 23·n.
use mathlib.Core.Path.{◌≡◌, refl, sym, ap, ◌∙◌}
use Prim.Native.Nat.{ℕ, zero, suc, ◌+◌, ◌-◌, ◌*◌, ◌≤◌, zero-le}
use mathlib.Core.Bool.{Bool, true, false}
use mathlib.Core.List.{List, [], ◌∷◌, ◌++◌, append_assoc}
use native.Mathlib.Omega.{arith}
use lib.ListN.{length, length-append}
use Rattle.event.specs.Choice.{pick}
use Rattle.event.specs.Bytes.{big_endian, bytes_onto}
use Rattle.event.specs.Event.{Event, is_end, Kind, note_off, note_on, poly_aftertouch, control, program, channel_aftertouch, pitch_bend, system_exclusive, system_exclusive_packet, sequence_number, text, channel_prefix, midi_port, end_track, tempo, smpte_offset, time_signature, key_signature, sequencer_specific, unknown_meta, Fits}
use Rattle.event.specs.Frame.{Frame, channel1, channel2, exclusive, meta, frame, after, no_status}
use Rattle.event.specs.Spelling.{Rest, left_out, length_in, Spelling, Spelled, Permitted}
use Rattle.event.specs.Layout.{lay_channel, lay_frame, lay_event}
use Rattle.event.proofs.NumberLaws.{vlq_size}
use Rattle.event.proofs.BytesLaws.{length_big_endian}
use Rattle.smf.specs.Piece.{Piece, Ends, LawfulEvents, LawfulTracks, LawfulPiece}
use Rattle.smf.specs.Spelling.{TrackSpelling, PermittedEvents, PermittedTracks}
use Rattle.smf.specs.Layout.{lay_chunk, lay_events, lay_track, lay_tracks, lay_header, lay_division, lay_piece, LaidOut}
use Rattle.midicsv.specs.Field.{decimal, digits_of}
use Rattle.midicsv.specs.Show.{Form, as_text, as_sheet}
use Rattle.midicsv.specs.Table.{words, start_track, end_of_file, event, event_spelled, spelled, event_shape, shape}
use Rattle.midicsv.specs.Record.{Record, record_line, name_of, values_of}
use Rattle.midicsv.specs.Text.{mark, event_record, event_records, track_records, header_record, piece_records, records_text, written_as, most}
use Rattle.midicsv.proofs.RowLaws.{InColumns, InTail, rowed, header_rowed}
use Rattle.midicsv.proofs.LineBoundLaws.{gap_cost, column_cost, columns_cost, tail_cost, cost, record_cost}

-- ---- each kind of event

-- the fewest bytes that an event takes, with its delta
unfoldable pub fewest : Frame → ℕ
fewest (channel1 s a) = 2
fewest (channel2 s a b) = 3
fewest (exclusive s d) = 3 + length d
fewest (meta t d) = 4 + length d

pub fewest_laid : (force : ℕ) (x : Frame) (s : Rest) → Spelled force x s → fewest x ≤ 1 + length (lay_frame x s)
unfolding fewest lay_frame lay_channel Spelled
fewest_laid force (channel1 s a) (left_out true) p = omega arith
fewest_laid force (channel1 s a) (left_out false) p = omega arith
fewest_laid force (channel1 s a) (length_in w) p = absurd p
fewest_laid force (channel2 s a b) (left_out true) p = omega arith
fewest_laid force (channel2 s a b) (left_out false) p = omega arith
fewest_laid force (channel2 s a b) (length_in w) p = absurd p
fewest_laid force (exclusive s d) (left_out o) p = absurd p
fewest_laid force (exclusive s d) (length_in w) p = simp length-append (omega (arith, vlq_size w (length d)))
fewest_laid force (meta t d) (left_out o) p = absurd p
fewest_laid force (meta t d) (length_in w) p = simp length-append (omega (arith, vlq_size w (length d)))

pub text_cost : (t : ℕ) → 1 ≤ t → t ≤ 7 → length (event_spelled (words t)) ≤ 17
unfolding event_spelled
text_cost zero h k = absurd (omega arith)
text_cost (suc zero) h k = omega arith
text_cost (suc (suc zero)) h k = omega arith
text_cost (suc (suc (suc zero))) h k = omega arith
text_cost (suc (suc (suc (suc zero)))) h k = omega arith
text_cost (suc (suc (suc (suc (suc zero))))) h k = omega arith
text_cost (suc (suc (suc (suc (suc (suc zero)))))) h k = omega arith
text_cost (suc (suc (suc (suc (suc (suc (suc zero))))))) h k = omega arith
text_cost (suc (suc (suc (suc (suc (suc (suc (suc t)))))))) h k = absurd (omega arith)

pub sum_bound : (w : Form) {x y : ℕ} (a b : ℕ) → x ≤ most w a → y ≤ most w b → x + y ≤ most w (a + b)
unfolding most
sum_bound as_text a b h k = omega arith
sum_bound as_sheet a b h k = omega arith

pub more_bound : (w : Form) {x a b : ℕ} → x ≤ most w a → a ≤ b → x ≤ most w b
unfolding most
more_bound as_text h k = omega arith
more_bound as_sheet h k = omega arith

pub most_few : (w : Form) (n : ℕ) → most w n ≤ 25 * n
unfolding most
most_few as_text n = omega arith
most_few as_sheet n = omega arith

-- what is short beside 7 bytes
short_bound : (w : Form) {x : ℕ} → x ≤ 100 → x ≤ most w 7
unfolding most
short_bound as_text h = omega arith
short_bound as_sheet h = omega arith

enough : (w : Form) (k : Kind) → Fits k → cost w (event (name_of k)) (length (values_of k).body) ≤ most w (fewest (frame k))
unfolding most cost gap_cost name_of values_of frame fewest spelled event_spelled shape event_shape columns_cost column_cost tail_cost decimal digits_of pick Fits big_endian bytes_onto
enough as_text (note_off c k v) h = omega arith
enough as_text (note_on c k v) h = omega arith
enough as_text (poly_aftertouch c k v) h = omega arith
enough as_text (control c k v) h = omega arith
enough as_text (program c p) h = omega arith
enough as_text (channel_aftertouch c v) h = omega arith
enough as_text (pitch_bend c v) h = omega arith
enough as_text (system_exclusive d) h = omega arith
enough as_text (system_exclusive_packet d) h = omega arith
enough as_text (sequence_number n) h = omega arith
enough as_text (text t d) h = omega (arith, text_cost t h.0 h.1)
enough as_text (channel_prefix n) h = omega arith
enough as_text (midi_port n) h = omega arith
enough as_text end_track h = omega arith
enough as_text (tempo n) h = omega arith
enough as_text (smpte_offset a m s f u) h = omega arith
enough as_text (time_signature n d c b) h = omega arith
enough as_text (key_signature k m) h = omega arith
enough as_text (sequencer_specific d) h = omega arith
enough as_text (unknown_meta t d) h = omega arith
enough as_sheet (note_off c k v) h = omega arith
enough as_sheet (note_on c k v) h = omega arith
enough as_sheet (poly_aftertouch c k v) h = omega arith
enough as_sheet (control c k v) h = omega arith
enough as_sheet (program c p) h = omega arith
enough as_sheet (channel_aftertouch c v) h = omega arith
enough as_sheet (pitch_bend c v) h = omega arith
enough as_sheet (system_exclusive d) h = omega arith
enough as_sheet (system_exclusive_packet d) h = omega arith
enough as_sheet (sequence_number n) h = omega arith
enough as_sheet (text t d) h = omega (arith, text_cost t h.0 h.1)
enough as_sheet (channel_prefix n) h = omega arith
enough as_sheet (midi_port n) h = omega arith
enough as_sheet end_track h = omega arith
enough as_sheet (tempo n) h = omega arith
enough as_sheet (smpte_offset a m s f u) h = omega arith
enough as_sheet (time_signature n d c b) h = omega arith
enough as_sheet (key_signature k m) h = omega arith
enough as_sheet (sequencer_specific d) h = omega arith
enough as_sheet (unknown_meta t d) h = omega arith

line_bound : (w : Form) (track : ℕ) (e : Event) → track ≤ 65535 → Fits e.kind → length (record_line w (event_record track e)) + 1 ≤ cost w (event (name_of e.kind)) (length (values_of e.kind).body)
unfolding event_record shape
line_bound w track e h f = let r = rowed e.kind f in record_cost w (event_record track e) h r.columns r.tail

pub event_bound : (w : Form) (track prev force : ℕ) (e : Event) (s : Spelling) → track ≤ 65535 → Fits e.kind → Permitted prev force e s
    → length (record_line w (event_record track e)) + 1 ≤ most w (length (lay_event prev e s))
unfolding lay_event
event_bound w track prev force e s h f p =
    let c = line_bound w track e h f in
    let g = enough w e.kind f in
    more_bound w {a = fewest (frame e.kind)} (omega (arith, c, g)) (simp length-append (omega (arith, fewest_laid force (frame e.kind) s.rest p.rest, vlq_size s.delta (e.time - prev))))

-- ---- a track, the tracks, a piece

pub texts_append : (w : Form) (rs qs : List Record) → records_text w (rs ++ qs) ≡ records_text w rs ++ records_text w qs
unfolding records_text
texts_append w [] qs = refl
texts_append w (r ∷ rs) qs =
    ap (λ z. record_line w r ++ (10 ∷ z)) (texts_append w rs qs) ∙ sym (append_assoc (record_line w r) (10 ∷ records_text w rs) (records_text w qs))

pub texts_length : (w : Form) (rs qs : List Record) → length (records_text w (rs ++ qs)) ≡ length (records_text w rs) + length (records_text w qs)
texts_length w rs qs = ap length (texts_append w rs qs) ∙ length-append (records_text w rs) (records_text w qs)

pub last_length : (w : Form) (r : Record) → length (records_text w (r ∷ [])) ≡ length (record_line w r) + 1
unfolding records_text
last_length w r = simp length-append (omega arith)

-- after End_track there is no event
pub rest_bound : (w : Form) (b : Bool) (track prev : ℕ) (es : List Event) (ss : List Spelling) (P : Type 0) → Ends b es P
    → (P → length (records_text w (event_records track es)) ≤ most w (length (lay_events prev es ss))) → length (records_text w (event_records track es)) ≤ most w (length (lay_events prev es ss))
unfolding Ends event_records records_text
rest_bound w true track prev es ss P n f = rw n (omega arith)
rest_bound w false track prev es ss P n f = f n

pub events_bound : (w : Form) (track prev force : ℕ) (es : List Event) (ss : List Spelling) → track ≤ 65535 → LawfulEvents prev es → PermittedEvents prev force es ss
    → length (records_text w (event_records track es)) ≤ most w (length (lay_events prev es ss))
unfolding LawfulEvents PermittedEvents event_records records_text lay_events
events_bound w track prev force [] ss h l p = absurd l
events_bound w track prev force (e ∷ es) [] h l p = absurd p
events_bound w track prev force (e ∷ es) (s ∷ ss) h l p =
    let one = event_bound w track prev force e s h l.0.fits p.0 in
    let rest = rest_bound w (is_end e.kind) track e.time es ss _ l.1 (λ q. events_bound w track e.time (after (frame e.kind)) es ss h q p.1) in
    simp length-append (omega (arith, sum_bound w (length (lay_event prev e s)) (length (lay_events e.time es ss)) one rest))

gap_small : (w : Form) → gap_cost w ≤ 2
unfolding gap_cost
gap_small as_text = omega arith
gap_small as_sheet = omega arith

start_bound : (w : Form) (n : ℕ) → n ≤ 65535 → length (record_line w (mark start_track n)) + 1 ≤ 100
unfolding cost gap_cost spelled shape columns_cost tail_cost InColumns InTail
start_bound w n h = omega (arith, record_cost w (mark start_track n) h tt refl, gap_small w)

end_bound : (w : Form) → length (record_line w (mark end_of_file 0)) + 1 ≤ 100
unfolding cost gap_cost spelled shape columns_cost tail_cost InColumns InTail
end_bound w = omega (arith, record_cost w (mark end_of_file 0) (omega arith) tt refl, gap_small w)

pub header_bound : (w : Form) (p : Piece) → LawfulPiece p → length (record_line w (header_record p)) + 1 ≤ 100
unfolding cost gap_cost spelled shape columns_cost column_cost tail_cost decimal digits_of pick header_record InTail
header_bound w p l = omega (arith, record_cost w (header_record p) (omega arith) (header_rowed p l) refl, gap_small w)

pub tracks_bound : (w : Form) (n : ℕ) (ts : List (List Event)) (ss : List TrackSpelling) → n + length ts ≤ 65536 → LawfulTracks ts → PermittedTracks ts ss
    → length (records_text w (track_records n ts)) ≤ most w (length (lay_tracks ts ss))
unfolding LawfulTracks PermittedTracks track_records records_text lay_tracks lay_track lay_chunk
tracks_bound w n [] ss h l p = zero-le
tracks_bound w n (t ∷ ts) [] h l p = absurd p
tracks_bound w n (t ∷ ts) (s ∷ ss) h l p =
    let head = short_bound w (start_bound w n (omega arith)) in
    let one = events_bound w n 0 no_status t s.events (omega arith) l.0 p.0 in
    let rest = tracks_bound w (suc n) ts ss (omega arith) l.1 p.2 in
    let all = more_bound w {b = length (lay_tracks (t ∷ ts) (s ∷ ss))} (sum_bound w (7 + length (lay_events 0 t s.events)) (length (lay_tracks ts ss)) (sum_bound w 7 (length (lay_events 0 t s.events)) head one) rest) (simp (length-append, length_big_endian) (omega arith)) in
    let size = length-append (record_line w (mark start_track n)) (10 ∷ records_text w (event_records n t ++ track_records (suc n) ts)) in
    omega (arith, all, size, texts_length w (event_records n t) (track_records (suc n) ts))

-- of any layout of the piece, and so of any accepted file
pub written_bound : (w : Form) (f : List ℕ) (p : Piece) → LaidOut f p → length (written_as w p) ≤ most w (length f)
unfolding written_as piece_records records_text lay_piece lay_header lay_division
written_bound w f p l =
    let good = l.has.lawful in
    let a = short_bound w (header_bound w p good) in
    let b = tracks_bound w 1 p.tracks l.spelling.tracks (omega (arith, good.few)) good.tracks l.has.permitted.tracks in
    let c = texts_length w (track_records 1 p.tracks) (mark end_of_file 0 ∷ []) in
    let d = last_length w (mark end_of_file 0) in
    let e : length (written_as w p) ≡ length (record_line w (header_record p)) + suc (length (records_text w (track_records 1 p.tracks ++ (mark end_of_file 0 ∷ [])))) = length-append (record_line w (header_record p)) _ in
    let few : length (lay_tracks p.tracks l.spelling.tracks) + 14 ≤ length f = rw (← l.bytes) (simp (length-append, length_big_endian) (omega arith)) in
    let ends = sum_bound w 7 7 a (short_bound w (end_bound w)) in
    let all = more_bound w {b = length f} (sum_bound w 14 (length (lay_tracks p.tracks l.spelling.tracks)) ends b) (omega (arith, few)) in
    omega (arith, all, c, d, e)
