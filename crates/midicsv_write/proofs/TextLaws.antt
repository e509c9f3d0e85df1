-- A file's own events and tracks as lines: the turns of the loops over them, and the text of the whole.
use Rattle.std.specs.Prelude.{Ok}
use mathlib.Core.Path.{◌≡◌, sym, ap, ap₂, ◌∙◌}
use Prim.Native.Nat.{ℕ, suc, ◌+◌, ◌-◌, ◌≤◌}
use mathlib.Core.List.{List, [], ◌∷◌, ◌++◌, append_assoc}
use native.Mathlib.Omega.{arith}
use native.Mathlib.Numerals.{add-one}
use lib.ListN.{length, take, drop, length-append}
use Rattle.event.specs.Bytes.{Bytes}
use Rattle.event.specs.Event.{Event}
use Rattle.event.specs.Outcome.{Readable, value_or}
use Rattle.event.specs.declared.Time.{Time}
use Rattle.event.specs.declared.EventKind.{EventKind}
use Rattle.event_write.proofs.WriteLaws.{Remains}
use Rattle.smf.specs.Layout.{lay_tracks}
use Rattle.smf.specs.Reader.{read_all, read_header}
use Rattle.smf.specs.PieceRead.{piece_read}
use Rattle.smf.specs.Division.{bits}
use Rattle.smf.specs.Step.{division_from, header_step}
use Rattle.smf.specs.declared.Division.{Division}
use Rattle.smf.proofs.FileLaws.{file_sound}
use Rattle.smf.proofs.ListLaws.{R, none_left, Accepted}
use Rattle.smf.proofs.CameLaws.{Came}
use Rattle.smf.proofs.TurnLaws.{A, events_laid, TrackTurn, tracks_laid}
use Rattle.smf.proofs.AcceptedLaws.{headed}
use Rattle.midicsv.specs.Show.{Form}
use Rattle.midicsv.specs.Table.{start_track, end_of_file}
use Rattle.midicsv.specs.Record.{Record, record_line}
use Rattle.midicsv.specs.Text.{mark, event_record, event_records, track_records, header_record, piece_records, records_text, written_as, most}
use Rattle.midicsv.proofs.BoundLaws.{more_bound, texts_append, events_bound, tracks_bound}
use Rattle.midicsv_write.specs.Line.{event_from, line, header_for}

lines_cons : (w : Form) (r : Record) (rs : List Record) → records_text w (r ∷ rs) ≡ line w r ++ records_text w rs
unfolding records_text
lines_cons w r rs = sym (append_assoc (record_line w r) (10 ∷ []) (records_text w rs))

-- ---- the loop over a track's events: the body's bytes from the place at on

abbrev pub EventsLeft : Form → ℕ → List ℕ → ℕ → ℕ → ℕ → List ℕ
EventsLeft w track s at t f = records_text w (event_records track (value_or [] (A s at t f)))

module _ (w : Form) (track : ℕ) {s : List ℕ} {at t f : ℕ} {u : Time} {k : EventKind} {q st : ℕ} (c : Came s at t f u k q st) where
  same_event : c.event ≡ event_from u s k
  same_event = ap₂ (λ x y. record { time = x; kind = y }) c.time (sym c.there)

  pub next_line : value_or [] (A s at t f) ≡ c.event ∷ value_or [] (A s q u.0 st)
      → EventsLeft w track s at t f ≡ line w (event_record track (event_from u s k)) ++ EventsLeft w track s q u.0 st
  unfolding event_records
  next_line all =
      ap (λ z. records_text w (event_records track z)) all
      ∙ lines_cons w (event_record track c.event) _
      ∙ ap (λ e. line w (event_record track e) ++ EventsLeft w track s q u.0 st) same_event

  pub last_line : value_or [] (A s at t f) ≡ c.event ∷ [] → EventsLeft w track s at t f ≡ line w (event_record track (event_from u s k))
  unfolding event_records
  last_line all = ap (λ z. records_text w (event_records track z)) all ∙ ap (λ e. line w (event_record track e)) same_event

pub events_few : (w : Form) (track : ℕ) (s : List ℕ) (at t f : ℕ) → track ≤ 65535 → Bytes s → Readable (A s at t f) → length (EventsLeft w track s at t f) ≤ most w (length (drop at s))
events_few w track s at t f h bs g =
    let laid = events_laid s at t f bs g in
    let all = events_bound w track t f (value_or [] (A s at t f)) laid.spelling h laid.lawful laid.permitted in
    more_bound w all (omega (arith, ap length laid.bytes))

-- ---- the loop over the tracks: so many from the place at on, the first of them numbered n

abbrev pub TracksLeft : Form → ℕ → List ℕ → ℕ → ℕ → List ℕ
TracksLeft w n s left at = records_text w (track_records n (value_or [] (R s left at)))

pub track_left : (w : Form) (n : ℕ) (s : List ℕ) (left m at a b : ℕ) → TrackTurn s left m at a b
    → TracksLeft w n s left at ≡ records_text w (mark start_track n ∷ event_records n (value_or [] (read_all 0 0 0 (take (b - a) (drop a s))))) ++ TracksLeft w (n + 1) s m b
unfolding track_records
track_left w n s left m at a b turn =
    rw (add-one n) (ap (λ z. records_text w (track_records n z)) turn.all
    ∙ texts_append w (mark start_track n ∷ event_records n (value_or [] (read_all 0 0 0 (take (b - a) (drop a s))))) (track_records (suc n) (value_or [] (R s m b))))

pub no_tracks_left : (w : Form) (n : ℕ) (s : List ℕ) (left at : ℕ) → left ≤ 0 → TracksLeft w n s left at ≡ []
unfolding track_records records_text
no_tracks_left w n s left at h = ap (λ z. records_text w (track_records n z)) (none_left s left at h)

pub tracks_few : (w : Form) (n : ℕ) (s : List ℕ) (left at : ℕ) → n + left ≤ 65536 → Bytes s → Readable (R s left at) → length (TracksLeft w n s left at) ≤ most w (length (drop at s))
tracks_few w n s left at h bs g =
    let (r, laid) = tracks_laid s left at bs g in
    let ts : List (List Event) = value_or [] (R s left at) in
    let all = tracks_bound w n ts laid.spelling (omega (arith, laid.count)) laid.lawful laid.permitted in
    more_bound w all (omega (arith, ap length laid.bytes, length-append (lay_tracks ts laid.spelling) r))

-- before the track so numbered, with left tracks to come
pub record TracksGoing (w : Form) (s : List ℕ) (count first from : ℕ) (old out : List ℕ) (next at track : ℕ) : Type 0 where
  pub left : ℕ
  pub numbered : left + track ≡ suc count
  pub inside : at ≤ length s
  pub readable : Readable (R s left at)
  pub remains : Remains old from (TracksLeft w 1 s count first) out next (TracksLeft w track s left at)

-- Start_track and the events
pub track_lines : (w : Form) (n : ℕ) (es : List Event) → records_text w (mark start_track n ∷ event_records n es) ≡ line w (mark start_track n) ++ records_text w (event_records n es)
track_lines w n es = lines_cons w (mark start_track n) (event_records n es)

-- ---- the text of the file's piece, as the code writes it

pub text_lines : (w : Form) (s : List ℕ) (a b : ℕ) (d : Division) (n : ℕ) → Bytes s → header_step (length s) (read_header s) ≡ Ok (record { format = a; count = b; division = d; next = n }) → Accepted s b n
    → written_as w (piece_read s) ≡ line w (header_for a b (bits (division_from d))) ++ (TracksLeft w 1 s b n ++ line w (mark end_of_file 0))
unfolding written_as piece_records header_record value_or
text_lines w s a b d n bs e there =
    let p = there.piece in
    let head = headed s a b d n bs e there in
    let same : header_record p ≡ header_for a b (bits (division_from d)) = ap₂ (λ x y. header_for x y (bits p.division)) head.format there.count ∙ ap (λ x. header_for a b (bits x)) head.division in
    let tracks : records_text w (track_records 1 p.tracks) ≡ TracksLeft w 1 s b n = ap (λ z. records_text w (track_records 1 (value_or [] z))) (sym there.tracks) in
    ap (written_as w) head.same
    ∙ lines_cons w (header_record p) _
    ∙ ap₂ (λ x y. line w x ++ y) same (texts_append w (track_records 1 p.tracks) (mark end_of_file 0 ∷ []) ∙ ap (λ z. z ++ line w (mark end_of_file 0)) tracks)

pub tracks_counted : (s : List ℕ) (b n : ℕ) → Bytes s → Accepted s b n → b ≤ 65535
tracks_counted s b n bs there =
    let (laid, short) = file_sound s there.piece there.rest bs there.read in
    omega (arith, there.count, laid.laid.has.lawful.few)
