-- The bytes of the records so far, with one event more, one track more, and at the end.
use mathlib.Core.Path.{◌≡◌, refl, sym, ap, ◌∙◌}
use Prim.Native.Nat.{ℕ}
use mathlib.Core.List.{List, [], ◌∷◌, ◌++◌, append_assoc, append-nil}
use lib.ListN.{length}
use Rattle.event.specs.Bytes.{big_endian, bytes_onto}
use Rattle.event.specs.Event.{Event}
use Rattle.event.specs.Frame.{frame, after, no_status}
use Rattle.event.specs.Layout.{lay_event}
use Rattle.event.specs.Manner.{Manner, spell_event}
use Rattle.smf.specs.Division.{Division}
use Rattle.smf.specs.Piece.{Header}
use Rattle.smf.specs.Chunk.{track_tag}
use Rattle.smf.specs.Layout.{lay_chunk, lay_chunks, lay_events, lay_track, lay_tracks, lay_division, lay_header, lay_piece}
use Rattle.smf.specs.Manner.{spell_events, spell_tracks, spelling, file_of}
use Rattle.smf.specs.Step.{last_time}
use Rattle.midicsv.specs.Order.{between, inside, finished}
use Rattle.midicsv_read.specs.Progress.{last_force, events_bytes, tracks_bytes, between_bytes, front_bytes, bytes_of}

-- ---- one event more

pub last_time_lem : (prev : ℕ) (es : List Event) (e : Event) → last_time prev (es ++ (e ∷ [])) ≡ e.time
unfolding last_time
last_time_lem prev [] e = refl
last_time_lem prev (x ∷ es) e = last_time_lem x.time es e

pub last_force_lem : (force : ℕ) (es : List Event) (e : Event) → last_force force (es ++ (e ∷ [])) ≡ after (frame e.kind)
unfolding last_force
last_force_lem force [] e = refl
last_force_lem force (x ∷ es) e = last_force_lem (after (frame x.kind)) es e

events_from : (m : Manner) (prev force : ℕ) (es : List Event) (e : Event)
    → lay_events prev (es ++ (e ∷ [])) (spell_events m prev force (es ++ (e ∷ [])))
    ≡ lay_events prev es (spell_events m prev force es) ++ lay_event (last_time prev es) e (spell_event m (last_time prev es) (last_force force es) e)
unfolding lay_events spell_events last_time last_force
events_from m prev force [] e = append-nil _
events_from m prev force (x ∷ es) e =
    ap (λ z. lay_event prev x (spell_event m prev force x) ++ z) (events_from m x.time (after (frame x.kind)) es e)
    ∙ sym (append_assoc (lay_event prev x (spell_event m prev force x)) _ _)

pub inside_more : (m : Manner) (h : Header) (ts : List (List Event)) (es : List Event) (prev p : ℕ) (e : Event)
    → bytes_of m (inside h ts (es ++ (e ∷ [])) p)
    ≡ bytes_of m (inside h ts es prev) ++ lay_event (last_time 0 es) e (spell_event m (last_time 0 es) (last_force no_status es) e)
unfolding bytes_of events_bytes
inside_more m h ts es prev p e =
    ap (λ z. front_bytes m h ts ++ (big_endian 4 0 ++ z)) (events_from m 0 no_status es e)
    ∙ ap (λ z. front_bytes m h ts ++ z) (sym (append_assoc (big_endian 4 0) (lay_events 0 es (spell_events m 0 no_status es)) _))
    ∙ sym (append_assoc (front_bytes m h ts) (big_endian 4 0 ++ lay_events 0 es (spell_events m 0 no_status es)) _)

-- ---- one track more

header_onto : (format count : ℕ) (d : Division) (xs ys : List ℕ) → lay_header format count d [] (xs ++ ys) ≡ lay_header format count d [] xs ++ ys
unfolding lay_header lay_division big_endian bytes_onto
header_onto format count d xs ys = refl

tracks_more : (m : Manner) (ts : List (List Event)) (t : List Event)
    → tracks_bytes m (ts ++ (t ∷ [])) ≡ tracks_bytes m ts ++ (big_endian 4 track_tag ++ (big_endian 4 (length (events_bytes m t)) ++ events_bytes m t))
unfolding tracks_bytes events_bytes lay_tracks spell_tracks lay_track lay_chunk lay_chunks
tracks_more m [] t = append-nil _
tracks_more m (u ∷ ts) t =
    ap (λ z. lay_track u (spell_events m 0 no_status u) ++ z) (tracks_more m ts t)
    ∙ sym (append_assoc (lay_track u (spell_events m 0 no_status u)) _ _)

pub between_more : (m : Manner) (h : Header) (ts : List (List Event)) (t : List Event)
    → bytes_of m (between h (ts ++ (t ∷ []))) ≡ front_bytes m h ts ++ (big_endian 4 (length (events_bytes m t)) ++ events_bytes m t)
unfolding bytes_of between_bytes front_bytes
between_more m h ts t =
    ap (lay_header h.format h.count h.division []) (tracks_more m ts t)
    ∙ header_onto h.format h.count h.division (tracks_bytes m ts) _
    ∙ sym (append_assoc (lay_header h.format h.count h.division [] (tracks_bytes m ts)) (big_endian 4 track_tag) _)

-- ---- at the end

pub finished_same : (m : Manner) (h : Header) (ts : List (List Event)) → length ts ≡ h.count
    → bytes_of m (finished (record { format = h.format; division = h.division; tracks = ts })) ≡ bytes_of m (between h ts)
unfolding bytes_of between_bytes tracks_bytes file_of lay_piece spelling lay_chunks
finished_same m h ts e = rw (e, append-nil (lay_tracks ts (spell_tracks m ts))) refl
