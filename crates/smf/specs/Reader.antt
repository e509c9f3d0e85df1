-- Reading a file, with the refusals of documents 01 and 02, their places and their order.
use Rattle.std.specs.Prelude.{ℕ, zero, suc, ◌+◌, ◌-◌, Bool, true, false, not, ◌&&◌, List, [], ◌∷◌, length, take, drop, leb, eqb}
use Rattle.event.specs.Choice.{pick}
use Rattle.event.specs.Outcome.{Outcome, ok, refused, and_then, check, placed}
use Rattle.event.specs.Event.{Event, is_end}
use Rattle.event.specs.Frame.{frame, after, no_status}
use Rattle.event.specs.Reader.{read_number, read_event}
use Rattle.smf.specs.Division.{division_of, division_ok}
use Rattle.smf.specs.Piece.{Piece, Header, tracks_fit}
use Rattle.smf.specs.Chunk.{header_tag, track_tag, Chunk}

-- ---- the events of a track

-- 12: "bytes after End_track in the track", at the "first such byte"
unfoldable pub ended : ℕ → Event → List ℕ → Outcome (List Event)
ended at e [] = ok (e ∷ []) []
ended at e (b ∷ r) = refused 12 at

-- the event e, End_track or not, then what follows it
unfoldable pub go_on : Bool → ℕ → Event → List ℕ → Outcome (List Event) → Outcome (List Event)
go_on true at e r k = ended at e r
go_on false at e r k = and_then k (λ es q. ok (e ∷ es) q)

-- the events from the place `at` on, after the Time prev, with the status force in force; n is more than there are events
-- (it never shows: events_fuel, all_step). A refusal's place is the event: "the first byte of its delta"
unfoldable pub read_events : ℕ → ℕ → ℕ → ℕ → List ℕ → Outcome (List Event)
read_events zero at prev force l = refused 6 at
read_events (suc n) at prev force l =
    and_then (placed at (read_event prev force l)) (λ e r.
    let next : ℕ = at + (length l - length r) in
    go_on (is_end e.kind) next e r (read_events n next e.time (after (frame e.kind)) r))

-- every event takes a byte, so one more than the bytes is enough
unfoldable pub read_all : ℕ → ℕ → ℕ → List ℕ → Outcome (List Event)
read_all at prev force l = read_events (suc (length l)) at prev force l

-- ---- chunks

-- what a chunk begins with: its tag and the number of its bytes
pub record Head : Type 0 where
  pub tag : ℕ
  pub size : ℕ

-- 2: "under 8 left where a track must begin", and after the last track "1 to 7 left bytes"
unfoldable pub read_head : ℕ → List ℕ → Outcome Head
read_head at l =
    check (leb 8 (length l)) 2 at
    (and_then (read_number 4 l) (λ tag l1.
    and_then (read_number 4 l1) (λ n l2. ok (record { tag = tag; size = n }) l2)))

-- the bytes of the next track's events, and what follows its chunk; chunks with other tags are passed over. "2 takes any chunk's
-- length"; n is more than there are chunks (it never shows: find_fuel)
unfoldable pub find_track : ℕ → ℕ → List ℕ → Outcome (List ℕ)
find_track zero at l = refused 2 at
find_track (suc n) at l =
    and_then (read_head at l) (λ h r.
    check (leb h.size (length r)) 2 at
    (pick (eqb h.tag track_tag) (ok (take h.size r) (drop h.size r)) (find_track n (at + 8 + h.size) (drop h.size r))))

-- every chunk takes eight bytes at least
unfoldable pub read_chunk : ℕ → List ℕ → Outcome (List ℕ)
read_chunk at l = find_track (suc (length l)) at l

-- its events: its body stands right before what follows the chunk
unfoldable pub read_track : ℕ → List ℕ → Outcome (List Event)
read_track at l =
    and_then (read_chunk at l) (λ body r.
    and_then (read_all (at + (length l - length r - length body)) 0 no_status body) (λ es q. ok es r))

-- "As many tracks as counted"
unfoldable pub read_tracks : ℕ → ℕ → List ℕ → Outcome (List (List Event))
read_tracks zero at l = ok [] l
read_tracks (suc n) at l =
    and_then (read_track at l) (λ t r.
    and_then (read_tracks n (at + (length l - length r)) r) (λ ts q. ok (t ∷ ts) q))

-- ---- the header: "under 14", then "header tag, length, format, count, division, in that order"

-- "track count 1..65535 (1 for format 0)"; two bytes hold no more than 65535
unfoldable pub count_ok : ℕ → ℕ → Bool
count_ok format n = leb 1 n && tracks_fit format n

-- the header: 2 (under 14), 3 (tag), 3 (length under 6), "next, before the format, 2 at 0 for a header past the end", 3 (format, count,
-- division); "its extra bytes passed over"
unfoldable pub read_header : List ℕ → Outcome Header
read_header f =
    check (leb 14 (length f)) 2 0
    (and_then (read_number 4 f) (λ tag l1. check (eqb tag header_tag) 3 0
    (and_then (read_number 4 l1) (λ size l2. check (leb 6 size) 3 4 (check (leb size (length l2)) 2 0
    (and_then (read_number 2 l2) (λ format l3. check (leb format 2) 3 8
    (and_then (read_number 2 l3) (λ n l4. check (count_ok format n) 3 10
    (and_then (read_number 2 l4) (λ d l5. check (division_ok d) 3 12
    (ok (record { format = format; count = n; division = division_of d }) (drop (size - 6) l5)))))))))))))

-- ---- the whole file

-- after the last track: "1 to 7 left bytes, whatever they are, are 2, a further MTrk is 13, fitting or not, and another chunk that
-- doesn't fit is 2, each at its first byte"; the chunks that are passed over. n is more than there are (it never shows: pass_fuel)
unfoldable pub pass_over : ℕ → ℕ → List ℕ → Outcome (List Chunk)
pass_over zero at l = refused 2 at
pass_over (suc n) at [] = ok [] []
pass_over (suc n) at (b ∷ l) =
    and_then (read_head at (b ∷ l)) (λ h r.
    check (not (eqb h.tag track_tag)) 13 at
    (check (leb h.size (length r)) 2 at
    (and_then (pass_over n (at + 8 + h.size) (drop h.size r)) (λ cs q. ok (record { tag = h.tag; holds = take h.size r } ∷ cs) q))))

-- nothing but such chunks
unfoldable pub read_behind : ℕ → List ℕ → Outcome (List Chunk)
read_behind at l = pass_over (suc (length l)) at l

-- a file of any length
unfoldable pub read_piece : List ℕ → Outcome Piece
read_piece f =
    and_then (read_header f) (λ h l.
    and_then (read_tracks h.count (length f - length l) l) (λ ts r.
    and_then (read_behind (length f - length r) r) (λ cs q. ok (record { format = h.format; division = h.division; tracks = ts }) q)))

-- "file over 1,048,576 bytes"
abbrev pub file_limit : ℕ
file_limit = 1048576

-- "File: 1, 2 (under 14), 3", then the rest
unfoldable pub read_file : List ℕ → Outcome Piece
read_file f = check (leb (length f) file_limit) 1 0 (read_piece f)
