-- The placed events of a file that is accepted: they are its piece's events, and each is read at its place in the file itself, so that
-- no part of the file need be cut out and no end be known.
use Rattle.std.specs.Prelude.{Result, Ok, Err}
use Rattle.event.specs.declared.EventRead.{EventRead}
use Rattle.smf.specs.declared.Chunk.{Chunk}
use mathlib.Core.Path.{◌≡◌, refl, sym, ap, ap₂, ◌∙◌, subst}
use Prim.Native.Nat.{ℕ, zero, suc, ◌+◌, ◌-◌, ◌≤◌, ◌<◌}
use mathlib.Core.Bool.{Bool, true, false}
use mathlib.Core.List.{List, [], ◌∷◌, ◌++◌, append_assoc}
use native.Mathlib.Omega.{arith}
use lib.ListN.{length, take, drop, take-append-drop, length-drop}
use lib.Seq.{drop-append-le, drop-drop, length-take-le}
use Rattle.event.specs.Bytes.{Bytes}
use Rattle.event.specs.Event.{Event, is_end}
use Rattle.event.specs.Frame.{frame, after, no_status}
use Rattle.event.specs.Layout.{lay_event}
use Rattle.event.specs.Outcome.{ok, Readable, value_or}
use Rattle.event.specs.Reader.{read_event}
use Rattle.event.specs.Padding.{event_padding}
use Rattle.event.specs.Step.{event_step, end_of}
use Rattle.event.specs.declared.Time.{Time}
use Rattle.event.specs.declared.EventKind.{EventKind}
use Rattle.event.proofs.ChoiceLaws.{by_test}
use Rattle.event.proofs.BytesLaws.{bytes_drop, bytes_take}
use Rattle.event.proofs.EventLaws.{event_read, event_sound}
use Rattle.event.proofs.PlaceLaws.{place_back}
use Rattle.smf.specs.Piece.{LawfulEvents, Ends}
use Rattle.smf.specs.Reader.{read_all, read_chunk, read_header}
use Rattle.smf.specs.Step.{chunk_step, header_step}
use Rattle.smf.specs.Walk.{Placed, events_of, tracks_of, walked_body, placed_of}
use Rattle.smf.specs.PlacedFile.{found_track, placed_tracks, placed_after, placed_file}
use Rattle.smf.specs.Code.Chain.{Link, Tail, Chain, placed_from}
use Rattle.smf.specs.declared.Division.{Division}
use Rattle.smf.proofs.CameLaws.{Came, event_came}
use Rattle.smf.proofs.ChunkLaws.{chunk_body}
use Rattle.smf.proofs.ListLaws.{R, none_left}
use Rattle.smf.proofs.TurnLaws.{A, turn_stop, turn_next, turn_end, tracks_stop, TrackTurn, turn_track}
use Rattle.smf.proofs.VerdictLaws.{head_at}
use Rattle.smf.proofs.WalkedLaws.{Met, met_all, here, met_next, met_end}

-- ---- such events are lawful

tail_ends : (b : Bool) (es : List Placed) (P Q : Type 0) → (P → Q) → Tail b es P → Ends b (events_of es) Q
unfolding Tail Ends
tail_ends true es P Q f h = ap events_of h
tail_ends false es P Q f h = f h

pub chain_lawful : (f : List ℕ) (at prev force : ℕ) (es : List Placed) → Bytes f → Chain f at prev force es → LawfulEvents prev (events_of es)
unfolding Chain LawfulEvents
chain_lawful f at prev force [] bs c = absurd c
chain_lawful f at prev force (e ∷ es) bs c =
    let laid = event_sound prev force (drop at f) e.event (drop e.next f) (bytes_drop f at bs) c.0.come in
    (laid.lawful, tail_ends (is_end e.event.kind) es _ _ (λ z. chain_lawful f e.next e.event.time (after (frame e.event.kind)) es bs z) c.1)

-- ---- a part of a file: more bytes after an event do not change it

read_on : (t force : ℕ) (l : List ℕ) (e : Event) (r z : List ℕ) → Bytes l → read_event t force l ≡ ok e r → read_event t force (l ++ z) ≡ ok e (r ++ z)
read_on t force l e r z bs h =
    let laid = event_sound t force l e r bs h in
    ap (λ x. read_event t force (x ++ z)) laid.bytes ∙ ap (read_event t force) (append_assoc (lay_event t e laid.spelling) r z)
    ∙ event_read t force e laid.spelling (r ++ z) laid.lawful laid.permitted

part_drop : (f : List ℕ) (a b at : ℕ) → a ≤ b → b ≤ length f → at ≤ b - a → drop at (take (b - a) (drop a f)) ++ drop b f ≡ drop (a + at) f
part_drop f a b at h g k =
    let size : length (take (b - a) (drop a f)) ≡ b - a = length-take-le (b - a) (drop a f) (omega (arith, length-drop a f)) in
    let past : a + (b - a) ≡ b = omega arith in
    let end : drop (b - a) (drop a f) ≡ drop b f = drop-drop (b - a) a f ∙ ap (λ n. drop n f) past in
    let inner : at ≤ length (take (b - a) (drop a f)) = omega (arith, size) in
    ap (λ z. drop at (take (b - a) (drop a f)) ++ z) (sym end)
    ∙ sym (drop-append-le at (take (b - a) (drop a f)) (drop (b - a) (drop a f)) inner)
    ∙ ap (drop at) (take-append-drop (b - a) (drop a f))
    ∙ drop-drop at a f

module _ (f : List ℕ) (bs : Bytes f) (a b : ℕ) (order : a ≤ b) (end : b ≤ length f) where
  abbrev Part : List ℕ
  Part = take (b - a) (drop a f)

  part_size : length Part ≡ b - a
  part_size = length-take-le (b - a) (drop a f) (omega (arith, length-drop a f))

  part_bytes : Bytes Part
  part_bytes = bytes_take (drop a f) (b - a) (bytes_drop f a bs)

  -- an event of the part, in the file
  link_on : (at t force : ℕ) (u : Time) (k : EventKind) (q st : ℕ) → at ≤ length Part → (c : Came Part at t force u k q st) → Link f (a + at) t force (here a part_bytes c)
  link_on at t force u k q st h c =
      let now = part_drop f a b at order end (omega (arith, part_size)) in
      let then = part_drop f a b q order end (omega (arith, part_size, c.inside)) in
      record {
        place = refl;
        come =
            ap (read_event t force) (sym now) ∙ read_on t force (drop at Part) c.event (drop q Part) (drop b f) (bytes_drop Part at part_bytes) c.come
            ∙ ap (ok c.event) then;
        later = omega (arith, c.later);
        inside = omega (arith, c.inside, part_size);
      }

  -- what is met in a track's body from a place on makes a chain in the file, and its events are those that are read
  record Stands (at t force : ℕ) (es : List Placed) : Type 0 where
    pub chain : Chain f (a + at) t force es
    pub events : events_of es ≡ value_or [] (A Part at t force)

  stands : (n at t force : ℕ) (x : Result EventRead ℕ) → length Part - at < n → at ≤ length Part → Readable (A Part at t force) → x ≡ event_step (length Part) (event_padding (drop at Part)) (read_event t force (drop at Part)) → Stands at t force (Met Part a at t force)
  unfolding Chain Tail
  stands zero at t force x fuel h good e = absurd (omega arith)
  stands (suc n) at t force (Ok x) fuel h good e =
      let c = event_came Part at t force part_bytes h e refl in
      let link = link_on at t force x.next.time x.kind x.next.place x.next.status h c in
      by_test (end_of x.kind)
      (λ last.
      rw (met_end a part_bytes c last)
      (record { chain = (link, rw (sym c.ends ∙ last) refl); events = sym (turn_end part_bytes c good last) }))
      (λ last.
      let next = turn_next part_bytes c good last in
      let rest = stands n x.next.place x.next.time.0 x.next.status _ (omega (arith, c.later, c.inside)) c.inside next.0 refl in
      rw (met_next a part_bytes c last)
      (record {
        chain = (link, rw (sym c.ends ∙ last, c.time, c.status) rest.chain);
        events = ap (λ z. c.event ∷ z) rest.events ∙ sym next.1;
      }))
  stands (suc n) at t force (Err k) fuel h good e = absurd (turn_stop Part at t force part_bytes e refl good)

-- ---- the tracks of a file: so many from the place at on

-- of one more track: its events, and those of the others
pub record TrackPlaced (f : List ℕ) (left n at a b : ℕ) (es : List Placed) : Type 0 where
  pub turn : TrackTurn f left n at a b
  pub all : placed_from f left at ≡ es ∷ placed_from f n b
  pub chain : Chain f a 0 no_status es
  pub events : events_of es ≡ value_or [] (read_all 0 0 0 (take (b - a) (drop a f)))
  pub order : a ≤ b
  pub inside : b ≤ length f

placed_step : (f : List ℕ) (n at a b : ℕ) → Bytes f → at ≤ length f → chunk_step (length f) (read_chunk at (drop at f)) ≡ Ok (record { start = a; end = b })
    → placed_from f (suc n) at ≡ placed_of (walked_body a (take (b - a) (drop a f))) ∷ placed_from f n b
unfolding placed_tracks found_track
placed_step f n at a b bs h e =
    let there = chunk_body f at a b bs e in
    let size : length (take (b - a) (drop a f)) ≡ b - a = length-take-le (b - a) (drop a f) (omega (arith, length-drop a f, there.inside, there.order)) in
    let begin : length f - length (drop b f) - length (take (b - a) (drop a f)) ≡ a = omega (arith, length-drop b f, size, there.inside, there.order) in
    rw (place_back f at h, there.read, begin) refl

pub track_placed : (f : List ℕ) (left n at a b : ℕ) → left ≡ suc n → Bytes f → chunk_step (length f) (read_chunk at (drop at f)) ≡ Ok (record { start = a; end = b }) → Readable (R f left at)
    → TrackPlaced f left n at a b (placed_of (walked_body a (take (b - a) (drop a f))))
track_placed f left n at a b q bs e good =
    let there = chunk_body f at a b bs e in
    let turn = turn_track f left n at a b q bs e good in
    let part : List ℕ = take (b - a) (drop a f) in
    let zero-place : a + 0 ≡ a = omega arith in
    let m = stands f bs a b there.order there.inside (suc (length part)) 0 0 no_status _ (omega arith) (omega arith) turn.body refl in
    rw (← met_all part a)
    (record {
      turn = turn;
      all = rw (q, met_all part a) (placed_step f n at a b bs (omega (arith, there.begins, there.order, there.inside)) e);
      chain = subst (λ z. Chain f z 0 no_status (Met part a 0 0 no_status)) zero-place m.chain;
      events = m.events;
      order = there.order;
      inside = there.inside;
    })

-- the events of the tracks are those that are read
tracks_with : (f : List ℕ) (n at : ℕ) (x : Result Chunk (ℕ × ℕ)) → Bytes f → x ≡ chunk_step (length f) (read_chunk at (drop at f)) → Readable (R f (suc n) at)
    → ((b : ℕ) → Readable (R f n b) → tracks_of (placed_from f n b) ≡ value_or [] (R f n b)) → tracks_of (placed_from f (suc n) at) ≡ value_or [] (R f (suc n) at)
tracks_with f n at (Ok c) bs e good rest =
    let m = track_placed f (suc n) n at c.start c.end refl bs (sym e) good in
    ap tracks_of m.all ∙ ap₂ (λ x y. x ∷ y) m.events (rest c.end m.turn.rest) ∙ sym m.turn.all
tracks_with f n at (Err (k, p)) bs e good rest = absurd (tracks_stop f (suc n) at k p (omega arith) (sym e) good)

pub tracks_placed : (f : List ℕ) (n at : ℕ) → Bytes f → Readable (R f n at) → tracks_of (placed_from f n at) ≡ value_or [] (R f n at)
unfolding placed_tracks
tracks_placed f zero at bs good = sym (none_left f zero at (omega arith))
tracks_placed f (suc n) at bs good = tracks_with f n at _ bs refl good (λ b g. tracks_placed f n b bs g)

-- and those of the file are those of the tracks that its header counts
pub file_placed : (f : List ℕ) (a b : ℕ) (d : Division) (n : ℕ) → Bytes f → header_step (length f) (read_header f) ≡ Ok (record { format = a; count = b; division = d; next = n }) → placed_file f ≡ placed_from f b n
unfolding placed_file placed_after
file_placed f a b d n bs e = let there = head_at f a b d n bs e in rw (there.read, there.same_count) refl
