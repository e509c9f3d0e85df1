-- The third list: of the bytes of a layout it is what the spelling says; the count of events_padding never shows; the turns of the loops.
use mathlib.Core.Path.{◌≡◌, refl, sym, ap, ap₂, ◌∙◌}
use Prim.Native.Nat.{ℕ, zero, suc, ◌+◌, ◌-◌, ◌<◌, ◌≤◌}
use mathlib.Core.Bool.{Bool, true, false}
use mathlib.Core.List.{List, [], ◌∷◌, ◌++◌}
use native.Mathlib.Omega.{arith}
use lib.ListN.{length, drop, length-drop}
use Rattle.event.specs.Bytes.{Bytes}
use Rattle.event.specs.Choice.{pick}
use Rattle.event.specs.Event.{Event, is_end}
use Rattle.event.specs.Frame.{frame, after, no_status}
use Rattle.event.specs.Spelling.{Spelling}
use Rattle.event.specs.Outcome.{ok, and_then, value_or}
use Rattle.event.specs.Reader.{read_event}
use Rattle.event.specs.Padding.{event_padding}
use Rattle.event.specs.Step.{end_of}
use Rattle.event.specs.declared.Time.{Time}
use Rattle.event.specs.declared.EventKind.{EventKind}
use Rattle.event.proofs.BytesLaws.{bytes_drop}
use Rattle.smf.proofs.CameLaws.{Came}
use Rattle.event.proofs.OutcomeLaws.{ok_same, and_then_ok, and_then_same}
use Rattle.event.proofs.EventLaws.{event_read, event_shorter}
use Rattle.event.proofs.PaddingLaws.{event_told, padding_within}
use Rattle.smf.specs.Piece.{Piece, Header, Ends, LawfulEvents, LawfulTracks}
use Rattle.smf.specs.Spelling.{TrackSpelling, PieceSpelling, PermittedEvents, PermittedTracks}
use Rattle.smf.specs.Layout.{lay_events, lay_chunks, lay_track, lay_tracks, lay_piece, ShortTracks, HasLayout}
use Rattle.smf.specs.Reader.{read_all, read_chunk, read_track}
use Rattle.smf.specs.Padding.{spelled_sum, spelled_sums, events_padding, all_padding, track_padding, tracks_padding, paddings}
use Rattle.smf.proofs.TrackLaws.{events_size}
use Rattle.smf.proofs.PassedLaws.{chunk_read}
use Rattle.smf.proofs.FileLaws.{LawfulHeader, track_split, header_read}

-- ---- the count never shows

padding_fuel : (n m prev force : ℕ) (l : List ℕ) → Bytes l → length l < n → length l < m → events_padding n prev force l ≡ events_padding m prev force l
unfolding events_padding
padding_fuel zero m prev force l bs hn hm = absurd (omega arith)
padding_fuel (suc n) zero prev force l bs hn hm = absurd (omega arith)
padding_fuel (suc n) (suc m) prev force l bs hn hm =
    ap (value_or 0) (and_then_same (read_event prev force l) _ _ (λ e r q.
    let (shorter, br) = event_shorter prev force l e r bs q in
    ap (λ z. ok (event_padding l + pick (is_end e.kind) 0 z) []) (padding_fuel n m e.time (after (frame e.kind)) r br (omega arith) (omega arith))))

-- an event that was read, and the events after it: the turn of the loop over a track
padding_turn : (prev force : ℕ) (l : List ℕ) (e : Event) (r : List ℕ) → Bytes l → read_event prev force l ≡ ok e r
    → all_padding prev force l ≡ event_padding l + pick (is_end e.kind) 0 (all_padding e.time (after (frame e.kind)) r)
unfolding all_padding events_padding value_or and_then
padding_turn prev force l e r bs q =
    let (shorter, br) = event_shorter prev force l e r bs q in
    rw q (ap (λ z. event_padding l + pick (is_end e.kind) 0 z) (padding_fuel (length l) (suc (length r)) e.time (after (frame e.kind)) r br (omega arith) (omega arith)))

-- ---- of a layout it is what the spelling says

end_told : (b : Bool) (t : ℕ) (es : List Event) (ss : List Spelling) (k : ℕ) (P : Type 0) → Ends b es P → (P → k ≡ spelled_sum t es ss) → pick b 0 k ≡ spelled_sum t es ss
unfolding Ends pick spelled_sum
end_told true t es ss k P h f = rw h refl
end_told false t es ss k P h f = f h

events_told : (n prev force : ℕ) (es : List Event) (ss : List Spelling) → LawfulEvents prev es → PermittedEvents prev force es ss → length es ≤ n
    → events_padding n prev force (lay_events prev es ss) ≡ spelled_sum prev es ss
unfolding events_padding LawfulEvents PermittedEvents lay_events spelled_sum value_or and_then
events_told n prev force [] ss l p h = absurd l
events_told n prev force (e ∷ es) [] l p h = absurd p
events_told zero prev force (e ∷ es) (s ∷ ss) l p h = absurd (omega arith)
events_told (suc n) prev force (e ∷ es) (s ∷ ss) l p h =
    let rest : List ℕ = lay_events e.time es ss in
    rw (event_read prev force e s rest l.0 p.0)
    (ap₂ (λ a b. a + b) (event_told prev force e s rest l.0 p.0)
    (end_told (is_end e.kind) e.time es ss _ _ l.1 (λ c. events_told n e.time (after (frame e.kind)) es ss c p.1 (omega arith))))

all_told : (es : List Event) (ss : List Spelling) → LawfulEvents 0 es → PermittedEvents 0 no_status es ss
    → all_padding 0 no_status (lay_events 0 es ss) ≡ spelled_sum 0 es ss
unfolding all_padding
all_told es ss l p = events_told (suc (length (lay_events 0 es ss))) 0 no_status es ss l p (omega (arith, events_size 0 no_status es ss p))

tracks_told : (at : ℕ) (ts : List (List Event)) (ss : List TrackSpelling) (r : List ℕ) → LawfulTracks ts → PermittedTracks ts ss → ShortTracks ts ss
    → tracks_padding (length ts) at (lay_tracks ts ss ++ r) ≡ spelled_sums ts ss
unfolding tracks_padding lay_tracks LawfulTracks PermittedTracks ShortTracks spelled_sums lay_track value_or and_then
tracks_told at [] ss r l p h = refl
tracks_told at (t ∷ ts) [] r l p h = absurd p
tracks_told at (t ∷ ts) (s ∷ ss) r l p h =
    rw (track_split (lay_chunks s.before) (lay_track t s.events) (lay_tracks ts ss) r, chunk_read at s.before (lay_events 0 t s.events) (lay_tracks ts ss ++ r) p.1 h.0)
    (ap₂ (λ a b. a ∷ b) (all_told t s.events l.0 p.0) (tracks_told (at + (length (lay_chunks s.before ++ (lay_track t s.events ++ (lay_tracks ts ss ++ r))) - length (lay_tracks ts ss ++ r))) ts ss r l.1 p.2 h.1))

-- the third list of a file is what any spelling of it says
pub paddings_told : (p : Piece) (s : PieceSpelling) → HasLayout p s → paddings (lay_piece p s) ≡ spelled_sums p.tracks s.tracks
unfolding paddings lay_piece value_or and_then
paddings_told p s h =
    let l = h.lawful in
    let head : Header = record { format = p.format; count = length p.tracks; division = p.division } in
    let good : LawfulHeader head = record { format = l.format; some = l.some; few = l.few; single = l.single; division = l.division } in
    rw (header_read head s.extra (lay_tracks p.tracks s.tracks ++ lay_chunks s.behind) good h.permitted.header)
    (tracks_told _ p.tracks s.tracks (lay_chunks s.behind) l.tracks h.permitted.tracks h.short)

-- ---- a turn of the walk over a track: what was counted, and what is left to count

module _ {s : List ℕ} {at t f : ℕ} {u : Time} {k : EventKind} {q st : ℕ} (bs : Bytes s) (c : Came s at t f u k q st) (y : ℕ) (extra : event_padding (drop at s) ≡ y) where
  turned : all_padding t f (drop at s) ≡ y + pick (end_of k) 0 (all_padding u.0 st (drop q s))
  turned =
      padding_turn t f (drop at s) c.event (drop q s) (bytes_drop s at bs) c.come
      ∙ ap₂ (λ a b. a + b) extra (ap₂ (λ a b. pick a 0 b) (sym c.ends) (ap₂ (λ a b. all_padding a b (drop q s)) c.time c.status))

  pub padding_next : (sum all : ℕ) → end_of k ≡ false → all ≡ sum + all_padding t f (drop at s) → all ≡ sum + y + all_padding u.0 st (drop q s)
  unfolding pick
  padding_next sum all last e = let h : all_padding t f (drop at s) ≡ y + all_padding u.0 st (drop q s) = turned ∙ ap (λ z. y + pick z 0 (all_padding u.0 st (drop q s))) last in omega arith

  pub padding_end : (sum all : ℕ) → end_of k ≡ true → all ≡ sum + all_padding t f (drop at s) → all ≡ sum + y
  unfolding pick
  padding_end sum all last e = let h : all_padding t f (drop at s) ≡ y + 0 = turned ∙ ap (λ z. y + pick z 0 (all_padding u.0 st (drop q s))) last in omega arith

  -- it is no more than the bytes of the event
  pub padding_taken : y ≤ q - at
  padding_taken =
      let w = padding_within t f (drop at s) c.event (drop q s) (bytes_drop s at bs) c.come in
      let a = length-drop at s in
      let b = length-drop q s in
      let h = c.later in
      let g = c.inside in
      omega arith

-- ---- a turn of the loop over the tracks

pub padding_list : (n at : ℕ) (l : List ℕ) (es : List Event) (r : List ℕ) → read_track at l ≡ ok es r
    → tracks_padding (suc n) at l ≡ track_padding at l ∷ tracks_padding n (at + (length l - length r)) r
unfolding read_track tracks_padding track_padding value_or and_then
padding_list n at l es r e =
    and_then_ok (read_chunk at l) _ es r e (λ body m qc e1.
    and_then_ok (read_all _ 0 no_status body) _ es r e1 (λ fs q qe e2.
    ok_same fs es m r e2 (λ p mr. rw qc (ap (λ z. all_padding 0 no_status body ∷ tracks_padding n (at + (length l - length z)) z) mr))))
