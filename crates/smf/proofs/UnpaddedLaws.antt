-- A spelling that pads nothing and leaves out what may be is that of manner 1.
use mathlib.Core.Path.{◌≡◌, refl, ap, ap₂, ◌∙◌}
use Prim.Native.Nat.{ℕ}
use mathlib.Core.List.{List, [], ◌∷◌}
use native.Mathlib.Omega.{arith}
use Rattle.event.specs.Event.{Event}
use Rattle.event.specs.Frame.{frame, after, no_status}
use Rattle.event.specs.Spelling.{Spelling}
use Rattle.event.specs.Manner.{Manner, short, spell_event}
use Rattle.event.proofs.UnpaddedLaws.{manner_none, short_leaves_lem, event_least}
use Rattle.smf.specs.Piece.{Piece}
use Rattle.smf.specs.Spelling.{TrackSpelling, PieceSpelling, PermittedEvents, PermittedTracks}
use Rattle.smf.specs.Layout.{lay_piece, HasLayout}
use Rattle.smf.specs.Manner.{spell_events, spell_tracks, spelling, file_of}
use Rattle.smf.specs.Padding.{spelled_sum, spelled_sums}
use Rattle.smf.specs.Unpadded.{AllZero, EventsLeaveOut, TracksLeaveOut, Unpadded, UnpaddedIsShort}

-- ---- the manners

events_none : (m : Manner) (prev force : ℕ) (es : List Event) → spelled_sum prev es (spell_events m prev force es) ≡ 0
unfolding spelled_sum spell_events
events_none m prev force [] = refl
events_none m prev force (e ∷ es) = omega (arith, manner_none m prev force e, events_none m e.time (after (frame e.kind)) es)

tracks_none : (m : Manner) (ts : List (List Event)) → AllZero (spelled_sums ts (spell_tracks m ts))
unfolding AllZero spelled_sums spell_tracks
tracks_none m [] = tt
tracks_none m (t ∷ ts) = (events_none m 0 no_status t, tracks_none m ts)

events_leave : (prev force : ℕ) (es : List Event) → EventsLeaveOut force es (spell_events short prev force es)
unfolding EventsLeaveOut spell_events spell_event
events_leave prev force [] = tt
events_leave prev force (e ∷ es) = (short_leaves_lem force (frame e.kind), events_leave e.time (after (frame e.kind)) es)

tracks_leave : (ts : List (List Event)) → TracksLeaveOut ts (spell_tracks short ts)
unfolding TracksLeaveOut spell_tracks
tracks_leave [] = tt
tracks_leave (t ∷ ts) = (events_leave 0 no_status t, refl, tracks_leave ts)

-- ---- no other spelling

events_short : (prev force : ℕ) (es : List Event) (ss : List Spelling) → PermittedEvents prev force es ss → EventsLeaveOut force es ss → spelled_sum prev es ss ≡ 0 → ss ≡ spell_events short prev force es
unfolding PermittedEvents EventsLeaveOut spelled_sum spell_events
events_short prev force [] [] p q z = refl
events_short prev force [] (s ∷ ss) p q z = absurd p
events_short prev force (e ∷ es) [] p q z = absurd p
events_short prev force (e ∷ es) (s ∷ ss) p q z =
    ap₂ (λ x xs. x ∷ xs) (event_least prev force e s p.0 q.0 (omega arith)) (events_short e.time (after (frame e.kind)) es ss p.1 q.1 (omega arith))

tracks_short : (ts : List (List Event)) (ss : List TrackSpelling) → PermittedTracks ts ss → TracksLeaveOut ts ss → AllZero (spelled_sums ts ss) → ss ≡ spell_tracks short ts
unfolding PermittedTracks TracksLeaveOut AllZero spelled_sums spell_tracks
tracks_short [] [] p q z = refl
tracks_short [] (s ∷ ss) p q z = absurd p
tracks_short (t ∷ ts) [] p q z = absurd p
tracks_short (t ∷ ts) (s ∷ ss) p q z =
    let events = events_short 0 no_status t s.events p.0 q.0 z.0 in
    let one : s ≡ record { before = []; events = spell_events short 0 no_status t } = ap₂ (λ b es. record { before = b; events = es }) q.1 events in
    ap₂ (λ x xs. x ∷ xs) one (tracks_short ts ss p.2 q.2 z.1)

piece_short : (p : Piece) (s : PieceSpelling) → HasLayout p s → Unpadded p s → s ≡ spelling short p
unfolding spelling
piece_short p s h u =
    let tracks = tracks_short p.tracks s.tracks h.permitted.tracks u.statuses u.padding in
    ap₂ (λ (x : List ℕ) (y : List TrackSpelling). record { extra = x; tracks = y; behind = s.behind }) u.extra tracks
    ∙ ap (λ z. record { extra = []; tracks = spell_tracks short p.tracks; behind = z }) u.behind

pub unpadded_is_short : UnpaddedIsShort
unfolding file_of spelling
unpadded_is_short =
    record {
      only = λ p s h u. ap (lay_piece p) (piece_short p s h u);
      short_does = λ p. record { padding = tracks_none short p.tracks; statuses = tracks_leave p.tracks; extra = refl; behind = refl };
      neither = λ m p. tracks_none m p.tracks;
    }
