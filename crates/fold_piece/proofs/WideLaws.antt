-- A spelling that asks nothing of the status in force and always takes four bytes: events in any order have it, where steps and
-- data fit, and its length does not depend on the order.
use mathlib.Core.Path.{◌≡◌, refl, ap, ap₂, ◌∙◌}
use Prim.Native.Nat.{ℕ, ◌+◌, ◌-◌, ◌*◌, ◌≤◌, ◌<◌}
use mathlib.Core.Bool.{Bool, true, false, false≢true}
use mathlib.Core.List.{List, [], ◌∷◌, ◌++◌, map}
use native.Mathlib.Omega.{arith}
use lib.Dec.{leb}
use lib.ListN.{length, length-append}
use Rattle.event.specs.Choice.{pick}
use Rattle.event.specs.Number.{w4, vlq}
use Rattle.event.specs.Event.{Event, is_end}
use Rattle.event.specs.Frame.{Frame, channel1, channel2, exclusive, meta, frame, after, no_status}
use Rattle.event.specs.Spelling.{Rest, left_out, length_in, Spelling, Spelled, Permitted}
use Rattle.event.specs.Layout.{lay_channel, lay_frame, lay_event}
use Rattle.event.proofs.ChoiceLaws.{by_test}
use Rattle.event.proofs.NumberLaws.{limit_most, vlq_size}
use Rattle.smf.specs.Spelling.{TrackSpelling, PermittedEvents, PermittedTracks}
use Rattle.smf.specs.Layout.{lay_chunk, lay_chunks, lay_events, lay_track, lay_tracks}
use Rattle.fold_piece.specs.Fold.{others, joined, insert, by_time}
use Rattle.fold_piece.specs.Order.{Steps}
use Rattle.fold_piece.proofs.OrderLaws.{All, all_append}
use Rattle.fold_piece.proofs.TrackLaws.{StepsTracks}

unfoldable pub wide_rest : Frame → Rest
wide_rest (channel1 s a) = left_out false
wide_rest (channel2 s a b) = left_out false
wide_rest (exclusive s d) = length_in w4
wide_rest (meta t d) = length_in w4

abbrev pub wide : Event → Spelling
wide e = record { delta = w4; rest = wide_rest (frame e.kind) }

-- data that are not too long for a number
unfoldable pub DataFit : Frame → Type 0
DataFit (channel1 s a) = Unit {0}
DataFit (channel2 s a b) = Unit {0}
DataFit (exclusive s d) = length d < 268435456
DataFit (meta t d) = length d < 268435456

abbrev pub Fit : Event → Type 0
Fit e = DataFit (frame e.kind)

spelled_fit : (force : ℕ) (x : Frame) (s : Rest) → Spelled force x s → DataFit x
unfolding Spelled DataFit
spelled_fit force (channel1 s a) r h = tt
spelled_fit force (channel2 s a b) r h = tt
spelled_fit force (exclusive s d) (left_out o) h = absurd h
spelled_fit force (exclusive s d) (length_in w) h = omega (arith, h, limit_most w)
spelled_fit force (meta t d) (left_out o) h = absurd h
spelled_fit force (meta t d) (length_in w) h = omega (arith, h, limit_most w)

wide_spelled : (force : ℕ) (x : Frame) → DataFit x → Spelled force x (wide_rest x)
unfolding Spelled DataFit wide_rest
wide_spelled force (channel1 s a) h = λ z. absurd (false≢true z)
wide_spelled force (channel2 s a b) h = λ z. absurd (false≢true z)
wide_spelled force (exclusive s d) h = h
wide_spelled force (meta t d) h = h

-- ---- what a permitted spelling says of steps and data

pub permitted_steps : (prev force : ℕ) (es : List Event) (ss : List Spelling) → PermittedEvents prev force es ss → Steps prev es
unfolding PermittedEvents Steps
permitted_steps prev force [] ss p = tt
permitted_steps prev force (e ∷ es) [] p = absurd p
permitted_steps prev force (e ∷ es) (s ∷ ss) p =
    let d = p.0.delta in
    (omega (arith, limit_most s.delta), permitted_steps e.time (after (frame e.kind)) es ss p.1)

pub permitted_fit : (prev force : ℕ) (es : List Event) (ss : List Spelling) → PermittedEvents prev force es ss → All Fit (others es)
unfolding PermittedEvents All others pick
permitted_fit prev force [] ss p = tt
permitted_fit prev force (e ∷ es) [] p = absurd p
permitted_fit prev force (e ∷ es) (s ∷ ss) p =
    let rest = permitted_fit e.time (after (frame e.kind)) es ss p.1 in
    by_test (is_end e.kind) (λ b. rw b rest) (λ b. rw b (spelled_fit force (frame e.kind) s.rest p.0.rest, rest))

pub tracks_steps : (ts : List (List Event)) (ss : List TrackSpelling) → PermittedTracks ts ss → StepsTracks ts
unfolding PermittedTracks StepsTracks
tracks_steps [] ss p = tt
tracks_steps (t ∷ ts) [] p = absurd p
tracks_steps (t ∷ ts) (s ∷ ss) p = (permitted_steps 0 no_status t s.events p.0, tracks_steps ts ss p.2)

pub joined_fit : (ts : List (List Event)) (ss : List TrackSpelling) → PermittedTracks ts ss → All Fit (joined ts)
unfolding PermittedTracks joined All
joined_fit [] ss p = tt
joined_fit (t ∷ ts) [] p = absurd p
joined_fit (t ∷ ts) (s ∷ ss) p = all_append Fit (others t) (joined ts) (permitted_fit 0 no_status t s.events p.0) (joined_fit ts ss p.2)

-- ---- the wide spelling is permitted wherever steps and data fit

pub wide_permitted : (prev force : ℕ) (es : List Event) → Steps prev es → All Fit es → PermittedEvents prev force es (map wide es)
unfolding PermittedEvents Steps All
wide_permitted prev force [] s a = tt
wide_permitted prev force (e ∷ es) s a =
    (record { delta = omega (arith, s.0); rest = wide_spelled force (frame e.kind) a.0 }, wide_permitted e.time (after (frame e.kind)) es s.1 a.1)

-- ---- lengths

abbrev pub weight : Event → ℕ
weight e = 4 + length (lay_frame (frame e.kind) (wide_rest (frame e.kind)))

unfoldable pub total : List Event → ℕ
total [] = 0
total (e ∷ es) = weight e + total es

pub total_append : (xs ys : List Event) → total (xs ++ ys) ≡ total xs + total ys
unfolding total
total_append [] ys = omega arith
total_append (x ∷ xs) ys = omega (arith, total_append xs ys)

total_insert : (e : Event) (xs : List Event) → total (insert e xs) ≡ weight e + total xs
unfolding total insert pick
total_insert e [] = refl
total_insert e (x ∷ xs) = by_test (leb e.time x.time) (λ b. rw b refl) (λ b. rw b (omega (arith, total_insert e xs)))

pub total_by_time : (es : List Event) → total (by_time es) ≡ total es
unfolding total by_time
total_by_time [] = refl
total_by_time (e ∷ es) = total_insert e (by_time es) ∙ ap (λ z. weight e + z) (total_by_time es)

wide_length : (prev : ℕ) (e : Event) → length (lay_event prev e (wide e)) ≡ weight e
unfolding lay_event vlq
wide_length prev e = length-append (vlq w4 (e.time - prev)) (lay_frame (frame e.kind) (wide_rest (frame e.kind)))

pub lay_total : (prev : ℕ) (es : List Event) → length (lay_events prev es (map wide es)) ≡ total es
unfolding lay_events total
lay_total prev [] = refl
lay_total prev (e ∷ es) =
    length-append (lay_event prev e (wide e)) (lay_events e.time es (map wide es)) ∙ ap₂ (λ a b. a + b) (wide_length prev e) (lay_total e.time es)

-- it takes at most three times the bytes of any

channel_weight : (s : ℕ) (l : List ℕ) (o : Bool) → 1 ≤ length l → 4 + length (lay_channel false s l) ≤ 3 * (1 + length (lay_channel o s l))
unfolding lay_channel
channel_weight s l true h = omega arith
channel_weight s l false h = omega arith

wide_four : (n : ℕ) → length (vlq w4 n) ≡ 4
unfolding vlq
wide_four n = refl

frame_weight : (force : ℕ) (x : Frame) (s : Rest) → Spelled force x s → 4 + length (lay_frame x (wide_rest x)) ≤ 3 * (1 + length (lay_frame x s))
unfolding Spelled lay_frame wide_rest
frame_weight force (channel1 s a) (left_out o) p = channel_weight s _ o (omega arith)
frame_weight force (channel1 s a) (length_in w) p = absurd p
frame_weight force (channel2 s a b) (left_out o) p = channel_weight s _ o (omega arith)
frame_weight force (channel2 s a b) (length_in w) p = absurd p
frame_weight force (exclusive s d) (left_out o) p = absurd p
frame_weight force (exclusive s d) (length_in w) p =
    omega (arith, length-append (vlq w (length d)) d, length-append (vlq w4 (length d)) d, vlq_size w (length d), wide_four (length d))
frame_weight force (meta t d) (left_out o) p = absurd p
frame_weight force (meta t d) (length_in w) p =
    omega (arith, length-append (vlq w (length d)) d, length-append (vlq w4 (length d)) d, vlq_size w (length d), wide_four (length d))

event_weight : (prev force : ℕ) (e : Event) (s : Spelling) → Permitted prev force e s → weight e ≤ 3 * length (lay_event prev e s)
unfolding lay_event
event_weight prev force e s p =
    let h = frame_weight force (frame e.kind) s.rest p.rest in
    omega (arith, h, length-append (vlq s.delta (e.time - prev)) (lay_frame (frame e.kind) s.rest), vlq_size s.delta (e.time - prev))

others_total : (prev force : ℕ) (es : List Event) (ss : List Spelling) → PermittedEvents prev force es ss → total (others es) ≤ 3 * length (lay_events prev es ss)
unfolding PermittedEvents lay_events others total pick
others_total prev force [] ss p = omega arith
others_total prev force (e ∷ es) [] p = absurd p
others_total prev force (e ∷ es) (s ∷ ss) p =
    let rest = others_total e.time (after (frame e.kind)) es ss p.1 in
    let one = event_weight prev force e s p.0 in
    let size = length-append (lay_event prev e s) (lay_events e.time es ss) in
    by_test (is_end e.kind) (λ b. rw b (omega (arith, rest, size))) (λ b. rw b (omega (arith, rest, one, size)))

track_events : (es : List Event) (ss : List Spelling) → length (lay_events 0 es ss) ≤ length (lay_track es ss)
unfolding lay_track lay_chunk
track_events es ss = simp length-append (omega arith)

pub joined_total : (ts : List (List Event)) (ss : List TrackSpelling) → PermittedTracks ts ss → total (joined ts) ≤ 3 * length (lay_tracks ts ss)
unfolding PermittedTracks lay_tracks joined total
joined_total [] ss p = omega arith
joined_total (t ∷ ts) [] p = absurd p
joined_total (t ∷ ts) (s ∷ ss) p =
    let one = others_total 0 no_status t s.events p.0 in
    let rest = joined_total ts ss p.2 in
    let before = length-append (lay_chunks s.before) (lay_track t s.events ++ lay_tracks ts ss) in
    omega (arith, total_append (others t) (joined ts), one, rest, before, length-append (lay_track t s.events) (lay_tracks ts ss), track_events t s.events)
