-- Lawful events whose steps and data fit their numbers: those of a layout, and those that either manner lays out.
use Prim.Native.Nat.{ℕ, ◌+◌, ◌-◌, ◌≤◌}
use mathlib.Core.Bool.{Bool, true, false, false≢true}
use mathlib.Core.List.{List, [], ◌∷◌}
use native.Mathlib.Omega.{arith}
use lib.ListN.{length, length-append}
use Rattle.event.specs.Number.{w4}
use Rattle.event.specs.Event.{Event, Lawful, is_end}
use Rattle.event.specs.Frame.{Frame, channel1, channel2, exclusive, meta, frame, after, no_status}
use Rattle.event.specs.Spelling.{Rest, left_out, length_in, Spelling, Spelled, Permitted}
use Rattle.event.specs.Layout.{lay_channel, lay_frame, lay_event}
use Rattle.event.specs.Manner.{Manner, spell_event}
use Rattle.event.proofs.NumberLaws.{limit_most}
use Rattle.event.proofs.MannerLaws.{event_permitted}
use Rattle.event_write.proofs.NumberLaws.{width_length}
use Rattle.smf.specs.Piece.{Ends, LawfulEvents, LawfulTracks}
use Rattle.smf.specs.Chunk.{AllPassed}
use Rattle.smf.specs.Spelling.{TrackSpelling, PermittedEvents, PermittedTracks}
use Rattle.smf.specs.Layout.{lay_events, ShortTracks}
use Rattle.smf.specs.Manner.{spell_events, spell_tracks}

-- the number that a Length says
unfoldable pub data_size : Frame → ℕ
data_size (channel1 s a) = 0
data_size (channel2 s a b) = 0
data_size (exclusive s d) = length d
data_size (meta t d) = length d

pub record Layable (prev : ℕ) (e : Event) : Type 0 where
  pub lawful : Lawful prev e
  pub step : e.time - prev ≤ 268435455
  pub size : data_size (frame e.kind) ≤ 268435455

unfoldable pub LayableEvents : ℕ → List Event → Type 0
LayableEvents prev [] = ⊥
LayableEvents prev (e ∷ es) = Layable prev e × Ends (is_end e.kind) es (LayableEvents e.time es)

unfoldable pub LayableTracks : List (List Event) → Type 0
LayableTracks [] = Unit {0}
LayableTracks (t ∷ ts) = LayableEvents 0 t × LayableTracks ts

ends_map : (b : Bool) (es : List Event) (P Q : Type 0) → Ends b es P → (P → Q) → Ends b es Q
unfolding Ends
ends_map true es P Q n f = n
ends_map false es P Q n f = f n

-- ---- those of a layout

spelled_size : (force : ℕ) (x : Frame) (s : Rest) → Spelled force x s → data_size x ≤ 268435455
unfolding Spelled data_size
spelled_size force (channel1 s a) r p = omega arith
spelled_size force (channel2 s a b) r p = omega arith
spelled_size force (exclusive s d) (left_out o) p = absurd p
spelled_size force (exclusive s d) (length_in w) p = omega (arith, limit_most w)
spelled_size force (meta t d) (left_out o) p = absurd p
spelled_size force (meta t d) (length_in w) p = omega (arith, limit_most w)

event_layable : (prev force : ℕ) (e : Event) (s : Spelling) → Lawful prev e → Permitted prev force e s → Layable prev e
event_layable prev force e s l p =
    record { lawful = l; step = omega (arith, p.delta, limit_most s.delta); size = spelled_size force (frame e.kind) s.rest p.rest }

events_layable : (prev force : ℕ) (es : List Event) (ss : List Spelling) → LawfulEvents prev es → PermittedEvents prev force es ss → LayableEvents prev es
unfolding LawfulEvents PermittedEvents LayableEvents
events_layable prev force [] ss l p = l
events_layable prev force (e ∷ es) [] l p = absurd p
events_layable prev force (e ∷ es) (s ∷ ss) l p =
    (event_layable prev force e s l.0 p.0, ends_map (is_end e.kind) es _ _ l.1 (λ q. events_layable e.time (after (frame e.kind)) es ss q p.1))

pub tracks_layable : (ts : List (List Event)) (ss : List TrackSpelling) → LawfulTracks ts → PermittedTracks ts ss → LayableTracks ts
unfolding LawfulTracks PermittedTracks LayableTracks
tracks_layable [] ss l p = tt
tracks_layable (t ∷ ts) [] l p = absurd p
tracks_layable (t ∷ ts) (s ∷ ss) l p = (events_layable 0 no_status t s.events l.0 p.0, tracks_layable ts ss l.1 p.2)

-- ---- they are lawful

events_lawful : (prev : ℕ) (es : List Event) → LayableEvents prev es → LawfulEvents prev es
unfolding LawfulEvents LayableEvents
events_lawful prev [] l = l
events_lawful prev (e ∷ es) l = (l.0.lawful, ends_map (is_end e.kind) es _ _ l.1 (λ q. events_lawful e.time es q))

pub tracks_lawful : (ts : List (List Event)) → LayableTracks ts → LawfulTracks ts
unfolding LawfulTracks LayableTracks
tracks_lawful [] l = tt
tracks_lawful (t ∷ ts) l = (events_lawful 0 t l.0, tracks_lawful ts l.1)

-- ---- each manner's spelling of them is permitted

-- a spelling in four bytes, which any layable event has
unfoldable wide_rest : Frame → Rest
wide_rest (channel1 s a) = left_out false
wide_rest (channel2 s a b) = left_out false
wide_rest (exclusive s d) = length_in w4
wide_rest (meta t d) = length_in w4

wide_spelled : (force : ℕ) (x : Frame) → data_size x ≤ 268435455 → Spelled force x (wide_rest x)
unfolding Spelled wide_rest data_size
wide_spelled force (channel1 s a) h = λ z. absurd (false≢true z)
wide_spelled force (channel2 s a b) h = λ z. absurd (false≢true z)
wide_spelled force (exclusive s d) h = omega arith
wide_spelled force (meta t d) h = omega arith

pub one_permitted : (m : Manner) (prev force : ℕ) (e : Event) → Layable prev e → Permitted prev force e (spell_event m prev force e)
one_permitted m prev force e l =
    event_permitted m prev force e (record { delta = w4; rest = wide_rest (frame e.kind) })
    (record { delta = omega (arith, l.step); rest = wide_spelled force (frame e.kind) l.size })

rest_permitted : (b : Bool) (m : Manner) (prev force : ℕ) (es : List Event) (P : Type 0) → Ends b es P
    → (P → PermittedEvents prev force es (spell_events m prev force es)) → PermittedEvents prev force es (spell_events m prev force es)
unfolding Ends PermittedEvents spell_events
rest_permitted true m prev force es P n f = rw n tt
rest_permitted false m prev force es P n f = f n

events_permitted : (m : Manner) (prev force : ℕ) (es : List Event) → LayableEvents prev es → PermittedEvents prev force es (spell_events m prev force es)
unfolding LayableEvents PermittedEvents spell_events
events_permitted m prev force [] l = absurd l
events_permitted m prev force (e ∷ es) l = (
  one_permitted m prev force e l.0,
  rest_permitted (is_end e.kind) m e.time (after (frame e.kind)) es _ l.1 (λ q. events_permitted m e.time (after (frame e.kind)) es q),
)

pub tracks_permitted : (m : Manner) (ts : List (List Event)) → LayableTracks ts → PermittedTracks ts (spell_tracks m ts)
unfolding LayableTracks PermittedTracks spell_tracks AllPassed
tracks_permitted m [] l = tt
tracks_permitted m (t ∷ ts) l = (events_permitted m 0 no_status t l.0, tt, tracks_permitted m ts l.1)

-- ---- the most bytes that they take, in any spelling

unfoldable pub most : List Event → ℕ
most [] = 0
most (e ∷ es) = 10 + data_size (frame e.kind) + most es

frame_most : (x : Frame) (s : Rest) → length (lay_frame x s) ≤ 6 + data_size x
unfolding lay_frame lay_channel data_size
frame_most (channel1 s a) (left_out true) = omega arith
frame_most (channel1 s a) (left_out false) = omega arith
frame_most (channel1 s a) (length_in w) = omega arith
frame_most (channel2 s a b) (left_out true) = omega arith
frame_most (channel2 s a b) (left_out false) = omega arith
frame_most (channel2 s a b) (length_in w) = omega arith
frame_most (exclusive s d) (left_out o) = omega arith
frame_most (exclusive s d) (length_in w) = simp length-append (omega (arith, width_length w (length d)))
frame_most (meta t d) (left_out o) = omega arith
frame_most (meta t d) (length_in w) = simp length-append (omega (arith, width_length w (length d)))

events_most : (prev : ℕ) (es : List Event) (ss : List Spelling) → length (lay_events prev es ss) ≤ most es
unfolding lay_events lay_event most
events_most prev [] ss = omega arith
events_most prev (e ∷ es) [] = omega arith
events_most prev (e ∷ es) (s ∷ ss) =
    let h = events_most e.time es ss in
    simp length-append (omega (arith, width_length s.delta (e.time - prev), frame_most (frame e.kind) s.rest))

-- with the tag and the length of each track
unfoldable pub most_all : List (List Event) → ℕ
most_all [] = 0
most_all (t ∷ ts) = 8 + most t + most_all ts

pub tracks_short : (ts : List (List Event)) (ss : List TrackSpelling) → most_all ts ≤ 4294967295 → ShortTracks ts ss
unfolding most_all ShortTracks
tracks_short [] ss h = tt
tracks_short (t ∷ ts) [] h = tt
tracks_short (t ∷ ts) (s ∷ ss) h = (omega (arith, events_most 0 t s.events), tracks_short ts ss (omega arith))
