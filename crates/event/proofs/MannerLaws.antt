-- The two manners of one event: each spelling is permitted where any is, the short one takes the fewest bytes, and either at most twice as many as any.
use mathlib.Core.Path.{◌≡◌, refl}
use Prim.Native.Nat.{ℕ, ◌*◌, ◌-◌, ◌<◌, ◌≤◌}
use mathlib.Core.Bool.{Bool, true, false, false≢true}
use mathlib.Core.List.{List, [], ◌∷◌, ◌++◌}
use native.Mathlib.Omega.{arith}
use lib.ListN.{length}
use lib.Dec.{eqb}
use borrow.Author.Tests.{eqb-true, eq-eqb}
use Rattle.event.specs.Number.{Width, limit, vlq, least}
use Rattle.event.specs.Event.{Event}
use Rattle.event.specs.Frame.{Frame, channel1, channel2, exclusive, meta, frame}
use Rattle.event.specs.Spelling.{Rest, left_out, length_in, Spelling, Spelled, Permitted}
use Rattle.event.specs.Layout.{lay_channel, lay_frame, lay_event}
use Rattle.event.specs.Manner.{Manner, full, short, status_in, rest_in, spell_event}
use Rattle.event.proofs.ChoiceLaws.{by_test}
use Rattle.event.proofs.BesideLaws.{Beside, Fewest, fewest_shorter, fewest_beside, Double, double_beside}
use Rattle.event.proofs.NumberLaws.{least_fits, number_fewest}

-- ---- permitted

-- a status that a manner leaves out is in force
in_force : (force s : ℕ) → (eqb force s ≡ false → ⊥) → force ≡ s
in_force force s h = by_test (eqb force s) (λ t. eqb-true force s t) (λ t. absurd (h t))

one_permitted : (m : Manner) (force s a : ℕ) → Spelled force (channel1 s a) (status_in m force s)
unfolding Spelled status_in
one_permitted full force s a = λ z. absurd (false≢true z)
one_permitted short force s a = λ z. in_force force s (λ t. false≢true (rw t at z))

two_permitted : (m : Manner) (force s a b : ℕ) → Spelled force (channel2 s a b) (status_in m force s)
unfolding Spelled status_in
two_permitted full force s a b = λ z. absurd (false≢true z)
two_permitted short force s a b = λ z. in_force force s (λ t. false≢true (rw t at z))

rest_permitted : (m : Manner) (force : ℕ) (x : Frame) (s : Rest) → Spelled force x s → Spelled force x (rest_in m force x)
unfolding Spelled rest_in
rest_permitted m force (channel1 s a) (left_out o) p = one_permitted m force s a
rest_permitted m force (channel1 s a) (length_in w) p = absurd p
rest_permitted m force (channel2 s a b) (left_out o) p = two_permitted m force s a b
rest_permitted m force (channel2 s a b) (length_in w) p = absurd p
rest_permitted m force (exclusive s d) (left_out o) p = absurd p
rest_permitted m force (exclusive s d) (length_in w) p = least_fits w (length d) p
rest_permitted m force (meta t d) (left_out o) p = absurd p
rest_permitted m force (meta t d) (length_in w) p = least_fits w (length d) p

pub event_permitted : (m : Manner) (prev force : ℕ) (e : Event) (s : Spelling) → Permitted prev force e s → Permitted prev force e (spell_event m prev force e)
unfolding spell_event
event_permitted m prev force e s p =
    record { delta = least_fits s.delta (e.time - prev) p.delta; rest = rest_permitted m force (frame e.kind) s.rest p.rest }

-- "a status left out wherever permitted"
pub short_omits : (force : ℕ) (x : Frame) → Spelled force x (left_out true) → rest_in short force x ≡ left_out true
unfolding Spelled rest_in status_in
short_omits force (channel1 s a) p = rw (eq-eqb force s (p refl)) refl
short_omits force (channel2 s a b) p = rw (eq-eqb force s (p refl)) refl
short_omits force (exclusive s d) p = absurd p
short_omits force (meta t d) p = absurd p

-- "every status byte written"
pub full_writes : (force : ℕ) (x : Frame) (b : Bool) → rest_in full force x ≡ left_out b → b ≡ false
unfolding rest_in status_in
full_writes force (channel1 s a) b e = cc
full_writes force (channel2 s a d) b e = cc
full_writes force (exclusive s d) b e = let z : ◌≡◌ {A = ℕ} 0 1 = cc in absurd (omega arith)
full_writes force (meta t d) b e = let z : ◌≡◌ {A = ℕ} 0 1 = cc in absurd (omega arith)

-- ---- a manner's bytes beside those of any permitted spelling: what holds of numbers and of statuses holds of events

module _ (m : Manner) (W : List ℕ → List ℕ → Type 0) (beside : Beside W) (number : (w : Width) (v : ℕ) → v < limit w → W (vlq (least v) v) (vlq w v)) (status : (force : ℕ) (x : Frame) (o : Bool) → Spelled force x (left_out o) → W (lay_frame x (rest_in m force x)) (lay_frame x (left_out o))) where
  -- bytes before a length, the length, and its data
  sized_beside : (head d : List ℕ) (w : Width) → length d < limit w → W (head ++ (vlq (least (length d)) (length d) ++ d)) (head ++ (vlq w (length d) ++ d))
  sized_beside head d w h = beside.both head head _ _ (beside.same head) (beside.both _ _ d d (number w (length d) h) (beside.same d))

  frame_beside : (force : ℕ) (x : Frame) (s : Rest) → Spelled force x s → W (lay_frame x (rest_in m force x)) (lay_frame x s)
  unfolding Spelled lay_frame rest_in
  frame_beside force x (left_out o) p = status force x o p
  frame_beside force (channel1 s a) (length_in w) p = absurd p
  frame_beside force (channel2 s a b) (length_in w) p = absurd p
  frame_beside force (exclusive s d) (length_in w) p = sized_beside (s ∷ []) d w p
  frame_beside force (meta t d) (length_in w) p = sized_beside (0xff ∷ t ∷ []) d w p

  event_beside : (prev force : ℕ) (e : Event) (s : Spelling) → Permitted prev force e s → W (lay_event prev e (spell_event m prev force e)) (lay_event prev e s)
  unfolding spell_event lay_event
  event_beside prev force e s p =
      beside.both _ _ _ _ (number s.delta (e.time - prev) p.delta) (frame_beside force (frame e.kind) s.rest p.rest)

-- ---- the short manner's are the fewest, and no others are as few

-- a status before the data bytes l, or none
channel_fewest : (b : Bool) (s : ℕ) (l : List ℕ) → Fewest (lay_channel b s l) (lay_channel false s l)
unfolding lay_channel
channel_fewest true s l = fewest_shorter l (s ∷ l) (omega arith)
channel_fewest false s l = fewest_beside.same (s ∷ l)

status_fewest : (force : ℕ) (x : Frame) (o : Bool) → Spelled force x (left_out o) → Fewest (lay_frame x (rest_in short force x)) (lay_frame x (left_out o))
unfolding Spelled lay_frame rest_in status_in
status_fewest force x true p = rw (short_omits force x p) (fewest_beside.same (lay_frame x (left_out true)))
status_fewest force (channel1 s a) false p = channel_fewest _ s (a ∷ [])
status_fewest force (channel2 s a b) false p = channel_fewest _ s (a ∷ b ∷ [])
status_fewest force (exclusive s d) false p = absurd p
status_fewest force (meta t d) false p = absurd p

pub event_fewest : (prev force : ℕ) (e : Event) (s : Spelling) → Permitted prev force e s → Fewest (lay_event prev e (spell_event short prev force e)) (lay_event prev e s)
event_fewest = event_beside short Fewest fewest_beside number_fewest status_fewest

pub short_event : (prev force : ℕ) (e : Event) (s : Spelling) → Permitted prev force e s
    → length (lay_event prev e (spell_event short prev force e)) ≤ length (lay_event prev e s)
short_event prev force e s p = (event_fewest prev force e s p).no_more

-- ---- either manner's are at most twice as many

-- the status written before some data bytes
channel_full : (s : ℕ) (l : List ℕ) (o : Bool) → 1 ≤ length l → Double (lay_channel false s l) (lay_channel o s l)
unfolding lay_channel
channel_full s l true h = omega arith
channel_full s l false h = omega arith

status_double : (m : Manner) (force : ℕ) (x : Frame) (o : Bool) → Spelled force x (left_out o) → Double (lay_frame x (rest_in m force x)) (lay_frame x (left_out o))
unfolding Spelled lay_frame rest_in status_in
status_double short force x o p = let h = (status_fewest force x o p).no_more in omega (arith, h)
status_double full force (channel1 s a) o p = channel_full s _ o (omega arith)
status_double full force (channel2 s a b) o p = channel_full s _ o (omega arith)
status_double full force (exclusive s d) o p = absurd p
status_double full force (meta t d) o p = absurd p

pub event_double : (m : Manner) (prev force : ℕ) (e : Event) (s : Spelling) → Permitted prev force e s → Double (lay_event prev e (spell_event m prev force e)) (lay_event prev e s)
event_double m = event_beside m Double double_beside (λ w v h. omega (arith, (number_fewest w v h).no_more)) (status_double m)

pub manner_event : (m : Manner) (prev force : ℕ) (e : Event) (s : Spelling) → Permitted prev force e s
    → length (lay_event prev e (spell_event m prev force e)) ≤ 2 * length (lay_event prev e s)
manner_event = event_double
