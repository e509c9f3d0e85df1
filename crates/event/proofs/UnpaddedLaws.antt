-- An event whose numbers take the fewest bytes, and whose status is left out if it may be, is spelled as in manner 1; and either manner takes
-- the fewest.
use mathlib.Core.Path.{◌≡◌, refl, sym, ap, ap₂}
use Prim.Native.Nat.{ℕ, ◌-◌, ◌<◌}
use mathlib.Core.Bool.{Bool, true, false, false≢true}
use native.Mathlib.Omega.{arith}
use lib.ListN.{length}
use borrow.Author.Tests.{eq-eqb, ne_eqb}
use Rattle.event.specs.Number.{Width, limit, least}
use Rattle.event.specs.Event.{Event}
use Rattle.event.specs.Frame.{Frame, channel1, channel2, exclusive, meta, frame}
use Rattle.event.specs.Spelling.{Rest, left_out, length_in, Spelling, Spelled, LeavesOut, Permitted}
use Rattle.event.specs.Manner.{Manner, full, short, status_in, rest_in, spell_event}
use Rattle.event.specs.Padding.{width_padding, rest_padding, spelled_padding}
use Rattle.event.proofs.NumberLaws.{least_width}
use Rattle.event.proofs.MannerLaws.{short_omits}

-- ---- "Writers use the fewest bytes": what either manner writes has none above them

fewest_none : (v : ℕ) → width_padding (least v) v ≡ 0
unfolding width_padding
fewest_none v = omega arith

rest_none : (m : Manner) (force : ℕ) (x : Frame) → rest_padding x (rest_in m force x) ≡ 0
unfolding rest_padding rest_in status_in
rest_none full force (channel1 s a) = refl
rest_none short force (channel1 s a) = refl
rest_none full force (channel2 s a b) = refl
rest_none short force (channel2 s a b) = refl
rest_none m force (exclusive s d) = fewest_none (length d)
rest_none m force (meta t d) = fewest_none (length d)

pub manner_none : (m : Manner) (prev force : ℕ) (e : Event) → spelled_padding prev e (spell_event m prev force e) ≡ 0
unfolding spelled_padding spell_event
manner_none m prev force e = rw (fewest_none (e.time - prev), rest_none m force (frame e.kind)) refl

-- and manner 1 leaves every status out that may be
pub short_leaves_lem : (force : ℕ) (x : Frame) → LeavesOut force x (rest_in short force x)
unfolding LeavesOut rest_in status_in
short_leaves_lem force (channel1 s a) = λ e. rw (eq-eqb force s e) refl
short_leaves_lem force (channel2 s a b) = λ e. rw (eq-eqb force s e) refl
short_leaves_lem force (exclusive s d) = tt
short_leaves_lem force (meta t d) = tt

-- ---- and no other spelling is so

width_least : (w : Width) (v : ℕ) → v < limit w → width_padding w v ≡ 0 → w ≡ least v
unfolding width_padding
width_least w v h z = (least_width w v h).1 (omega (arith, z))

status_least : (force : ℕ) (x : Frame) (out : Bool) → Spelled force x (left_out out) → LeavesOut force x (left_out out) → left_out out ≡ rest_in short force x
unfolding Spelled LeavesOut rest_in status_in
status_least force x true p q = sym (short_omits force x p)
status_least force (channel1 s a) false p q = rw (ne_eqb force s (λ e. false≢true (q e))) refl
status_least force (channel2 s a b) false p q = rw (ne_eqb force s (λ e. false≢true (q e))) refl
status_least force (exclusive s d) false p q = absurd p
status_least force (meta t d) false p q = absurd p

rest_least : (force : ℕ) (x : Frame) (s : Rest) → Spelled force x s → LeavesOut force x s → rest_padding x s ≡ 0 → s ≡ rest_in short force x
unfolding Spelled rest_padding rest_in
rest_least force x (left_out out) p q z = status_least force x out p q
rest_least force (channel1 s a) (length_in w) p q z = absurd p
rest_least force (channel2 s a b) (length_in w) p q z = absurd p
rest_least force (exclusive s d) (length_in w) p q z = ap length_in (width_least w (length d) p z)
rest_least force (meta t d) (length_in w) p q z = ap length_in (width_least w (length d) p z)

pub event_least : (prev force : ℕ) (e : Event) (s : Spelling) → Permitted prev force e s → LeavesOut force (frame e.kind) s.rest → spelled_padding prev e s ≡ 0 → s ≡ spell_event short prev force e
unfolding spelled_padding spell_event
event_least prev force e s p q z =
    ap₂ (λ d r. record { delta = d; rest = r }) (width_least s.delta (e.time - prev) p.delta (omega arith))
    (rest_least force (frame e.kind) s.rest p.rest q (omega arith))
