-- The walk with places: the count never shows, and a turn of a loop over a track's body.
use mathlib.Core.Path.{◌≡◌, refl, ap, ◌∙◌}
use Prim.Native.Nat.{ℕ, zero, suc, ◌+◌, ◌-◌, ◌<◌}
use mathlib.Core.Bool.{true, false}
use mathlib.Core.List.{List, [], ◌∷◌}
use native.Mathlib.Omega.{arith}
use lib.ListN.{length, drop, length-drop}
use Rattle.event.specs.Bytes.{Bytes}
use Rattle.event.specs.Event.{Event, is_end}
use Rattle.event.specs.Frame.{frame, after, no_status}
use Rattle.event.specs.Outcome.{Outcome, ok, refused}
use Rattle.event.specs.Reader.{read_event}
use Rattle.event.specs.Step.{end_of}
use Rattle.event.specs.declared.Time.{Time}
use Rattle.event.specs.declared.EventKind.{EventKind}
use Rattle.event.proofs.BytesLaws.{bytes_drop}
use Rattle.event.proofs.EventLaws.{event_shorter}
use Rattle.smf.specs.Walk.{Placed, Walked, whole, broken, behind, walk_on, stepped, walked, walked_body, placed_of}
use Rattle.smf.proofs.CameLaws.{Came}

-- ---- the count never shows

stepped_same : (at len : ℕ) (m : Outcome Event) (k j : ℕ → Event → List ℕ → Walked)
    → ((e : Event) (r : List ℕ) → m ≡ ok e r → k (at + (len - length r)) e r ≡ j (at + (len - length r)) e r) → stepped at len m k ≡ stepped at len m j
unfolding stepped
stepped_same at len (ok e r) k j h = ap (walk_on (is_end e.kind) (record { start = at; next = at + (len - length r); event = e }) r) (h e r refl)
stepped_same at len (refused n p) k j h = refl

walked_fuel : (n m at prev force : ℕ) (l : List ℕ) → Bytes l → length l < n → length l < m → walked n at prev force l ≡ walked m at prev force l
unfolding walked
walked_fuel zero m at prev force l bs hn hm = absurd (omega arith)
walked_fuel (suc n) zero at prev force l bs hn hm = absurd (omega arith)
walked_fuel (suc n) (suc m) at prev force l bs hn hm =
    stepped_same at (length l) (read_event prev force l) _ _ (λ e r q.
    let (shorter, br) = event_shorter prev force l e r bs q in
    walked_fuel n m _ e.time (after (frame e.kind)) r br (omega arith) (omega arith))

abbrev walk_all : ℕ → ℕ → ℕ → List ℕ → Walked
walk_all at prev force l = walked (suc (length l)) at prev force l

walk_step_lem : (at prev force : ℕ) (l : List ℕ) → Bytes l
    → walk_all at prev force l ≡ stepped at (length l) (read_event prev force l) (λ next e r. walk_all next e.time (after (frame e.kind)) r)
unfolding walked
walk_step_lem at prev force l bs =
    stepped_same at (length l) (read_event prev force l) _ _ (λ e r q.
    let (shorter, br) = event_shorter prev force l e r bs q in
    walked_fuel (length l) (suc (length r)) _ e.time (after (frame e.kind)) r br (omega arith) (omega arith))

-- ---- a turn of a loop, at the place at of the body s that begins at the place base

-- the events from there on
abbrev pub Met : List ℕ → ℕ → ℕ → ℕ → ℕ → List Placed
Met s base at t f = placed_of (walk_all (base + at) t f (drop at s))

-- those of the whole body
pub met_all : (s : List ℕ) (base : ℕ) → Met s base 0 0 no_status ≡ placed_of (walked_body base s)
unfolding walked_body
met_all s base = let e : base + 0 ≡ base = omega arith in ap (λ z. placed_of (walk_all z 0 no_status s)) e

placed_behind : (e : Placed) (w : Walked) → placed_of (behind e w) ≡ e ∷ placed_of w
unfolding placed_of behind
placed_behind e (whole es at r) = refl
placed_behind e (broken es n p) = refl

module _ {s : List ℕ} {at t f : ℕ} {u : Time} {k : EventKind} {q st : ℕ} (base : ℕ) (bs : Bytes s) (c : Came s at t f u k q st) where
  -- the event with its places
  abbrev pub here : Placed
  here = record { start = base + at; next = base + q; event = c.event }

  came_walk : walk_all (base + at) t f (drop at s) ≡ walk_on (end_of k) here (drop q s) (walk_all (base + q) u.0 st (drop q s))
  unfolding stepped
  came_walk =
      let lt = c.later in
      let le = c.inside in
      let next : base + at + (length (drop at s) - length (drop q s)) ≡ base + q = simp length-drop (omega arith) in
      rw (walk_step_lem (base + at) t f (drop at s) (bytes_drop s at bs), c.come, next, c.status, c.time, c.ends) refl

  pub met_next : end_of k ≡ false → Met s base at t f ≡ here ∷ Met s base q u.0 st
  unfolding walk_on
  met_next last =
      let w = walk_all (base + q) u.0 st (drop q s) in
      ap placed_of came_walk ∙ ap (λ z. placed_of (walk_on z here (drop q s) w)) last ∙ placed_behind here w

  pub met_end : end_of k ≡ true → Met s base at t f ≡ here ∷ []
  unfolding walk_on placed_of
  met_end last = ap placed_of came_walk ∙ ap (λ z. placed_of (walk_on z here (drop q s) (walk_all (base + q) u.0 st (drop q s)))) last
