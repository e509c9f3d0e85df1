-- The walk over a track's events: the cases of a turn of its loop.
use Rattle.std.specs.Prelude.{Result, Ok, Err}
use Rattle.event.specs.declared.EventRead.{EventRead}
use Rattle.smf.specs.declared.Walked.{Walked}
use mathlib.Core.Path.{◌≡◌, refl, ap, ◌∙◌}
use Prim.Native.Nat.{ℕ, ◌+◌, ◌-◌, ◌<◌, ◌≤◌}
use mathlib.Core.Bool.{true, false}
use mathlib.Core.List.{List, ◌∷◌}
use native.Mathlib.Omega.{arith}
use lib.ListN.{length, drop, drop_of_length-le}
use lib.Seq.{drop-cons}
use Rattle.event.specs.Bytes.{Bytes}
use Rattle.event.specs.Event.{Event}
use Rattle.event.specs.Outcome.{Outcome, ok, refused, and_then}
use Rattle.event.specs.Reader.{read_event}
use Rattle.event.specs.Padding.{event_padding}
use Rattle.event.specs.Step.{end_of, event_step}
use Rattle.event.specs.declared.Time.{Time}
use Rattle.event.specs.declared.EventKind.{EventKind}
use Rattle.smf.specs.Reader.{ended, read_all}
use Rattle.smf.specs.Step.{last_time, walk_step}
use Rattle.smf.proofs.CameLaws.{Came, came_stop, came_next, came_end}

-- one event more before the rest
walk_cons : (t n x : ℕ) (e : Event) (k : Outcome (List Event)) → walk_step t n x (and_then k (λ es q. ok (e ∷ es) q)) ≡ walk_step e.time (n + 1) x k
unfolding walk_step last_time and_then
walk_cons t n x e (ok es q) = ap (λ z. Ok (record { time = (record { 0 = last_time e.time es }); events = z; padding = x })) (omega arith)
walk_cons t n x e (refused k p) = refl

-- what is walked from the place at of the body s, which begins at the place base
abbrev Walk : ℕ → List ℕ → ℕ → ℕ → ℕ → ℕ → ℕ → Result Walked (ℕ × ℕ)
Walk w s base at prev n f = walk_step prev n w (read_all (base + at) prev f (drop at s))

pub turn_stop : {x : Result EventRead ℕ} {k : ℕ} (w : ℕ) (s : List ℕ) (base at prev n f : ℕ) → Bytes s → x ≡ event_step (length s) (event_padding (drop at s)) (read_event prev f (drop at s)) → x ≡ Err k → Walk w s base at prev n f ≡ Err (k, (base + at))
unfolding walk_step
turn_stop w s base at prev n f bs e given = ap (walk_step prev n w) (came_stop s at prev f (base + at) bs e given)

module _ {s : List ℕ} {at prev f : ℕ} {t : Time} {k : EventKind} {q st : ℕ} (w base n : ℕ) (bs : Bytes s) (c : Came s at prev f t k q st) where
  move : base + q ≡ base + at + (q - at)
  move = omega (arith, c.later)

  pub turn_next : end_of k ≡ false → Walk w s base at prev n f ≡ Walk w s base q t.0 (n + 1) st
  turn_next last =
      ap (walk_step prev n w) (came_next bs c (base + at) (base + q) move last)
      ∙ walk_cons prev n w c.event (read_all (base + q) t.0 st (drop q s))
      ∙ ap (λ z. walk_step z (n + 1) w (read_all (base + q) t.0 st (drop q s))) c.time

  pub turn_end : end_of k ≡ true → length s ≤ q → Walk w s base at prev n f ≡ Ok (record { time = t; events = (n + 1); padding = w })
  unfolding ended walk_step last_time
  turn_end last stop = ap (walk_step prev n w) (came_end bs c (base + at) (base + q) move last) ∙ rw (drop_of_length-le s stop, c.time) refl

  pub turn_more : end_of k ≡ true → q < length s → Walk w s base at prev n f ≡ Err (12, (base + q))
  unfolding ended walk_step
  turn_more last more = ap (walk_step prev n w) (came_end bs c (base + at) (base + q) move last) ∙ rw (drop-cons s q 0 more) refl
