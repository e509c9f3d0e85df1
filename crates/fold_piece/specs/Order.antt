-- Words for the order of the folded events.
use Rattle.std.specs.Prelude.{ℕ, ◌+◌, ◌≤◌, List, [], ◌∷◌, ◌++◌, eqb}
use Rattle.event.specs.Choice.{pick}
use Rattle.event.specs.Event.{Event}
use Rattle.fold_piece.specs.Fold.{others}

-- Times never fall, from the Time prev on
unfoldable pub Rising : ℕ → List Event → Type 0
Rising prev [] = Unit {0}
Rising prev (e ∷ es) = (prev ≤ e.time) × Rising e.time es

-- the events at one Time, in the order in which they stand
unfoldable pub at : ℕ → List Event → List Event
at t [] = []
at t (e ∷ es) = pick (eqb e.time t) (e ∷ at t es) (at t es)

-- "equal Times by track number, then in their own order": those of track 1 at one Time in their own order, then those of track 2 ..
unfoldable pub each_at : ℕ → List (List Event) → List Event
each_at t [] = []
each_at t (x ∷ xs) = at t (others x) ++ each_at t xs

-- "268,435,455"
abbrev pub longest : ℕ
longest = 268435455

-- no step from the Time prev on is longer
unfoldable pub Steps : ℕ → List Event → Type 0
Steps prev [] = Unit {0}
Steps prev (e ∷ es) = (e.time ≤ prev + longest) × Steps e.time es
