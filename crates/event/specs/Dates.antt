-- "A delta may be added to a Time; two Times never."
use Rattle.std.specs.Prelude.{ℕ, ◌+◌, ◌-◌, leb, Option, Some, None}
use Rattle.event.specs.Choice.{pick}
use Rattle.event.specs.declared.Time.{Time}
use Rattle.event.specs.declared.Delta.{Delta}

-- the Time t and the delta d after it: a Time, or "over 4,294,967,295"
unfoldable pub later_of : ℕ → ℕ → Option Time
later_of t d = pick (leb (t + d) 4294967295) (Some (record { 0 = t + d })) None

-- the Time t less the Time u: a delta, unless u is later
unfoldable pub since_of : ℕ → ℕ → Option Delta
since_of t u = pick (leb u t) (Some (record { 0 = t - u })) None
