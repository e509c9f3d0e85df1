-- The search for the row to take, over the Times and statuses of the rows; status 1, which is no status byte, stands for a row whose
-- track has come to its End_track.
use Rattle.std.specs.Prelude.{ℕ, zero, suc, ◌+◌, List, get_or, eqb, ltb}
use Rattle.event.specs.Choice.{pick}

-- the better of the best row so far and row i; n stands for none
unfoldable pub nearer : ℕ → List ℕ → List ℕ → ℕ → ℕ → ℕ
nearer n ts ss best i = pick (eqb (get_or ss i 0) 1) best (pick (eqb best n) i (pick (ltb (get_or ts i 0) (get_or ts best 0)) i best))

-- the best of the best so far and so many rows from i on
unfoldable pub least_from : ℕ → ℕ → ℕ → ℕ → List ℕ → List ℕ → ℕ
least_from zero n i best ts ss = best
least_from (suc k) n i best ts ss = least_from k n (i + 1) (nearer n ts ss best i) ts ss

-- the first of the rows whose Times are least, among those that have an event left; n if there is none
unfoldable pub least_of : ℕ → List ℕ → List ℕ → ℕ
least_of n ts ss = least_from n n 0 n ts ss

-- the row i again, if it has a further event at the Time t of the one that was taken; else the least of all
unfoldable pub least_after : ℕ → List ℕ → List ℕ → ℕ → ℕ → ℕ
least_after n ts ss i t = pick (eqb (get_or ts i 0) t) (pick (eqb (get_or ss i 0) 1) (least_of n ts ss) i) (least_of n ts ss)
