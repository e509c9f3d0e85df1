-- What the rows of a merge say of the file: each stands before the events that its track still has.
use Rattle.std.specs.Prelude.{◌≡◌, ℕ, ◌<◌, List, [], ◌∷◌, drop, get_or}
use Rattle.event.specs.Choice.{pick}
use Rattle.event.specs.Event.{is_end}
use Rattle.smf.specs.Walk.{Placed}
use Rattle.smf.specs.Code.Chain.{Chain}

-- the Time of the first of the events
unfoldable pub first_time : List Placed → ℕ
first_time [] = 0
first_time (e ∷ es) = e.event.time

-- and the row's status before it
unfoldable pub first_status : ℕ → List Placed → ℕ
first_status force [] = 1
first_status force (e ∷ es) = pick (is_end e.event.kind) 1 force

-- a row stands before the events of es
pub record Stand (f : List ℕ) (place time status : ℕ) (es : List Placed) : Type 0 where
  pub prev : ℕ
  pub force : ℕ
  pub plain : force ≡ 1 → ⊥
  pub chain : Chain f place prev force es
  pub time_is : time ≡ first_time es
  pub status_is : status ≡ first_status force es

-- the first n rows
abbrev pub Standing : List ℕ → ℕ → List ℕ → List ℕ → List ℕ → List (List Placed) → Type 0
Standing f n ps ts ss left = (j : ℕ) → j < n → Stand f (get_or ps j 0) (get_or ts j 0) (get_or ss j 0) (get_or left j [])

-- and the spare rows are as they were
pub record Rows (f : List ℕ) (n : ℕ) (left : List (List Placed)) (ps ts ss ps₀ ts₀ ss₀ : List ℕ) : Type 0 where
  pub standing : Standing f n ps ts ss left
  pub places : drop n ps ≡ drop n ps₀
  pub times : drop n ts ≡ drop n ts₀
  pub statuses : drop n ss ≡ drop n ss₀
