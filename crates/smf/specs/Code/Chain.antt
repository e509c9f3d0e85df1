-- How placed events stand in a file: each is read at its place, after the one before.
use Rattle.std.specs.Prelude.{◌≡◌, ℕ, ◌≤◌, ◌<◌, Bool, true, false, List, [], ◌∷◌, length, drop}
use Rattle.event.specs.Event.{is_end}
use Rattle.event.specs.Frame.{frame, after}
use Rattle.event.specs.Outcome.{ok}
use Rattle.event.specs.Reader.{read_event}
use Rattle.smf.specs.Walk.{Placed}
use Rattle.smf.specs.PlacedFile.{placed_tracks}

-- the event stands in f at the place `at`, after the Time prev, with the status force in force
pub record Link (f : List ℕ) (at prev force : ℕ) (e : Placed) : Type 0 where
  pub place : e.start ≡ at
  pub come : read_event prev force (drop at f) ≡ ok e.event (drop e.next f)
  pub later : at < e.next
  pub inside : e.next ≤ length f

-- after End_track there is nothing, after any other event P holds
unfoldable pub Tail : Bool → List Placed → Type 0 → Type 0
Tail true es P = es ≡ []
Tail false es P = P

-- the events from the place `at` on, up to an End_track
unfoldable pub Chain : List ℕ → ℕ → ℕ → ℕ → List Placed → Type 0
Chain f at prev force [] = ⊥
Chain f at prev force (e ∷ es) =
    Link f at prev force e × Tail (is_end e.event.kind) es (Chain f e.next e.event.time (after (frame e.event.kind)) es)

-- so many tracks of the file f, from the place first on
abbrev pub placed_from : List ℕ → ℕ → ℕ → List (List Placed)
placed_from f count first = placed_tracks (length f) count (drop first f)
