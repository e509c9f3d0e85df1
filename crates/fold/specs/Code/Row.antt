-- A row of the merge, and the folded file as it is written.
use Rattle.std.specs.Prelude.{Result, Ok, Err}
use Rattle.event.specs.declared.EventRead.{EventRead}
use Rattle.std.specs.Prelude.{ℕ, ◌≤◌, List, [], ◌++◌, length, drop}
use Rattle.event.specs.Choice.{pick}
use Rattle.event.specs.Event.{Event}
use Rattle.event.specs.Manner.{short}
use Rattle.event.specs.Outcome.{Readable, value_or}
use Rattle.event.specs.Step.{end_of}
use Rattle.smf.specs.Division.{division_of}
use Rattle.smf.specs.Layout.{lay_header}
use Rattle.smf.specs.Reader.{read_tracks}
use Rattle.smf.specs.Walk.{Placed}
use Rattle.smf.specs.Code.Chain.{placed_from}
use Rattle.smf_write.specs.Tidy.{track_in}
use Rattle.fold_piece.specs.Fold.{folded_track}
use Rattle.fold_piece.specs.FoldAnswer.{ends_shown}
use Rattle.fold.specs.declared.Row.{Row}

-- the row of a track whose next event is the one answered, at the place at, after the Time time, with the status in force: that event's
-- place and Time and the status before it, or status 1 where it is End_track
unfoldable pub row_of : ℕ → ℕ → ℕ → Result EventRead ℕ → Row
row_of at time status (Ok e) = record { place = at; time = e.next.time.0; status = pick (end_of e.kind) 1 status }
row_of at time status (Err number) = record { place = at; time = time; status = 1 }

-- a file of format 0 with the one track, its division by its 16 bits
abbrev pub file_in : ℕ → List Event → List ℕ
file_in n es = lay_header 0 1 (division_of n) [] (track_in short es)

-- ---- what the functions of the merge say of so many tracks of the file f from the place first on

-- they are known to read
abbrev pub TracksRead : List ℕ → ℕ → ℕ → Type 0
TracksRead f count first = Readable (read_tracks count first (drop first f))

-- the one track that they fold to
abbrev pub track_of : List ℕ → ℕ → ℕ → List Event
track_of f count first = folded_track (value_or [] (read_tracks count first (drop first f)))

-- there is a row for each
abbrev pub RowsFor : ℕ → List ℕ → List ℕ → List ℕ → Type 0
RowsFor count ps ts ss = (count ≤ length ps) × (count ≤ length ts) × (count ≤ length ss)

-- what the numbers of one kind hold afterwards, which held old before
abbrev pub showing : (Placed → ℕ) → List ℕ → ℕ → ℕ → List ℕ → List ℕ
showing g f count first old = ends_shown g (placed_from f count first) ++ drop count old
