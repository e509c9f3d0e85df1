-- What the writers of a file's parts write, in either manner. Tidying itself, "read, write again in manner 1", is short_answer and
-- short_leaves (smf/specs/Writing) of the file as it is read: the reading refusals, "After these .. 29, 14".
use Rattle.std.specs.Prelude.{ℕ, ◌-◌, List}
use Rattle.event.specs.Event.{Event}
use Rattle.event.specs.Frame.{no_status}
use Rattle.event.specs.Manner.{Manner}
use Rattle.event.specs.declared.Delta.{Delta}
use Rattle.smf.specs.Layout.{lay_events, lay_track, lay_tracks}
use Rattle.smf.specs.Manner.{spell_events, spell_tracks}

-- the events of a track, after the Time prev, with the status force in force
abbrev pub events_in : Manner → ℕ → ℕ → List Event → List ℕ
events_in m prev force es = lay_events prev es (spell_events m prev force es)

-- a track with its tag and length
abbrev pub track_in : Manner → List Event → List ℕ
track_in m es = lay_track es (spell_events m 0 no_status es)

-- the tracks of a piece
abbrev pub tracks_in : Manner → List (List Event) → List ℕ
tracks_in m ts = lay_tracks ts (spell_tracks m ts)

-- the delta from the Time u to the Time t
abbrev pub step_of : ℕ → ℕ → Delta
step_of t u = record { 0 = t - u }
