-- "A piece is a format, a division and a list of tracks. A track is a list of events, each with a Time, whose last and only
-- last event is End_track."
use Rattle.std.specs.Prelude.{◌≡◌, ℕ, ◌≤◌, Bool, true, false, not, ◌||◌, List, [], ◌∷◌, length, eqb}
use Rattle.event.specs.Event.{Event, Lawful, is_end}
use Rattle.smf.specs.Division.{Division, LawfulDivision}

-- "A piece is a format, a division and a list of tracks"
pub record Piece : Type 0 where
  pub format : ℕ
  pub division : Division
  pub tracks : List (List Event)

-- what a header says, that of a file and the Header record of a text: format, number of tracks, division
pub record Header : Type 0 where
  pub format : ℕ
  pub count : ℕ
  pub division : Division

-- "1 for format 0": a format and a number of tracks
unfoldable pub tracks_fit : ℕ → ℕ → Bool
tracks_fit format n = not (eqb format 0) || eqb n 1

-- after End_track there is no event, after any other the rest is lawful
unfoldable pub Ends : Bool → List Event → Type 0 → Type 0
Ends true es P = es ≡ []
Ends false es P = P

-- the events of a track after the Time prev: "Times never fall along a track"; there is an End_track, and it is the last
unfoldable pub LawfulEvents : ℕ → List Event → Type 0
LawfulEvents prev [] = ⊥
LawfulEvents prev (e ∷ es) = Lawful prev e × Ends (is_end e.kind) es (LawfulEvents e.time es)

-- each track, from the Time 0 on
unfoldable pub LawfulTracks : List (List Event) → Type 0
LawfulTracks [] = Unit {0}
LawfulTracks (t ∷ ts) = LawfulEvents 0 t × LawfulTracks ts

-- "format 0..2, track count 1..65535 (1 for format 0), division"
pub record LawfulPiece (p : Piece) : Type 0 where
  pub format : p.format ≤ 2
  pub some : 1 ≤ length p.tracks
  pub few : length p.tracks ≤ 65535
  pub single : p.format ≡ 0 → length p.tracks ≡ 1
  pub division : LawfulDivision p.division
  pub tracks : LawfulTracks p.tracks
