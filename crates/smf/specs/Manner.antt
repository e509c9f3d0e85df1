-- The two manners of writing as spellings of a piece.
use Rattle.std.specs.Prelude.{ℕ, List, [], ◌∷◌}
use Rattle.event.specs.Event.{Event}
use Rattle.event.specs.Frame.{frame, after, no_status}
use Rattle.event.specs.Spelling.{Spelling}
use Rattle.event.specs.Manner.{Manner, spell_event}
use Rattle.smf.specs.Piece.{Piece}
use Rattle.smf.specs.Spelling.{TrackSpelling, PieceSpelling}
use Rattle.smf.specs.Layout.{lay_piece}

-- the events of a track after the Time prev, with the status force in force
unfoldable pub spell_events : Manner → ℕ → ℕ → List Event → List Spelling
spell_events m prev force [] = []
spell_events m prev force (e ∷ es) = spell_event m prev force e ∷ spell_events m e.time (after (frame e.kind)) es

-- "Track start .. leave no status in force"; "Our writers write none" of the chunks that readers pass over
unfoldable pub spell_tracks : Manner → List (List Event) → List TrackSpelling
spell_tracks m [] = []
spell_tracks m (t ∷ ts) = record { before = []; events = spell_events m 0 no_status t } ∷ spell_tracks m ts

-- of a piece
unfoldable pub spelling : Manner → Piece → PieceSpelling
spelling m p = record { extra = []; tracks = spell_tracks m p.tracks; behind = [] }

-- THE file of a piece in a manner
unfoldable pub file_of : Manner → Piece → List ℕ
file_of m p = lay_piece p (spelling m p)
