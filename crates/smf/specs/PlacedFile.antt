-- The events of a file's tracks with their places.
use Rattle.std.specs.Prelude.{ℕ, zero, suc, ◌-◌, List, [], ◌∷◌, length}
use Rattle.event.specs.Outcome.{Outcome, ok, refused}
use Rattle.smf.specs.Piece.{Header}
use Rattle.smf.specs.Reader.{read_chunk, read_header}
use Rattle.smf.specs.Walk.{Placed, walked_body, placed_of}

-- the track whose chunk was found, in a file of so many bytes, and then the others
unfoldable pub found_track : ℕ → Outcome (List ℕ) → (List ℕ → List (List Placed)) → List (List Placed)
found_track size (ok body r) k = placed_of (walked_body (size - length r - length body) body) ∷ k r
found_track size (refused n p) k = []

-- so many tracks of a file of so many bytes, of which l is left
unfoldable pub placed_tracks : ℕ → ℕ → List ℕ → List (List Placed)
placed_tracks size zero l = []
placed_tracks size (suc n) l = found_track size (read_chunk (size - length l) l) (λ r. placed_tracks size n r)

-- as many as the header counts
unfoldable pub placed_after : ℕ → Outcome Header → List (List Placed)
placed_after size (ok h l) = placed_tracks size h.count l
placed_after size (refused n p) = []

-- of an accepted file: track by track all its events
unfoldable pub placed_file : List ℕ → List (List Placed)
placed_file f = placed_after (length f) (read_header f)
