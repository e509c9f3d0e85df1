-- "Listing the tracks fills two lent lists of 32-bit numbers, End_track Times and event counts (End_track included); the length
-- is the track count, and a shorter list is 14 with that count." Request 8: "the track listing sums these for each track in a third lent
-- list of 32-bit numbers".
use Rattle.std.specs.Prelude.{◌≡◌, ℕ, Bool, ◌&&◌, List, [], ◌∷◌, ◌++◌, length, take, drop, leb}
use Rattle.event.specs.Choice.{pick}
use Rattle.event.specs.Event.{Event}
use Rattle.event.specs.Outcome.{Outcome, ok, refused}
use Rattle.smf.specs.Piece.{Piece}
use Rattle.smf.specs.Step.{last_time}
use Rattle.smf.specs.Spelling.{PieceSpelling}
use Rattle.smf.specs.Layout.{lay_piece, HasLayout}
use Rattle.smf.specs.Padding.{spelled_sums, paddings}
use Rattle.smf.specs.Answer.{success, refusal, room_needed}
use Rattle.smf.specs.declared.Answer.{Answer}

-- the Times of the tracks' End_tracks, which are their last events
unfoldable pub end_times : List (List Event) → List ℕ
end_times [] = []
end_times (t ∷ ts) = last_time 0 t ∷ end_times ts

-- the numbers of the tracks' events
unfoldable pub event_counts : List (List Event) → List ℕ
event_counts [] = []
event_counts (t ∷ ts) = length t ∷ event_counts ts

-- lists of n, m and o numbers have room for k tracks
unfoldable pub has_room : ℕ → ℕ → ℕ → ℕ → Bool
has_room n m o k = leb k n && (leb k m && leb k o)

-- "the length is the track count, and a shorter list is 14 with that count"; "14 also for a short third list"
unfoldable pub list_answer : ℕ → ℕ → ℕ → Outcome Piece → Answer
list_answer n m o (ok p r) = pick (has_room n m o (length p.tracks)) (success (length p.tracks)) (room_needed (length p.tracks))
list_answer n m o (refused k q) = refusal k q

-- what a lent list holds afterwards: the tracks' numbers and past them what it held; "Any refusal: nothing is written anywhere"
unfoldable pub list_leaves : (List (List Event) → List ℕ) → ℕ → ℕ → ℕ → Outcome Piece → List ℕ → List ℕ
list_leaves f n m o (ok p r) old = pick (has_room n m o (length p.tracks)) (f p.tracks ++ drop (length p.tracks) old) old
list_leaves f n m o (refused k q) old = old

-- the third list is of the file f, whatever its tracks are: two files of one piece may pad it in different ways
abbrev pub paddings_in : List ℕ → List (List Event) → List ℕ
paddings_in f ts = paddings f

-- request 8 as the spelling says it: of a file whose listing answered this number and this length, and left this in the third list, that
-- list begins with the sums that every spelling gives which lays out some piece to the file
pub record PaddingTold (f : List ℕ) (number count : ℕ) (left : List ℕ) : Type 0 where
  pub told : (p : Piece) (s : PieceSpelling) → HasLayout p s → lay_piece p s ≡ f → number ≡ 0 → take count left ≡ spelled_sums p.tracks s.tracks
