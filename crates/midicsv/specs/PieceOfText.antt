-- The piece of a text, or the number and the line of its refusal.
use Rattle.std.specs.Prelude.{ℕ, suc, List, [], ◌∷◌}
use Rattle.event.specs.Choice.{pick}
use Rattle.event.specs.Outcome.{Outcome, ok, refused}
use Rattle.smf.specs.Piece.{Piece}
use Rattle.midicsv.specs.Record.{Record}
use Rattle.midicsv.specs.Result.{Result, good, bad, next}
use Rattle.midicsv.specs.ReadRecord.{read_line}
use Rattle.midicsv.specs.Lines.{lines_of, trimmed, passed_over}
use Rattle.midicsv.specs.Order.{State, first, between, inside, finished, step}

-- a line that is passed over, or its record
pub data Told : Type 0 where
  skipped : Told
  told : Result Record → Told

-- a line without its CR, passed over or read by rd
unfoldable pub framed : (List ℕ → Result Record) → List ℕ → Told
framed rd l = pick (passed_over (trimmed l)) skipped (told (rd (trimmed l)))

-- the line of a text
unfoldable pub tell_line : List ℕ → Told
tell_line l = framed read_line l

-- "22 .. 25, 26, 27"
unfoldable pub step_told : State → Told → Result State
step_told s skipped = good s
step_told s (told m) = next m (step s)

-- a refusal's place is the line n; "lines from 1"
unfoldable pub advance : Result State → ℕ → (State → Outcome Piece) → Outcome Piece
advance (good s) n k = k s
advance (bad m) n k = refused m n

-- 28: "text ends before End_of_file", at "line count + 1", which is n
unfoldable pub ended : State → ℕ → Outcome Piece
ended first n = refused 28 n
ended (between h ts) n = refused 28 n
ended (inside h ts es t) n = refused 28 n
ended (finished p) n = ok p []

-- the lines from line n on, each told by tell; those that are passed over are counted
unfoldable pub run_lines : (List ℕ → Told) → List (List ℕ) → State → ℕ → Outcome Piece
run_lines tell [] s n = ended s n
run_lines tell (l ∷ ls) s n = advance (step_told s (tell l)) n (λ t. run_lines tell ls t (suc n))

-- all lines of a text, each told by tell
unfoldable pub piece_told : (List ℕ → Told) → List ℕ → Outcome Piece
piece_told tell s = run_lines tell (lines_of s) first 1

-- a text of any length
unfoldable pub piece_of_text : List ℕ → Outcome Piece
piece_of_text s = piece_told tell_line s

-- "text over 33,554,432 bytes"
abbrev pub text_limit : ℕ
text_limit = 33554432
