-- The answers of table to text: one law for each exit.
use mathlib.Core.Path.{◌≡◌, refl}
use Prim.Native.Nat.{ℕ, ◌<◌, ◌≤◌}
use mathlib.Core.List.{List}
use lib.ListN.{length}
use lib.Seq.{sets}
use borrow.Author.Tests.{le-leb, lt-leb}
use Rattle.event.specs.Choice.{pick}
use Rattle.event_write.proofs.WriteLaws.{put_whole}
use Rattle.smf.specs.Answer.{success, refusal, room_needed}
use Rattle.smf.specs.declared.Answer.{Answer}
use Rattle.midicsv.specs.PieceOfText.{text_limit}
use Rattle.sheet_table.specs.Table.{table_text}
use Rattle.sheet_table.specs.TableAnswer.{table_limit, table_answer, table_leaves}

-- the answer and what the room holds afterwards
abbrev Right : List ℕ → List ℕ → Answer → List ℕ → Type 0
Right s old a new = (a ≡ table_answer (length old) s) × (new ≡ table_leaves s old)

pub long_table : (s old : List ℕ) → table_limit < length s → Right s old (refusal 38 0) old
unfolding table_answer table_leaves pick
long_table s old h = rw (lt-leb (length s) table_limit h) (refl, refl)

-- n is the length of the text
module _ (s old : List ℕ) (h : length s ≤ table_limit) (n : ℕ) (size : n ≡ length (table_text s)) where
  pub long_text_lem : text_limit < n → Right s old (refusal 21 0) old
  unfolding table_answer table_leaves pick
  long_text_lem b = rw (le-leb (length s) table_limit h, ← size, lt-leb n text_limit b) (refl, refl)

  pub small_room : n ≤ text_limit → length old < n → Right s old (room_needed n) old
  unfolding table_answer table_leaves pick
  small_room b g = rw (le-leb (length s) table_limit h, ← size, le-leb n text_limit b, lt-leb n (length old) g) (refl, refl)

  pub written_text : n ≤ text_limit → n ≤ length old → Right s old (success n) (sets old 0 (table_text s))
  unfolding table_answer table_leaves pick
  written_text b g =
      let e = put_whole (table_text s) old n size g in
      rw (le-leb (length s) table_limit h, ← size, le-leb n text_limit b, le-leb n (length old) g) (refl, e)
