-- What each exported function promises of a call: the number r that it answers and what the lent room, which held old, or lists, hold afterwards.
use Rattle.std.specs.Prelude.{◌≡◌, ℕ, List, length}
use Rattle.smf.specs.Reader.{read_file}
use Rattle.smf.specs.Answer.{verdict}
use Rattle.smf.specs.Listing.{end_times, event_counts, paddings_in, list_answer, list_leaves}
use Rattle.midicsv_read.specs.ToFile.{file_answer, file_leaves}
use Rattle.midicsv.specs.Show.{as_text, as_sheet}
use Rattle.midicsv_write.specs.ToText.{written_answer, written_leaves}
use Rattle.sheet_table.specs.TableAnswer.{table_answer, table_leaves}
use Rattle.smf.specs.Writing.{short_answer, short_leaves}
use Rattle.fold_piece.specs.FoldAnswer.{most_tracks, fold_answer, fold_leaves}
use Rattle.noferkash.specs.Packed.{packed}

-- noferkash_check on the file f
abbrev pub CheckCall : List ℕ → ℕ → Type 0
CheckCall f r = r ≡ packed (verdict (read_file f))

-- noferkash_file_to_text on the file f
abbrev pub TextCall : List ℕ → List ℕ → ℕ → List ℕ → Type 0
TextCall f old r new = (r ≡ packed (written_answer as_text (length old) (read_file f))) × (new ≡ written_leaves as_text (read_file f) old)

-- noferkash_text_to_file on the text s in the manner
abbrev pub FileCall : List ℕ → ℕ → List ℕ → ℕ → List ℕ → Type 0
FileCall s manner old r new = (r ≡ packed (file_answer s manner (length old))) × (new ≡ file_leaves s manner old)

-- noferkash_tidy on the file f
abbrev pub TidyCall : List ℕ → List ℕ → ℕ → List ℕ → Type 0
TidyCall f old r new = (r ≡ packed (short_answer (length old) (read_file f))) × (new ≡ short_leaves (read_file f) old)

-- noferkash_list_tracks on the file f, with three lists, which held the first three and hold the last three
abbrev pub ListCall : List ℕ → List ℕ → List ℕ → List ℕ → ℕ → List ℕ → List ℕ → List ℕ → Type 0
ListCall f ends counts padding r ends' counts' padding' =
    (r ≡ packed (list_answer (length ends) (length counts) (length padding) (read_file f)))
    × (ends' ≡ list_leaves end_times (length ends) (length counts) (length padding) (read_file f) ends)
    × (counts' ≡ list_leaves event_counts (length ends) (length counts) (length padding) (read_file f) counts)
    × (padding' ≡ list_leaves (paddings_in f) (length ends) (length counts) (length padding) (read_file f) padding)

-- noferkash_fold on the file f: it has a row of its own for each of the most tracks
abbrev pub FoldCall : List ℕ → List ℕ → ℕ → List ℕ → Type 0
FoldCall f old r new = (r ≡ packed (fold_answer (length old) most_tracks f)) × (new ≡ fold_leaves most_tracks f old)

-- noferkash_file_to_sheet on the file f
abbrev pub SheetCall : List ℕ → List ℕ → ℕ → List ℕ → Type 0
SheetCall f old r new = (r ≡ packed (written_answer as_sheet (length old) (read_file f))) × (new ≡ written_leaves as_sheet (read_file f) old)

-- noferkash_sheet_to_text on the saved table s
abbrev pub TableCall : List ℕ → List ℕ → ℕ → List ℕ → Type 0
TableCall s old r new = (r ≡ packed (table_answer (length old) s)) × (new ≡ table_leaves s old)
