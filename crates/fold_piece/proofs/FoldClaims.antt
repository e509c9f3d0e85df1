-- What document 02 asks to be shown of the folded piece, shown.
use mathlib.Core.Path.{refl, sym, ◌∙◌}
use Prim.Native.Nat.{ℕ, ◌≤◌}
use mathlib.Core.List.{List}
use lib.ListN.{length}
use Rattle.event.specs.Bytes.{Bytes}
use Rattle.event.specs.Event.{Event}
use Rattle.smf.specs.Piece.{Piece, LawfulPiece}
use Rattle.smf.specs.Layout.{LaidOut}
use Rattle.smf.specs.Reader.{file_limit}
use Rattle.smf.proofs.DemandLaws.{laid_read}
use Rattle.fold_piece.specs.Fold.{joined, by_time, folded_piece}
use Rattle.fold_piece.specs.FoldClaims.{EventsFolded, PieceFolded, FileFolded, FoldClaims}
use Rattle.fold_piece.proofs.OrderLaws.{only_one, perm_by_time}
use Rattle.fold_piece.proofs.TrackLaws.{folded_rising, folded_at, fold_steps}
use Rattle.fold_piece.proofs.WideLaws.{tracks_steps}
use Rattle.fold_piece.proofs.FoldLaws.{fold_zero, fold_single, fold_piece_lawful, fold_laid, fold_read}
use Rattle.fold_piece.proofs.AnswerLaws.{zero_tidies, rows_folded, number_none, number_37, outcome_folds, outcome_only}
use Rattle.fold_piece.proofs.RowsLaws.{rows_of}

events_folded : (ts : List (List Event)) → EventsFolded ts
events_folded ts =
    record {
      once = perm_by_time (joined ts);
      rising = folded_rising ts;
      each = λ t. folded_at t ts;
      only = λ es h g. only_one 0 es (by_time (joined ts)) h (folded_rising ts) (λ t. g t ∙ sym (folded_at t ts));
    }

piece_folded : (p : Piece) → LawfulPiece p → PieceFolded p
unfolding folded_piece
piece_folded p l =
    let lawful = fold_piece_lawful p l in
    record { lawful = lawful; zero = fold_zero p l; one = fold_single p l; again = fold_zero (folded_piece p) lawful refl }

file_folded : (f : List ℕ) (p : Piece) → Bytes f → LaidOut f p → length f ≤ file_limit → FileFolded f p
unfolding folded_piece
file_folded f p bs laid h =
    let law = laid.has.lawful in
    let lawful = fold_piece_lawful p law in
    let e = laid_read f p laid h in
    let same = (rows_of f p bs laid h).events in
    record {
      folds = outcome_folds f p bs e same;
      only = outcome_only f p bs e same;
      steps = fold_steps p.tracks law.tracks (tracks_steps p.tracks laid.spelling.tracks laid.has.permitted.tracks);
      laid = λ m. fold_laid m f p laid h;
      read = λ m g. fold_read m f p laid h g;
      again =
          λ rows one g.
          let read = fold_read _ f p laid h g in
          zero_tidies rows _ (folded_piece p) _ read lawful refl one ∙ read;
      zero = λ rows one z. zero_tidies rows f p _ e law z one;
    }

pub all_claims : FoldClaims
all_claims =
    record {
      events = events_folded;
      piece = piece_folded;
      file = file_folded;
      rows = rows_of;
      lent = rows_folded;
      never_27 = λ room rows f bs. (number_none room rows f bs).1;
      never_37 = number_37;
    }
