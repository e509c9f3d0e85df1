-- The folded piece: lawful, with no step too long, and with a layout wherever the old one has a file of permitted length.
use mathlib.Core.Path.{◌≡◌, refl, sym, ap, ◌∙◌}
use Prim.Native.Nat.{ℕ, ◌+◌, ◌*◌, ◌≤◌}
use mathlib.Core.List.{List, [], ◌∷◌, ◌++◌, map}
use native.Mathlib.Omega.{arith}
use lib.ListN.{length, length-append}
use Rattle.event.specs.Event.{Event}
use Rattle.event.specs.Frame.{frame, no_status}
use Rattle.event.specs.Manner.{Manner}
use Rattle.event.specs.Number.{vlq}
use Rattle.event.specs.Layout.{lay_frame}
use Rattle.event.specs.Outcome.{ok}
use Rattle.smf.specs.Piece.{Piece, LawfulPiece, LawfulTracks}
use Rattle.smf.specs.Chunk.{AllPassed}
use Rattle.smf.specs.Spelling.{TrackSpelling, PieceSpelling, PermittedTracks, PermittedEvents}
use Rattle.smf.specs.Layout.{lay_chunks, lay_piece, lay_tracks, ShortTracks, LaidOut}
use Rattle.smf.specs.Listing.{end_times}
use Rattle.smf.specs.Manner.{spell_tracks, spelling, file_of}
use Rattle.smf.specs.Reader.{file_limit, read_file}
use Rattle.smf.proofs.DemandLaws.{laid_read}
use Rattle.smf.proofs.FileLaws.{header_size}
use Rattle.smf.proofs.MannerLaws.{manner_permitted, events_double}
use Rattle.fold_piece.specs.Fold.{joined, by_time, greatest, end_at, folded_track, folded_piece}
use Rattle.fold_piece.proofs.OrderLaws.{All, all_append, all_by_time}
use Rattle.fold_piece.proofs.TrackLaws.{fold_one, fold_lawful, fold_steps}
use Rattle.fold_piece.proofs.WideLaws.{wide_rest, wide, DataFit, Fit, total, total_append, total_by_time, lay_total, wide_permitted, tracks_steps, joined_fit, joined_total}

-- ---- a piece of one track has that track; "A format 0 piece comes back the same"

one_track_lem : (ts : List (List Event)) → length ts ≡ 1 → LawfulTracks ts → folded_track ts ∷ [] ≡ ts
unfolding LawfulTracks
one_track_lem [] n l = absurd (omega arith)
one_track_lem (t ∷ []) n l = ap (λ x. x ∷ []) (fold_one t l.0)
one_track_lem (t ∷ (u ∷ ts)) n l = absurd (omega arith)

pub fold_single : (p : Piece) → LawfulPiece p → length p.tracks ≡ 1 → folded_piece p ≡ record { format = 0; division = p.division; tracks = p.tracks }
unfolding folded_piece
fold_single p l n = ap (λ x. record { format = 0; division = p.division; tracks = x }) (one_track_lem p.tracks n l.tracks)

pub fold_zero : (p : Piece) → LawfulPiece p → p.format ≡ 0 → folded_piece p ≡ p
fold_zero p l z = fold_single p l (l.single z) ∙ ap (λ x. record { format = x; division = p.division; tracks = p.tracks }) (sym z)

-- ---- lawful

pub fold_piece_lawful : (p : Piece) → LawfulPiece p → LawfulPiece (folded_piece p)
unfolding folded_piece LawfulTracks
fold_piece_lawful p l =
    record {
      format = omega arith;
      some = omega arith;
      few = omega arith;
      single = λ z. refl;
      division = l.division;
      tracks = (fold_lawful p.tracks l.tracks, tt);
    }

-- ---- a layout

module _ (ts : List (List Event)) (ss : List TrackSpelling) (l : LawfulTracks ts) (p : PermittedTracks ts ss) where
  pub fold_permitted : PermittedEvents 0 no_status (folded_track ts) (map wide (folded_track ts))
  unfolding folded_track All DataFit frame
  fold_permitted =
      wide_permitted 0 no_status (folded_track ts) (fold_steps ts l (tracks_steps ts ss p))
      (all_append Fit (by_time (joined ts)) (end_at (greatest (end_times ts)) ∷ []) (all_by_time Fit (joined ts) (joined_fit ts ss p)) (omega arith, tt))

  pub fold_total : total (folded_track ts) ≤ 3 * length (lay_tracks ts ss) + 10
  unfolding folded_track total lay_frame frame wide_rest vlq
  fold_total =
      omega (arith, total_append (by_time (joined ts)) (end_at (greatest (end_times ts)) ∷ []), total_by_time (joined ts), joined_total ts ss p)

-- in either manner the folded piece of a file of permitted length has a layout: no step too long (27), no track too long
pub fold_laid : (m : Manner) (f : List ℕ) (p : Piece) → LaidOut f p → length f ≤ file_limit → LaidOut (file_of m (folded_piece p)) (folded_piece p)
unfolding file_of spelling spell_tracks folded_piece AllPassed PermittedTracks ShortTracks lay_piece
fold_laid m f p laid h =
    let law = laid.has.lawful in
    let ts = p.tracks in
    let s = laid.spelling in
    let given = laid.has.permitted.tracks in
    let permitted = fold_permitted ts s.tracks law.tracks given in
    let wides : PieceSpelling = record { extra = []; tracks = record { before = []; events = map wide (folded_track ts) } ∷ []; behind = [] } in
    let size = header_size p.format (length ts) p.division s.extra (lay_tracks ts s.tracks ++ lay_chunks s.behind) in
    let parts = length-append (lay_tracks ts s.tracks) (lay_chunks s.behind) in
    record {
      spelling = spelling m (folded_piece p);
      has =
          record {
            lawful = fold_piece_lawful p law;
            permitted = manner_permitted m (folded_piece p) wides (record { tracks = (permitted, tt, tt); extra = tt; header = omega arith; behind = tt });
            short = (
              omega
                  (arith, events_double m 0 no_status (folded_track ts) (map wide (folded_track ts)) permitted, lay_total 0 (folded_track ts), fold_total ts s.tracks law.tracks given, ap length laid.bytes, size, parts, h),
              tt,
            );
          };
      bytes = refl;
    }

-- so the folded file, where it is not too long, is read as the folded piece
pub fold_read : (m : Manner) (f : List ℕ) (p : Piece) → LaidOut f p → length f ≤ file_limit → length (file_of m (folded_piece p)) ≤ file_limit
    → read_file (file_of m (folded_piece p)) ≡ ok (folded_piece p) []
fold_read m f p laid h g = laid_read (file_of m (folded_piece p)) (folded_piece p) (fold_laid m f p laid h) g
