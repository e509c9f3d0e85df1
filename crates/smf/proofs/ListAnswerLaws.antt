-- What is known of a listing: its answer fits the exported number, and what it leaves in the third list is what the spelling says.
use mathlib.Core.Path.{◌≡◌, refl, sym, ap, ◌∙◌}
use Prim.Native.Nat.{ℕ, suc, ◌≤◌}
use mathlib.Core.List.{List, [], ◌∷◌}
use native.Mathlib.Omega.{arith}
use lib.ListN.{length, take, drop}
use lib.Seq.{take_at}
use Rattle.event.specs.Bytes.{Bytes}
use Rattle.event.specs.Choice.{pick}
use Rattle.event.specs.Event.{Event}
use Rattle.event.specs.Outcome.{Outcome, ok, refused}
use Rattle.event.proofs.ChoiceLaws.{by_test}
use Rattle.event.proofs.OutcomeLaws.{ok_same}
use Rattle.event.proofs.RefusalLaws.{Fair}
use Rattle.smf.specs.Piece.{Piece}
use Rattle.smf.specs.Spelling.{TrackSpelling, PieceSpelling, PermittedTracks}
use Rattle.smf.specs.Layout.{lay_piece, HasLayout}
use Rattle.smf.specs.Reader.{file_limit, read_file}
use Rattle.smf.specs.Answer.{verdict}
use Rattle.smf.specs.Padding.{spelled_sums, paddings}
use Rattle.smf.specs.Listing.{has_room, list_answer, list_leaves, paddings_in, PaddingTold}
use Rattle.smf.specs.declared.Answer.{Answer}
use Rattle.smf.proofs.RefusalLaws.{file_fair, place_small}
use Rattle.smf.proofs.FileLaws.{file_sound}
use Rattle.smf.proofs.DemandLaws.{laid_read}
use Rattle.smf.proofs.WritingLaws.{Fits28}
use Rattle.smf.proofs.PaddingLaws.{paddings_told}

sums_length : (ts : List (List Event)) (ss : List TrackSpelling) → PermittedTracks ts ss → length (spelled_sums ts ss) ≡ length ts
unfolding PermittedTracks spelled_sums
sums_length [] ss p = refl
sums_length (t ∷ ts) [] p = absurd p
sums_length (t ∷ ts) (s ∷ ss) p = ap suc (sums_length ts ss p.2)

-- where the listing answers 0 the file was read, and the three lists are long enough
module _ (f : List ℕ) (bs : Bytes f) (n m o : ℕ) (old : List ℕ) where
  told_with : (x : Outcome Piece) (p : Piece) (s : PieceSpelling) → Fair 13 (length f) x → (read_file f ≡ x) → HasLayout p s → lay_piece p s ≡ f → (list_answer n m o x).number ≡ 0
      → take (list_answer n m o x).length (list_leaves (paddings_in f) n m o x old) ≡ spelled_sums p.tracks s.tracks
  unfolding list_answer list_leaves pick
  told_with (ok q r) p s fair e h lay z =
      let laid : read_file f ≡ ok p [] = laid_read f p (record { spelling = s; has = h; bytes = lay }) (file_sound f q r bs e).1 in
      ok_same q p r [] (sym e ∙ laid) (λ same rest.
      let sums : paddings f ≡ spelled_sums p.tracks s.tracks = ap paddings (sym lay) ∙ paddings_told p s h in
      let count : length (paddings f) ≡ length q.tracks = ap length sums ∙ sums_length p.tracks s.tracks h.permitted.tracks ∙ ap (λ (y : Piece). length y.tracks) (sym same) in
      by_test (has_room n m o (length q.tracks))
      (λ t. rw t (take_at (paddings f) (drop (length q.tracks) old) (length q.tracks) count ∙ sums))
      (λ t. let short : 14 ≡ 0 = rw t at z in absurd (omega arith)))
  told_with (refused k q) p s fair e h lay z = absurd (omega arith)

  pub told_by : (r : Answer) (left : List ℕ) → r ≡ list_answer n m o (read_file f) → left ≡ list_leaves (paddings_in f) n m o (read_file f) old → PaddingTold f r.number r.length left
  told_by r left e g =
      record {
        told =
            λ p s h lay z.
            rw (e, g) (told_with (read_file f) p s (file_fair f bs) refl h lay (ap (λ (a : Answer). a.number) (sym e) ∙ z));
      }

-- ---- the exported number

fits_with : (n m o : ℕ) (x : Outcome Piece) → (verdict x).place ≤ file_limit → ((p : Piece) (r : List ℕ) → x ≡ ok p r → length p.tracks ≤ 65535) → Fits28 (list_answer n m o x)
unfolding list_answer verdict pick
fits_with n m o (ok p r) h few =
    let count = few p r refl in
    by_test (has_room n m o (length p.tracks))
    (λ t. rw t (record { place = omega arith; length = omega (arith, count) }))
    (λ t. rw t (record { place = omega arith; length = omega (arith, count) }))
fits_with n m o (refused k q) h few = record { place = omega (arith, h); length = omega arith }

pub list_fits : (n m o : ℕ) (f : List ℕ) → Bytes f → Fits28 (list_answer n m o (read_file f))
list_fits n m o f bs = fits_with n m o (read_file f) (place_small f bs) (λ p r e. (file_sound f p r bs e).0.laid.has.lawful.few)
