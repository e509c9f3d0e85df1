-- What document 02 asks to be shown of a fold, shown for calls.
use mathlib.Core.Path.{◌≡◌, refl, sym, ap, ap₂, ◌∙◌}
use Prim.Native.Nat.{ℕ, ◌≤◌}
use mathlib.Core.List.{List, []}
use native.Mathlib.Omega.{arith}
use lib.ListN.{length, take}
use Rattle.event.specs.Bytes.{Bytes}
use Rattle.event.specs.Manner.{short}
use Rattle.event.specs.Outcome.{Outcome, ok, refused}
use Rattle.event.proofs.OutcomeLaws.{ok_same}
use Rattle.smf.specs.Piece.{Piece}
use Rattle.smf.specs.Layout.{LaidOut}
use Rattle.smf.specs.Manner.{file_of}
use Rattle.smf.specs.Answer.{refusal, verdict}
use Rattle.smf.specs.Reader.{file_limit, read_file}
use Rattle.smf.specs.Writing.{short_answer, short_leaves}
use Rattle.smf.proofs.DemandLaws.{laid_read}
use Rattle.smf.proofs.FileLaws.{file_sound}
use Rattle.fold_piece.specs.Fold.{folded_piece}
use Rattle.fold_piece.specs.FoldAnswer.{most_tracks, fold_outcome, fold_answer}
use Rattle.fold_piece.specs.FoldClaims.{FileFolded}
use Rattle.fold_piece.proofs.AnswerLaws.{outcome_good, outcome_fair, answer_fits}
use Rattle.fold_piece.proofs.FoldClaims.{all_claims}
use Rattle.noferkash.specs.Packed.{packed, number_of, length_of}
use Rattle.noferkash.specs.Calls.{FoldCall}
use Rattle.noferkash.specs.Demand2.{WritesFile}
use Rattle.noferkash.specs.FoldCalls.{FoldKept, FoldCalls}
use Rattle.noferkash.proofs.PackedLaws.{taken_apart, not_zero}
use Rattle.noferkash.proofs.Demand2.{file_writes, whole_file}

-- a fold whose outcome is a piece writes its manner 1 file
outcome_writes : (f : List ℕ) (z : Piece) (t old : List ℕ) (r : ℕ) (new : List ℕ) → fold_outcome most_tracks f ≡ ok z t → FoldCall f old r new → WritesFile (file_of short z) old r new
unfolding short_answer short_leaves
outcome_writes f z t old r new e c =
    file_writes (file_of short z) old r new (c.0 ∙ ap (λ x. packed (short_answer (length old) x)) e) (c.1 ∙ ap (λ x. short_leaves x old) e)

-- a call that answers 0 had a piece
fold_good : {X : Type 0} (f old : List ℕ) (r : ℕ) (new : List ℕ) (x : Outcome Piece) → Bytes f → fold_outcome most_tracks f ≡ x → FoldCall f old r new → number_of r ≡ 0
    → ((p : Piece) (t : List ℕ) → read_file f ≡ ok p t → fold_outcome most_tracks f ≡ ok (folded_piece p) t → X) → X
unfolding short_answer
fold_good f old r new (ok z t) bs e c zero k = outcome_good most_tracks f z t e (λ p h same. k p t h (e ∙ ap (λ y. ok y t) same))
fold_good f old r new (refused n q) bs e c zero k =
    absurd (not_zero r (refusal n q) (c.0 ∙ ap (λ x. packed (short_answer (length old) x)) e) (outcome_fair most_tracks f n q bs e).0 zero)

-- what it wrote, for a file whose piece is p
module _ (f : List ℕ) (p : Piece) (old : List ℕ) (r : ℕ) (new : List ℕ) (bs : Bytes f) (laid : LaidOut f p) (h : length f ≤ file_limit) (c : FoldCall f old r new) where
  folded : FileFolded f p
  folded = all_claims.file f p bs laid h

  -- a call that answers 0 wrote all of the folded piece's file
  good : {X : Type 0} → number_of r ≡ 0 → (fold_outcome most_tracks f ≡ ok (folded_piece p) [] → X) → X
  good z k =
      fold_good f old r new _ bs refl c z (λ q t e g.
      ok_same q p t [] (sym e ∙ laid_read f p laid h) (λ same none. k (g ∙ ap₂ (λ y u. ok (folded_piece y) u) same none)))

  written : number_of r ≡ 0 → (take (length_of r) new ≡ file_of short (folded_piece p)) × (length (file_of short (folded_piece p)) ≤ file_limit)
  written z = good z (λ g. whole_file (file_of short (folded_piece p)) old r new (outcome_writes f (folded_piece p) [] old r new g c) z)

  read_again : number_of r ≡ 0 → read_file (take (length_of r) new) ≡ ok (folded_piece p) []
  read_again z = let (e, k) = written z in ap read_file e ∙ folded.read short k

  fold_kept : FoldKept p old r new
  unfolding verdict
  fold_kept =
      record {
        folds = λ able. outcome_writes f (folded_piece p) [] old r new (folded.folds most_tracks able) c;
        only = λ z. good z (λ g. folded.only most_tracks (folded_piece p) [] g);
        accepted = λ r' z check. check ∙ ap (λ x. packed (verdict x)) (read_again z);
        piece = read_again;
        again = λ other r' new' z again.
            let (e, k) = written z in
            let twice = ap (fold_outcome most_tracks) e ∙ folded.again most_tracks (omega arith) k in
            (outcome_writes (take (length_of r) new) (folded_piece p) [] other r' new' twice again).short k;
      }

-- the number that the export says is the answer's
number_said : (f old : List ℕ) (r : ℕ) (new : List ℕ) → Bytes f → FoldCall f old r new → number_of r ≡ (fold_answer (length old) most_tracks f).number
number_said f old r new bs c = (taken_apart r _ c.0 (answer_fits (length old) most_tracks f bs)).number

pub fold_calls : FoldCalls
fold_calls =
    record {
      kept = fold_kept;
      zero = λ f p old r new bs laid h z c.
          let same : fold_outcome most_tracks f ≡ read_file f = (all_claims.file f p bs laid h).zero most_tracks (omega arith) z in
          (c.0 ∙ ap (λ x. packed (short_answer (length old) x)) same, c.1 ∙ ap (λ x. short_leaves x old) same);
      from_file = λ f old r new bs c z.
          fold_good f old r new _ bs refl c z (λ p t e g. let (laid, small) = file_sound f p t bs e in (p, laid.laid, small));
      never_27 = λ f old r new bs c n. all_claims.never_27 (length old) most_tracks f bs (sym (number_said f old r new bs c) ∙ n);
      never_37 = λ f old r new bs c n. all_claims.never_37 (length old) f bs (sym (number_said f old r new bs c) ∙ n);
    }
