-- No call answers 4: a refusal of reading has another number, and the others are 14, 29, 31 to 33 and 37.
use mathlib.Core.Path.{◌≡◌, sym, ◌∙◌}
use Prim.Native.Nat.{ℕ}
use mathlib.Core.List.{List}
use native.Mathlib.Omega.{arith}
use lib.ListN.{length}
use lib.Dec.{leb}
use Rattle.event.specs.Bytes.{Bytes}
use Rattle.event.specs.Choice.{pick}
use Rattle.event.specs.Outcome.{Outcome, ok, refused}
use Rattle.event.proofs.ChoiceLaws.{by_test}
use Rattle.event.proofs.RefusalLaws.{Fair}
use Rattle.smf.specs.Piece.{Piece}
use Rattle.smf.specs.Manner.{file_of}
use Rattle.smf.specs.Reader.{read_file, file_limit}
use Rattle.smf.specs.Answer.{success, room_needed, verdict}
use Rattle.smf.specs.Listing.{has_room, list_answer}
use Rattle.smf.specs.Writing.{write_answer, short_answer}
use Rattle.smf.specs.declared.Answer.{Answer}
use Rattle.smf.proofs.RefusalLaws.{file_fair}
use Rattle.smf.proofs.WritingLaws.{Fits28}
use Rattle.smf.proofs.ListAnswerLaws.{list_fits}
use Rattle.smf_write.proofs.AnswerLaws as tidying
use Rattle.fold_piece.specs.FoldAnswer.{most_tracks}
use Rattle.fold_piece.proofs.AnswerLaws as folding
use Rattle.midicsv.specs.Show.{Form, as_text, as_sheet}
use Rattle.midicsv.specs.Text.{written_as}
use Rattle.midicsv_write.specs.ToText.{written_answer}
use Rattle.midicsv_write.proofs.AnswerLaws as writing
use Rattle.event.specs.Manner.{short}
use Rattle.noferkash.specs.Packed.{packed, number_of}
use Rattle.noferkash.specs.FourGone.{FourGone}
use Rattle.noferkash.proofs.PackedLaws.{taken_apart, verdict_fits}

-- the number of an answer is what its export says
unsaid : (r : ℕ) (a : Answer) → r ≡ packed a → Fits28 a → (a.number ≡ 4 → ⊥) → number_of r ≡ 4 → ⊥
unsaid r a e f other z = other (sym (taken_apart r a e f).number ∙ z)

-- a room's answer is 0 or 14
room_number : (room n : ℕ) → (pick (leb n room) (success n) (room_needed n)).number ≡ 4 → ⊥
unfolding pick
room_number room n = by_test (leb n room) (λ e. rw e (omega arith)) (λ e. rw e (omega arith))

verdict_number : (m : ℕ) (x : Outcome Piece) → Fair 13 m x → (verdict x).number ≡ 4 → ⊥
unfolding verdict
verdict_number m (ok p r) f = omega arith
verdict_number m (refused n q) f = f.0.2

written_number : (w : Form) (room m : ℕ) (x : Outcome Piece) → Fair 13 m x → (written_answer w room x).number ≡ 4 → ⊥
unfolding written_answer
written_number w room m (ok p r) f = room_number room (length (written_as w p))
written_number w room m (refused n q) f = f.0.2

list_number : (n k o m : ℕ) (x : Outcome Piece) → Fair 13 m x → (list_answer n k o x).number ≡ 4 → ⊥
unfolding list_answer pick
list_number n k o m (ok p r) f = by_test (has_room n k o (length p.tracks)) (λ e. rw e (omega arith)) (λ e. rw e (omega arith))
list_number n k o m (refused j q) f = f.0.2

short_number : (room m : ℕ) (x : Outcome Piece) → Fair 13 m x → (short_answer room x).number ≡ 4 → ⊥
unfolding short_answer write_answer pick
short_number room m (ok p r) f =
    let n = length (file_of short p) in
    by_test (leb n file_limit) (λ e. rw e (room_number room n)) (λ e. rw e (omega arith))
short_number room m (refused n q) f = f.0.2

written : (w : Form) (f old : List ℕ) (r : ℕ) → Bytes f → r ≡ packed (written_answer w (length old) (read_file f)) → number_of r ≡ 4 → ⊥
written w f old r bs e = unsaid r _ e (writing.answer_fits w (length old) f bs) (written_number w (length old) (length f) (read_file f) (file_fair f bs))

pub four_gone : FourGone
four_gone =
    record {
      check = λ f r bs c. unsaid r _ c (verdict_fits f bs) (verdict_number (length f) (read_file f) (file_fair f bs));
      text = λ f old r new bs c. written as_text f old r bs c.0;
      tidy = λ f old r new bs c. unsaid r _ c.0 (tidying.answer_fits (length old) f bs) (short_number (length old) (length f) (read_file f) (file_fair f bs));
      list =
          λ f ends counts padding r ends' counts' padding' bs c.
          unsaid r _ c.0 (list_fits (length ends) (length counts) (length padding) f bs)
          (list_number (length ends) (length counts) (length padding) (length f) (read_file f) (file_fair f bs));
      fold = λ f old r new bs c. unsaid r _ c.0 (folding.answer_fits (length old) most_tracks f bs) (folding.number_none (length old) most_tracks f bs).0;
      sheet = λ f old r new bs c. written as_sheet f old r bs c.0;
    }
