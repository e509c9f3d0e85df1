-- The answers of file to text.
use mathlib.Core.Path.{◌≡◌, refl, ap, ◌∙◌}
use Prim.Native.Nat.{ℕ, ◌≤◌, ◌<◌}
use mathlib.Core.List.{List, ◌++◌}
use native.Mathlib.Omega.{arith}
use lib.ListN.{length, drop}
use lib.Dec.{leb}
use lib.Seq.{sets}
use borrow.Author.Tests.{le-leb, lt-leb}
use Rattle.event.specs.Bytes.{Bytes}
use Rattle.event.specs.Choice.{pick}
use Rattle.event.specs.Outcome.{Outcome, ok, refused}
use Rattle.event.proofs.ChoiceLaws.{by_test}
use Rattle.event_write.proofs.WriteLaws.{put_whole}
use Rattle.smf.specs.Piece.{Piece}
use Rattle.smf.specs.Reader.{file_limit, read_file}
use Rattle.smf.specs.PieceRead.{piece_read}
use Rattle.smf.specs.Answer.{success, room_needed, verdict}
use Rattle.smf.specs.declared.Answer.{Answer}
use Rattle.smf.proofs.FileLaws.{file_sound}
use Rattle.smf.proofs.RefusalLaws.{judged_refused, place_small}
use Rattle.smf.proofs.WritingLaws.{Fits28}
use Rattle.smf.proofs.AcceptedLaws.{AcceptedFile}
use Rattle.midicsv.specs.Show.{Form}
use Rattle.midicsv.specs.Text.{written_as, most}
use Rattle.midicsv.proofs.BoundLaws.{written_bound}
use Rattle.midicsv.proofs.TextReadLaws.{written_small}
use Rattle.midicsv_write.specs.ToText.{written_answer, written_leaves}

pub text_refused : (w : Form) (x : Outcome Piece) (v : Answer) (old : List ℕ) → v ≡ verdict x → (v.number ≡ 0 → ⊥) → (v ≡ written_answer w (length old) x) × (old ≡ written_leaves w x old)
unfolding written_answer written_leaves
text_refused w x v old e h = judged_refused x v e h (λ k p q w. (rw q w, rw q refl))

module _ (w : Form) (s : List ℕ) (there : AcceptedFile s) where
  abbrev Out : List ℕ
  Out = written_as w (piece_read s)

  -- "at most 25·n bytes", of a sheet at most 23·n
  pub text_fits : Bytes s → length Out ≤ most w (length s)
  text_fits bs =
      let (laid, short) = file_sound s there.piece there.rest bs there.read in
      rw there.same (written_bound w s there.piece laid.laid)

  module _ (old : List ℕ) (n : ℕ) (size : n ≡ length Out) where
    same_size : n ≡ length (written_as w there.piece)
    same_size = size ∙ ap (λ p. length (written_as w p)) there.same

    pub room_answer : length old < n → (room_needed n ≡ written_answer w (length old) (read_file s)) × (old ≡ written_leaves w (read_file s) old)
    unfolding written_answer written_leaves pick
    room_answer h = (rw (there.read, ← same_size, lt-leb n (length old) h) refl, rw (there.read, ← same_size, lt-leb n (length old) h) refl)

    pub fine_answer : n ≤ length old → success n ≡ written_answer w (length old) (read_file s)
    unfolding written_answer pick
    fine_answer h = rw (there.read, ← same_size, le-leb n (length old) h) refl

    pub fine_leaves : n ≤ length old → sets old 0 Out ≡ written_leaves w (read_file s) old
    unfolding written_leaves pick
    fine_leaves h =
        put_whole Out old n size h
        ∙ ap (λ p. written_as w p ++ drop n old) there.same ∙ rw (there.read, ← same_size, le-leb n (length old) h) refl

-- ---- the answers fit the exported number

text_answer_fits : (room n : ℕ) → n < 268435456 → Fits28 (pick (leb n room) (success n) (room_needed n))
unfolding pick
text_answer_fits room n h = by_test (leb n room) (λ e. rw e (record { place = omega arith; length = h })) (λ e. rw e (record { place = omega arith; length = h }))

answer_with : (w : Form) (room : ℕ) (f : List ℕ) (x : Outcome Piece) → Bytes f → read_file f ≡ x → (verdict x).place ≤ file_limit → Fits28 (written_answer w room x)
unfolding written_answer verdict
answer_with w room f (ok p r) bs e h =
    let (laid, short) = file_sound f p r bs e in
    text_answer_fits room (length (written_as w p)) (omega (arith, written_small w f p laid.laid short))
answer_with w room f (refused k q) bs e h = record { place = omega (arith, h); length = omega arith }

pub answer_fits : (w : Form) (room : ℕ) (f : List ℕ) → Bytes f → Fits28 (written_answer w room (read_file f))
answer_fits w room f bs = answer_with w room f (read_file f) bs refl (place_small f bs)
