-- Place and length of every answer fit 28 bits: a refusal's line is at most one past the lines of the text.
use Prim.Native.Nat.{ℕ, ◌+◌}
use mathlib.Core.List.{List}
use native.Mathlib.Omega.{arith}
use lib.ListN.{length}
use lib.Dec.{leb}
use borrow.Author.Tests.{leb-true}
use Rattle.event.specs.Choice.{pick}
use Rattle.event.specs.Manner.{Manner}
use Rattle.event.specs.Outcome.{Outcome, ok, refused}
use Rattle.event.proofs.ChoiceLaws.{by_test}
use Rattle.smf.specs.Piece.{Piece}
use Rattle.smf.specs.Manner.{file_of}
use Rattle.midicsv.specs.PieceOfText.{piece_of_text, text_limit}
use Rattle.smf.proofs.WritingLaws.{Fits28, write_fits}
use Rattle.midicsv.proofs.RefusedLaws.{TextFair, fair_more, text_fair}
use Rattle.midicsv_read.specs.ToFile.{manner_numbered, piece_answer, file_answer}

piece_fits : (m : Manner) (room : ℕ) (x : Outcome Piece) → TextFair 33554433 x → Fits28 (piece_answer m room x)
unfolding piece_answer
piece_fits m room (ok p r) h = write_fits room (length (file_of m p))
piece_fits m room (refused n line) h = record { place = omega (arith, h.2); length = omega arith }

pub answer_fits : (text : List ℕ) (manner room : ℕ) → Fits28 (file_answer text manner room)
unfolding file_answer pick
answer_fits text manner room =
    by_test (leb manner 1)
    (λ t.
    by_test (leb (length text) text_limit)
    (λ u.
    let h = leb-true (length text) text_limit u in
    rw (t, u) (piece_fits (manner_numbered manner) room (piece_of_text text) (fair_more (length text + 1) 33554433 (piece_of_text text) (omega (arith, h)) (text_fair text))))
    (λ u. rw (t, u) (record { place = omega arith; length = omega arith })))
    (λ t. rw t (record { place = omega arith; length = omega arith }))
