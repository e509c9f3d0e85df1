-- The answers of saved table to text fit the exported number.
use Prim.Native.Nat.{ℕ}
use mathlib.Core.List.{List}
use native.Mathlib.Omega.{arith}
use lib.ListN.{length}
use lib.Dec.{leb}
use borrow.Author.Tests.{leb-true}
use Rattle.event.specs.Choice.{pick}
use Rattle.event.proofs.ChoiceLaws.{by_test}
use Rattle.smf.proofs.WritingLaws.{Fits28}
use Rattle.midicsv.specs.PieceOfText.{text_limit}
use Rattle.sheet_table.specs.Table.{table_text}
use Rattle.sheet_table.specs.TableAnswer.{table_limit, table_answer}

pub answer_fits : (room : ℕ) (s : List ℕ) → Fits28 (table_answer room s)
unfolding table_answer pick
answer_fits room s =
    by_test (leb (length s) table_limit)
    (λ t.
    by_test (leb (length (table_text s)) text_limit)
    (λ u.
    let few = leb-true (length (table_text s)) text_limit u in
    by_test (leb (length (table_text s)) room)
    (λ v. rw (t, u, v) (record { place = omega arith; length = omega (arith, few) }))
    (λ v. rw (t, u, v) (record { place = omega arith; length = omega (arith, few) })))
    (λ u. rw (t, u) (record { place = omega arith; length = omega arith })))
    (λ t. rw t (record { place = omega arith; length = omega arith }))
