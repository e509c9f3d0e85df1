-- Place and length of the answers of writing fit the exported number.
use Prim.Native.Nat.{ℕ, ◌<◌}
use native.Mathlib.Omega.{arith}
use lib.Dec.{leb}
use borrow.Author.Tests.{leb-true}
use Rattle.event.specs.Choice.{pick}
use Rattle.event.proofs.ChoiceLaws.{by_test}
use Rattle.smf.specs.Reader.{file_limit}
use Rattle.smf.specs.Writing.{write_answer}
use Rattle.smf.specs.declared.Answer.{Answer}

-- 28 bits each
pub record Fits28 (a : Answer) : Type 0 where
  pub place : a.place < 268435456
  pub length : a.length < 268435456

pub write_fits : (room n : ℕ) → Fits28 (write_answer room n)
unfolding write_answer pick
write_fits room n =
    by_test (leb n file_limit)
    (λ e.
    let h = leb-true n file_limit e in
    by_test (leb n room) (λ g. rw (e, g) (record { place = omega arith; length = omega (arith, h) })) (λ g. rw (e, g) (record { place = omega arith; length = omega (arith, h) })))
    (λ e. rw e (record { place = omega arith; length = omega arith }))
