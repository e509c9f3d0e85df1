-- A number in the fewest bytes, as the code has them.
use mathlib.Core.Path.{◌≡◌}
use Prim.Native.Nat.{ℕ, ◌%◌, ◌<◌, ◌≤◌}
use native.Mathlib.Omega.{arith}
use lib.ListN.{length}
use Rattle.event.specs.Number.{Width, vlq, least}
use Rattle.event.proofs.NumberLaws.{vlq_length, bytes_most}
use Rattle.event_write.specs.Head.{fewest}

pub width_length : (w : Width) (v : ℕ) → length (vlq w v) ≤ 4
width_length w v = omega (arith, vlq_length w v, bytes_most w)

pub fewest_length : (n : ℕ) → length (fewest n) ≤ 4
unfolding fewest
fewest_length n = width_length (least (n % 268435456)) (n % 268435456)

-- of a number below 2 ^ 28 no bit is dropped
pub fewest_is : (n : ℕ) → n < 268435456 → fewest n ≡ vlq (least n) n
unfolding fewest
fewest_is n h = let e : n % 268435456 ≡ n = omega arith in rw e

-- and what is dropped may be dropped before
pub fewest_low : (n : ℕ) → fewest (n % 268435456) ≡ fewest n
unfolding fewest
fewest_low n = fewest_is (n % 268435456) (omega arith)
