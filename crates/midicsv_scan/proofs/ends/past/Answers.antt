use native.Mathlib.Omega.{arith}
use lib.ListN.{length-drop}
use Rattle.std.proofs.lemmas.List.Sums.{prefix_len-le-length}
use Rattle.midicsv_scan.proofs.ends.past.Goals as goal

pub overflow_add-result : goal.overflow_add-result
overflow_add-result g c = omega (arith, c.front.ensures, prefix_len-le-length {X = Prim.Native.Nat.ℕ}, length-drop {A = Prim.Native.Nat.ℕ})
