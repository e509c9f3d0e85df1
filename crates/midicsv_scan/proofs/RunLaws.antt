-- Where a run of bytes that a test holds of ends: what `past` answers.
use mathlib.Core.Path.{◌≡◌}
use Prim.Native.Nat.{ℕ, ◌+◌, ◌<◌, ◌≤◌}
use mathlib.Core.Bool.{Bool, false}
use mathlib.Core.List.{List}
use native.Mathlib.Omega.{arith}
use lib.ListN.{length, get_or, drop, length-drop}
use lib.Seq.{get_or-drop}
use Rattle.std.specs.List.{prefix_len}
use Rattle.std.proofs.lemmas.List.{drop-drop}
use Rattle.std.proofs.lemmas.List.Sums.{prefix_len-le-length, prefix_len_stops}

module _ (test : ℕ → Bool) (l : List ℕ) (at p : ℕ) (e : p ≡ at + prefix_len test (drop at l)) where
  pub run_inside : at ≤ length l → p ≤ length l
  run_inside h = omega (arith, prefix_len-le-length test (drop at l), length-drop at l)

  pub run_rest : drop (prefix_len test (drop at l)) (drop at l) ≡ drop p l
  run_rest = rw e (drop-drop (prefix_len test (drop at l)) at l)

  -- the byte after it fails
  pub run_stops : p < length l → test (get_or l p 0) ≡ false
  run_stops h =
      let n = prefix_len test (drop at l) in
      let k : n < length (drop at l) = omega (arith, length-drop at l) in
      rw (e, ← get_or-drop at l n 0) (prefix_len_stops test (drop at l) 0 k)
