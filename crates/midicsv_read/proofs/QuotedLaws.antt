-- The bytes of a quoted text are no more than the bytes of the line.
use Prim.Native.Nat.{ℕ, suc, ◌+◌, ◌-◌, ◌*◌, ◌≤◌}
use mathlib.Core.Bool.{Bool, true, false}
use mathlib.Core.List.{List, [], ◌∷◌}
use native.Mathlib.Omega.{arith}
use lib.ListN.{length, drop, length-drop}
use lib.Dec.{eqb}
use Rattle.event.specs.Choice.{pick}
use Rattle.midicsv.specs.ReadField.{Seen, plain, a_quote, a_slash, octal1, octal2}
use Rattle.midicsv_scan.specs.Unquoted.{unquoted}

pick_most : (t : Bool) (x y : List ℕ) (n : ℕ) → length x ≤ n → length y ≤ n → length (pick t x y) ≤ n
unfolding pick
pick_most true x y n h k = h
pick_most false x y n h k = k

wider : (x y : List ℕ) → length x ≤ length y → length x ≤ suc (length y)
wider x y h = omega arith

unquoted_size : (l : List ℕ) (s : Seen) → length (unquoted l s) ≤ length l
unfolding unquoted
unquoted_size [] plain = omega arith
unquoted_size [] a_quote = omega arith
unquoted_size [] a_slash = omega arith
unquoted_size [] (octal1 n) = omega arith
unquoted_size [] (octal2 n) = omega arith
unquoted_size (c ∷ l) plain =
    let h = unquoted_size l plain in
    pick_most (eqb c 34) _ _ _ (wider (unquoted l a_quote) l (unquoted_size l a_quote))
    (pick_most (eqb c 92) _ _ _ (wider (unquoted l a_slash) l (unquoted_size l a_slash)) (omega arith))
unquoted_size (c ∷ l) a_quote = let h = unquoted_size l plain in pick_most (eqb c 34) (34 ∷ unquoted l plain) [] _ (omega arith) (omega arith)
unquoted_size (c ∷ l) a_slash =
    let h = unquoted_size l plain in
    pick_most (eqb c 92) (92 ∷ unquoted l plain) (unquoted l (octal1 (c - 48))) _ (omega arith)
    (wider (unquoted l (octal1 (c - 48))) l (unquoted_size l (octal1 (c - 48))))
unquoted_size (c ∷ l) (octal1 n) = wider (unquoted l (octal2 (n * 8 + (c - 48)))) l (unquoted_size l (octal2 (n * 8 + (c - 48))))
unquoted_size (c ∷ l) (octal2 n) = let h = unquoted_size l plain in omega arith

pub unquoted_most : (l : List ℕ) (i : ℕ) (s : Seen) → length (unquoted (drop i l) s) ≤ length l
unquoted_most l i s = omega (arith, unquoted_size (drop i l) s, length-drop i l)
