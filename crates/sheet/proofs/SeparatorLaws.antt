-- Where a table begins, and what separates its cells.
use mathlib.Core.Path.{◌≡◌, refl, ◌∙◌}
use Prim.Native.Nat.{ℕ, ◌-◌, ◌<◌, ◌≤◌}
use mathlib.Core.Bool.{true, false, ◌&&◌}
use mathlib.Core.List.{List, [], ◌∷◌}
use native.Mathlib.Omega.{arith}
use lib.ListN.{length, get_or, take, drop, length-drop, drop_of_length-le}
use lib.Dec.{eqb}
use borrow.Author.Tests.{eq-eqb, ne_eqb}
use Rattle.std.proofs.lemmas.List.{take_all}
use Rattle.event.specs.Choice.{pick}
use Rattle.midicsv.specs.Lines.{lines_of, trimmed, passed_over}
use Rattle.midicsv_scan.specs.Cut.{CutAt}
use Rattle.sheet_table.specs.Table.{sep_in, sep_of, unmarked}

-- ---- the byte order mark

pub unmarked_short : (s : List ℕ) → length s < 3 → s ≡ unmarked s
unfolding unmarked
unmarked_short [] h = refl
unmarked_short (a ∷ []) h = refl
unmarked_short (a ∷ b ∷ []) h = refl
unmarked_short (a ∷ b ∷ c ∷ s) h = absurd (omega arith)

pub unmarked_long : (s : List ℕ) → 3 ≤ length s
    → pick (eqb (get_or s 0 0) 239 && (eqb (get_or s 1 0) 187 && eqb (get_or s 2 0) 191)) (drop 3 s) s ≡ unmarked s
unfolding unmarked
unmarked_long [] h = absurd (omega arith)
unmarked_long (a ∷ []) h = absurd (omega arith)
unmarked_long (a ∷ b ∷ []) h = absurd (omega arith)
unmarked_long (a ∷ b ∷ c ∷ s) h = refl

module _ (s : List ℕ) (h : 3 ≤ length s) where
  pub no_mark_first : (get_or s 0 0 ≡ 239 → ⊥) → s ≡ unmarked s
  unfolding pick
  no_mark_first n = rw (ne_eqb _ 239 n) at (unmarked_long s h)

  module _ (a : get_or s 0 0 ≡ 239) where
    pub no_mark_second : (get_or s 1 0 ≡ 187 → ⊥) → s ≡ unmarked s
    unfolding pick
    no_mark_second n = rw (eq-eqb _ 239 a, ne_eqb _ 187 n) at (unmarked_long s h)

    module _ (b : get_or s 1 0 ≡ 187) where
      pub no_mark_third : (get_or s 2 0 ≡ 191 → ⊥) → s ≡ unmarked s
      unfolding pick
      no_mark_third n = rw (eq-eqb _ 239 a, eq-eqb _ 187 b, ne_eqb _ 191 n) at (unmarked_long s h)

      pub mark_is : get_or s 2 0 ≡ 191 → take (length s - 3) (drop 3 s) ≡ unmarked s
      unfolding pick
      mark_is e = take_all (length s - 3) (drop 3 s) (omega (arith, length-drop 3 s)) ∙ (rw (eq-eqb _ 239 a, eq-eqb _ 187 b, eq-eqb _ 191 e) at (unmarked_long s h))

-- ---- the separator of a table, looked for line by line

module _ (s : List ℕ) (i end next : ℕ) (c : CutAt s i end next) (line : List ℕ) (t : line ≡ trimmed (take (end - i) (drop i s))) where
  pub sep_over : passed_over line ≡ true → sep_of (lines_of (drop next s)) ≡ sep_of (lines_of (drop i s))
  unfolding sep_of pick
  sep_over e = rw (c.lines, ← t, e) refl

  pub sep_here : passed_over line ≡ false → sep_in line ≡ sep_of (lines_of (drop i s))
  unfolding sep_of pick
  sep_here e = rw (c.lines, ← t, e) refl

pub sep_none : (s : List ℕ) (i : ℕ) → length s ≤ i → 44 ≡ sep_of (lines_of (drop i s))
unfolding lines_of sep_of
sep_none s i h = rw (drop_of_length-le s h) refl
