-- The loop over the lines of a table.
use mathlib.Core.Path.{◌≡◌, refl, ap}
use Prim.Native.Nat.{ℕ, ◌-◌, ◌≤◌}
use mathlib.Core.List.{List, [], ◌∷◌, ◌++◌}
use native.Mathlib.Omega.{arith}
use mathlib.Core.Bool.{◌&&◌}
use lib.Dec.{eqb}
use Rattle.event.specs.Choice.{pick}
use Rattle.event.proofs.ChoiceLaws.{by_test}
use lib.ListN.{length, take, drop, drop_of_length-le}
use Rattle.midicsv.specs.Lines.{lines_of, trimmed}
use Rattle.midicsv_scan.specs.Cut.{CutAt}
use Rattle.midicsv_scan.proofs.CutLaws.{cut_size}
use Rattle.midicsv_scan.proofs.FrameLaws.{trimmed_size}
use Rattle.sheet_table.specs.Table.{table_line, sep_of, unmarked, table_lines, table_of, table_text}

-- the text of the lines from the place i on
abbrev pub TableLeft : ℕ → List ℕ → ℕ → List ℕ
TableLeft sep s i = table_lines sep (lines_of (drop i s))

pub line_left : (sep : ℕ) (s : List ℕ) (i end next : ℕ) (line : List ℕ) → CutAt s i end next → line ≡ trimmed (take (end - i) (drop i s))
    → TableLeft sep s i ≡ table_line sep line ++ (10 ∷ TableLeft sep s next)
unfolding table_lines
line_left sep s i end next line c t = rw (c.lines, t) refl

pub line_size : (s : List ℕ) (i end next : ℕ) (line : List ℕ) → CutAt s i end next → line ≡ trimmed (take (end - i) (drop i s)) → length line ≤ length s
line_size s i end next line c t =
    let l = take (end - i) (drop i s) in
    omega (arith, ap length t, trimmed_size l, cut_size s i end next c, c.high)

pub no_lines_left : (sep : ℕ) (s : List ℕ) (i : ℕ) → length s ≤ i → TableLeft sep s i ≡ []
unfolding lines_of table_lines
no_lines_left sep s i h = rw (drop_of_length-le s h) refl

pub unmarked_size : (s : List ℕ) → length (unmarked s) ≤ length s
unfolding unmarked pick
unmarked_size [] = omega arith
unmarked_size (a ∷ []) = omega arith
unmarked_size (a ∷ b ∷ []) = omega arith
unmarked_size (a ∷ b ∷ c ∷ s) = by_test (eqb a 239 && (eqb b 187 && eqb c 191)) (λ t. rw t (omega arith)) (λ t. rw t (omega arith))

-- all of them, from after the byte order mark on
pub whole_left : (s table : List ℕ) (sep : ℕ) → table ≡ unmarked s → sep ≡ sep_of (lines_of table) → table_lines sep (lines_of table) ≡ table_text s
unfolding table_text table_of
whole_left s table sep e f = rw (f, e) refl
