-- A row without a quote, without a text and with no empty cell at its end: its line is the row itself.
use mathlib.Core.Path.{◌≡◌, refl, sym, ap, ap₂, ◌∙◌}
use Prim.Native.Nat.{ℕ, suc}
use mathlib.Core.Bool.{Bool, true, false, ◌&&◌, ◌||◌, not}
use mathlib.Core.List.{List, [], ◌∷◌, ◌++◌}
use native.Mathlib.Omega.{arith}
use lib.ListN.{length}
use lib.Dec.{eqb}
use borrow.Author.Tests.{eqb-true}
use Rattle.std.proofs.Common.{Option, Some, None}
use Rattle.std.specs.Option.{is_none}
use Rattle.event.specs.Choice.{pick}
use Rattle.event.proofs.ChoiceLaws.{by_test, pick_true, pick_false, and_both}
use Rattle.midicsv.specs.Lines.{onto}
use Rattle.midicsv.specs.Result.{good}
use Rattle.sheet_table.specs.Cut.{has, skip_beside, begins, bare, lead, opening, on_cell, new_cell, blank_beside, cut_from, cut}
use Rattle.sheet_table.specs.Table.{is_empty, keep_before, drop_empty, plain_cell, plain_cells, nowhere, text_at, row_fields, further_joined, joined, row_line, is_remark, of_cut, line_by}
use Rattle.sheet.specs.Code.Seen.{seen}
use Rattle.sheet.specs.Code.Row.{place_as, RowIs}
use Rattle.sheet.specs.declared.Row.{Row}
use Rattle.sheet_table.proofs.CutLaws.{or_left, or_right}
use Rattle.sheet.proofs.PartLaws.{cut_part, cells_of}
use Rattle.sheet.proofs.QuoteLaws.{unquoted}

-- ---- without a quote each cell is bare

skip_free : (l : List ℕ) → has 34 l ≡ false → begins 34 (skip_beside 44 l) ≡ false
unfolding has skip_beside begins
skip_free [] n = refl
skip_free (x ∷ l) n =
    by_test (blank_beside 44 x)
    (λ b. ap (begins 34) (pick_true (skip_beside 44 l) (x ∷ l) b) ∙ skip_free l (or_right (eqb x 34) (has 34 l) n))
    (λ b. ap (begins 34) (pick_false (skip_beside 44 l) (x ∷ l) b) ∙ or_left (eqb x 34) (has 34 l) n)

open_free : (l : List ℕ) → has 34 l ≡ false → opening 44 l ≡ bare
unfolding opening
open_free l n = pick_false lead bare (skip_free l n)

-- the cells of bytes without a quote: the first, and more; none needs quotes, and joined by commas they are the bytes
record Bare (l : List ℕ) : Type 0 where
  first : List ℕ
  more : List (List ℕ)
  made : cut_from 44 l bare ≡ good (first ∷ more)
  whole : first ++ further_joined more ≡ l
  free : (has 44 first || has 34 first) ≡ false
  plain : plain_cells more ≡ more

bare_last : Bare []
unfolding cut_from further_joined has plain_cells
bare_last = record { first = []; more = []; made = refl; whole = refl; free = refl; plain = refl }

plain_cons : (c : List ℕ) (cs : List (List ℕ)) → (has 44 c || has 34 c) ≡ false → plain_cells cs ≡ cs → plain_cells (c ∷ cs) ≡ c ∷ cs
unfolding plain_cells plain_cell pick
plain_cons c cs n e = rw (n, e) refl

-- a comma: an empty cell, and the cells after it
bare_comma : (x : ℕ) (l : List ℕ) → eqb x 44 ≡ true → has 34 l ≡ false → Bare l → Bare (x ∷ l)
unfolding cut_from new_cell further_joined has
bare_comma x l e n b = record {
  first = [];
  more = b.first ∷ b.more;
  made = pick_true _ _ e ∙ ap (λ z. new_cell (cut_from 44 l z)) (open_free l n) ∙ ap new_cell b.made;
  whole = ap (λ z. 44 ∷ z) b.whole ∙ ap (λ z. z ∷ l) (sym (eqb-true x 44 e));
  free = refl;
  plain = plain_cons b.first b.more b.free b.plain;
}

-- any other byte is one of the first cell
bare_byte : (x : ℕ) (l : List ℕ) → eqb x 44 ≡ false → eqb x 34 ≡ false → Bare l → Bare (x ∷ l)
unfolding cut_from on_cell onto has
bare_byte x l e q b = record {
  first = x ∷ b.first;
  more = b.more;
  made = pick_false _ _ e ∙ ap (on_cell x) b.made;
  whole = ap (λ z. x ∷ z) b.whole;
  free = rw (e, q) b.free;
  plain = b.plain;
}

bare_cells : (l : List ℕ) → has 34 l ≡ false → Bare l
unfolding has
bare_cells [] n = bare_last
bare_cells (x ∷ l) n =
    let q = or_left (eqb x 34) (has 34 l) n in
    let m = or_right (eqb x 34) (has 34 l) n in
    by_test (eqb x 44) (λ e. bare_comma x l e m (bare_cells l m)) (λ e. bare_byte x l e q (bare_cells l m))

-- so they are the cells that the row is cut into
cut_free : (l : List ℕ) (cs : List (List ℕ)) → has 34 l ≡ false → cut 44 l ≡ good cs → (joined cs ≡ l) × (plain_cells cs ≡ cs)
unfolding cut joined
cut_free l cs n e =
    let b = bare_cells l n in
    let made : cut 44 l ≡ good (b.first ∷ b.more) = ap (cut_from 44 l) (open_free l n) ∙ b.made in
    let all : cs ≡ b.first ∷ b.more = cc in (
      ap joined all ∙ b.whole,
      ap plain_cells all ∙ plain_cons b.first b.more b.free b.plain ∙ sym all,
    )

-- ---- no empty cell at the end

keep_all : (c : List ℕ) (d cs : List (List ℕ)) → length (keep_before c d) ≡ suc (length cs) → (length d ≡ length cs) × (keep_before c d ≡ c ∷ d)
unfolding keep_before
keep_all c [] cs h =
    by_test (is_empty c)
    (λ e. let z : 0 ≡ suc (length cs) = sym (ap length (pick_true [] (c ∷ []) e)) ∙ h in absurd (omega arith))
    (λ e. let z : 1 ≡ suc (length cs) = sym (ap length (pick_false [] (c ∷ []) e)) ∙ h in (omega arith, pick_false [] (c ∷ []) e))
keep_all c (x ∷ d) cs h = (omega (arith, h), refl)

drop_none : (cs : List (List ℕ)) → length (drop_empty cs) ≡ length cs → drop_empty cs ≡ cs
unfolding drop_empty
drop_none [] h = refl
drop_none (c ∷ cs) h = let (k, e) = keep_all c (drop_empty cs) cs h in e ∙ ap (λ z. c ∷ z) (drop_none cs k)

-- ---- the line

pub row_stands : (l : List ℕ) (cs : List (List ℕ)) → has 34 l ≡ false → cut 44 l ≡ good cs → text_at cs ≡ nowhere → length (drop_empty cs) ≡ length cs → row_line cs ≡ l
unfolding row_line row_fields
row_stands l cs n e t k =
    let (w, p) = cut_free l cs n e in
    ap (λ z. joined (row_fields z cs)) t ∙ ap (λ z. joined (plain_cells z)) (drop_none cs k) ∙ ap joined p ∙ w

seen_free : (twice : Bool) (l : List ℕ) → has 34 l ≡ false → seen twice l ≡ l
unfolding seen pick
seen_free true l n = unquoted l n
seen_free false l n = refl

-- ---- the test of a row

abbrev pub Stands : ℕ → Row → List ℕ → Bool
Stands sep row l = eqb sep 44 && (is_none row.place && (eqb row.kept row.cells && not (has 34 l)))

no_place : (place : Option ℕ) → is_none place ≡ true → place_as place ≡ nowhere
unfolding place_as
no_place None e = refl
no_place (Some k) e = cc

not_true : (b : Bool) → not b ≡ true → b ≡ false
not_true true e = let z : ◌≡◌ {A = ℕ} 0 1 = cc in absurd (omega arith)
not_true false e = refl

-- such a part of a line is its line
pub stands_part : (sep : ℕ) (twice : Bool) (l : List ℕ) (row : Row) → RowIs sep twice l (Some row) → is_remark sep (seen twice l) ≡ false → Stands sep row l ≡ true
    → l ≡ line_by row_line sep (seen twice l)
unfolding of_cut
stands_part sep twice l row i n h =
    let (cs, e, k) = cells_of sep twice l row i in
    let (s, g) = and_both (eqb sep 44) _ h in
    let (p, f) = and_both (is_none row.place) _ g in
    let (w, q) = and_both (eqb row.kept row.cells) _ f in
    let free = not_true (has 34 l) q in
    let c : cut 44 l ≡ good cs = sym (ap₂ cut (eqb-true sep 44 s) (seen_free twice l free)) ∙ e in
    let t : text_at cs ≡ nowhere = sym k.place ∙ no_place row.place p in
    let d : length (drop_empty cs) ≡ length cs = sym k.kept ∙ eqb-true row.kept row.cells w ∙ k.cells in
    sym (row_stands l cs free c t d) ∙ sym (ap (of_cut row_line) e) ∙ cut_part sep twice l n
