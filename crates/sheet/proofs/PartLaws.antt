-- A part of a line: a remark, a row that cannot be cut, or a row as its fields.
use mathlib.Core.Path.{◌≡◌, sym, ap, subst, ◌∙◌}
use Prim.Native.Nat.{ℕ, ◌<◌, ◌≤◌, ◌^◌}
use mathlib.Core.Bool.{Bool, true, false}
use mathlib.Core.List.{List, [], ◌∷◌}
use native.Mathlib.Omega.{arith}
use lib.ListN.{length}
use Rattle.std.proofs.Common.{Some, None}
use Rattle.event.specs.Choice.{pick}
use Rattle.midicsv.specs.Result.{good}
use Rattle.sheet_table.specs.Cut.{cut}
use Rattle.sheet_table.specs.Table.{drop_empty, joined, row_line, is_remark, of_cut, line_by}
use Rattle.sheet.specs.Code.Seen.{seen}
use Rattle.sheet.specs.Code.Row.{field_count, fields_in, Looked, RowIs}
use Rattle.sheet.specs.Code.Walk.{fields_of, Fielded}
use Rattle.sheet.specs.declared.Row.{Row}
use Rattle.sheet.proofs.FieldsInLaws.{row_fields_lem, count_few}
use Rattle.sheet.proofs.RowBoundLaws.{cells_few}

module _ (sep : ℕ) (twice : Bool) (l : List ℕ) where
  pub remark_part : is_remark sep (seen twice l) ≡ true → seen twice l ≡ line_by row_line sep (seen twice l)
  unfolding line_by pick
  remark_part e = rw e

  -- any other line by its cells
  pub cut_part : is_remark sep (seen twice l) ≡ false → of_cut row_line (cut sep (seen twice l)) ≡ line_by row_line sep (seen twice l)
  unfolding line_by pick
  cut_part e = rw e

  pub uncut_part : is_remark sep (seen twice l) ≡ false → RowIs sep twice l None → 34 ∷ [] ≡ line_by row_line sep (seen twice l)
  unfolding RowIs of_cut
  uncut_part n e = sym (ap (of_cut row_line) e) ∙ cut_part n

  module _ (row : Row) (i : RowIs sep twice l (Some row)) where
    pub cells_of : (cs : List (List ℕ)) × (cut sep (seen twice l) ≡ good cs) × Looked cs row
    unfolding RowIs
    cells_of = i

    pub cells_counted : length l ≤ 268435456 → row.cells < 2 ^ 32
    cells_counted h = let (cs, e, k) = cells_of in omega (arith, k.cells, cells_few sep twice l cs e)

    module _ (count : ℕ) (c : count ≡ field_count row.place row.cells row.kept) where
      -- the count is that of the cells
      counted : (cs : List (List ℕ)) → Looked cs row → count ≡ field_count row.place (length cs) (length (drop_empty cs))
      counted cs k = rw (← k.cells, ← k.kept) c

      pub cells_fielded : Fielded count (cut sep (seen twice l))
      unfolding Fielded
      cells_fielded =
          let (cs, e, k) = cells_of in
          let few : Fielded count (good cs) = omega (arith, counted cs k, count_few row.place cs) in
          subst (Fielded count) (sym e) few

      pub cells_part : is_remark sep (seen twice l) ≡ false → fields_of count row.place (cut sep (seen twice l)) ≡ line_by row_line sep (seen twice l)
      unfolding fields_of of_cut row_line
      cells_part n =
          let (cs, e, k) = cells_of in
          ap (fields_of count row.place) e
          ∙ ap (λ m. joined (fields_in m row.place 0 cs)) (counted cs k)
          ∙ ap joined (sym (row_fields_lem row.place cs k.place))
          ∙ sym (ap (of_cut row_line) e)
          ∙ cut_part n
