-- The text of a table has at most 2 bytes for each of its bytes, and 2 more.
use mathlib.Core.Path.{◌≡◌, refl, sym, ap, ◌∙◌}
use Prim.Native.Nat.{ℕ, zero, suc, ◌+◌, ◌-◌, ◌*◌, ◌<◌, ◌≤◌}
use mathlib.Core.Bool.{Bool, true, false, false≢true, ◌&&◌, ◌||◌}
use mathlib.Core.List.{List, [], ◌∷◌, ◌++◌, append-nil}
use native.Mathlib.Omega.{arith}
use lib.ListN.{length, length-append}
use lib.Dec.{eqb}
use Rattle.event.specs.Choice.{pick}
use Rattle.event.specs.Outcome.{Outcome, ok, refused}
use Rattle.event.proofs.ChoiceLaws.{by_test}
use Rattle.midicsv.specs.Field.{Field}
use Rattle.midicsv.specs.Table.{RecordName, Column, range, key, mode, free_type, division, Tail, none, one_text, sized, shape}
use Rattle.midicsv.specs.Result.{Result, good, bad}
use Rattle.midicsv.specs.ReadField.{is_blank, skip, read_field}
use Rattle.midicsv.specs.Names.{name_from}
use Rattle.midicsv.specs.Lines.{onto, lines_of, trimmed, is_comment, passed_over}
use Rattle.midicsv.proofs.ResultLaws.{not_good, good_same}
use Rattle.sheet_table.specs.Cut.{has, blank_beside, skip_beside, begins, bare, opening, on_cell, new_cell, cut_from, cut, is_none}
use Rattle.sheet_table.specs.Table.{is_empty, all_empty, keep_before, drop_empty, doubled, requote, plain_cell, plain_cells, fields_to, TextPlace, nowhere, after, text_from, text_of_name, name_in, text_at, row_fields, further_joined, joined, row_line, of_cut, is_remark, line_by, cells_line, table_line, sep_in, sep_of, unmarked, table_lines, table_of, table_text}
use Rattle.sheet_table.specs.Code.Cells.{cells_after, cons_cell}
use Rattle.sheet_table.proofs.CutLaws.{Parts, parts_comma, parts_semicolon, parts_tab, or_right, bare_first, FirstCell, bare_cell, quoted_cell, no_cell, first_cell}
use Rattle.sheet_table.proofs.NameSizeLaws.{name_long}
use Rattle.sheet_table.proofs.FieldCellLaws.{is_text_lem, name_size, field_cell, Holds, barely, in_quotes}

-- ---- a cell that is put back

doubled_most : (c : List ℕ) → (length c ≤ length (doubled c)) × (length (doubled c) ≤ 2 * length c)
unfolding doubled pick
doubled_most [] = omega arith
doubled_most (x ∷ c) = let h = doubled_most c in by_test (eqb x 34) (λ e. rw e (omega arith)) (λ e. rw e (omega arith))

doubled_same : (c : List ℕ) → has 34 c ≡ false → length (doubled c) ≡ length c
unfolding doubled has pick
doubled_same [] n = refl
doubled_same (x ∷ c) n =
    by_test (eqb x 34) (λ e. absurd (false≢true (sym n ∙ ap (λ z. z || has 34 c) e))) (λ e. rw e (ap suc (doubled_same c (or_right (eqb x 34) (has 34 c) n))))

requote_length : (c : List ℕ) → length (requote c) ≡ 2 + length (doubled c)
unfolding requote
requote_length c = omega (arith, length-append (doubled c) (34 ∷ []))

-- what is reckoned for a content: a bare cell of so many bytes could give twice as many and 1
unfoldable weigh : List ℕ → ℕ
weigh c = pick (has 44 c || has 34 c) (length (requote c)) (2 * length c + 1)

plain_weigh : (c : List ℕ) → length (plain_cell c) ≤ weigh c
unfolding plain_cell weigh pick
plain_weigh c = by_test (has 44 c || has 34 c) (λ e. rw e (omega arith)) (λ e. rw e (omega arith))

requote_weigh : (c : List ℕ) → length (requote c) ≤ 1 + weigh c
unfolding weigh pick
requote_weigh c =
    by_test (has 44 c || has 34 c) (λ e. rw e (omega arith)) (λ e. let h = doubled_same c (or_right (has 44 c) (has 34 c) e) in rw e (omega (arith, requote_length c)))

-- in quotes it had the bytes that it gives
quoted_weigh : (c : List ℕ) → weigh c ≤ 2 * (2 + length (doubled c)) + 1
unfolding weigh pick
quoted_weigh c =
    let h = doubled_most c in
    by_test (has 44 c || has 34 c) (λ e. rw e (omega (arith, requote_length c))) (λ e. rw e (omega arith))

-- a bare cell does not begin with a quote
first_other : (x : ℕ) (c : List ℕ) → eqb x 34 ≡ false → length (doubled (x ∷ c)) ≤ 1 + 2 * length c
unfolding doubled pick
first_other x c e = let h = doubled_most c in rw e (omega arith)

bare_weigh : (sep : ℕ) (c t : List ℕ) → opening sep (c ++ t) ≡ bare → weigh c ≤ 2 * length c + 1
unfolding weigh pick has
bare_weigh sep [] t o = omega arith
bare_weigh sep (x ∷ c) t o =
    by_test (has 44 (x ∷ c) || has 34 (x ∷ c))
    (λ e. rw e (omega (arith, requote_length (x ∷ c), first_other x c (bare_first sep x (c ++ t) o))))
    (λ e. rw e (omega arith))

-- ---- the cells of a row

unfoldable cost : List (List ℕ) → ℕ
cost [] = 0
cost (c ∷ cs) = suc (weigh c + cost cs)

cons_good : {X : Type 0} (c : List ℕ) (m : Result (List (List ℕ))) (cs : List (List ℕ)) → cons_cell c m ≡ good cs → ((ds : List (List ℕ)) → m ≡ good ds → c ∷ ds ≡ cs → X) → X
unfolding cons_cell
cons_good c (good ds) cs e k = k ds refl (good_same e)
cons_good c (bad n) cs e k = not_good e

-- a row of k bytes has cells for at most 2 * k + 2, and the first is no longer than the row
abbrev RowCost : List ℕ → List (List ℕ) → Type 0
RowCost l cs = cost cs ≤ 2 * length l + 2

module _ (sep : ℕ) (s : Parts sep) where
  after_cost : (t : List ℕ) (cs : List (List ℕ)) → cells_after sep t ≡ good cs → ((m : List ℕ) → length m < length t → cut sep m ≡ good cs → RowCost m cs) → cost cs ≤ 2 * length t
  unfolding cells_after cost
  after_cost [] cs e k = rw (← (good_same e)) (omega arith)
  after_cost (x ∷ m) cs e k = omega (arith, k m (omega arith) e)

  first_cost : (n : ℕ) (l : List ℕ) (cs : List (List ℕ)) → length l ≤ n → cut sep l ≡ good cs → FirstCell sep l
      → ((m : List ℕ) (ds : List (List ℕ)) → length m < n → cut sep m ≡ good ds → RowCost m ds) → RowCost l cs
  unfolding cost
  first_cost n l cs h e (bare_cell c t o w f v q) k =
      cons_good c (cells_after sep t) cs (sym q ∙ e) (λ ds a b.
      let size = ap length w ∙ length-append c t in
      let rest = after_cost t ds a (λ m y z. k m ds (omega arith) z) in
      let first = bare_weigh sep c t (rw w at o) in
      rw (← b) (omega arith))
  first_cost n l cs h e (quoted_cell b c x t i j w v q) k =
      cons_good c (cells_after sep t) cs (sym q ∙ e) (λ ds a z.
      let size = ap length w ∙ length-append b (34 ∷ (doubled c ++ (34 ∷ (x ++ t)))) in
      let inner = length-append (doubled c) (34 ∷ (x ++ t)) in
      let last = length-append x t in
      let rest = after_cost t ds a (λ m y u. k m ds (omega arith) u) in
      let first = quoted_weigh c in
      rw (← z) (omega arith))
  first_cost n l cs h e (no_cell o q) k = not_good (sym q ∙ e)

  cut_cost : (n : ℕ) (l : List ℕ) (cs : List (List ℕ)) → length l < n → cut sep l ≡ good cs → RowCost l cs
  cut_cost zero l cs h e = absurd (omega arith)
  cut_cost (suc n) l cs h e = first_cost n l cs (omega arith) e (first_cell sep l s) (λ m ds y z. cut_cost n m ds y z)

  first_length : (l c : List ℕ) (cs : List (List ℕ)) → cut sep l ≡ good (c ∷ cs) → FirstCell sep l → length c ≤ length l
  first_length l c cs e (bare_cell d t o w f v q) =
      cons_good d (cells_after sep t) (c ∷ cs) (sym q ∙ e) (λ ds a b.
      let same : d ≡ c = cc in
      rw (← same) (omega (arith, ap length w ∙ length-append d t)))
  first_length l c cs e (quoted_cell b d x t i j w v q) =
      cons_good d (cells_after sep t) (c ∷ cs) (sym q ∙ e) (λ ds a z.
      let same : d ≡ c = cc in
      let most = doubled_most d in
      rw (← same) (omega (arith, ap length w ∙ length-append b (34 ∷ (doubled d ++ (34 ∷ (x ++ t)))), length-append (doubled d) (34 ∷ (x ++ t)))))
  first_length l c cs e (no_cell o q) = not_good (sym q ∙ e)

-- ---- the fields of a row

plains_cost : (cs : List (List ℕ)) → length (further_joined (plain_cells cs)) ≤ cost cs
unfolding further_joined plain_cells cost
plains_cost [] = omega arith
plains_cost (c ∷ cs) = omega (arith, plain_weigh c, plains_cost cs, length-append (plain_cell c) (further_joined (plain_cells cs)))

keep_cost : (c : List ℕ) (ds : List (List ℕ)) → cost (keep_before c ds) ≤ cost (c ∷ ds)
unfolding keep_before cost pick
keep_cost c [] = by_test (is_empty c) (λ e. rw e (omega arith)) (λ e. rw e (omega arith))
keep_cost c (d ∷ ds) = omega arith

drop_cost : (cs : List (List ℕ)) → cost (drop_empty cs) ≤ cost cs
unfolding drop_empty cost
drop_cost [] = omega arith
drop_cost (c ∷ cs) = omega (arith, keep_cost c (drop_empty cs), drop_cost cs)

dropped_cost : (cs : List (List ℕ)) → length (further_joined (plain_cells (drop_empty cs))) ≤ cost cs
dropped_cost cs = omega (arith, plains_cost (drop_empty cs), drop_cost cs)

-- a comma and two quotes more, where the text is missing
no_text_lem : length (further_joined (requote [] ∷ [])) ≡ 3
unfolding further_joined requote doubled
no_text_lem = refl

to_cost : (k : ℕ) (cs : List (List ℕ)) → length (further_joined (fields_to k cs)) ≤ 3 + cost cs
unfolding fields_to further_joined cost
to_cost zero [] = omega (arith, no_text_lem)
to_cost zero (c ∷ cs) = omega (arith, requote_weigh c, dropped_cost cs, length-append (requote c) (further_joined (plain_cells (drop_empty cs))))
to_cost (suc k) [] = omega arith
to_cost (suc k) (c ∷ cs) = omega (arith, plain_weigh c, to_cost k cs, length-append (plain_cell c) (further_joined (fields_to k cs)))

-- ---- but the name's cell gave less than was reckoned for it

bare_slack : (c : List ℕ) → has 44 c ≡ false → has 34 c ≡ false → 2 ≤ length c → length (plain_cell c) + 3 ≤ weigh c
unfolding plain_cell weigh pick
bare_slack c a b h = let e : (has 44 c || has 34 c) ≡ false = rw (a, b) in rw e (omega arith)

holds_slack : (c : List ℕ) (f : Field) → is_text_lem f ≡ false → 2 ≤ name_size f → Holds c f → length (plain_cell c) + 3 ≤ weigh c
holds_slack c f t h (barely b) = bare_slack c b.comma b.quote (omega (arith, b.size))
holds_slack c f t h (in_quotes u r) = absurd (false≢true (sym t ∙ u))

read_slack : (c : List ℕ) (f : Field) (n : RecordName) → read_field c ≡ ok f [] → name_from f ≡ good n → length (plain_cell c) + 3 ≤ weigh c
read_slack c f n e q =
    let w = field_cell c f [] e in
    let (t, h) = name_long f n q in
    let same : w.cell ≡ c = w.same t ∙ sym (append-nil w.part) ∙ sym w.whole in
    rw (← same) (holds_slack w.cell f t h w.holds)

in_slack : (c : List ℕ) (m : Outcome Field) (n : RecordName) → read_field c ≡ m → name_in m ≡ good n → length (plain_cell c) + 3 ≤ weigh c
unfolding name_in
in_slack c (ok f []) n e q = read_slack c f n e q
in_slack c (ok f (x ∷ r)) n e q = not_good q
in_slack c (refused k p) n e q = not_good q

no_place : (k : ℕ) → nowhere ≡ after k → ⊥
no_place k e = false≢true (ap is_place e)
  where
    is_place : TextPlace → Bool
    is_place nowhere = false
    is_place (after k) = true

-- the text comes after Track, Time and name
from_least : (i : ℕ) (cs : List Column) (t : Tail) (k : ℕ) → text_from i cs t ≡ after k → i ≤ k
unfolding text_from
from_least i [] none k e = absurd (no_place k e)
from_least i [] one_text k e = let same : i ≡ k = cc in omega arith
from_least i [] sized k e = absurd (no_place k e)
from_least i (range lo hi ∷ cs) t k e = omega (arith, from_least (suc i) cs t k e)
from_least i (key ∷ cs) t k e = omega (arith, from_least (suc i) cs t k e)
from_least i (mode ∷ cs) t k e = let same : i ≡ k = cc in omega arith
from_least i (free_type ∷ cs) t k e = omega (arith, from_least (suc i) cs t k e)
from_least i (division ∷ cs) t k e = omega (arith, from_least (suc i) cs t k e)

of_name : {X : Type 0} (m : Result RecordName) (k : ℕ) → text_of_name m ≡ after k → ((n : RecordName) → m ≡ good n → 3 ≤ k → X) → X
unfolding text_of_name
of_name (good n) k e f = f n refl (from_least 3 (shape n).columns (shape n).tail k e)
of_name (bad j) k e f = absurd (no_place k e)

three_cost : (k : ℕ) (a b n : List ℕ) (cs : List (List ℕ)) → 3 ≤ k → length (plain_cell n) + 3 ≤ weigh n → length (further_joined (fields_to k (a ∷ b ∷ n ∷ cs))) ≤ cost (a ∷ b ∷ n ∷ cs)
unfolding fields_to further_joined cost
three_cost zero a b n cs h w = absurd (omega arith)
three_cost (suc zero) a b n cs h w = absurd (omega arith)
three_cost (suc (suc zero)) a b n cs h w = absurd (omega arith)
three_cost (suc (suc (suc k))) a b n cs h w =
    let last = to_cost k cs in
    let x = length-append (plain_cell n) (further_joined (fields_to k cs)) in
    let y = length-append (plain_cell b) (44 ∷ (plain_cell n ++ further_joined (fields_to k cs))) in
    let z = length-append (plain_cell a) (44 ∷ (plain_cell b ++ (44 ∷ (plain_cell n ++ further_joined (fields_to k cs))))) in
    omega (arith, plain_weigh a, plain_weigh b)

place_cost : (w : TextPlace) (cs : List (List ℕ)) → ((k : ℕ) → w ≡ after k → length (further_joined (fields_to k cs)) ≤ cost cs) → length (further_joined (row_fields w cs)) ≤ cost cs
unfolding row_fields
place_cost nowhere cs h = dropped_cost cs
place_cost (after k) cs h = h k refl

fields_cost : (cs : List (List ℕ)) → length (further_joined (row_fields (text_at cs) cs)) ≤ cost cs
unfolding text_at
fields_cost [] = place_cost nowhere [] (λ k e. absurd (no_place k e))
fields_cost (a ∷ []) = place_cost nowhere (a ∷ []) (λ k e. absurd (no_place k e))
fields_cost (a ∷ b ∷ []) = place_cost nowhere (a ∷ b ∷ []) (λ k e. absurd (no_place k e))
fields_cost (a ∷ b ∷ n ∷ cs) =
    place_cost (text_of_name (name_in (read_field n))) (a ∷ b ∷ n ∷ cs) (λ k e.
    of_name (name_in (read_field n)) k e (λ m q h. three_cost k a b n cs h (in_slack n (read_field n) m refl q)))

-- ---- the line of a row

joined_length : (cs : List (List ℕ)) → length (joined cs) ≤ length (further_joined cs) - 1
unfolding joined further_joined
joined_length [] = omega arith
joined_length (c ∷ cs) = omega arith

row_length : (l : List ℕ) (cs : List (List ℕ)) → RowCost l cs → length (row_line cs) ≤ 2 * length l + 1
unfolding row_line
row_length l cs h = omega (arith, joined_length (row_fields (text_at cs) cs), fields_cost cs)

of_length : (f : List (List ℕ) → List ℕ) (n : ℕ) (m : Result (List (List ℕ))) → ((cs : List (List ℕ)) → m ≡ good cs → length (f cs) ≤ n + 1) → length (of_cut f m) ≤ n + 1
unfolding of_cut
of_length f n (good cs) h = h cs refl
of_length f n (bad k) h = omega arith

by_length : (f : List (List ℕ) → List ℕ) (sep : ℕ) (l : List ℕ) → ((cs : List (List ℕ)) → cut sep l ≡ good cs → length (f cs) ≤ 2 * length l + 1) → length (line_by f sep l) ≤ 2 * length l + 1
unfolding line_by pick
by_length f sep l h = by_test (is_remark sep l) (λ e. rw e (omega arith)) (λ e. rw e (of_length f (2 * length l) (cut sep l) h))

whole_length : (c : List ℕ) → length (line_by row_line 44 c) ≤ 2 * length c + 1
whole_length c = by_length row_line 44 c (λ cs e. row_length c cs (cut_cost 44 parts_comma (suc (length c)) c cs (omega arith) e))

cells_length : (sep : ℕ) (l : List ℕ) (cs : List (List ℕ)) → Parts sep → cut sep l ≡ good cs → length (cells_line cs) ≤ 2 * length l + 1
unfolding cells_line pick
cells_length sep l [] s e = omega arith
cells_length sep l (c ∷ cs) s e =
    by_test (all_empty cs)
    (λ t. rw t (omega (arith, whole_length c, first_length sep s l c cs e (first_cell sep l s))))
    (λ t. rw t (row_length l (c ∷ cs) (cut_cost sep s (suc (length l)) l (c ∷ cs) (omega arith) e)))

-- a row of k bytes gives a line of at most 2 * k + 1
pub line_bound : (sep : ℕ) (l : List ℕ) → Parts sep → length (table_line sep l) ≤ 2 * length l + 1
unfolding table_line
line_bound sep l s = by_length cells_line sep l (λ cs e. cells_length sep l cs s e)

-- ---- the table

pick_parts : (t : Bool) (a b : ℕ) → Parts a → Parts b → Parts (pick t a b)
unfolding pick
pick_parts true a b p q = p
pick_parts false a b p q = q

-- the separator of a table is a comma, a semicolon or a tab
pub sep_parts : (ls : List (List ℕ)) → Parts (sep_of ls)
unfolding sep_of sep_in
sep_parts [] = parts_comma
sep_parts (l ∷ ls) =
    pick_parts (passed_over (trimmed l)) _ _ (sep_parts ls)
    (pick_parts (has 44 (trimmed l)) _ _ parts_comma (pick_parts (has 59 (trimmed l)) _ _ parts_semicolon (pick_parts (has 9 (trimmed l)) _ _ parts_tab parts_comma)))

-- the bytes of lines, with an LF for each
unfoldable feeds : List (List ℕ) → ℕ
feeds [] = 0
feeds (l ∷ ls) = suc (length l + feeds ls)

onto_feeds : (c n : ℕ) (ls : List (List ℕ)) → feeds ls ≤ suc n → feeds (onto c ls) ≤ suc (suc n)
unfolding onto feeds
onto_feeds c n [] h = omega arith
onto_feeds c n (l ∷ ls) h = omega arith

lines_feeds : (s : List ℕ) → feeds (lines_of s) ≤ suc (length s)
unfolding lines_of pick feeds
lines_feeds [] = omega arith
lines_feeds (c ∷ s) = let h = lines_feeds s in by_test (eqb c 10) (λ e. rw e (omega arith)) (λ e. rw e (onto_feeds c (length s) (lines_of s) h))

trimmed_length : (l : List ℕ) → length (trimmed l) ≤ length l
unfolding trimmed pick
trimmed_length [] = omega arith
trimmed_length (c ∷ []) = by_test (eqb c 13) (λ e. rw e (omega arith)) (λ e. rw e (omega arith))
trimmed_length (c ∷ d ∷ l) = omega (arith, trimmed_length (d ∷ l))

lines_length : (sep : ℕ) (ls : List (List ℕ)) → Parts sep → length (table_lines sep ls) ≤ 2 * feeds ls
unfolding table_lines feeds
lines_length sep [] s = omega arith
lines_length sep (l ∷ ls) s =
    let rest = lines_length sep ls s in
    let more = length-append (table_line sep (trimmed l)) (10 ∷ table_lines sep ls) in
    omega (arith, line_bound sep (trimmed l) s, trimmed_length l)

unmarked_length : (s : List ℕ) → length (unmarked s) ≤ length s
unfolding unmarked pick
unmarked_length [] = omega arith
unmarked_length (a ∷ []) = omega arith
unmarked_length (a ∷ b ∷ []) = omega arith
unmarked_length (a ∷ b ∷ c ∷ s) = by_test (eqb a 239 && (eqb b 187 && eqb c 191)) (λ e. rw e (omega arith)) (λ e. rw e (omega arith))

-- for every table
pub table_bound : (s : List ℕ) → length (table_text s) ≤ 2 * length s + 2
unfolding table_text table_of
table_bound s =
    let ls = lines_of (unmarked s) in
    let h = lines_length (sep_of ls) ls (sep_parts ls) in
    omega (arith, lines_feeds (unmarked s), unmarked_length s)

-- and no less will do: of a" comes "a""" and LF, 6 bytes of 2
pub bound_met : length (table_text (97 ∷ 34 ∷ [])) ≡ 2 * 2 + 2
unfolding table_text table_of table_lines unmarked sep_of sep_in table_line cells_line line_by is_remark of_cut row_line joined further_joined row_fields text_at plain_cells plain_cell requote doubled drop_empty keep_before all_empty is_empty is_none cut cut_from new_cell on_cell opening begins skip_beside blank_beside has passed_over is_comment trimmed lines_of onto skip is_blank pick
bound_met = refl
