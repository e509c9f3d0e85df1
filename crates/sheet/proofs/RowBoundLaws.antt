-- How long the line of a row can be.
use mathlib.Core.Path.{◌≡◌, subst}
use Prim.Native.Nat.{ℕ, zero, suc, ◌+◌, ◌*◌, ◌≤◌}
use mathlib.Core.Bool.{Bool, true, false, ◌||◌}
use mathlib.Core.List.{List, [], ◌∷◌}
use native.Mathlib.Omega.{arith}
use lib.ListN.{length, length-append}
use lib.Dec.{eqb}
use Rattle.std.proofs.Common.{Option}
use Rattle.event.specs.Choice.{pick}
use Rattle.midicsv.specs.Result.{Result, good, bad}
use Rattle.midicsv.specs.Lines.{onto}
use Rattle.sheet_table.specs.Cut.{has, blank_beside, Within, bare, lead, quotes, a_quote, closed, opening, on_cell, new_cell, cut_from, cut}
use Rattle.sheet_table.specs.Table.{doubled, requote, plain_cell, further_joined, joined}
use Rattle.sheet.specs.Code.Seen.{singled, seen}
use Rattle.sheet.specs.Code.Row.{is_text, field_at, fields_in}
use Rattle.sheet.specs.Code.Walk.{fields_of, Fielded}

-- ---- the cells of a row are no longer than the row

-- their bytes
total : List (List ℕ) → ℕ
total [] = 0
total (c ∷ cs) = length c + total cs

-- n bytes are enough for the cells: their bytes, and a separator between each two
Few : ℕ → Result (List (List ℕ)) → Type 0
Few n (good cs) = total cs + length cs ≤ suc n
Few n (bad m) = Unit {0}

few_new : (n : ℕ) (m : Result (List (List ℕ))) → Few n m → Few (suc n) (new_cell m)
unfolding new_cell Few total
few_new n (good cs) h = omega arith
few_new n (bad k) h = tt

few_on : (n c : ℕ) (m : Result (List (List ℕ))) → Few n m → Few (suc n) (on_cell c m)
unfolding on_cell onto Few total
few_on n c (good []) h = omega arith
few_on n c (good (x ∷ cs)) h = omega arith
few_on n c (bad k) h = tt

few_more : (n : ℕ) (m : Result (List (List ℕ))) → Few n m → Few (suc n) m
unfolding Few
few_more n (good cs) h = omega arith
few_more n (bad k) h = tt

few_pick : (n : ℕ) (t : Bool) (a b : Result (List (List ℕ))) → Few n a → Few n b → Few n (pick t a b)
unfolding pick
few_pick n true a b g h = g
few_pick n false a b g h = h

cut_few : (sep : ℕ) (l : List ℕ) (w : Within) → Few (length l) (cut_from sep l w)
unfolding cut_from Few total
cut_few sep [] bare = omega arith
cut_few sep [] lead = omega arith
cut_few sep [] quotes = tt
cut_few sep [] a_quote = omega arith
cut_few sep [] closed = omega arith
cut_few sep (c ∷ l) bare = few_pick _ (eqb c sep) _ _ (few_new _ _ (cut_few sep l (opening sep l))) (few_on _ c _ (cut_few sep l bare))
cut_few sep (c ∷ l) lead = few_pick _ (eqb c 34) _ _ (few_more (length l) (cut_from sep l quotes) (cut_few sep l quotes)) (few_more (length l) (cut_from sep l lead) (cut_few sep l lead))
cut_few sep (c ∷ l) quotes = few_pick _ (eqb c 34) _ _ (few_more (length l) (cut_from sep l a_quote) (cut_few sep l a_quote)) (few_on _ c _ (cut_few sep l quotes))
cut_few sep (c ∷ l) a_quote =
    few_pick _ (eqb c 34) _ _ (few_on _ 34 _ (cut_few sep l quotes))
    (few_pick _ (eqb c sep) _ _ (few_new _ _ (cut_few sep l (opening sep l)))
    (few_pick _ (blank_beside sep c) _ _ (few_more (length l) (cut_from sep l closed) (cut_few sep l closed)) tt))
cut_few sep (c ∷ l) closed =
    few_pick _ (eqb c sep) _ _ (few_new _ _ (cut_few sep l (opening sep l)))
    (few_pick _ (blank_beside sep c) _ _ (few_more (length l) (cut_from sep l closed) (cut_few sep l closed)) tt)

-- ---- a field is at most twice its cell and two quotes

pick_few : (n : ℕ) (t : Bool) (a b : List ℕ) → length a ≤ n → length b ≤ n → length (pick t a b) ≤ n
unfolding pick
pick_few n true a b g h = g
pick_few n false a b g h = h

doubled_few : (c : List ℕ) → length (doubled c) ≤ 2 * length c
unfolding doubled
doubled_few [] = omega arith
doubled_few (x ∷ c) = let h = doubled_few c in pick_few (2 * length (x ∷ c)) (eqb x 34) (34 ∷ 34 ∷ doubled c) (x ∷ doubled c) (omega arith) (omega arith)

requote_few : (c : List ℕ) → length (requote c) ≤ 2 * length c + 2
unfolding requote
requote_few c = omega (arith, length-append (doubled c) (34 ∷ []), doubled_few c)

field_few : (place : Option ℕ) (i : ℕ) (c : List ℕ) → length (field_at place i c) ≤ 2 * length c + 2
unfolding field_at plain_cell
field_few place i c =
    pick_few (2 * length c + 2) (is_text place i) (requote c) (plain_cell c) (requote_few c)
    (pick_few (2 * length c + 2) (has 44 c || has 34 c) (requote c) c (requote_few c) (omega arith))

fields_few : (n : ℕ) (place : Option ℕ) (i : ℕ) (cs : List (List ℕ)) → length (further_joined (fields_in n place i cs)) ≤ 3 * n + 2 * total cs
unfolding further_joined fields_in total
fields_few zero place i cs = omega arith
fields_few (suc n) place i [] = omega (arith, length-append (field_at place i []) (further_joined (fields_in n place (suc i) [])), field_few place i [], fields_few n place (suc i) [])
fields_few (suc n) place i (c ∷ cs) = omega (arith, length-append (field_at place i c) (further_joined (fields_in n place (suc i) cs)), field_few place i c, fields_few n place (suc i) cs)

joined_few : (fs : List (List ℕ)) → length (joined fs) ≤ length (further_joined fs)
unfolding joined further_joined
joined_few [] = omega arith
joined_few (f ∷ fs) = omega arith

row_few : (count : ℕ) (place : Option ℕ) (n : ℕ) (m : Result (List (List ℕ))) → Fielded count m → Few n m → length (fields_of count place m) ≤ 3 * n + 6
unfolding Fielded Few fields_of
row_few count place n (good cs) h g = omega (arith, joined_few (fields_in count place 0 cs), fields_few count place 0 cs)
row_few count place n (bad k) h g = absurd h

singled_few : (l : List ℕ) → length (singled l) ≤ length l
unfolding singled
singled_few [] = omega arith
singled_few (c ∷ []) = omega arith
singled_few (c ∷ d ∷ l) = let h = singled_few l in let g = singled_few (d ∷ l) in pick_few (suc (suc (length l))) (eqb c 34) (c ∷ singled l) (c ∷ singled (d ∷ l)) (omega arith) (omega arith)

seen_few : (twice : Bool) (l : List ℕ) → length (seen twice l) ≤ length l
unfolding seen pick
seen_few true l = singled_few l
seen_few false l = omega arith

few_cells : (n : ℕ) (cs : List (List ℕ)) → Few n (good cs) → length cs ≤ suc n
unfolding Few
few_cells n cs h = omega arith

pub cells_few : (sep : ℕ) (twice : Bool) (l : List ℕ) (cs : List (List ℕ)) → cut sep (seen twice l) ≡ good cs → length cs ≤ suc (length l)
unfolding cut
cells_few sep twice l cs e =
    omega (arith, few_cells (length (seen twice l)) cs (subst (Few (length (seen twice l))) e (cut_few sep (seen twice l) (opening sep (seen twice l)))), seen_few twice l)

pub line_few : (sep : ℕ) (twice : Bool) (count : ℕ) (place : Option ℕ) (l : List ℕ) → Fielded count (cut sep (seen twice l)) → length (fields_of count place (cut sep (seen twice l))) ≤ 3 * length l + 6
unfolding cut
line_few sep twice count place l h =
    omega (arith, row_few count place (length (seen twice l)) (cut sep (seen twice l)) h (cut_few sep (seen twice l) (opening sep (seen twice l))), seen_few twice l)
