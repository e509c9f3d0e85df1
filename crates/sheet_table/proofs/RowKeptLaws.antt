-- The cells of a line whose fields are read; and cells, put back and joined, that are read as their fields.
use mathlib.Core.Path.{◌≡◌, refl, sym, ap, ap₂, ◌∙◌}
use Prim.Native.Nat.{ℕ, zero, suc, ◌≤◌, ◌<◌}
use mathlib.Core.Bool.{Bool, true, false, false≢true, ◌||◌}
use mathlib.Core.List.{List, [], ◌∷◌, ◌++◌}
use native.Mathlib.Omega.{arith}
use lib.ListN.{length, length-append}
use lib.Dec.{eqb}
use Rattle.event.specs.Outcome.{ok}
use Rattle.event.proofs.ChoiceLaws.{pick_false}
use Rattle.event.proofs.OutcomeLaws.{not_ok, ok_same, and_then_ok, and_then_eq}
use Rattle.midicsv.specs.Field.{Field}
use Rattle.midicsv.specs.Result.{good}
use Rattle.midicsv.specs.ReadField.{read_field, onward, read_fields, all_fields}
use Rattle.midicsv.proofs.AllLaws.{all_append}
use Rattle.midicsv.proofs.FieldReadLaws.{Ends}
use Rattle.sheet_table.specs.Cut.{has, cut}
use Rattle.sheet_table.specs.Table.{is_empty, keep_before, drop_empty, requote, plain_cell, plain_cells, further_joined, joined}
use Rattle.sheet_table.specs.Code.Cells.{cells_after, cons_cell}
use Rattle.sheet_table.proofs.BareFieldLaws.{NoReturn}
use Rattle.sheet_table.proofs.FieldCellLaws.{Reads, is_text_lem, Bare, Holds, barely, in_quotes, FieldCell, field_cell}

-- ---- the cells of a line whose fields are read

abbrev pub HoldAll : List (List ℕ) → List Field → Type 0
HoldAll [] [] = Unit {0}
HoldAll [] (f ∷ fs) = ⊥
HoldAll (c ∷ cs) [] = ⊥
HoldAll (c ∷ cs) (f ∷ fs) = Holds c f × HoldAll cs fs

pub record Row (l : List ℕ) (fs : List Field) : Type 0 where
  pub cells : List (List ℕ)
  pub cuts : cut 44 l ≡ good cells
  pub holds : HoldAll cells fs
  pub no_return : NoReturn l
  pub comma : 2 ≤ length fs → has 44 l ≡ true

or_true : (a : Bool) → (a || true) ≡ true
or_true true = refl
or_true false = refl

pub has_later : (k : ℕ) (c t : List ℕ) → eqb k k ≡ true → has k (c ++ (k ∷ t)) ≡ true
unfolding has
has_later k [] t e = ap (λ z. z || has k t) e
has_later k (x ∷ c) t e = ap (λ z. eqb x k || z) (has_later k c t e) ∙ or_true (eqb x k)

cons_cells : (c : List ℕ) (cs : List (List ℕ)) → cons_cell c (good cs) ≡ good (c ∷ cs)
unfolding cons_cell
cons_cells c cs = refl

no_cells : cells_after 44 [] ≡ good []
unfolding cells_after
no_cells = refl

more_cells : (x : ℕ) (m : List ℕ) → cells_after 44 (x ∷ m) ≡ cut 44 m
unfolding cells_after
more_cells x m = refl

row_last : (l : List ℕ) (f : Field) → FieldCell l f [] → Row l (f ∷ [])
row_last l f w =
    record {
      cells = w.cell ∷ [];
      cuts = w.cuts ∙ ap (cons_cell w.cell) no_cells ∙ cons_cells w.cell [];
      holds = (w.holds, tt);
      no_return = rw w.whole (all_append (λ c. eqb c 13 ≡ false) w.part [] w.no_return tt);
      comma = λ h. absurd (omega arith);
    }

row_more : (l : List ℕ) (f : Field) (c : ℕ) (m : List ℕ) (fs : List Field) → FieldCell l f (c ∷ m) → Row m fs → Row l (f ∷ fs)
row_more l f c m fs w z =
    let e : l ≡ w.part ++ (44 ∷ m) = w.whole ∙ ap (λ x. w.part ++ (x ∷ m)) w.ends in
    record {
      cells = w.cell ∷ z.cells;
      cuts = w.cuts ∙ ap (cons_cell w.cell) (more_cells c m ∙ z.cuts) ∙ cons_cells w.cell z.cells;
      holds = (w.holds, z.holds);
      no_return = rw e (all_append (λ x. eqb x 13 ≡ false) w.part (44 ∷ m) w.no_return (refl, z.no_return));
      comma = λ h. ap (has 44) e ∙ has_later 44 w.part m refl;
    }

onward_row : (l : List ℕ) (f : Field) (m : List ℕ) (n : ℕ) (fs : List Field) (q : List ℕ) → FieldCell l f m → onward f m (read_fields n) ≡ ok fs q
    → ((x : List ℕ) (gs : List Field) → read_fields n x ≡ ok gs q → Row x gs) → Row l fs
unfolding onward
onward_row l f [] n fs q w e k = ok_same (f ∷ []) fs [] q e (λ a b. rw (← a) (row_last l f w))
onward_row l f (c ∷ m) n fs q w e k =
    and_then_ok (read_fields n m) _ fs q e (λ gs y u z.
    ok_same (f ∷ gs) fs y q z (λ a b. rw (← a) (row_more l f c m gs w (k m gs (u ∙ ap (ok gs) b)))))

row_of_lem : (n : ℕ) (l : List ℕ) (fs : List Field) (q : List ℕ) → read_fields n l ≡ ok fs q → Row l fs
unfolding read_fields
row_of_lem zero l fs q e = not_ok e
row_of_lem (suc n) l fs q e = and_then_ok (read_field l) _ fs q e (λ f m u k. onward_row l f m n fs q (field_cell l f m u) k (λ x gs y. row_of_lem n x gs q y))

pub fields_row : (l : List ℕ) (fs : List Field) (q : List ℕ) → all_fields l ≡ ok fs q → Row l fs
unfolding all_fields
fields_row l fs q e = row_of_lem (suc (length l)) l fs q e

-- ---- fields that are read one by one are read joined

abbrev pub ReadAll : List (List ℕ) → List Field → Type 0
ReadAll [] [] = Unit {0}
ReadAll [] (f ∷ fs) = ⊥
ReadAll (x ∷ xs) [] = ⊥
ReadAll (x ∷ xs) (f ∷ fs) = Reads x f × ReadAll xs fs

ends_joined : (xs : List (List ℕ)) → Ends (further_joined xs)
unfolding further_joined
ends_joined [] = tt
ends_joined (x ∷ xs) = refl

last_read : (n : ℕ) (f : Field) → onward f (further_joined []) (read_fields n) ≡ ok (f ∷ []) []
unfolding onward further_joined
last_read n f = refl

next_read : (n : ℕ) (f : Field) (x : List ℕ) (xs : List (List ℕ)) (fs : List Field) → read_fields n (x ++ further_joined xs) ≡ ok fs []
    → onward f (further_joined (x ∷ xs)) (read_fields n) ≡ ok (f ∷ fs) []
unfolding onward further_joined
next_read n f x xs fs e = and_then_eq _ e

some_read : (n : ℕ) (x : List ℕ) (xs : List (List ℕ)) (f : Field) (fs : List Field) → Reads x f → ReadAll xs fs → length xs < n → read_fields n (x ++ further_joined xs) ≡ ok (f ∷ fs) []
unfolding read_fields
some_read zero x xs f fs g gs h = absurd (omega arith)
some_read (suc n) x [] f [] g gs h = and_then_eq _ (g (further_joined []) (ends_joined [])) ∙ last_read n f
some_read (suc n) x [] f (k ∷ fs) g gs h = absurd gs
some_read (suc n) x (y ∷ xs) f [] g gs h = absurd gs
some_read (suc n) x (y ∷ xs) f (k ∷ fs) g gs h =
    and_then_eq _ (g (further_joined (y ∷ xs)) (ends_joined (y ∷ xs))) ∙ next_read n f y xs (k ∷ fs) (some_read n y xs k fs gs.0 gs.1 (omega arith))

joined_size : (xs : List (List ℕ)) → length xs ≤ length (further_joined xs)
unfolding further_joined
joined_size [] = omega arith
joined_size (x ∷ xs) = let h = joined_size xs in simp length-append (omega arith)

pub joined_read : (xs : List (List ℕ)) (f : Field) (fs : List Field) → ReadAll xs (f ∷ fs) → all_fields (joined xs) ≡ ok (f ∷ fs) []
unfolding joined all_fields
joined_read [] f fs g = absurd g
joined_read (x ∷ xs) f fs g = some_read _ x xs f fs g.0 g.1 (omega (arith, joined_size xs, length-append x (further_joined xs)))

-- ---- cells that are put back

plain_same : (c : List ℕ) (f : Field) → Bare c f → plain_cell c ≡ c
unfolding plain_cell
plain_same c f b = pick_false _ _ (ap₂ ◌||◌ b.comma b.quote)

pub to_bare : (c : List ℕ) (f : Field) → is_text_lem f ≡ false → Holds c f → Bare c f
to_bare c f t (barely b) = b
to_bare c f t (in_quotes u r) = absurd (false≢true (sym t ∙ u))

pub plain_reads : (c : List ℕ) (f : Field) → is_text_lem f ≡ false → Holds c f → Reads (plain_cell c) f
plain_reads c f t h y e = let b = to_bare c f t h in ap (λ z. read_field (z ++ y)) (plain_same c f b) ∙ b.reads y e

pub quote_reads : (c : List ℕ) (f : Field) → is_text_lem f ≡ true → Holds c f → Reads (requote c) f
quote_reads c f t (barely b) = absurd (false≢true (sym b.no_text ∙ t))
quote_reads c f t (in_quotes u r) = r

abbrev pub AllPlain : List Field → Type 0
AllPlain [] = Unit {0}
AllPlain (f ∷ fs) = (is_text_lem f ≡ false) × AllPlain fs

pub plains_read : (cs : List (List ℕ)) (fs : List Field) → AllPlain fs → HoldAll cs fs → ReadAll (plain_cells cs) fs
unfolding plain_cells
plains_read [] [] a h = tt
plains_read [] (f ∷ fs) a h = absurd h
plains_read (c ∷ cs) [] a h = absurd h
plains_read (c ∷ cs) (f ∷ fs) a h = (plain_reads c f a.0 h.0, plains_read cs fs a.1 h.1)

keep_some : (c : List ℕ) (cs : List (List ℕ)) → is_empty c ≡ false → keep_before c cs ≡ c ∷ cs
unfolding keep_before
keep_some c [] e = pick_false _ _ e
keep_some c (d ∷ ds) e = refl

pub drop_none : (cs : List (List ℕ)) (fs : List Field) → AllPlain fs → HoldAll cs fs → drop_empty cs ≡ cs
unfolding drop_empty
drop_none [] [] a h = refl
drop_none [] (f ∷ fs) a h = absurd h
drop_none (c ∷ cs) [] a h = absurd h
drop_none (c ∷ cs) (f ∷ fs) a h = ap (keep_before c) (drop_none cs fs a.1 h.1) ∙ keep_some c cs (to_bare c f a.0 h.0).some
