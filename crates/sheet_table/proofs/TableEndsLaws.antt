-- A saved table is its rows again: line ends, a byte order mark and the last end's absence leave them as they were; and the separator is that
-- of the first row.
use mathlib.Core.Path.{◌≡◌, refl, sym, ap, ap₂, ◌∙◌}
use Prim.Native.Nat.{ℕ}
use mathlib.Core.Bool.{Bool, true, false, false≢true, ◌&&◌, ◌||◌}
use mathlib.Core.List.{List, [], ◌∷◌, ◌++◌, append_assoc, append-nil}
use native.Mathlib.Omega.{arith}
use lib.Dec.{eqb}
use borrow.Author.Tests.{ne_eqb}
use Rattle.event.specs.Choice.{pick}
use Rattle.event.proofs.ChoiceLaws.{by_test, pick_false}
use Rattle.midicsv.specs.Lines.{lines_of, trimmed, passed_over}
use Rattle.midicsv.proofs.AllLaws.{All, all_append}
use Rattle.midicsv.proofs.LineLaws.{NoFeed, lines_feed, lines_last}
use Rattle.sheet_table.specs.Cut.{is_none}
use Rattle.sheet_table.specs.Table.{table_line, sep_in, sep_of, unmarked, table_text}
use Rattle.sheet_table.specs.Ways.{line_end, with_ends, order_mark}
use Rattle.sheet_table.proofs.CutLaws.{or_right}
use Rattle.sheet_table.proofs.TableLinesLaws.{each_row, table_lines_lem}
use Rattle.sheet_table.proofs.BareFieldLaws.{NoReturn}
use Rattle.sheet_table.proofs.AnyKeptLaws.{trimmed_none}
use Rattle.sheet_table.proofs.SavedBytesLaws.{Lined, Opens, opens_kept}

-- ---- lines with their ends

unfoldable pub AllLined : List (List ℕ) → Type 0
AllLined [] = Unit {0}
AllLined (l ∷ ls) = All Lined l × AllLined ls

lined_feed : (l : List ℕ) → All Lined l → NoFeed l
lined_feed [] a = tt
lined_feed (c ∷ l) a = (a.0.0, lined_feed l a.1)

pub lined_return : (l : List ℕ) → All Lined l → NoReturn l
lined_return [] a = tt
lined_return (c ∷ l) a = (a.0.1, lined_return l a.1)

-- a CR, or none
unfoldable cr : Bool → List ℕ
cr true = 13 ∷ []
cr false = []

-- the lines with their CRs
unfoldable carried : Bool → Bool → List (List ℕ) → List (List ℕ)
carried ca le [] = []
carried ca le (l ∷ []) = (l ++ pick (le || is_none l) (cr ca) []) ∷ []
carried ca le (l ∷ m ∷ ls) = (l ++ cr ca) ∷ carried ca le (m ∷ ls)

end_feed : (ca : Bool) (l s : List ℕ) → All Lined l → lines_of (l ++ (line_end ca ++ s)) ≡ (l ++ cr ca) ∷ lines_of s
unfolding line_end cr
end_feed true l s a =
    ap lines_of (sym (append_assoc l (13 ∷ []) (10 ∷ s)))
    ∙ lines_feed (l ++ (13 ∷ [])) s (all_append (λ c. eqb c 10 ≡ false) l (13 ∷ []) (lined_feed l a) (refl, tt))
end_feed false l s a = lines_feed l s (lined_feed l a) ∙ ap (λ z. z ∷ lines_of s) (sym (append-nil l))

no_lines : lines_of [] ≡ []
unfolding lines_of
no_lines = refl

last_none : (l : List ℕ) → All Lined l → is_none l ≡ false → lines_of (l ++ []) ≡ (l ++ []) ∷ []
unfolding is_none
last_none [] a e = absurd (false≢true (sym e))
last_none (c ∷ l) a e = ap lines_of (append-nil (c ∷ l)) ∙ lines_last c l (lined_feed (c ∷ l) a) ∙ ap (λ z. z ∷ []) (sym (append-nil (c ∷ l)))

last_end : (ca le : Bool) (l : List ℕ) → All Lined l → lines_of (l ++ pick (le || is_none l) (line_end ca) []) ≡ (l ++ pick (le || is_none l) (cr ca) []) ∷ []
unfolding pick
last_end ca le l a =
    by_test (le || is_none l)
    (λ e. rw e (ap (λ z. lines_of (l ++ z)) (sym (append-nil (line_end ca))) ∙ end_feed ca l [] a ∙ ap (λ z. (l ++ cr ca) ∷ z) no_lines))
    (λ e. rw e (last_none l a (or_right le (is_none l) e)))

ends_lines : (ca le : Bool) (ls : List (List ℕ)) → AllLined ls → lines_of (with_ends ca le ls) ≡ carried ca le ls
unfolding with_ends carried AllLined
ends_lines ca le [] a = no_lines
ends_lines ca le (l ∷ []) a = last_end ca le l a.0
ends_lines ca le (l ∷ m ∷ ls) a = end_feed ca l (with_ends ca le (m ∷ ls)) a.0 ∙ ap (λ z. (l ++ cr ca) ∷ z) (ends_lines ca le (m ∷ ls) a.1)

-- ---- the CRs go

trimmed_carriage : (l : List ℕ) → trimmed (l ++ (13 ∷ [])) ≡ l
unfolding trimmed pick
trimmed_carriage [] = refl
trimmed_carriage (c ∷ []) = refl
trimmed_carriage (c ∷ d ∷ l) = ap (λ z. c ∷ z) (trimmed_carriage (d ∷ l))

trimmed_plain : (l : List ℕ) → All Lined l → trimmed (l ++ []) ≡ l
trimmed_plain l a = ap trimmed (append-nil l) ∙ trimmed_none l (lined_return l a)

cr_trimmed : (ca : Bool) (l : List ℕ) → All Lined l → trimmed (l ++ cr ca) ≡ l
unfolding cr
cr_trimmed true l a = trimmed_carriage l
cr_trimmed false l a = trimmed_plain l a

last_trimmed : (b ca : Bool) (l : List ℕ) → All Lined l → trimmed (l ++ pick b (cr ca) []) ≡ l
unfolding pick
last_trimmed true ca l a = cr_trimmed ca l a
last_trimmed false ca l a = trimmed_plain l a

-- the line of each row, which has no CR
unfoldable pub each_line : ℕ → List (List ℕ) → List (List ℕ)
each_line sep [] = []
each_line sep (l ∷ ls) = table_line sep l ∷ each_line sep ls

carried_each : (sep : ℕ) (ca le : Bool) (ls : List (List ℕ)) → AllLined ls → each_row sep (carried ca le ls) ≡ each_line sep ls
unfolding each_row carried each_line AllLined
carried_each sep ca le [] a = refl
carried_each sep ca le (l ∷ []) a = ap (λ z. table_line sep z ∷ []) (last_trimmed (le || is_none l) ca l a.0)
carried_each sep ca le (l ∷ m ∷ ls) a = ap₂ (λ z y. table_line sep z ∷ y) (cr_trimmed ca l a.0) (carried_each sep ca le (m ∷ ls) a.1)

-- ---- the separator is found in the first row

trimmed_sep : (l row : List ℕ) (ls : List (List ℕ)) → trimmed l ≡ row → passed_over row ≡ false → sep_of (l ∷ ls) ≡ sep_in row
unfolding sep_of
trimmed_sep l row ls t p = pick_false _ _ (ap passed_over t ∙ p) ∙ ap sep_in t

carried_sep : (ca le : Bool) (l : List ℕ) (ls : List (List ℕ)) → All Lined l → passed_over l ≡ false → sep_of (carried ca le (l ∷ ls)) ≡ sep_in l
unfolding carried
carried_sep ca le l [] a p = trimmed_sep _ l [] (last_trimmed (le || is_none l) ca l a) p
carried_sep ca le l (m ∷ ls) a p = trimmed_sep _ l (carried ca le (m ∷ ls)) (cr_trimmed ca l a) p

-- ---- the byte order mark goes

no_mark : (x : ℕ) (l : List ℕ) → eqb x 239 ≡ false → unmarked (x ∷ l) ≡ x ∷ l
unfolding unmarked
no_mark x [] e = refl
no_mark x (a ∷ []) e = refl
no_mark x (a ∷ b ∷ l) e = pick_false _ _ (ap (λ z. z && (eqb a 187 && eqb b 191)) e)

mark_gone : (b : Bool) (x : ℕ) (l : List ℕ) → eqb x 239 ≡ false → unmarked (order_mark b ++ (x ∷ l)) ≡ x ∷ l
unfolding order_mark unmarked pick
mark_gone true x l e = refl
mark_gone false x l e = no_mark x l e

row_gone : (b : Bool) (l t : List ℕ) → Opens l → unmarked (order_mark b ++ (l ++ t)) ≡ l ++ t
unfolding Opens
row_gone b [] t h = absurd h
row_gone b (x ∷ l) t h = mark_gone b x (l ++ t) (ne_eqb x 239 (λ e. omega (arith, h.1)))

lines_gone : (b ca le : Bool) (l : List ℕ) (ls : List (List ℕ)) → Opens l → unmarked (order_mark b ++ with_ends ca le (l ∷ ls)) ≡ with_ends ca le (l ∷ ls)
unfolding with_ends
lines_gone b ca le l [] h = row_gone b l _ h
lines_gone b ca le l (m ∷ ls) h = row_gone b l _ h

-- ---- the lines of the table's text

pub saved_lines : (b ca le : Bool) (sep : ℕ) (l : List ℕ) (ls : List (List ℕ)) → Opens l → sep_in l ≡ sep → AllLined (l ∷ ls)
    → lines_of (table_text (order_mark b ++ with_ends ca le (l ∷ ls))) ≡ each_line sep (l ∷ ls)
unfolding AllLined
saved_lines b ca le sep l ls h k a =
    let s = order_mark b ++ with_ends ca le (l ∷ ls) in
    let e : lines_of (unmarked s) ≡ carried ca le (l ∷ ls) = ap lines_of (lines_gone b ca le l ls h) ∙ ends_lines ca le (l ∷ ls) a in
    table_lines_lem s
    ∙ ap (λ z. each_row (sep_of z) z) e
    ∙ ap (λ z. each_row z (carried ca le (l ∷ ls))) (carried_sep ca le l ls a.0 (opens_kept l h) ∙ k)
    ∙ carried_each sep ca le (l ∷ ls) a
