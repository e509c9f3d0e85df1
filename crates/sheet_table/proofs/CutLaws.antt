-- The first cell of a row: bare, quoted, or not to be cut; and what follows it.
use mathlib.Core.Path.{◌≡◌, refl, sym, ap, ◌∙◌}
use Prim.Native.Nat.{ℕ}
use mathlib.Core.Bool.{Bool, true, false, false≢true, ◌||◌}
use mathlib.Core.List.{List, [], ◌∷◌, ◌++◌, append_assoc}
use lib.Dec.{eqb}
use borrow.Author.Tests.{eqb-true, eq-eqb}
use Rattle.event.specs.Choice.{pick}
use Rattle.event.proofs.ChoiceLaws.{by_test, pick_true, pick_false}
use Rattle.midicsv.specs.Lines.{onto}
use Rattle.midicsv.specs.Result.{Result, good, bad}
use Rattle.midicsv.proofs.AllLaws.{All}
use Rattle.sheet_table.specs.Cut.{has, blank_beside, skip_beside, begins, Within, bare, lead, quotes, a_quote, closed, opening, on_cell, new_cell, cut_from, cut}
use Rattle.sheet_table.specs.Table.{doubled, requote}
use Rattle.sheet_table.specs.Code.Cells.{cons_cell, cells_after}

-- ---- the separator is none of a quote and a blank beside it

pub record Parts (sep : ℕ) : Type 0 where
  pub no_quote : eqb sep 34 ≡ false
  pub same : eqb sep sep ≡ true
  pub no_blank : blank_beside sep sep ≡ false

pub parts_comma : Parts 44
unfolding blank_beside
parts_comma = record { no_quote = refl; same = refl; no_blank = refl }

pub parts_semicolon : Parts 59
unfolding blank_beside
parts_semicolon = record { no_quote = refl; same = refl; no_blank = refl }

pub parts_tab : Parts 9
unfolding blank_beside
parts_tab = record { no_quote = refl; same = refl; no_blank = refl }

-- ---- what follows a cell: nothing, or the separator and further cells

unfoldable pub Follows : ℕ → List ℕ → Type 0
Follows sep [] = Unit {0}
Follows sep (x ∷ l) = x ≡ sep

pub on_cons : (c : ℕ) (l : List ℕ) (m : Result (List (List ℕ))) → on_cell c (cons_cell l m) ≡ cons_cell (c ∷ l) m
unfolding on_cell cons_cell onto
on_cons c l (good cs) = refl
on_cons c l (bad n) = refl

pub new_cons : (m : Result (List (List ℕ))) → new_cell m ≡ cons_cell [] m
unfolding new_cell cons_cell
new_cons (good cs) = refl
new_cons (bad n) = refl

on_bad : (c n : ℕ) → on_cell c (bad n) ≡ bad n
unfolding on_cell
on_bad c n = refl

pub or_left : (a b : Bool) → (a || b) ≡ false → a ≡ false
or_left true b e = absurd (false≢true (sym e))
or_left false b e = refl

pub or_right : (a b : Bool) → (a || b) ≡ false → b ≡ false
or_right true b e = absurd (false≢true (sym e))
or_right false b e = e

-- ---- a bare cell

bare_end_lem : (sep : ℕ) (t : List ℕ) → Follows sep t → cut_from sep t bare ≡ cons_cell [] (cells_after sep t)
unfolding cut_from Follows cells_after cut cons_cell
bare_end_lem sep [] h = refl
bare_end_lem sep (x ∷ l) h = pick_true _ _ (eq-eqb x sep h) ∙ new_cons (cut_from sep l (opening sep l))

pub bare_cut : (sep : ℕ) (c t : List ℕ) → has sep c ≡ false → Follows sep t → cut_from sep (c ++ t) bare ≡ cons_cell c (cells_after sep t)
unfolding has cut_from
bare_cut sep [] t n h = bare_end_lem sep t h
bare_cut sep (x ∷ c) t n h =
    pick_false _ _ (or_left (eqb x sep) (has sep c) n) ∙ ap (on_cell x) (bare_cut sep c t (or_right (eqb x sep) (has sep c) n) h) ∙ on_cons x c (cells_after sep t)

-- a list up to the first separator
pub record UpTo (sep : ℕ) (l : List ℕ) : Type 0 where
  pub cell : List ℕ
  pub rest : List ℕ
  pub whole : l ≡ cell ++ rest
  pub free : has sep cell ≡ false
  pub follows : Follows sep rest

pub up_to : (sep : ℕ) (l : List ℕ) → UpTo sep l
unfolding has Follows
up_to sep [] = record { cell = []; rest = []; whole = refl; free = refl; follows = tt }
up_to sep (x ∷ l) =
    by_test (eqb x sep)
    (λ e. record { cell = []; rest = x ∷ l; whole = refl; free = refl; follows = eqb-true x sep e })
    (λ e. let u = up_to sep l in record { cell = x ∷ u.cell; rest = u.rest; whole = ap (λ z. x ∷ z) u.whole; free = rw e u.free; follows = u.follows })

-- ---- a quoted cell

-- blanks beside the separator
abbrev pub AllBlank : ℕ → List ℕ → Type 0
AllBlank sep l = All (λ c. blank_beside sep c ≡ true) l

-- a blank is no quote and does not separate
blank_quote : (sep x : ℕ) → blank_beside sep x ≡ true → eqb x 34 ≡ false
unfolding blank_beside
blank_quote sep x h = by_test (eqb x 34) (λ e. let z : blank_beside sep 34 ≡ true = rw (eqb-true x 34 e) at h in absurd (false≢true z)) (λ e. e)

blank_sep : (sep x : ℕ) → Parts sep → blank_beside sep x ≡ true → eqb x sep ≡ false
blank_sep sep x s h =
    by_test (eqb x sep) (λ e. let z : blank_beside sep sep ≡ true = rw (eqb-true x sep e) at h in absurd (false≢true (sym s.no_blank ∙ z))) (λ e. e)

-- blanks after the closing quote, then what follows the cell
closed_cut : (sep : ℕ) (e t : List ℕ) → Parts sep → AllBlank sep e → Follows sep t → cut_from sep (e ++ t) closed ≡ cons_cell [] (cells_after sep t)
unfolding cut_from Follows cells_after cut cons_cell
closed_cut sep [] [] s a h = refl
closed_cut sep [] (x ∷ l) s a h = rw h (pick_true _ _ s.same ∙ new_cons (cut_from sep l (opening sep l)))
closed_cut sep (x ∷ e) t s a h = pick_false _ _ (blank_sep sep x s a.0) ∙ pick_true _ _ a.0 ∙ closed_cut sep e t s a.1 h

quote_cut : (sep : ℕ) (e t : List ℕ) → Parts sep → AllBlank sep e → Follows sep t → cut_from sep (e ++ t) a_quote ≡ cons_cell [] (cells_after sep t)
unfolding cut_from Follows cells_after cut cons_cell
quote_cut sep [] [] s a h = refl
quote_cut sep [] (x ∷ l) s a h = rw h (pick_false _ _ s.no_quote ∙ pick_true _ _ s.same ∙ new_cons (cut_from sep l (opening sep l)))
quote_cut sep (x ∷ e) t s a h =
    pick_false _ _ (blank_quote sep x a.0) ∙ pick_false _ _ (blank_sep sep x s a.0) ∙ pick_true _ _ a.0 ∙ closed_cut sep e t s a.1 h

closing_quote : (sep : ℕ) (l : List ℕ) → cut_from sep (34 ∷ l) quotes ≡ cut_from sep l a_quote
unfolding cut_from
closing_quote sep l = pick_true _ _ refl

two_quotes : (sep : ℕ) (l : List ℕ) → cut_from sep (34 ∷ 34 ∷ l) quotes ≡ on_cell 34 (cut_from sep l quotes)
unfolding cut_from pick
two_quotes sep l = refl

inner_byte : (sep x : ℕ) (l : List ℕ) → eqb x 34 ≡ false → cut_from sep (x ∷ l) quotes ≡ on_cell x (cut_from sep l quotes)
unfolding cut_from
inner_byte sep x l e = pick_false _ _ e

-- the content c of a quoted cell, the closing quote, blanks, and what follows
pub quoted_cut : (sep : ℕ) (c e t : List ℕ) → Parts sep → AllBlank sep e → Follows sep t → cut_from sep (doubled c ++ (34 ∷ (e ++ t))) quotes ≡ cons_cell c (cells_after sep t)
unfolding doubled pick
quoted_cut sep [] e t s a h = closing_quote sep (e ++ t) ∙ quote_cut sep e t s a h
quoted_cut sep (x ∷ c) e t s a h =
    let more = ap (on_cell x) (quoted_cut sep c e t s a h) ∙ on_cons x c (cells_after sep t) in
    by_test (eqb x 34)
    (λ q. rw q (two_quotes sep (doubled c ++ (34 ∷ (e ++ t))) ∙ ap (λ z. on_cell z (cut_from sep (doubled c ++ (34 ∷ (e ++ t))) quotes)) (sym (eqb-true x 34 q)) ∙ more))
    (λ q. rw q (inner_byte sep x (doubled c ++ (34 ∷ (e ++ t))) q ∙ more))

-- ---- what is in quotes: a content and its closing quote, or no cell

pub data Inner (sep : ℕ) (l : List ℕ) : Type 0 where
  closes : (c e t : List ℕ) → l ≡ doubled c ++ (34 ∷ (e ++ t)) → AllBlank sep e → Follows sep t → Inner sep l
  fails : cut_from sep l quotes ≡ bad 22 → Inner sep l

-- blanks after a closing quote, up to what follows; or another byte
data After (sep : ℕ) (l : List ℕ) : Type 0 where
  blanks : (e t : List ℕ) → l ≡ e ++ t → AllBlank sep e → Follows sep t → After sep l
  others : cut_from sep l closed ≡ bad 22 → After sep l

after_more : (sep x : ℕ) (l : List ℕ) → eqb x sep ≡ false → blank_beside sep x ≡ true → After sep l → After sep (x ∷ l)
unfolding cut_from
after_more sep x l n b (blanks e t w a h) = blanks (x ∷ e) t (ap (λ z. x ∷ z) w) (b, a) h
after_more sep x l n b (others w) = others (pick_false _ _ n ∙ pick_true _ _ b ∙ w)

after : (sep : ℕ) (l : List ℕ) → After sep l
unfolding Follows cut_from
after sep [] = blanks [] [] refl tt tt
after sep (x ∷ l) =
    by_test (eqb x sep) (λ y. blanks [] (x ∷ l) refl tt (eqb-true x sep y)) (λ n.
    by_test (blank_beside sep x) (λ b. after_more sep x l n b (after sep l)) (λ m. others (pick_false _ _ n ∙ pick_false _ _ m)))

-- after a quote that is not doubled
inner_closed : (sep d : ℕ) (l : List ℕ) → eqb d 34 ≡ false → eqb d sep ≡ false → blank_beside sep d ≡ true → After sep l → Inner sep (34 ∷ d ∷ l)
unfolding cut_from doubled
inner_closed sep d l n m b (blanks e t w a h) = closes [] (d ∷ e) t (ap (λ z. 34 ∷ d ∷ z) w) (b, a) h
inner_closed sep d l n m b (others w) = fails (pick_true _ _ refl ∙ pick_false _ _ n ∙ pick_false _ _ m ∙ pick_true _ _ b ∙ w)

inner_quote : (sep : ℕ) (l : List ℕ) → Inner sep l → Inner sep (34 ∷ 34 ∷ l)
unfolding doubled pick
inner_quote sep l (closes c e t w a h) = closes (34 ∷ c) e t (ap (λ z. 34 ∷ 34 ∷ z) w) a h
inner_quote sep l (fails w) = fails (two_quotes sep l ∙ ap (on_cell 34) w ∙ on_bad 34 22)

inner_more : (sep x : ℕ) (l : List ℕ) → eqb x 34 ≡ false → Inner sep l → Inner sep (x ∷ l)
unfolding doubled
inner_more sep x l n (closes c e t w a h) =
    closes (x ∷ c) e t (ap (λ z. x ∷ z) w ∙ ap (λ z. z ++ (34 ∷ (e ++ t))) (sym (pick_false (34 ∷ 34 ∷ doubled c) (x ∷ doubled c) n))) a h
inner_more sep x l n (fails w) = fails (inner_byte sep x l n ∙ ap (on_cell x) w ∙ on_bad x 22)

-- one quote, then no other
inner_end : (sep d : ℕ) (l : List ℕ) → eqb d 34 ≡ false → Inner sep (34 ∷ d ∷ l)
unfolding cut_from doubled Follows
inner_end sep d l n =
    by_test (eqb d sep) (λ y. closes [] [] (d ∷ l) refl tt (eqb-true d sep y)) (λ m.
    by_test (blank_beside sep d) (λ b. inner_closed sep d l n m b (after sep l)) (λ o.
    fails (pick_true _ _ refl ∙ pick_false _ _ n ∙ pick_false _ _ m ∙ pick_false _ _ o)))

pub inner : (sep : ℕ) (l : List ℕ) → Inner sep l
unfolding cut_from doubled Follows
inner sep [] = fails refl
inner sep (x ∷ []) =
    by_test (eqb x 34) (λ y. closes [] [] [] (ap (λ z. z ∷ []) (eqb-true x 34 y)) tt tt) (λ n. inner_more sep x [] n (fails refl))
inner sep (x ∷ d ∷ l) =
    by_test (eqb x 34)
    (λ y.
    by_test (eqb d 34) (λ z. rw (eqb-true x 34 y, eqb-true d 34 z) (inner_quote sep l (inner sep l))) (λ n. rw (eqb-true x 34 y) (inner_end sep d l n)))
    (λ n. inner_more sep x (d ∷ l) n (inner sep (d ∷ l)))

-- ---- how a cell opens

-- blanks, then the opening quote
pub record Leads (sep : ℕ) (l : List ℕ) : Type 0 where
  pub before : List ℕ
  pub rest : List ℕ
  pub whole : l ≡ before ++ (34 ∷ rest)
  pub blank : AllBlank sep before

leads : (sep : ℕ) (l : List ℕ) → begins 34 (skip_beside sep l) ≡ true → Leads sep l
unfolding skip_beside begins pick
leads sep [] h = absurd (false≢true h)
leads sep (x ∷ l) h =
    by_test (blank_beside sep x)
    (λ b. let m = leads sep l (rw b at h) in record { before = x ∷ m.before; rest = m.rest; whole = ap (λ z. x ∷ z) m.whole; blank = (b, m.blank) })
    (λ b. let e : eqb x 34 ≡ true = rw b at h in record { before = []; rest = l; whole = ap (λ z. z ∷ l) (eqb-true x 34 e); blank = tt })

open_quote : (sep : ℕ) (l : List ℕ) → opening sep (34 ∷ l) ≡ lead
unfolding opening skip_beside begins blank_beside pick
open_quote sep l = refl

pub open_lead : (sep : ℕ) (b l : List ℕ) → AllBlank sep b → opening sep (b ++ (34 ∷ l)) ≡ lead
unfolding opening skip_beside
open_lead sep [] l a = open_quote sep l
open_lead sep (x ∷ b) l a = ap (λ z. pick (begins 34 z) lead bare) (pick_true _ _ a.0) ∙ open_lead sep b l a.1

lead_cut : (sep : ℕ) (b l : List ℕ) → AllBlank sep b → cut_from sep (b ++ (34 ∷ l)) lead ≡ cut_from sep l quotes
unfolding cut_from
lead_cut sep [] l a = pick_true _ _ refl
lead_cut sep (x ∷ b) l a = pick_false _ _ (blank_quote sep x a.0) ∙ lead_cut sep b l a.1

quotes_cut : (sep : ℕ) (b l : List ℕ) → AllBlank sep b → cut sep (b ++ (34 ∷ l)) ≡ cut_from sep l quotes
unfolding cut
quotes_cut sep b l a = ap (cut_from sep (b ++ (34 ∷ l))) (open_lead sep b l a) ∙ lead_cut sep b l a

-- a cell in quotes that is closed, with blanks round it
pub lead_cell : (sep : ℕ) (b c e t : List ℕ) → Parts sep → AllBlank sep b → AllBlank sep e → Follows sep t
    → cut sep (b ++ (34 ∷ (doubled c ++ (34 ∷ (e ++ t))))) ≡ cons_cell c (cells_after sep t)
lead_cell sep b c e t s a z h = quotes_cut sep b (doubled c ++ (34 ∷ (e ++ t))) a ∙ quoted_cut sep c e t s z h

pub open_bare : (sep x : ℕ) (l : List ℕ) → blank_beside sep x ≡ false → eqb x 34 ≡ false → opening sep (x ∷ l) ≡ bare
unfolding opening skip_beside begins
open_bare sep x l a b = ap (λ z. pick (begins 34 z) lead bare) (pick_false _ _ a) ∙ pick_false _ _ b

-- a bare cell begins with no quote
pub bare_first : (sep x : ℕ) (l : List ℕ) → opening sep (x ∷ l) ≡ bare → eqb x 34 ≡ false
bare_first sep x l h =
    by_test (eqb x 34) (λ e. let z : opening sep (34 ∷ l) ≡ bare = rw (eqb-true x 34 e) at h in absurd (lead_bare (sym (open_lead sep [] l tt) ∙ z))) (λ e. e)
  where
    is_bare : Within → Bool
    is_bare bare = true
    is_bare lead = false
    is_bare quotes = false
    is_bare a_quote = false
    is_bare closed = false

    lead_bare : lead ≡ bare → ⊥
    lead_bare e = false≢true (ap is_bare e)

-- ---- the first cell of any row

pub data FirstCell (sep : ℕ) (l : List ℕ) : Type 0 where
  bare_cell : (c t : List ℕ) → opening sep l ≡ bare → l ≡ c ++ t → has sep c ≡ false → Follows sep t → cut sep l ≡ cons_cell c (cells_after sep t) → FirstCell sep l
  quoted_cell : (b c e t : List ℕ) → AllBlank sep b → AllBlank sep e → l ≡ b ++ (34 ∷ (doubled c ++ (34 ∷ (e ++ t)))) → Follows sep t
      → cut sep l ≡ cons_cell c (cells_after sep t) → FirstCell sep l
  no_cell : opening sep l ≡ lead → cut sep l ≡ bad 22 → FirstCell sep l

bare_cell_lem : (sep : ℕ) (l : List ℕ) → Parts sep → opening sep l ≡ bare → FirstCell sep l
unfolding cut
bare_cell_lem sep l s o =
    let u = up_to sep l in
    bare_cell u.cell u.rest o u.whole u.free u.follows
    (ap (cut_from sep l) o ∙ ap (λ z. cut_from sep z bare) u.whole ∙ bare_cut sep u.cell u.rest u.free u.follows)

inner_cell : (sep : ℕ) (b l : List ℕ) → Parts sep → AllBlank sep b → Inner sep l → FirstCell sep (b ++ (34 ∷ l))
inner_cell sep b l s a (closes c e t w z h) = quoted_cell b c e t a z (ap (λ y. b ++ (34 ∷ y)) w) h (ap (λ y. cut sep (b ++ (34 ∷ y))) w ∙ lead_cell sep b c e t s a z h)
inner_cell sep b l s a (fails w) = no_cell (open_lead sep b l a) (quotes_cut sep b l a ∙ w)

pub first_cell : (sep : ℕ) (l : List ℕ) → Parts sep → FirstCell sep l
unfolding opening
first_cell sep l s =
    by_test (begins 34 (skip_beside sep l))
    (λ t. let m = leads sep l t in rw m.whole (inner_cell sep m.before m.rest s m.blank (inner sep m.rest)))
    (λ t. bare_cell_lem sep l s (pick_false _ _ t))

-- a content put in quotes is cut as that content
pub requoted_cut : (sep : ℕ) (c t : List ℕ) → Parts sep → Follows sep t → cut sep (requote c ++ t) ≡ cons_cell c (cells_after sep t)
unfolding requote
requoted_cut sep c t s h = ap (λ z. cut sep (34 ∷ z)) (append_assoc (doubled c) (34 ∷ []) t) ∙ lead_cell sep [] c [] t s tt tt h

-- a content that no blank and no quote begins
unfoldable pub Clean : ℕ → List ℕ → Type 0
Clean sep [] = Unit {0}
Clean sep (x ∷ c) = (blank_beside sep x ≡ false) × (eqb x 34 ≡ false)

none_open : (sep : ℕ) → opening sep [] ≡ bare
unfolding opening skip_beside begins pick
none_open sep = refl

open_clean : (sep : ℕ) (c t : List ℕ) → Parts sep → Clean sep c → Follows sep t → opening sep (c ++ t) ≡ bare
unfolding Clean Follows
open_clean sep [] [] s k h = none_open sep
open_clean sep [] (x ∷ t) s k h = rw h (open_bare sep sep t s.no_blank s.no_quote)
open_clean sep (x ∷ c) t s k h = open_bare sep x (c ++ t) k.0 k.1

-- such a content without a separator in it is cut as it stands
pub clean_cut : (sep : ℕ) (c t : List ℕ) → Parts sep → Clean sep c → has sep c ≡ false → Follows sep t → cut sep (c ++ t) ≡ cons_cell c (cells_after sep t)
unfolding cut
clean_cut sep c t s k n h = ap (cut_from sep (c ++ t)) (open_clean sep c t s k h) ∙ bare_cut sep c t n h
