-- The first cell of a row, by the bytes in front: bare, in quotes, after the closing quote.
use mathlib.Core.Path.{◌≡◌, refl, sym, ap, ◌∙◌}
use Prim.Native.Nat.{ℕ}
use mathlib.Core.Bool.{true, false, false≢true}
use mathlib.Core.List.{List, [], ◌∷◌, ◌++◌}
use lib.Dec.{eqb}
use borrow.Author.Tests.{eqb-true, eq-eqb}
use Rattle.event.specs.Choice.{pick}
use Rattle.event.proofs.ChoiceLaws.{by_test, pick_true, pick_false}
use Rattle.midicsv.specs.Result.{Result, bad}
use Rattle.sheet_table.specs.Cut.{has, blank_beside, skip_beside, begins, bare, lead, quotes, closed, opening, on_cell, cut_from, cut}
use Rattle.sheet_table.specs.Table.{doubled}
use Rattle.sheet_table.proofs.CutLaws.{new_cons, on_cons, Follows, or_left, or_right}
use Rattle.sheet.specs.Code.Seen.{singled}
use Rattle.sheet_table.specs.Code.Cells.{cons_cell, cells_after}
use Rattle.sheet.proofs.BlankLaws.{blank_quote}

-- ---- cells in front

-- bytes in front of the first cell
unfoldable pub on_cells : List ℕ → Result (List (List ℕ)) → Result (List (List ℕ))
on_cells [] m = m
on_cells (x ∷ c) m = on_cell x (on_cells c m)

pub cells_cons : (c : List ℕ) (m : Result (List (List ℕ))) → on_cells c (cons_cell [] m) ≡ cons_cell c m
unfolding on_cells
cells_cons [] m = refl
cells_cons (x ∷ c) m = ap (on_cell x) (cells_cons c m) ∙ on_cons x c m

pub cells_bad : (c : List ℕ) (n : ℕ) → on_cells c (bad n) ≡ bad n
unfolding on_cells on_cell
cells_bad [] n = refl
cells_bad (x ∷ c) n = ap (on_cell x) (cells_bad c n)

pub has_more : (sep x : ℕ) (c : List ℕ) → has sep c ≡ false → eqb x sep ≡ false → has sep (c ++ (x ∷ [])) ≡ false
unfolding has
has_more sep x [] n e = rw e refl
has_more sep x (y ∷ c) n e = rw (or_left (eqb y sep) (has sep c) n) (has_more sep x c (or_right (eqb y sep) (has sep c) n) e)

-- ---- in quotes

pub quotes_cut : (sep : ℕ) (c t : List ℕ) → cut_from sep (doubled c ++ t) quotes ≡ on_cells c (cut_from sep t quotes)
unfolding doubled on_cells cut_from pick
quotes_cut sep [] t = refl
quotes_cut sep (x ∷ c) t =
    by_test (eqb x 34)
    (λ q. rw q (two_quotes (doubled c ++ t) ∙ ap (λ z. on_cell z (cut_from sep (doubled c ++ t) quotes)) (sym (eqb-true x 34 q)) ∙ ap (on_cell x) (quotes_cut sep c t)))
    (λ q. rw q (inner_byte q (doubled c ++ t) ∙ ap (on_cell x) (quotes_cut sep c t)))
  where
    two_quotes : (l : List ℕ) → cut_from sep (34 ∷ 34 ∷ l) quotes ≡ on_cell 34 (cut_from sep l quotes)
    two_quotes l = refl

    inner_byte : eqb x 34 ≡ false → (l : List ℕ) → cut_from sep (x ∷ l) quotes ≡ on_cell x (cut_from sep l quotes)
    inner_byte e l = pick_false _ _ e

-- quotes that come in pairs, one list after the other
singled_doubled : (c m : List ℕ) → singled (doubled c ++ m) ≡ c ++ singled m
unfolding doubled singled pick
singled_doubled [] m = refl
singled_doubled (x ∷ c) m =
    by_test (eqb x 34)
    (λ q. rw q (ap (λ z. 34 ∷ z) (singled_doubled c m) ∙ ap (λ z. z ∷ (c ++ singled m)) (sym (eqb-true x 34 q))))
    (λ q. rw q (other (doubled c ++ m) q ∙ ap (λ z. x ∷ z) (singled_doubled c m)))
  where
    other : (l : List ℕ) → eqb x 34 ≡ false → singled (x ∷ l) ≡ x ∷ singled l
    other [] e = refl
    other (d ∷ l) e = pick_false _ _ e

pub doubled_append : (c d : List ℕ) → doubled (c ++ d) ≡ doubled c ++ doubled d
unfolding doubled pick
doubled_append [] d = refl
doubled_append (x ∷ c) d =
    by_test (eqb x 34)
    (λ q. rw q (ap (λ z. 34 ∷ 34 ∷ z) (doubled_append c d)))
    (λ q. rw q (ap (λ z. x ∷ z) (doubled_append c d)))

abbrev pub Paired : List ℕ → Type 0
Paired r = doubled (singled r) ≡ r

pub paired_join : (r m : List ℕ) → Paired r → Paired m → Paired (r ++ m)
paired_join r m a b =
    ap (λ z. doubled (singled (z ++ m))) (sym a)
    ∙ ap doubled (singled_doubled (singled r) m)
    ∙ doubled_append (singled r) (singled m)
    ∙ ap (λ z. z ++ doubled (singled m)) a
    ∙ ap (λ z. r ++ z) b

pub paired_none : Paired []
unfolding doubled singled
paired_none = refl

pub paired_one : (x : ℕ) → eqb x 34 ≡ false → Paired (x ∷ [])
unfolding doubled singled
paired_one x e = pick_false _ _ e

pub paired_two : Paired (34 ∷ 34 ∷ [])
unfolding doubled singled pick
paired_two = refl

-- ---- after the closing quote

pub closing_cut : (sep x : ℕ) (t : List ℕ) → eqb x 34 ≡ true → begins 34 t ≡ false → cut_from sep (x ∷ t) quotes ≡ cut_from sep t closed
unfolding cut_from begins
closing_cut sep x [] q n = pick_true _ _ q
closing_cut sep x (d ∷ t) q n = pick_true _ _ q ∙ pick_false _ _ n

pub closed_blank : (sep x : ℕ) (l : List ℕ) → eqb x sep ≡ false → blank_beside sep x ≡ true → cut_from sep (x ∷ l) closed ≡ cut_from sep l closed
unfolding cut_from
closed_blank sep x l n b = pick_false _ _ n ∙ pick_true _ _ b

pub closed_other : (sep x : ℕ) (l : List ℕ) → eqb x sep ≡ false → blank_beside sep x ≡ false → cut_from sep (x ∷ l) closed ≡ bad 22
unfolding cut_from
closed_other sep x l n b = pick_false _ _ n ∙ pick_false _ _ b

pub closed_end_lem : (sep : ℕ) (t : List ℕ) → Follows sep t → cut_from sep t closed ≡ cons_cell [] (cells_after sep t)
unfolding cut_from Follows cells_after cut cons_cell
closed_end_lem sep [] h = refl
closed_end_lem sep (x ∷ l) h = pick_true _ _ (eq-eqb x sep h) ∙ new_cons (cut_from sep l (opening sep l))

-- ---- how a cell opens

lead_cut : (sep : ℕ) (s t : List ℕ) → skip_beside sep s ≡ 34 ∷ t → cut_from sep s lead ≡ cut_from sep t quotes
unfolding skip_beside begins cut_from pick
lead_cut sep [] t h = absurd (false≢true (ap (begins 34) h))
lead_cut sep (x ∷ s) t h =
    by_test (blank_beside sep x)
    (λ b. blank b ∙ lead_cut sep s t (rw b at h))
    (λ b. let e : x ∷ s ≡ 34 ∷ t = rw b at h in ap (λ z. cut_from sep z lead) e)
  where
    blank : blank_beside sep x ≡ true → cut_from sep (x ∷ s) lead ≡ cut_from sep s lead
    blank b = pick_false _ _ (blank_quote sep x b)

pub quoted_open : (sep : ℕ) (s t : List ℕ) → skip_beside sep s ≡ 34 ∷ t → cut sep s ≡ cut_from sep t quotes
unfolding cut opening pick begins
quoted_open sep s t h = ap (λ z. cut_from sep s (pick (begins 34 z) lead bare)) h ∙ lead_cut sep s t h

pub bare_open : (sep : ℕ) (s : List ℕ) → begins 34 (skip_beside sep s) ≡ false → cut sep s ≡ cut_from sep s bare
unfolding cut opening
bare_open sep s h = ap (cut_from sep s) (pick_false _ _ h)
