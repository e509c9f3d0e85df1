-- Where a cell stands in a part: the loops to its end, and the cell they find.
use mathlib.Core.Path.{◌≡◌, refl, sym, ap, ◌∙◌}
use Prim.Native.Nat.{ℕ, ◌+◌, ◌<◌, ◌≤◌}
use mathlib.Core.Bool.{Bool, true, false, false≢true, ◌&&◌, not}
use mathlib.Core.List.{List, [], ◌∷◌, ◌++◌, append_assoc}
use native.Mathlib.Omega.{arith}
use lib.ListN.{length, drop, get_or}
use lib.Dec.{eqb, ltb}
use borrow.Author.Tests.{ne_eqb, not-true, ltb-true, ltb-false}
use Rattle.event.proofs.ChoiceLaws.{by_test, and_both}
use Rattle.event.specs.Choice.{pick}
use Rattle.sheet_table.specs.Cut.{has, blank_beside, skip_beside, begins, bare, quotes, closed, cut_from, cut}
use Rattle.sheet.specs.Code.Seen.{singled, seen, slice, Passed, Reached, SkippedTo}
use Rattle.sheet_table.specs.Code.Cells.{cells_after}
use Rattle.sheet.specs.Code.Cell.{content_of, CellIs, BareEnd, closes, QuoteEnd, ClosedTo, QuotedIs, BareIs}
use Rattle.std.proofs.Common.{Some, None, one-add}
use Rattle.std.specs.List.{prefix_len}
use Rattle.midicsv_scan.proofs.RunLaws.{run_inside, run_rest, run_stops}
use Rattle.sheet.proofs.SeenLaws.{seen_at, seen_other, seen_past, reached_first, reached_on, grown}
use Rattle.sheet.proofs.BlankLaws.{blank_quote}
use Rattle.sheet_table.proofs.CutLaws.{Follows, bare_cut}
use Rattle.sheet.proofs.CutLaws.{on_cells, cells_cons, cells_bad, has_more, quotes_cut, Paired, paired_join, paired_none, paired_one, paired_two, closing_cut, closed_blank, closed_other, closed_end_lem, quoted_open, bare_open}

follows : (sep : ℕ) (twice : Bool) (l : List ℕ) (n : ℕ) → (n < length l → get_or l n 0 ≡ sep) → Follows sep (seen twice (drop n l))
unfolding Follows
follows sep twice l n e =
    by_test (ltb n (length l))
    (λ t. let h = ltb-true n (length l) t in let (m, s) = seen_at twice l n h in rw s (e h))
    (λ t. rw (seen_past twice l n (ltb-false n (length l) t)) tt)

-- ---- a bare cell: no separator from a to b

pub record Bare (sep : ℕ) (twice : Bool) (l : List ℕ) (a b : ℕ) : Type 0 where
  pub reached : Reached twice l a b
  pub free : has sep (seen twice (slice a b l)) ≡ false

pub bare_first : (sep : ℕ) (twice : Bool) (l : List ℕ) (a : ℕ) → a ≤ length l → Bare sep twice l a a
unfolding has
bare_first sep twice l a h = let (s, r) = reached_first twice l a h in record { reached = r; free = ap (has sep) s }

module _ {sep : ℕ} {twice : Bool} {l : List ℕ} {a b : ℕ} (g : Bare sep twice l a b) where
  pub bare_on : {n : ℕ} → b < length l → (get_or l b 0 ≡ sep → ⊥) → Passed twice l b n → Bare sep twice l a n
  bare_on h e p = record {
    reached = reached_on g.reached h p;
    free = ap (has sep) (grown g.reached h p) ∙ has_more sep (get_or l b 0) (seen twice (slice a b l)) g.free (ne_eqb (get_or l b 0) sep e);
  }

  pub bare_last : length l ≤ b → BareEnd sep twice l a b
  bare_last k = record { reached = g.reached; free = g.free; parted = λ h. absurd (omega arith) }

-- ---- in quotes: from a to b the quotes come in pairs

pub record Quoted (twice : Bool) (l : List ℕ) (a b : ℕ) : Type 0 where
  pub reached : Reached twice l a b
  pub paired : Paired (seen twice (slice a b l))

pub quoted_first : (twice : Bool) (l : List ℕ) (a : ℕ) → a ≤ length l → Quoted twice l a a
quoted_first twice l a h = let (s, r) = reached_first twice l a h in record { reached = r; paired = rw s paired_none }

module _ {twice : Bool} {l : List ℕ} {a b n : ℕ} (g : Quoted twice l a b) (h : b < length l) (p : Passed twice l b n) where
  pub quoted_byte : (get_or l b 0 ≡ 34 → ⊥) → Quoted twice l a n
  quoted_byte e = record {
    reached = reached_on g.reached h p;
    paired = rw (grown g.reached h p) (paired_join (seen twice (slice a b l)) (get_or l b 0 ∷ []) g.paired (paired_one (get_or l b 0) (ne_eqb (get_or l b 0) 34 e)));
  }

  pub quoted_pair : {o : ℕ} → get_or l b 0 ≡ 34 → n < length l → get_or l n 0 ≡ 34 → Passed twice l n o → Quoted twice l a o
  quoted_pair {o} e k f q =
      let r = reached_on g.reached h p in
      let s : seen twice (slice a o l) ≡ seen twice (slice a b l) ++ (34 ∷ 34 ∷ []) =
      grown r k q ∙ rw (f, grown g.reached h p, e) (append_assoc (seen twice (slice a b l)) (34 ∷ []) (34 ∷ [])) in
      record { reached = reached_on r k q; paired = rw s (paired_join (seen twice (slice a b l)) (34 ∷ 34 ∷ []) g.paired paired_two) }

  pub quoted_last : get_or l b 0 ≡ 34 → length l ≤ n → QuoteEnd twice l a b
  unfolding closes begins
  quoted_last e k = record { reached = g.reached; paired = g.paired; closing = λ i. rw (p.rest, e, seen_past twice l n k) refl }

  pub quoted_closes : get_or l b 0 ≡ 34 → n < length l → (get_or l n 0 ≡ 34 → ⊥) → QuoteEnd twice l a b
  unfolding closes begins
  quoted_closes e k f =
      let (m, s) = seen_at twice l n k in
      record { reached = g.reached; paired = g.paired; closing = λ i. rw (p.rest, e, s, ne_eqb (get_or l n 0) 34 f) refl }

pub quoted_end : {twice : Bool} {l : List ℕ} {a b : ℕ} → Quoted twice l a b → length l ≤ b → QuoteEnd twice l a b
quoted_end g k = record { reached = g.reached; paired = g.paired; closing = λ i. absurd (omega arith) }

-- ---- after the closing quote

-- a byte after which the cell is not yet closed: a blank that does not separate
abbrev pub closing : ℕ → ℕ → Bool
closing sep c = not (eqb c sep) && blank_beside sep c

closing_front : (sep : ℕ) (twice : Bool) (l : List ℕ) → cut_from sep (seen twice l) closed ≡ cut_from sep (seen twice (drop (prefix_len (closing sep) l) l)) closed
closing_front sep twice [] = refl
closing_front sep twice (c ∷ l) =
    by_test (eqb c sep)
    (λ n. rw n)
    (λ n.
    by_test (blank_beside sep c)
    (λ t.
    rw (n, t, one-add)
    (ap (λ z. cut_from sep z closed) (seen_other twice c l (blank_quote sep c t)) ∙ closed_blank sep c (seen twice l) n t ∙ closing_front sep twice l))
    (λ t. rw (n, t)))

pub closed_to : (sep : ℕ) (l : List ℕ) (at p : ℕ) → at ≤ length l → p ≡ at + prefix_len (closing sep) (drop at l) → ClosedTo sep l at p
closed_to sep l at p h e =
    record {
      same = λ twice. closing_front sep twice (drop at l) ∙ ap (λ z. cut_from sep (seen twice z) closed) (run_rest (closing sep) l at p e);
      stops = λ i n. let t = run_stops (closing sep) l at p e i in rw (ne_eqb (get_or l p 0) sep n) at t;
      later = omega arith;
      inside = run_inside (closing sep) l at p e h;
    }

-- ---- the cell

-- what is in quotes is the content
quoted_content : (sep : ℕ) (twice : Bool) (l : List ℕ) (at to : ℕ) (t : List ℕ) → QuoteEnd twice l at to → seen twice (drop to l) ≡ t
    → cut_from sep (seen twice (drop at l)) quotes ≡ on_cells (singled (seen twice (slice at to l))) (cut_from sep t quotes)
quoted_content sep twice l at to t q e =
    let r = seen twice (slice at to l) in
    ap (λ z. cut_from sep z quotes) (q.reached.rest ∙ ap (λ z. r ++ z) e ∙ ap (λ z. z ++ t) (sym q.paired)) ∙ quotes_cut sep (singled r) t

pub quoted_unclosed : (sep : ℕ) (twice : Bool) (l : List ℕ) (at to : ℕ) → QuoteEnd twice l at to → length l ≤ to → QuotedIs sep twice l at None
unfolding QuotedIs CellIs cut_from
quoted_unclosed sep twice l at to q k =
    λ a h o. o ∙ quoted_content sep twice l at to [] q (seen_past twice l to k) ∙ cells_bad (singled (seen twice (slice at to l))) 22

-- a closing quote at to, and where what follows it ends
module _ (sep : ℕ) (twice : Bool) (l : List ℕ) (at to n next : ℕ) (q : QuoteEnd twice l at to) (h : to < length l) (p : Passed twice l to n) (k : ClosedTo sep l n next) where
  quoted_closed : cut_from sep (seen twice (drop at l)) quotes ≡ on_cells (singled (seen twice (slice at to l))) (cut_from sep (seen twice (drop next l)) closed)
  unfolding closes
  quoted_closed =
      let (x, y) = and_both (eqb (get_or l to 0) 34) (not (begins 34 (seen twice (drop n l)))) (sym (ap closes p.rest) ∙ q.closing h) in
      quoted_content sep twice l at to (get_or l to 0 ∷ seen twice (drop n l)) q p.rest
      ∙ ap (on_cells (singled (seen twice (slice at to l)))) (closing_cut sep (get_or l to 0) (seen twice (drop n l)) x (not-true _ y) ∙ k.same twice)

  found : (next < length l → get_or l next 0 ≡ sep) → QuotedIs sep twice l at (Some (record { from = at; to = to; quoted = true; next = next }))
  unfolding QuotedIs CellIs content_of pick
  found g = λ a i o. record {
    cells =
        o ∙ quoted_closed ∙ ap (on_cells (singled (seen twice (slice at to l)))) (closed_end_lem sep (seen twice (drop next l)) (follows sep twice l next g))
        ∙ cells_cons (singled (seen twice (slice at to l))) (cells_after sep (seen twice (drop next l)));
    paired = λ e. q.paired;
    parted = g;
    after = i;
    ordered = q.reached.later;
    before = let u = p.later in let v = k.later in omega arith;
    inside = k.inside;
  }

  pub quoted_end_found : length l ≤ next → QuotedIs sep twice l at (Some (record { from = at; to = to; quoted = true; next = next }))
  quoted_end_found e = found (λ i. absurd (omega arith))

  pub quoted_sep_found : get_or l next 0 ≡ sep → QuotedIs sep twice l at (Some (record { from = at; to = to; quoted = true; next = next }))
  quoted_sep_found s = found (λ i. s)

  pub quoted_other : next < length l → (get_or l next 0 ≡ sep → ⊥) → QuotedIs sep twice l at None
  unfolding QuotedIs CellIs
  quoted_other e s =
      let (m, t) = seen_at twice l next e in
      λ a i o. o ∙ quoted_closed
      ∙ ap (λ z. on_cells (singled (seen twice (slice at to l))) (cut_from sep z closed)) t
      ∙ ap (on_cells (singled (seen twice (slice at to l)))) (closed_other sep (get_or l next 0) m (ne_eqb (get_or l next 0) sep s) (k.stops e s))
      ∙ cells_bad (singled (seen twice (slice at to l))) 22

pub bare_found : (sep : ℕ) (twice : Bool) (l : List ℕ) (at to : ℕ) → BareEnd sep twice l at to → BareIs sep twice l at (Some (record { from = at; to = to; quoted = false; next = to }))
unfolding BareIs CellIs content_of pick
bare_found sep twice l at to b = λ o. record {
  cells =
      bare_open sep (seen twice (drop at l)) o
      ∙ ap (λ z. cut_from sep z bare) b.reached.rest
      ∙ bare_cut sep (seen twice (slice at to l)) (seen twice (drop to l)) b.free (follows sep twice l to b.parted);
  paired = λ e. absurd (false≢true e);
  parted = b.parted;
  after = omega arith;
  ordered = b.reached.later;
  before = omega arith;
  inside = b.reached.inside;
}

-- how it opens
module _ (sep : ℕ) (twice : Bool) (l : List ℕ) (at p : ℕ) (k : SkippedTo sep l at p) where
  pub opens_end : length l ≤ p → begins 34 (skip_beside sep (seen twice (drop at l))) ≡ false
  unfolding begins
  opens_end h = rw (k.rest twice, seen_past twice l p h) refl

  pub opens_bare : p < length l → (get_or l p 0 ≡ 34 → ⊥) → begins 34 (skip_beside sep (seen twice (drop at l))) ≡ false
  unfolding begins
  opens_bare h n = let (m, e) = seen_at twice l p h in rw (k.rest twice, e) (ne_eqb (get_or l p 0) 34 n)

  pub opens_quoted : (n : ℕ) → get_or l p 0 ≡ 34 → Passed twice l p n → cut sep (seen twice (drop at l)) ≡ cut_from sep (seen twice (drop n l)) quotes
  opens_quoted n e q = quoted_open sep (seen twice (drop at l)) (seen twice (drop n l)) (k.rest twice ∙ q.rest ∙ ap (λ z. z ∷ seen twice (drop n l)) e)
