-- Blanks passed over, lines that stand as they are, and empty cells.
use mathlib.Core.Path.{◌≡◌, refl, sym, ap, ◌∙◌}
use Prim.Native.Nat.{ℕ, ◌+◌, ◌<◌, ◌≤◌}
use mathlib.Core.Bool.{Bool, true, false, false≢true, ◌&&◌, ◌||◌, not}
use mathlib.Core.List.{List, [], ◌∷◌}
use native.Mathlib.Omega.{arith}
use lib.ListN.{length, drop, get_or}
use lib.Dec.{eqb}
use borrow.Author.Tests.{eqb-true}
use Rattle.std.proofs.Common.{one-add}
use Rattle.std.specs.List.{prefix_len, list_all}
use Rattle.midicsv_scan.proofs.RunLaws.{run_inside, run_rest}
use Rattle.event.proofs.ChoiceLaws.{by_test, pick_true, pick_false}
use Rattle.midicsv.specs.ReadField.{is_blank, skip}
use Rattle.sheet_table.specs.Cut.{blank_beside, skip_beside, begins, is_none}
use Rattle.sheet_table.specs.Table.{is_empty, is_remark}
use Rattle.sheet.specs.Code.Seen.{seen, SkippedTo}
use Rattle.sheet.specs.Code.Cell.{content_of}
use Rattle.sheet.proofs.SeenLaws.{seen_first, seen_at, seen_other, seen_none, seen_past}

-- ---- blanks beside the separator

-- a blank is no quote
pub blank_quote : (sep x : ℕ) → blank_beside sep x ≡ true → eqb x 34 ≡ false
unfolding blank_beside
blank_quote sep x h = by_test (eqb x 34) (λ e. let z : blank_beside sep 34 ≡ true = rw (eqb-true x 34 e) at h in absurd (false≢true z)) (λ e. e)

skip_blank : (sep x : ℕ) (l : List ℕ) → blank_beside sep x ≡ true → skip_beside sep (x ∷ l) ≡ skip_beside sep l
unfolding skip_beside
skip_blank sep x l t = pick_true _ _ t

skip_other : (sep x : ℕ) (l : List ℕ) → blank_beside sep x ≡ false → skip_beside sep (x ∷ l) ≡ x ∷ l
unfolding skip_beside
skip_other sep x l t = pick_false _ _ t

skip_none : (sep : ℕ) → skip_beside sep [] ≡ []
unfolding skip_beside
skip_none sep = refl

skip_front : (sep : ℕ) (twice : Bool) (l : List ℕ) → skip_beside sep (seen twice l) ≡ seen twice (drop (prefix_len (blank_beside sep) l) l)
skip_front sep twice [] = ap (skip_beside sep) (seen_none twice) ∙ skip_none sep ∙ sym (seen_none twice)
skip_front sep twice (c ∷ l) =
    by_test (blank_beside sep c)
    (λ t. rw (t, one-add) (ap (skip_beside sep) (seen_other twice c l (blank_quote sep c t)) ∙ skip_blank sep c (seen twice l) t ∙ skip_front sep twice l))
    (λ t. let (m, e) = seen_first twice c l in rw t (ap (skip_beside sep) e ∙ skip_other sep c m t ∙ sym e))

pub skipped_to : (sep : ℕ) (l : List ℕ) (at p : ℕ) → at ≤ length l → p ≡ at + prefix_len (blank_beside sep) (drop at l) → SkippedTo sep l at p
skipped_to sep l at p h e =
    record {
      rest = λ twice. skip_front sep twice (drop at l) ∙ ap (seen twice) (run_rest (blank_beside sep) l at p e);
      later = omega arith;
      inside = run_inside (blank_beside sep) l at p e h;
    }

-- ---- lines that stand as they are, by their first byte that is no blank

remark_by : (sep x : ℕ) (l m : List ℕ) → skip_beside sep l ≡ x ∷ m → is_remark sep l ≡ (eqb x 35 || (eqb x 59 && not (eqb sep 59)))
unfolding is_remark begins
remark_by sep x l m e = rw e refl

pub remark_none : (sep : ℕ) (twice : Bool) (l : List ℕ) (p : ℕ) → SkippedTo sep l 0 p → length l ≤ p → false ≡ is_remark sep (seen twice l)
unfolding is_remark begins
remark_none sep twice l p k h = let e : skip_beside sep (seen twice l) ≡ [] = k.rest twice ∙ seen_past twice l p h in rw e refl

module _ (sep : ℕ) (twice : Bool) (l : List ℕ) (p : ℕ) (k : SkippedTo sep l 0 p) (h : p < length l) where
  pub remark_first : is_remark sep (seen twice l) ≡ (eqb (get_or l p 0) 35 || (eqb (get_or l p 0) 59 && not (eqb sep 59)))
  remark_first =
      let (m, e) = seen_at twice l p h in
      remark_by sep (get_or l p 0) (seen twice l) m (k.rest twice ∙ e)

-- ---- empty cells

-- as it is read in either way
abbrev EmptyAs : Bool → Bool → List ℕ → Bool
EmptyAs twice quoted l = is_empty (content_of quoted (seen twice l))

pub content_seen : (quoted : Bool) (l : List ℕ) → content_of quoted l ≡ seen quoted l
unfolding content_of seen
content_seen quoted l = refl

blank_no_quote : (x : ℕ) → is_blank x ≡ true → eqb x 34 ≡ false
unfolding is_blank
blank_no_quote x h = by_test (eqb x 34) (λ e. let z : is_blank 34 ≡ true = rw (eqb-true x 34 e) at h in absurd (false≢true z)) (λ e. e)

empty_blank : (twice quoted : Bool) (x : ℕ) (l : List ℕ) → is_blank x ≡ true → EmptyAs twice quoted (x ∷ l) ≡ EmptyAs twice quoted l
unfolding is_empty skip
empty_blank twice quoted x l t =
    let n = blank_no_quote x t in
    let e : content_of quoted (seen twice (x ∷ l)) ≡ x ∷ content_of quoted (seen twice l) =
    ap (content_of quoted) (seen_other twice x l n) ∙ content_seen quoted (x ∷ seen twice l) ∙ seen_other quoted x (seen twice l) n
    ∙ ap (λ z. x ∷ z) (sym (content_seen quoted (seen twice l))) in
    ap is_empty e ∙ ap is_none (pick_true _ _ t)

empty_other : (twice quoted : Bool) (x : ℕ) (l : List ℕ) → is_blank x ≡ false → EmptyAs twice quoted (x ∷ l) ≡ false
unfolding is_empty skip is_none
empty_other twice quoted x l t =
    let (m, e) = seen_first twice x l in
    let (n, f) = seen_first quoted x m in
    let g : content_of quoted (seen twice (x ∷ l)) ≡ x ∷ n = ap (content_of quoted) e ∙ content_seen quoted (x ∷ m) ∙ f in
    ap is_empty g ∙ ap is_none (pick_false _ _ t)

empty_none : (twice quoted : Bool) → EmptyAs twice quoted [] ≡ true
unfolding is_empty skip is_none
empty_none twice quoted =
    let g : content_of quoted (seen twice []) ≡ [] = ap (content_of quoted) (seen_none twice) ∙ content_seen quoted [] ∙ seen_none quoted in
    ap is_empty g

pub all_blank : (twice quoted : Bool) (l : List ℕ) → list_all is_blank l ≡ EmptyAs twice quoted l
all_blank twice quoted [] = sym (empty_none twice quoted)
all_blank twice quoted (c ∷ l) =
    by_test (is_blank c) (λ t. rw t (all_blank twice quoted l ∙ sym (empty_blank twice quoted c l t))) (λ t. rw t (sym (empty_other twice quoted c l t)))
