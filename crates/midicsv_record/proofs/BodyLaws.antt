-- Text and Data read from their place in the line.
use mathlib.Core.Path.{◌≡◌, refl, sym, ◌∙◌, ap}
use Rattle.std.specs.Prelude.{Option, Some, None, is_some}
use Prim.Native.Nat.{ℕ, zero, suc, ◌+◌, ◌<◌, ◌≤◌}
use mathlib.Core.Bool.{Bool, true, false, false≢true, ◌&&◌}
use mathlib.Core.List.{List, [], ◌∷◌}
use native.Mathlib.Omega.{arith}
use lib.ListN.{length, drop, length-drop, drop_of_length-le}
use lib.Seq.{drop-cons, drop-drop}
use lib.Dec.{leb}
use borrow.Author.Tests.{leb-true, leb-false}
use Rattle.event.specs.Bytes.{Bytes}
use Rattle.event.specs.Outcome.{Outcome, ok, refused, and_then}
use Rattle.event.proofs.BytesLaws.{bytes_drop}
use Rattle.event.proofs.ChoiceLaws.{by_test, and_both}
use Rattle.event.proofs.OutcomeLaws.{not_ok, ok_same, and_then_ok}
use Rattle.midicsv.specs.Field.{Field, num, minus, name, quoted}
use Rattle.midicsv.specs.Table.{range, sized}
use Rattle.midicsv.specs.ReadField.{read_field}
use Rattle.midicsv.specs.Result.{test}
use Rattle.midicsv.specs.ReadRecord.{size_of, read_column}
use Rattle.midicsv.proofs.FieldPartLaws.{field_part}
use Rattle.midicsv_scan.specs.FieldAt.{field_as, next_of}
use Rattle.midicsv_scan.specs.declared.FieldAt.{FieldAt}
use Rattle.midicsv_record.specs.Row.{byte_in, after_field, data_from}
use Rattle.midicsv_record.specs.Column.{field_in, value_as}
use Rattle.midicsv_record.specs.InTurn.{field_after, fitting, column_after, data_after, tail_after, at_end, last_after, DataEnd}
use Rattle.midicsv_record.proofs.InTurnLaws.{field_fits, column_fits, column_missing, then_then}

-- ---- after a comma

after_drop : (f : Field) (t : List ℕ) → after_field (ok f t) ≡ drop 1 t
unfolding after_field
after_drop f [] = refl
after_drop f (c ∷ t) = refl

-- the rest after a field that ends at q
pub after_place : (l : List ℕ) (f : Field) (q : ℕ) → after_field (ok f (drop q l)) ≡ drop (q + 1) l
after_place l f q = after_drop f (drop q l) ∙ drop-drop 1 q l

-- ---- the end of the line

module _ {A : Type 0} (a : A) (l : List ℕ) (q : ℕ) where
  pub end_past : length l ≤ q → at_end a (drop q l) ≡ ok a []
  unfolding at_end
  end_past h = rw (drop_of_length-le l h) refl

  pub end_short : q < length l → at_end a (drop q l) ≡ refused 22 0
  unfolding at_end
  end_short h = rw (drop-cons l q 0 h) refl

-- ---- Data, one after the other

-- n Data, the last of which ends the line
abbrev pub data_to_end : ℕ → List ℕ → Outcome (List ℕ)
data_to_end n r = and_then (data_after n r) (λ d q. at_end d q)

-- a fault after a first one v
cons_fault : (v : ℕ) (m : Outcome (List ℕ)) → and_then m (λ d q. at_end d q) ≡ refused 22 0 → and_then (and_then m (λ d t. ok (v ∷ d) t)) (λ d q. at_end d q) ≡ refused 22 0
unfolding and_then at_end
cons_fault v (ok d []) e = not_ok (sym e)
cons_fault v (ok d (c ∷ t)) e = refl
cons_fault v (refused n p) e = e

-- a first one that is a data byte, and one that is not
data_more : (n v : ℕ) (r q : List ℕ) (b : Bool) → ok v q ≡ column_after (range 0 255) r → DataEnd n q b → DataEnd (suc n) r b
unfolding DataEnd data_after and_then
data_more n v r q true e (d, w) = (v ∷ d, rw (← e, w) refl)
data_more n v r q false e w = rw (← e) (cons_fault v (data_after n q) w)

data_none : (n : ℕ) (r : List ℕ) → refused 22 0 ≡ column_after (range 0 255) r → DataEnd (suc n) r false
unfolding DataEnd data_after and_then
data_none n r e = rw (← e) refl

-- the answer on all is that on those that are left from at on, of which the field g is the first
module _ (P : Bool → Type 0) (l : List ℕ) (at left : ℕ) (inv : (b : Bool) → DataEnd (suc left) (drop at l) b → P b) where
  pub data_on : (f : FieldAt) → field_as l (Some f) ≡ field_after (drop at l) → (o : Option ℕ) → value_as o ≡ read_column (range 0 255) (field_in l f) → is_some o ≡ true → (b : Bool) → DataEnd left (drop (next_of f) l) b → P b
  unfolding fitting value_as
  data_on f e (Some v) h n b d = inv b (data_more left v (drop at l) (drop (next_of f) l) b (rw (← h) at (column_fits (range 0 255) l (drop at l) f e)) d)
  data_on f e None h n b d = absurd (false≢true n)

  pub data_off : (f : FieldAt) → field_as l (Some f) ≡ field_after (drop at l) → (o : Option ℕ) → value_as o ≡ read_column (range 0 255) (field_in l f) → is_some o ≡ false → P false
  unfolding fitting value_as
  data_off f e (Some v) h n = absurd (false≢true (sym n))
  data_off f e None h n = inv false (data_none left (drop at l) (rw (← h) at (column_fits (range 0 255) l (drop at l) f e)))

  pub data_missing : refused 22 0 ≡ field_after (drop at l) → P false
  data_missing e = inv false (data_none left (drop at l) (column_missing (range 0 255) (drop at l) e))

pub data_done : (l : List ℕ) (at : ℕ) → DataEnd 0 (drop at l) (leb (length l) at)
unfolding DataEnd data_after and_then
data_done l at =
    by_test (leb (length l) at)
    (λ t. rw (t, drop_of_length-le l (leb-true (length l) at t)) ([], refl))
    (λ t. rw t (end_short {A = List ℕ} [] l at (leb-false (length l) at t)))

-- ---- what the Data are

-- a field that is a data byte
byte_fits : (f : Field) (t : List ℕ) (b : ℕ) (q : List ℕ) → fitting (read_column (range 0 255) f) t ≡ ok b q → (byte_in (ok f t) ≡ b) × (t ≡ q)
unfolding fitting read_column test byte_in
byte_fits (num n) t b q e =
    by_test (leb 0 n && leb n 255)
    (λ u. let h = leb-true n 255 (and_both (leb 0 n) (leb n 255) u).1 in ok_same n b t q (rw u at e) (λ p z. (omega arith, z)))
    (λ u. not_ok (rw u at e))
byte_fits (minus n) t b q e = not_ok e
byte_fits (name s) t b q e = not_ok e
byte_fits (quoted d) t b q e = not_ok e

-- one of them read
byte_came : (n : ℕ) (r : List ℕ) (v : ℕ) (q : List ℕ) → Bytes r → column_after (range 0 255) r ≡ ok v q
    → Bytes q × (length q < length r) × (data_from (suc n) (drop 1 r) ≡ v ∷ data_from n (drop 1 q))
unfolding column_after field_after and_then data_from
byte_came n [] v q b e = not_ok e
byte_came n (c ∷ l) v q b e =
    and_then_ok (read_field l) _ v q e (λ f t x y.
    let part = field_part (length l) l f t b.1 (omega arith) x in
    let (z, w) = byte_fits f t v q y in
    rw (← w) (part.1.0, omega arith, rw (x, z, after_drop f t) refl))

data_are : (n : ℕ) (r d t : List ℕ) → Bytes r → data_after n r ≡ ok d t → (d ≡ data_from n (drop 1 r)) × (n ≤ length r)
unfolding data_after data_from
data_are zero r d t b e = ok_same [] d r t e (λ p q. (sym p, omega arith))
data_are (suc n) r d t b e =
    and_then_ok (column_after (range 0 255) r) _ d t e (λ v q x y.
    and_then_ok (data_after n q) _ d t y (λ ds s z w.
    ok_same (v ∷ ds) d s t w (λ p u.
    let (bq, short, here) = byte_came n r v q b x in
    let (same, few) = data_are n q ds s bq z in
    (sym p ∙ ap (◌∷◌ v) same ∙ sym here, omega arith))))

-- ---- Length and Data

-- by the number w that the code has for the Length
pub size_fits : (l r : List ℕ) (f : FieldAt) (v : Option ℕ) → field_as l (Some f) ≡ field_after r → value_as v ≡ size_of (field_in l f)
    → and_then (fitting (value_as v) (drop (next_of f) l)) (λ n t. data_to_end n t) ≡ last_after sized r
unfolding last_after tail_after size_of
size_fits l r f v e z =
    rw z (
    ap (λ m. and_then m (λ n t. data_to_end n t)) (field_fits size_of l r f e)
    ∙ sym (then_then (and_then (field_after r) (λ x q. fitting (size_of x) q)) (λ n t. data_after n t) (λ d q. at_end d q))
    ∙ ap (λ m. and_then m (λ d q. at_end d q)) (then_then (field_after r) (λ x q. fitting (size_of x) q) (λ n t. data_after n t)))

-- no Length
pub size_missing : (r : List ℕ) → refused 22 0 ≡ field_after r → refused 22 0 ≡ last_after sized r
unfolding last_after tail_after and_then
size_missing r e = rw (← e) refl

-- Data that are read to the end
pub data_good : (l : List ℕ) (n q start : ℕ) → Bytes l → DataEnd n (drop q l) true → drop start l ≡ drop (q + 1) l
    → (ok (data_from n (drop start l)) [] ≡ data_to_end n (drop q l)) × (n ≤ length l)
unfolding DataEnd and_then at_end
data_good l n q start b (d, z) s =
    let (same, few) = data_are n (drop q l) d [] (bytes_drop l q b) z in
    (rw (z, s, ← (drop-drop 1 q l), same) refl, omega (arith, length-drop q l))

-- and Data that are not
pub data_bad : (n : ℕ) (r : List ℕ) → DataEnd n r false → refused 22 0 ≡ data_to_end n r
unfolding DataEnd
data_bad n r e = sym e
