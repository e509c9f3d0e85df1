-- The values of a row that is accepted are in its ranges.
use mathlib.Core.Path.{◌≡◌, refl}
use Prim.Native.Nat.{ℕ, ◌≤◌}
use mathlib.Core.Bool.{true, false≢true}
use mathlib.Core.List.{List, [], ◌∷◌}
use mathlib.Core.Logic.{inl, inr}
use native.Mathlib.Omega.{arith}
use lib.ListN.{length, get_or}
use lib.Dec.{leb}
use borrow.Author.Tests.{leb-true}
use Rattle.event.specs.Bytes.{Bytes}
use Rattle.event.specs.Meta.{MetaKind, sequence_kind, text_kind, prefix_kind, port_kind, end_kind, tempo_kind, offset_kind, time_kind, key_kind, specific_kind, unknown_kind, kind_of}
use Rattle.event.proofs.ChoiceLaws.{pick_cases, and_both}
use Rattle.midicsv.specs.Field.{Field, num, minus, name, quoted}
use Rattle.midicsv.specs.Table.{Column, range, key, mode, free_type, division, Tail, none, one_text, sized}
use Rattle.midicsv.specs.Record.{Values}
use Rattle.midicsv.specs.Result.{Result, good}
use Rattle.midicsv.specs.ReadRecord.{size_of, counted, same_bytes, is_free, read_signed, read_column, read_bytes, read_text, read_tail, read_columns}
use Rattle.midicsv.proofs.ResultLaws.{not_good, good_same, next_good, test_good}
use Rattle.midicsv.proofs.RowLaws.{InColumn, InColumns, InTail}
use Rattle.midicsv.proofs.FieldPartLaws.{Fine}
use Rattle.midicsv.proofs.FieldsLaws.{AllFine}

free_back : (k : MetaKind) → is_free k ≡ true → k ≡ unknown_kind
unfolding is_free
free_back sequence_kind e = absurd (false≢true e)
free_back text_kind e = absurd (false≢true e)
free_back prefix_kind e = absurd (false≢true e)
free_back port_kind e = absurd (false≢true e)
free_back end_kind e = absurd (false≢true e)
free_back tempo_kind e = absurd (false≢true e)
free_back offset_kind e = absurd (false≢true e)
free_back time_kind e = absurd (false≢true e)
free_back key_kind e = absurd (false≢true e)
free_back specific_kind e = absurd (false≢true e)
free_back unknown_kind e = refl

module _ (k : ℕ) where
  key_in : (f : Field) (n : ℕ) → Fine k f → read_signed 7 7 256 f ≡ good n → InColumn key n
  unfolding read_signed InColumn Fine
  key_in (num m) n g e =
      let (t, q) = test_good _ 25 _ n e in
      let h = leb-true m 7 t in
      rw (← (good_same q)) (inl (omega arith))
  key_in (minus m) n g e =
      let (t, q) = test_good _ 25 _ n e in
      let h = leb-true m 7 t in
      rw (← (good_same q)) (inr (omega arith))
  key_in (name s) n g e = not_good e
  key_in (quoted d) n g e = not_good e

  pub column_in : (c : Column) (f : Field) (n : ℕ) → Fine k f → read_column c f ≡ good n → InColumn c n
  unfolding read_column InColumn Fine
  column_in (range lo hi) (num m) n g e =
      let (t, q) = test_good _ 25 _ n e in
      let (a, b) = and_both (leb lo m) (leb m hi) t in
      rw (← (good_same q)) (leb-true lo m a, leb-true m hi b, g)
  column_in (range lo hi) (minus m) n g e = not_good e
  column_in (range lo hi) (name s) n g e = not_good e
  column_in (range lo hi) (quoted d) n g e = not_good e
  column_in key f n g e = key_in f n g e
  column_in mode (num m) n g e = not_good e
  column_in mode (minus m) n g e = not_good e
  column_in mode (name s) n g e = not_good e
  column_in mode (quoted d) n g e =
      pick_cases (same_bytes d _) _ _ _ e (λ t q. rw (← (good_same q)) (omega arith)) (λ t q.
      pick_cases (same_bytes d _) _ _ _ q (λ u z. rw (← (good_same z)) (omega arith)) (λ u z. not_good z))
  column_in free_type (num m) n g e =
      let (t, q) = test_good _ 25 _ n e in
      let (a, b) = and_both (leb m 127) (is_free (kind_of m)) t in
      rw (← (good_same q)) (leb-true m 127 a, free_back (kind_of m) b)
  column_in free_type (minus m) n g e = not_good e
  column_in free_type (name s) n g e = not_good e
  column_in free_type (quoted d) n g e = not_good e
  column_in division f n g e =
      next_good (read_signed 32767 32768 65536 f) _ n e (λ m q z.
      let (t, w) = test_good _ 25 _ n z in
      rw (← (good_same w)) t)

  pub number_most : (lo hi : ℕ) (f : Field) (n : ℕ) → Fine k f → read_column (range lo hi) f ≡ good n → n ≤ hi
  unfolding InColumn
  number_most lo hi f n g e = (column_in (range lo hi) f n g e).1

  text_in : (f : Field) (d : List ℕ) → Fine k f → read_text f ≡ good d → Bytes d × (length d ≤ k)
  unfolding read_text Fine
  text_in (num n) d g e = not_good e
  text_in (minus n) d g e = not_good e
  text_in (name s) d g e = not_good e
  text_in (quoted s) d g e = rw (← (good_same e)) g

  data_in : (fs : List Field) (d : List ℕ) → AllFine k fs → read_bytes fs ≡ good d → Bytes d × (length d ≤ length fs)
  unfolding read_bytes
  data_in [] d g e = rw (← (good_same e)) (tt, omega arith)
  data_in (f ∷ fs) d g e =
      next_good (read_column (range 0 255) f) _ d e (λ b qb e1.
      next_good (read_bytes fs) _ d e1 (λ r qr e2.
      let h = number_most 0 255 f b g.0 qb in
      let (x, y) = data_in fs r g.1 qr in
      rw (← (good_same e2)) ((omega arith, x), omega arith)))

  tail_in : (t : Tail) (fs : List Field) (d : List ℕ) → AllFine k fs → length fs ≤ k → read_tail t fs ≡ good d → InTail t d × (length d ≤ k)
  unfolding read_tail InTail
  tail_in none fs d g h e = rw (← (good_same e)) (refl, omega arith)
  tail_in one_text [] d g h e = not_good e
  tail_in one_text (f ∷ fs) d g h e = text_in f d g.0 e
  tail_in sized [] d g h e = not_good e
  tail_in sized (f ∷ fs) d g h e = let (x, y) = data_in fs d g.1 e in (x, omega arith)

  pub columns_in_lem : (cs : List Column) (t : Tail) (fs : List Field) (v : Values) → AllFine k fs → length fs ≤ k → read_columns cs t fs ≡ good v
      → InColumns cs v.columns × InTail t v.body × (length v.body ≤ k)
  unfolding read_columns InColumns
  columns_in_lem [] t fs v g h e =
      next_good (read_tail t fs) _ v e (λ d q z.
      let (x, y) = tail_in t fs d g h q in
      rw (← (good_same z)) (tt, x, y))
  columns_in_lem (c ∷ cs) t [] v g h e = not_good e
  columns_in_lem (c ∷ cs) t (f ∷ fs) v g h e =
      next_good (read_column c f) _ v e (λ n qn e1.
      next_good (read_columns cs t fs) _ v e1 (λ w qw z.
      let (x, y, l) = columns_in_lem cs t fs w g.1 (omega arith) qw in
      rw (← (good_same z)) ((column_in c f n g.0 qn, x), y, l)))

pub counted_good : {A : Type 0} (k : ℕ) (t : Tail) (fs : List Field) (m : Result A) (a : A) → counted k t fs m ≡ good a → m ≡ good a
unfolding counted
counted_good k none fs m a e = (test_good _ 24 m a e).1
counted_good k one_text fs m a e = (test_good _ 24 m a e).1
counted_good k sized fs m a e =
    next_good (size_of (get_or fs k (num 0))) _ a (test_good _ 24 _ a e).1 (λ n q z. (test_good _ 24 m a z).1)
