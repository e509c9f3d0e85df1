-- The count of a line's fields beside its name and its Length.
use mathlib.Core.Path.{◌≡◌, refl}
use Prim.Native.Nat.{ℕ, ◌+◌, ◌<◌, ◌≤◌}
use mathlib.Core.List.{List}
use native.Mathlib.Omega.{arith}
use lib.ListN.{length, get_or, length-drop}
use lib.Seq.{get_or-drop}
use lib.Dec.{eqb}
use borrow.Author.Tests.{eqb-true, eqb-false, eq-eqb, ne_eqb, lt-ltb, le-ltb}
use Rattle.event.proofs.ChoiceLaws.{by_test}
use Rattle.midicsv.specs.Field.{Field, num}
use Rattle.midicsv.specs.Table.{none, one_text, sized}
use Rattle.midicsv.specs.Result.{Result, good, bad, next, test}
use Rattle.midicsv.specs.ReadRecord.{size_of, counted}
use Rattle.midicsv_record.specs.declared.Name.{Name}
use Rattle.midicsv_record.specs.Table.{columns_at, tail_at}
use Rattle.midicsv_record.specs.Column.{fields_in, later_in}
use Rattle.midicsv_record.specs.Line.{Fields, size_in}

-- two tests that go together
same_test : (m : Result ℕ) (a b c d : ℕ) → (a ≡ b → c ≡ d) → (c ≡ d → a ≡ b) → test (eqb a b) 24 m ≡ test (eqb c d) 24 m
unfolding test
same_test m a b c d f g =
    by_test (eqb a b)
    (λ t. let e = eqb-true a b t in rw (t, eq-eqb c d (f e)) refl)
    (λ t. let n = eqb-false a b t in rw (t, ne_eqb c d (λ z. n (g z))) refl)

module _ (l : List ℕ) (count : ℕ) (n : Name) (a : Fields l count) where
  later_count : length (later_in l) + 3 ≡ count
  later_count = omega (arith, a.counts, a.three, length-drop 3 (fields_in l))

  pub size_none : tail_at n ≡ none → test (eqb count (3 + length (columns_at n))) 24 (good 0) ≡ size_in n (later_in l)
  unfolding size_in counted
  size_none e =
      let h = later_count in
      rw e (same_test (good 0) count (3 + length (columns_at n)) (length (later_in l)) (length (columns_at n)) (λ z. omega arith) (λ z. omega arith))

  pub size_text : tail_at n ≡ one_text → test (eqb count (3 + length (columns_at n) + 1)) 24 (good 0) ≡ size_in n (later_in l)
  unfolding size_in counted
  size_text e =
      let h = later_count in
      rw e (same_test (good 0) count (3 + length (columns_at n) + 1) (length (later_in l)) (length (columns_at n) + 1) (λ z. omega arith) (λ z. omega arith))

  pub size_missing : tail_at n ≡ sized → count ≤ 3 + length (columns_at n) → bad 24 ≡ size_in n (later_in l)
  unfolding size_in counted test
  size_missing e h = let k = later_count in rw (e, le-ltb (length (columns_at n)) (length (later_in l)) (omega arith)) refl

  module _ (e : tail_at n ≡ sized) (h : 3 + length (columns_at n) < count) where
    abbrev pub the_length : Field
    the_length = get_or (fields_in l) (3 + length (columns_at n)) (num 0)

    length_field : get_or (later_in l) (length (columns_at n)) (num 0) ≡ the_length
    length_field = get_or-drop 3 (fields_in l) (length (columns_at n)) (num 0)

    pub size_off : bad 25 ≡ size_of the_length → bad 25 ≡ size_in n (later_in l)
    unfolding size_in counted test next
    size_off z =
        let k = later_count in
        rw (e, lt-ltb (length (columns_at n)) (length (later_in l)) (omega arith), length_field, ← z) refl

    pub size_sized : (v : ℕ) → good v ≡ size_of the_length → test (eqb count (3 + length (columns_at n) + 1 + v)) 24 (good 0) ≡ size_in n (later_in l)
    unfolding size_in counted test next
    size_sized v z =
        let k = later_count in
        rw (e, lt-ltb (length (columns_at n)) (length (later_in l)) (omega arith), length_field, ← z)
        (same_test (good 0) count (3 + length (columns_at n) + 1 + v) (length (later_in l)) (length (columns_at n) + 1 + v) (λ q. omega arith) (λ q. omega arith))
