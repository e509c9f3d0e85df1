-- The names of records have two letters or more.
use mathlib.Core.Path.{◌≡◌, refl, ap}
use Prim.Native.Nat.{ℕ, suc, ◌≤◌}
use mathlib.Core.Bool.{true, false, false≢true}
use mathlib.Core.List.{List, [], ◌∷◌}
use native.Mathlib.Omega.{arith}
use lib.ListN.{length}
use lib.Dec.{eqb}
use Rattle.event.proofs.ChoiceLaws.{pick_cases, and_both}
use Rattle.midicsv.specs.Field.{Field, num, minus, name, quoted}
use Rattle.midicsv.specs.Table.{RecordName, spelled, event_spelled}
use Rattle.midicsv.specs.Result.{good}
use Rattle.midicsv.specs.Names.{all_names, lower, same_name, find, name_from}
use Rattle.midicsv.proofs.ResultLaws.{not_good}
use Rattle.sheet_table.proofs.FieldCellLaws.{is_text_lem, name_size}

same_length : (s t : List ℕ) → same_name s t ≡ true → length s ≡ length t
unfolding same_name
same_length [] [] e = refl
same_length [] (d ∷ t) e = absurd (false≢true e)
same_length (c ∷ s) [] e = absurd (false≢true e)
same_length (c ∷ s) (d ∷ t) e = ap suc (same_length s t (and_both (eqb (lower c) (lower d)) (same_name s t) e).1)

abbrev AllLong : List RecordName → Type 0
AllLong [] = Unit {0}
AllLong (n ∷ ns) = (2 ≤ length (spelled n)) × AllLong ns

all_long : AllLong all_names
unfolding spelled event_spelled
all_long = (
  omega arith,
  (
    omega arith,
    (
      omega arith,
      (
        omega arith,
        (
          omega arith,
          (
            omega arith,
            (
              omega arith,
              (
                omega arith,
                (
                  omega arith,
                  (
                    omega arith,
                    (
                      omega arith,
                      (
                        omega arith,
                        (
                          omega arith,
                          (
                            omega arith,
                            (
                              omega arith,
                              (
                                omega arith,
                                (
                                  omega arith,
                                  (
                                    omega arith,
                                    (
                                      omega arith,
                                      (
                                        omega arith,
                                        (omega arith, (omega arith, (omega arith, (omega arith, (omega arith, (omega arith, (omega arith, (omega arith, (omega arith, tt))))))))),
                                      ),
                                    ),
                                  ),
                                ),
                              ),
                            ),
                          ),
                        ),
                      ),
                    ),
                  ),
                ),
              ),
            ),
          ),
        ),
      ),
    ),
  ),
)

find_long : (s : List ℕ) (ns : List RecordName) (n : RecordName) → AllLong ns → find s ns ≡ good n → 2 ≤ length s
unfolding find
find_long s [] n a e = not_good e
find_long s (m ∷ ns) n a e = pick_cases (same_name s (spelled m)) _ _ _ e (λ t q. omega (arith, same_length s (spelled m) t, a.0)) (λ t q. find_long s ns n a.1 q)

pub name_long : (f : Field) (n : RecordName) → name_from f ≡ good n → (is_text_lem f ≡ false) × (2 ≤ name_size f)
unfolding name_from is_text_lem name_size
name_long (num k) n e = not_good e
name_long (minus k) n e = not_good e
name_long (name s) n e = (refl, find_long s all_names n all_long e)
name_long (quoted d) n e = not_good e
