-- Fields and columns read in turn.
use mathlib.Core.Path.{◌≡◌, refl, sym, ◌∙◌, ap}
use Rattle.std.specs.Prelude.{Some}
use Prim.Native.Nat.{ℕ, suc, ◌+◌, ◌<◌}
use mathlib.Core.List.{List, [], ◌∷◌, ◌++◌, map, append_assoc, append-nil}
use native.Mathlib.Omega.{arith}
use native.Mathlib.Numerals.{add-one}
use lib.ListN.{length, get_or, take, drop, set, drop_of_length-le, length-map, get_or-map}
use lib.Seq.{drop-cons}
use Rattle.std.proofs.lemmas.List.{take_more_set}
use Rattle.event.specs.Outcome.{Outcome, ok, refused, and_then, value_or}
use Rattle.event.proofs.OutcomeLaws.{and_then_same}
use Rattle.midicsv.specs.Field.{Field}
use Rattle.midicsv.specs.Table.{Column}
use Rattle.midicsv.specs.Result.{Result, next}
use Rattle.midicsv.specs.ReadRecord.{read_column}
use Rattle.midicsv_scan.specs.FieldAt.{field_as, next_of}
use Rattle.midicsv_scan.specs.declared.FieldAt.{FieldAt}
use Rattle.midicsv_scan.specs.declared.FieldAt.TheVariants.{Number, Minus, Name, Quoted}
use Rattle.midicsv_record.specs.Column.{field_in}
use Rattle.midicsv_record.specs.Table.{column_as}
use Rattle.midicsv_record.specs.InTurn.{field_after, fitting, column_after, columns_after}
use Rattle.midicsv_record.specs.declared.ColumnKind.{ColumnKind}

-- ---- a field

-- the value that g gives of a field
pub field_fits : {A : Type 0} (g : Field → Result A) (l r : List ℕ) (f : FieldAt) → field_as l (Some f) ≡ field_after r
    → fitting (g (field_in l f)) (drop (next_of f) l) ≡ and_then (field_after r) (λ x q. fitting (g x) q)
unfolding field_as value_or and_then fitting
field_fits g l r (Number value next) e = rw (← e) refl
field_fits g l r (Minus value next) e = rw (← e) refl
field_fits g l r (Name start end next) e = rw (← e) refl
field_fits g l r (Quoted start next) e = rw (← e) refl

-- no field
pub none_after : {A : Type 0} (r : List ℕ) (k : Field → List ℕ → Outcome A) → refused 22 0 ≡ field_after r → refused 22 0 ≡ and_then (field_after r) k
unfolding and_then
none_after r k e = rw (← e) refl

-- ---- a column

pub column_fits : (c : Column) (l r : List ℕ) (f : FieldAt) → field_as l (Some f) ≡ field_after r → fitting (read_column c (field_in l f)) (drop (next_of f) l) ≡ column_after c r
unfolding column_after
column_fits c l r f e = field_fits (read_column c) l r f e

pub column_missing : (c : Column) (r : List ℕ) → refused 22 0 ≡ field_after r → refused 22 0 ≡ column_after c r
unfolding column_after
column_missing c r e = none_after r _ e

-- ---- all columns

module _ {A B C : Type 0} where
  pub then_then : (m : Outcome A) (f : A → List ℕ → Outcome B) (g : B → List ℕ → Outcome C) → and_then (and_then m f) g ≡ and_then m (λ a r. and_then (f a r) g)
  unfolding and_then
  then_then (ok a r) f g = refl
  then_then (refused n p) f g = refl

first_taken : (c : Column) (cs : List Column) (v : ℕ) (q s : List ℕ) → ok v s ≡ column_after c q → columns_after (c ∷ cs) q ≡ and_then (columns_after cs s) (λ vs t. ok (v ∷ vs) t)
unfolding columns_after and_then
first_taken c cs v q s e = rw (← e) refl

first_refused : (c : Column) (cs : List Column) (q : List ℕ) → refused 22 0 ≡ column_after c q → refused 22 0 ≡ columns_after (c ∷ cs) q
unfolding columns_after and_then
first_refused c cs q e = rw (← e) refl

same_values : (m : Outcome (List ℕ)) → and_then m (λ vs t. ok vs t) ≡ m
unfolding and_then
same_values (ok vs t) = refl
same_values (refused n p) = refl

-- the first i of the numbers xs are those of the first i columns, and q is left
module _ (cs : List Column) (r : List ℕ) where
  abbrev pub FirstsRead : List ℕ → ℕ → List ℕ → Type 0
  FirstsRead xs i q = and_then (columns_after (drop i cs) q) (λ vs t. ok (take i xs ++ vs) t) ≡ columns_after cs r

  pub none_read : (xs : List ℕ) → FirstsRead xs 0 r
  none_read xs = same_values (columns_after cs r)

  module _ (xs : List ℕ) (i : ℕ) (q : List ℕ) (a : FirstsRead xs i q) (c : Column) (h : drop i cs ≡ c ∷ drop (i + 1) cs) where
    pub one_read : (v : ℕ) (s : List ℕ) → i < length xs → ok v s ≡ column_after c q → FirstsRead (set xs i v) (i + 1) s
    unfolding and_then
    one_read v s n e =
        let rest = columns_after (drop (i + 1) cs) s in
        rw (take_more_set xs i v n)
        (and_then_same rest _ _ (λ vs t z. ap (λ ys. ok ys t) (append_assoc (take i xs) (v ∷ []) vs))
        ∙ sym (then_then rest (λ vs t. ok (v ∷ vs) t) (λ vs t. ok (take i xs ++ vs) t))
        ∙ ap (λ m. and_then m (λ vs t. ok (take i xs ++ vs) t)) (sym (first_taken c (drop (i + 1) cs) v q s e))
        ∙ (rw h at a))

    pub none_fits : refused 22 0 ≡ column_after c q → refused 22 0 ≡ columns_after cs r
    unfolding and_then
    none_fits e = ap (λ m. and_then m (λ vs t. ok (take i xs ++ vs) t)) (first_refused c (drop (i + 1) cs) q e) ∙ (rw h at a)

  pub all_read : (xs q : List ℕ) → FirstsRead xs (length cs) q → ok (take (length cs) xs) q ≡ columns_after cs r
  unfolding columns_after and_then
  all_read xs q a = let b = rw (drop_of_length-le cs {i = length cs} (omega arith), append-nil (take (length cs) xs)) at a in b

-- the column numbered i from 0, of the columns ks that the code has
pub column_here : (ks : List ColumnKind) (cs : List Column) (i : ℕ) (d : ColumnKind) → map column_as ks ≡ cs → i < length ks → drop i cs ≡ column_as (get_or ks i d) ∷ drop (i + 1) cs
column_here ks cs i d e h =
    let inside : i < length (map column_as ks) = rw (length-map ks column_as) h in
    rw (← e, add-one i) (drop-cons (map column_as ks) i (column_as d) inside ∙ ap (λ c. c ∷ drop (suc i) (map column_as ks)) (get_or-map column_as ks i d))

pub columns_counted : (ks : List ColumnKind) (cs : List Column) → map column_as ks ≡ cs → length ks ≡ length cs
columns_counted ks cs e = sym (length-map ks column_as) ∙ ap length e
