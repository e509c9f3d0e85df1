-- A cell with a quote in it holds no name, however its quotes are read.
use mathlib.Core.Path.{◌≡◌, refl, sym, ap, ◌∙◌}
use Prim.Native.Nat.{ℕ, zero, suc}
use mathlib.Core.Bool.{Bool, true, false, ◌||◌}
use mathlib.Core.List.{List, [], ◌∷◌}
use native.Mathlib.Omega.{arith}
use lib.Dec.{eqb}
use borrow.Author.Tests.{ne_eqb, eqb-true}
use Rattle.event.specs.Choice.{pick}
use Rattle.event.specs.Outcome.{Outcome, ok, refused, and_then}
use Rattle.event.proofs.ChoiceLaws.{pick_true, pick_false, by_test, or_cases, pick_cases}
use Rattle.event.proofs.OutcomeLaws.{not_ok, ok_same, and_then_ok, check_ok}
use Rattle.midicsv.specs.Field.{Field, num, minus, name, quoted}
use Rattle.midicsv.specs.ReadField.{is_blank, is_digit, is_letter, skip, push, read_number, negative, plain, read_quoted, read_name, at_comma, finish, field_of, read_field}
use Rattle.midicsv.specs.Names.{name_from}
use Rattle.midicsv.proofs.FieldPartLaws.{push_ok}
use Rattle.sheet_table.specs.Cut.{has}
use Rattle.sheet_table.specs.Table.{nowhere, name_in, text_of_name}
use Rattle.sheet.specs.Code.Seen.{singled, seen}
use Rattle.sheet.specs.Code.Cell.{content_of}

-- ---- blanks and letters are no quotes

not_quote : (c : ℕ) (l : List ℕ) → (c ≡ 34 → ⊥) → has 34 (c ∷ l) ≡ has 34 l
unfolding has
not_quote c l h = rw (ne_eqb c 34 h)

blank_no_quote : (c : ℕ) → is_blank c ≡ true → c ≡ 34 → ⊥
unfolding is_blank
blank_no_quote c e z = or_cases (eqb c 32) (eqb c 9) e (λ a. let x = eqb-true c 32 a in omega arith) (λ a. let x = eqb-true c 9 a in omega arith)

letter_no_quote : (c : ℕ) → is_letter c ≡ true → c ≡ 34 → ⊥
unfolding is_letter
letter_no_quote c e z = let y : ◌≡◌ {A = Bool} false true = rw z at e in let x : ◌≡◌ {A = ℕ} 0 1 = cc in omega arith

has_skip : (l : List ℕ) → has 34 (skip l) ≡ has 34 l
unfolding skip pick
has_skip [] = refl
has_skip (c ∷ l) = by_test (is_blank c) (λ e. rw e (has_skip l ∙ sym (not_quote c l (blank_no_quote c e)))) (λ e. rw e)

has_name : (l s r : List ℕ) → read_name l ≡ ok s r → has 34 l ≡ has 34 r
unfolding read_name
has_name [] s r e = ok_same [] s [] r e (λ a b. ap (has 34) b)
has_name (c ∷ l) s r e =
    pick_cases (is_letter c) (push c (read_name l)) (ok [] (c ∷ l)) (ok s r) e
    (λ t h. push_ok c (read_name l) s r h (λ d g i. not_quote c l (letter_no_quote c t) ∙ has_name l d r g))
    (λ t h. ok_same [] s (c ∷ l) r h (λ a b. ap (has 34) b))

-- ---- a field that is a whole cell

comma_end : (f g : Field) (m : List ℕ) → at_comma f m ≡ ok g [] → (f ≡ g) × (has 34 m ≡ false)
unfolding at_comma has
comma_end f g [] e = ok_same f g [] [] e (λ a b. (a, refl))
comma_end f g (c ∷ m) e = let (t, h) = check_ok (eqb c 44) 22 0 (ok f (c ∷ m)) g [] e in ok_same f g (c ∷ m) [] h (λ a b. let z : ◌≡◌ {A = ℕ} 0 1 = cc in absurd (omega arith))

field_end : (f g : Field) (r : List ℕ) → finish f r ≡ ok g [] → (f ≡ g) × (has 34 r ≡ false)
unfolding finish
field_end f g r e = let (a, b) = comma_end f g (skip r) e in (a, sym (has_skip r) ∙ b)

-- a number or a text is no name
no_name : {A : Type 0} (m : Outcome A) (k : A → Field) (s : List ℕ) → ((a : A) → k a ≡ name s → ⊥) → and_then m (λ a r. finish (k a) r) ≡ ok (name s) [] → ⊥
no_name m k s h e = and_then_ok m (λ a r. finish (k a) r) (name s) [] e (λ a r x y. h a (field_end (k a) (name s) r y).0)

negative_no_name : (n : ℕ) (s : List ℕ) → negative n ≡ name s → ⊥
unfolding negative
negative_no_name zero s e = let z : ◌≡◌ {A = ℕ} 0 1 = cc in omega arith
negative_no_name (suc n) s e = let z : ◌≡◌ {A = ℕ} 0 1 = cc in omega arith

name_alone : (m s : List ℕ) → field_of m ≡ ok (name s) [] → has 34 m ≡ false
unfolding field_of
name_alone [] s e = not_ok e
name_alone (c ∷ m) s e =
    pick_cases (eqb c 34) _ _ (ok (name s) []) e
    (λ t h. absurd (no_name (read_quoted m plain) quoted s (λ a x. let z : ◌≡◌ {A = ℕ} 0 1 = cc in omega arith) h))
    (λ t h. pick_cases (eqb c 45) _ _ (ok (name s) []) h
    (λ u g. absurd (no_name (read_number m) negative s (λ a x. negative_no_name a s x) g))
    (λ u g. pick_cases (is_digit c) _ _ (ok (name s) []) g
    (λ v f. absurd (no_name (read_number (c ∷ m)) num s (λ a x. let z : ◌≡◌ {A = ℕ} 0 1 = cc in omega arith) f))
    (λ v f. pick_cases (is_letter c) _ _ (ok (name s) []) f
    (λ w d. and_then_ok (read_name (c ∷ m)) (λ a r. finish (name a) r) (name s) [] d (λ a r x y. has_name (c ∷ m) a r x ∙ (field_end (name a) (name s) r y).1))
    (λ w d. not_ok d))))

-- a cell with a quote holds no name
no_text_lem : (m : Outcome Field) → ((s : List ℕ) → m ≡ ok (name s) [] → ⊥) → text_of_name (name_in m) ≡ nowhere
unfolding name_in name_from text_of_name
no_text_lem (ok (num n) []) h = refl
no_text_lem (ok (minus n) []) h = refl
no_text_lem (ok (name s) []) h = absurd (h s refl)
no_text_lem (ok (quoted d) []) h = refl
no_text_lem (ok f (c ∷ r)) h = refl
no_text_lem (refused n p) h = refl

quote_no_text : (l : List ℕ) → has 34 l ≡ true → text_of_name (name_in (read_field l)) ≡ nowhere
unfolding read_field
quote_no_text l e = no_text_lem (read_field l) (λ s h. let a : has 34 l ≡ false = sym (has_skip l) ∙ name_alone (skip l) s h in let z : ◌≡◌ {A = ℕ} 0 1 = cc in omega arith)

-- ---- two quotes as one

is_quote : (c : ℕ) (l : List ℕ) → eqb c 34 ≡ true → has 34 (c ∷ l) ≡ true
unfolding has
is_quote c l e = rw e

has_singled : (l : List ℕ) → has 34 (singled l) ≡ has 34 l
unfolding singled has pick
has_singled [] = refl
has_singled (c ∷ []) = refl
has_singled (c ∷ d ∷ l) =
    by_test (eqb c 34)
    (λ e. ap (has 34) (pick_true (c ∷ singled l) (c ∷ singled (d ∷ l)) e) ∙ is_quote c (singled l) e ∙ sym (is_quote c (d ∷ l) e))
    (λ e. ap (has 34) (pick_false (c ∷ singled l) (c ∷ singled (d ∷ l)) e) ∙ ap (λ b. eqb c 34 || b) (has_singled (d ∷ l)))

pub unquoted : (l : List ℕ) → has 34 l ≡ false → singled l ≡ l
unfolding singled has pick
unquoted [] e = refl
unquoted (c ∷ []) e = refl
unquoted (c ∷ d ∷ l) e =
    by_test (eqb c 34)
    (λ t. let a = is_quote c (d ∷ l) t in let z : ◌≡◌ {A = ℕ} 0 1 = cc in absurd (omega arith))
    (λ t. let a : has 34 (d ∷ l) ≡ false = rw t at e in rw t (ap (λ m. c ∷ m) (unquoted (d ∷ l) a)))

-- the text stands where it would if each quote were a byte of its own
singled_place : (l : List ℕ) → text_of_name (name_in (read_field l)) ≡ text_of_name (name_in (read_field (singled l)))
singled_place l =
    by_test (has 34 l)
    (λ e. quote_no_text l e ∙ sym (quote_no_text (singled l) (has_singled l ∙ e)))
    (λ e. ap (λ m. text_of_name (name_in (read_field m))) (sym (unquoted l e)))

either_place : (b : Bool) (l : List ℕ) → text_of_name (name_in (read_field l)) ≡ text_of_name (name_in (read_field (pick b (singled l) l)))
unfolding pick
either_place true l = singled_place l
either_place false l = refl

pub content_place : (twice in_quotes : Bool) (l : List ℕ) → text_of_name (name_in (read_field l)) ≡ text_of_name (name_in (read_field (content_of in_quotes (seen twice l))))
unfolding content_of seen
content_place twice in_quotes l = either_place twice l ∙ either_place in_quotes (seen twice l)
