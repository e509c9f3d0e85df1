-- Numbers and names that are read: their bytes, which are read so again before any blank, comma or end.
use mathlib.Core.Path.{◌≡◌, refl, sym, ap, ap₂, ◌∙◌}
use Prim.Native.Nat.{ℕ, zero, suc, ◌+◌, ◌-◌, ◌*◌, ◌≤◌}
use mathlib.Core.Bool.{Bool, true, false, ◌&&◌, ◌||◌}
use mathlib.Core.List.{List, [], ◌∷◌, ◌++◌}
use native.Mathlib.Omega.{arith}
use lib.Dec.{leb, eqb}
use borrow.Author.Tests.{leb-true, eqb-true, ne_eqb}
use Rattle.event.specs.Choice.{pick}
use Rattle.event.specs.Outcome.{Outcome, ok}
use Rattle.event.proofs.ChoiceLaws.{by_test, pick_true, pick_false, pick_cases, or_cases, and_both}
use Rattle.event.proofs.OutcomeLaws.{not_ok, ok_same, and_then_ok, and_then_eq, check_ok, check_eq}
use Rattle.midicsv.specs.ReadField.{is_blank, is_digit, is_letter, skip, push, read_digits, read_number, read_name}
use Rattle.midicsv.proofs.AllLaws.{All}
use Rattle.midicsv.proofs.FieldReadLaws.{Ends, letter_range}
use Rattle.midicsv.proofs.FieldPartLaws.{push_ok}
use Rattle.sheet_table.specs.Cut.{has, blank_beside, skip_beside}
use Rattle.sheet_table.proofs.CutLaws.{AllBlank}

-- ---- bytes

-- none of a comma, a quote and CR
abbrev pub Inside : ℕ → Type 0
Inside c = (eqb c 44 ≡ false) × (eqb c 34 ≡ false) × (eqb c 13 ≡ false)

pub inside_high : (c : ℕ) → 45 ≤ c → Inside c
inside_high c h = (ne_eqb c 44 (λ e. omega arith), ne_eqb c 34 (λ e. omega arith), ne_eqb c 13 (λ e. omega arith))

pub digit_least : (c : ℕ) → is_digit c ≡ true → 48 ≤ c
unfolding is_digit
digit_least c t = leb-true 48 c (and_both (leb 48 c) (leb c 57) t).0

inside_blank : (c : ℕ) → is_blank c ≡ true → Inside c
unfolding is_blank
inside_blank c h = or_cases (eqb c 32) (eqb c 9) h (λ e. rw (eqb-true c 32 e) (refl, refl, refl)) (λ e. rw (eqb-true c 9 e) (refl, refl, refl))

pub inside_has : (l : List ℕ) → All Inside l → (has 44 l ≡ false) × (has 34 l ≡ false)
unfolding has
inside_has [] a = (refl, refl)
inside_has (c ∷ l) a = let h = inside_has l a.1 in (rw a.0.0 h.0, rw a.0.1 h.1)

-- no CR
abbrev pub NoReturn : List ℕ → Type 0
NoReturn l = All (λ c. eqb c 13 ≡ false) l

pub inside_return : (l : List ℕ) → All Inside l → NoReturn l
inside_return [] a = tt
inside_return (c ∷ l) a = (a.0.2, inside_return l a.1)

-- ---- blanks

abbrev pub Blanks : List ℕ → Type 0
Blanks l = All (λ c. is_blank c ≡ true) l

pub and_true : (a : Bool) → (a && true) ≡ a
and_true true = refl
and_true false = refl

blank_same : (c : ℕ) → blank_beside 44 c ≡ is_blank c
unfolding blank_beside is_blank
blank_same c = ap (λ z. eqb c 32 || z) (and_true (eqb c 9))

-- a comma is beside no other blanks than the reader's
pub skip_same : (l : List ℕ) → skip_beside 44 l ≡ skip l
unfolding skip_beside skip
skip_same [] = refl
skip_same (c ∷ l) = ap₂ (λ t x. pick t x (c ∷ l)) (blank_same c) (skip_same l)

pub blanks_beside : (l : List ℕ) → Blanks l → AllBlank 44 l
blanks_beside [] a = tt
blanks_beside (c ∷ l) a = (blank_same c ∙ a.0, blanks_beside l a.1)

pub blanks_inside : (l : List ℕ) → Blanks l → All Inside l
blanks_inside [] a = tt
blanks_inside (c ∷ l) a = (inside_blank c a.0, blanks_inside l a.1)

pub skip_blanks_lem : (b l : List ℕ) → Blanks b → skip (b ++ l) ≡ skip l
unfolding skip
skip_blanks_lem [] l a = refl
skip_blanks_lem (c ∷ b) l a = pick_true _ _ a.0 ∙ skip_blanks_lem b l a.1

-- a list is its blanks and what skip leaves
pub record Skipped (l : List ℕ) : Type 0 where
  pub before : List ℕ
  pub whole : l ≡ before ++ skip l
  pub blank : Blanks before

pub skipped : (l : List ℕ) → Skipped l
unfolding skip pick
skipped [] = record { before = []; whole = refl; blank = tt }
skipped (c ∷ l) =
    by_test (is_blank c)
    (λ t. let s = skipped l in record { before = c ∷ s.before; whole = rw t (ap (λ z. c ∷ z) s.whole); blank = (t, s.blank) })
    (λ t. record { before = []; whole = rw t refl; blank = tt })

-- ---- what stops a number or a name: the end, a blank or a comma

abbrev pub Stops : List ℕ → Type 0
Stops [] = Unit {0}
Stops (c ∷ l) = (is_blank c || eqb c 44) ≡ true

stops_digit : (c : ℕ) → (is_blank c || eqb c 44) ≡ true → is_digit c ≡ false
unfolding is_blank is_digit
stops_digit c h =
    or_cases (eqb c 32 || eqb c 9) (eqb c 44) h
    (λ e. or_cases (eqb c 32) (eqb c 9) e (λ q. rw (eqb-true c 32 q) refl) (λ q. rw (eqb-true c 9 q) refl))
    (λ q. rw (eqb-true c 44 q) refl)

stops_letter : (c : ℕ) → (is_blank c || eqb c 44) ≡ true → is_letter c ≡ false
unfolding is_blank is_letter
stops_letter c h =
    or_cases (eqb c 32 || eqb c 9) (eqb c 44) h
    (λ e. or_cases (eqb c 32) (eqb c 9) e (λ q. rw (eqb-true c 32 q) refl) (λ q. rw (eqb-true c 9 q) refl))
    (λ q. rw (eqb-true c 44 q) refl)

pub stops_quote : (c : ℕ) → (is_blank c || eqb c 44) ≡ true → eqb c 34 ≡ false
unfolding is_blank
stops_quote c h =
    or_cases (eqb c 32 || eqb c 9) (eqb c 44) h
    (λ e. or_cases (eqb c 32) (eqb c 9) e (λ q. rw (eqb-true c 32 q) refl) (λ q. rw (eqb-true c 9 q) refl))
    (λ q. rw (eqb-true c 44 q) refl)

pub ends_stop : (e t : List ℕ) → Blanks e → Ends t → Stops (e ++ t)
unfolding is_blank
ends_stop [] [] a h = tt
ends_stop [] (c ∷ t) a h = rw h refl
ends_stop (c ∷ e) t a h = rw a.0 refl

-- ---- numbers and names: the bytes that were read, and are read so before anything that stops them

pub record Taken {A : Type 0} (R : List ℕ → Outcome A) (l : List ℕ) (a : A) (q : List ℕ) : Type 0 where
  pub part : List ℕ
  pub whole : l ≡ part ++ q
  pub inside : All Inside part
  pub again : (t : List ℕ) → Stops t → R (part ++ t) ≡ ok a t

digits_none : (k acc : ℕ) (t : List ℕ) → Stops t → read_digits k acc t ≡ ok acc t
unfolding read_digits
digits_none zero acc [] h = refl
digits_none (suc k) acc [] h = refl
digits_none zero acc (c ∷ t) h = pick_false _ _ (stops_digit c h)
digits_none (suc k) acc (c ∷ t) h = pick_false _ _ (stops_digit c h)

-- no byte was read
none_taken : (k acc n : ℕ) (l q : List ℕ) → ok acc l ≡ ok n q → Taken (read_digits k acc) l n q
none_taken k acc n l q e =
    ok_same acc n l q e (λ p z. record { part = []; whole = z; inside = tt; again = λ t h. digits_none k acc t h ∙ ap (λ m. ok m t) p })

digits_taken : (k acc : ℕ) (l : List ℕ) (n : ℕ) (q : List ℕ) → read_digits k acc l ≡ ok n q → Taken (read_digits k acc) l n q
unfolding read_digits
digits_taken zero acc [] n q e = none_taken zero acc n [] q e
digits_taken (suc k) acc [] n q e = none_taken (suc k) acc n [] q e
digits_taken zero acc (c ∷ l) n q e = pick_cases (is_digit c) _ _ _ e (λ t z. not_ok z) (λ t z. none_taken zero acc n (c ∷ l) q z)
digits_taken (suc k) acc (c ∷ l) n q e =
    pick_cases (is_digit c) _ _ _ e
    (λ t z.
    let w = digits_taken k (acc * 10 + (c - 48)) l n q z in
    record {
      part = c ∷ w.part;
      whole = ap (λ y. c ∷ y) w.whole;
      inside = (inside_high c (omega (arith, digit_least c t)), w.inside);
      again = λ y h. pick_true _ _ t ∙ w.again y h;
    })
    (λ t z. none_taken (suc k) acc n (c ∷ l) q z)

-- a number's first digit
first_digits : (c : ℕ) (l : List ℕ) → is_digit c ≡ true → read_digits 10 0 (c ∷ l) ≡ read_digits 9 (0 * 10 + (c - 48)) l
unfolding read_digits
first_digits c l t = pick_true _ _ t

pub number_taken : (c : ℕ) (l : List ℕ) (n : ℕ) (q : List ℕ) → read_number (c ∷ l) ≡ ok n q → (is_digit c ≡ true) × Taken (λ x. read_number (c ∷ x)) l n q
unfolding read_number
number_taken c l n q e =
    let (t, e1) = check_ok _ 22 0 _ n q e in
    and_then_ok (read_digits 10 0 (c ∷ l)) _ n q e1 (λ m y qm e2.
    let (t2, e3) = check_ok _ 22 0 _ n q e2 in
    let w = digits_taken 9 (0 * 10 + (c - 48)) l m y (sym (first_digits c l t) ∙ qm) in
    ok_same m n y q e3 (λ a b. (
      t,
      record {
        part = w.part;
        whole = w.whole ∙ ap (λ z. w.part ++ z) b;
        inside = w.inside;
        again = λ x h.
            check_eq 22 0 _ t ∙ and_then_eq _ (first_digits c (w.part ++ x) t ∙ w.again x h) ∙ check_eq 22 0 _ t2 ∙ ap (λ z. ok z x) a;
      },
    )))

-- a name is its letters
pub record Letters (l s q : List ℕ) : Type 0 where
  pub whole : l ≡ s ++ q
  pub inside : All Inside s
  pub again : (t : List ℕ) → Stops t → read_name (s ++ t) ≡ ok s t

name_none : (t : List ℕ) → Stops t → read_name t ≡ ok [] t
unfolding read_name
name_none [] h = refl
name_none (c ∷ t) h = pick_false _ _ (stops_letter c h)

name_again : (c : ℕ) (s t : List ℕ) → is_letter c ≡ true → read_name (s ++ t) ≡ ok s t → read_name (c ∷ (s ++ t)) ≡ ok (c ∷ s) t
unfolding read_name push
name_again c s t h e = pick_true _ _ h ∙ ap (push c) e

pub letters : (l s q : List ℕ) → read_name l ≡ ok s q → Letters l s q
unfolding read_name
letters [] s q e = ok_same [] s [] q e (λ p z. rw (← p, ← z) (record { whole = refl; inside = tt; again = λ t h. name_none t h }))
letters (c ∷ l) s q e =
    pick_cases (is_letter c) _ _ _ e
    (λ t z. push_ok c (read_name l) s q z (λ x y w.
    let r = letters l x q y in
    rw (← w)
    (record {
      whole = ap (λ v. c ∷ v) r.whole;
      inside = (inside_high c (omega (arith, letter_range c t)), r.inside);
      again = λ v h. name_again c x v t (r.again v h);
    })))
    (λ t z. ok_same [] s (c ∷ l) q z (λ p w. rw (← p, ← w) (record { whole = refl; inside = tt; again = λ v h. name_none v h })))
