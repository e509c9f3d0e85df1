-- Fields that are written are read back, alone and joined to a line.
use mathlib.Core.Path.{◌≡◌, refl, ap, ◌∙◌}
use Prim.Native.Nat.{ℕ, zero, suc, ◌≤◌, ◌<◌}
use mathlib.Core.Bool.{Bool, true, false, ◌&&◌}
use mathlib.Core.List.{List, [], ◌∷◌, ◌++◌, append_assoc}
use native.Mathlib.Omega.{arith}
use lib.ListN.{length, length-append}
use lib.Dec.{leb}
use borrow.Author.Tests.{leb-true, le-leb, lt-leb, eqb-true, ne_eqb}
use Rattle.event.specs.Choice.{pick}
use Rattle.event.specs.Outcome.{ok, and_then, check}
use Rattle.event.specs.Bytes.{Bytes}
use Rattle.event.proofs.ChoiceLaws.{pick_true, pick_false, or_cases, and_both}
use Rattle.event.proofs.OutcomeLaws.{and_then_eq}
use Rattle.midicsv.specs.Field.{decimal, Field, num, minus, name, quoted}
use Rattle.midicsv.specs.Show.{Form, as_text, as_sheet, gap, spell_in, quote, show, joined, further, line_of}
use Rattle.midicsv.specs.ReadField.{is_blank, is_digit, is_letter, skip, read_number, negative, plain, read_quoted, read_name, at_comma, finish, field_of, read_field, onward, read_fields, all_fields}
use Rattle.midicsv.proofs.AllLaws.{All, all_append, Printable, Digit}
use Rattle.midicsv.proofs.DecimalReadLaws.{digit_yes, decimal_digits, NoDigit, decimal_read}
use Rattle.midicsv.proofs.QuotedReadLaws.{push_eq, NoQuote, quoted_read, escapes_printable}
use Rattle.midicsv.proofs.SpellLaws.{spell_read, spell_printable}

unfoldable pub all_letters : List ℕ → Bool
all_letters [] = true
all_letters (c ∷ l) = is_letter c && all_letters l

-- what a field must be to be read back
unfoldable pub Good : Field → Type 0
Good (num n) = n ≤ 4294967295
Good (minus n) = (1 ≤ n) × (n ≤ 4294967295)
Good (name s) = (1 ≤ length s) × (all_letters s ≡ true)
Good (quoted d) = Bytes d

abbrev pub AllGood : List Field → Type 0
AllGood [] = Unit {0}
AllGood (f ∷ fs) = Good f × AllGood fs

-- ---- after a field: the end, or a comma

abbrev pub Ends : List ℕ → Type 0
Ends [] = Unit {0}
Ends (c ∷ l) = c ≡ 44

pub ends_digit : (r : List ℕ) → Ends r → NoDigit r
unfolding is_digit
ends_digit [] h = tt
ends_digit (c ∷ l) h = rw h

pub ends_quote : (r : List ℕ) → Ends r → NoQuote r
ends_quote [] h = tt
ends_quote (c ∷ l) h = rw h

pub finish_ends : (f : Field) (r : List ℕ) → Ends r → finish f r ≡ ok f r
unfolding finish skip is_blank pick at_comma check
finish_ends f [] h = refl
finish_ends f (c ∷ l) h = rw h

-- ---- by the first byte

pub letter_range : (c : ℕ) → is_letter c ≡ true → 65 ≤ c
unfolding is_letter
letter_range c e =
    or_cases (leb 65 c && leb c 90) _ e (λ t. leb-true 65 c (and_both (leb 65 c) (leb c 90) t).0) (λ e2.
    or_cases (leb 97 c && leb c 122) _ e2 (λ t. let h = leb-true 97 c (and_both (leb 97 c) (leb c 122) t).0 in omega arith) (λ t. let h = eqb-true c 95 t in omega arith))

pub high_digit : (c : ℕ) → 58 ≤ c → is_digit c ≡ false
unfolding is_digit
high_digit c h = rw (le-leb 48 c (omega arith), lt-leb c 57 (omega arith))

pub not_blank : (c : ℕ) → 33 ≤ c → is_blank c ≡ false
unfolding is_blank
not_blank c h = rw (ne_eqb c 32 (λ e. omega arith), ne_eqb c 9 (λ e. omega arith))

pub skip_none : (c : ℕ) (l : List ℕ) → 33 ≤ c → skip (c ∷ l) ≡ c ∷ l
unfolding skip
skip_none c l h = pick_false _ _ (not_blank c h)

pub comma : is_letter 44 ≡ false
unfolding is_letter
comma = refl

pub name_read : (s r : List ℕ) → all_letters s ≡ true → Ends r → read_name (s ++ r) ≡ ok s r
unfolding read_name all_letters
name_read [] [] a h = refl
name_read [] (c ∷ l) a h = pick_false _ _ (rw h comma)
name_read (c ∷ s) r a h = let (p, q) = and_both (is_letter c) (all_letters s) a in pick_true _ _ p ∙ push_eq c (name_read s r q h)

pub number_field_lem : (l r : List ℕ) → (1 ≤ length l) × All Digit l → read_field (l ++ r) ≡ and_then (read_number (l ++ r)) (λ n q. finish (num n) q)
unfolding read_field field_of
number_field_lem [] r h = absurd (omega arith)
number_field_lem (c ∷ l) r h =
    ap field_of (skip_none c (l ++ r) (omega arith))
    ∙ pick_false _ _ (ne_eqb c 34 (λ e. omega arith))
    ∙ pick_false _ _ (ne_eqb c 45 (λ e. omega arith))
    ∙ pick_true _ _ (digit_yes c h.1.0)

pub name_field_lem : (s r : List ℕ) → 1 ≤ length s → all_letters s ≡ true → read_field (s ++ r) ≡ and_then (read_name (s ++ r)) (λ n q. finish (name n) q)
unfolding read_field field_of all_letters
name_field_lem [] r h a = absurd (omega arith)
name_field_lem (c ∷ s) r h a =
    let p = (and_both (is_letter c) (all_letters s) a).0 in
    let g = letter_range c p in
    ap field_of (skip_none c (s ++ r) (omega arith))
    ∙ pick_false _ _ (ne_eqb c 34 (λ e. omega arith))
    ∙ pick_false _ _ (ne_eqb c 45 (λ e. omega arith))
    ∙ pick_false _ _ (high_digit c (omega arith))
    ∙ pick_true _ _ p

pub minus_field_lem : (n : ℕ) (l r : List ℕ) → 1 ≤ n → read_number l ≡ ok n r → Ends r → read_field (45 ∷ l) ≡ ok (minus n) r
unfolding read_field field_of negative
minus_field_lem zero l r h e en = absurd (omega arith)
minus_field_lem (suc n) l r h e en =
    ap field_of (skip_none 45 l (omega arith)) ∙ pick_false _ _ refl ∙ pick_true _ _ refl ∙ and_then_eq _ e ∙ finish_ends (minus (suc n)) r en

pub quoted_field_lem : (d l r : List ℕ) → read_quoted l plain ≡ ok d r → Ends r → read_field (34 ∷ l) ≡ ok (quoted d) r
unfolding read_field field_of
quoted_field_lem d l r e en = ap field_of (skip_none 34 l (omega arith)) ∙ pick_true _ _ refl ∙ and_then_eq _ e ∙ finish_ends (quoted d) r en

spelled_read : (w : Form) (d r : List ℕ) → Bytes d → NoQuote r → read_quoted (spell_in w d ++ (34 ∷ r)) plain ≡ ok d r
unfolding spell_in
spelled_read as_text d r b h = quoted_read d r b h
spelled_read as_sheet d r b h = spell_read d r b h

pub show_read : (w : Form) (f : Field) (r : List ℕ) → Good f → Ends r → read_field (show w f ++ r) ≡ ok f r
unfolding show Good quote
show_read w (num n) r g h =
    number_field_lem (decimal n) r (decimal_digits n g) ∙ and_then_eq _ (decimal_read n r g (ends_digit r h)) ∙ finish_ends (num n) r h
show_read w (minus n) r g h = minus_field_lem n (decimal n ++ r) r g.0 (decimal_read n r g.1 (ends_digit r h)) h
show_read w (name s) r g h = name_field_lem s r g.0 g.1 ∙ and_then_eq _ (name_read s r g.1 h) ∙ finish_ends (name s) r h
show_read w (quoted d) r g h =
    quoted_field_lem d (spell_in w d ++ (34 ∷ []) ++ r) r (ap (λ l. read_quoted l plain) (append_assoc (spell_in w d) (34 ∷ []) r) ∙ spelled_read w d r g (ends_quote r h)) h

-- ---- a line

pub ends_further : (w : Form) (fs : List Field) → Ends (further w fs)
unfolding further gap
ends_further w [] = tt
ends_further as_text (f ∷ fs) = refl
ends_further as_sheet (f ∷ fs) = refl

blank_first : (l : List ℕ) (n : ℕ) → read_fields n (32 ∷ l) ≡ read_fields n l
unfolding read_fields read_field skip is_blank pick
blank_first l zero = refl
blank_first l (suc n) = refl

last_field : (w : Form) (n : ℕ) (f : Field) → onward f (further w []) (read_fields n) ≡ ok (f ∷ []) []
unfolding onward further
last_field w n f = refl

next_field : (w : Form) (n : ℕ) (f x : Field) (fs : List Field) → read_fields n (show w x ++ further w fs) ≡ ok (x ∷ fs) []
    → onward f (further w (x ∷ fs)) (read_fields n) ≡ ok (f ∷ x ∷ fs) []
unfolding onward further gap
next_field as_text n f x fs e = and_then_eq _ (blank_first (show as_text x ++ further as_text fs) n ∙ e)
next_field as_sheet n f x fs e = and_then_eq _ e

further_read : (w : Form) (n : ℕ) (f : Field) (fs : List Field) → Good f → AllGood fs → length fs < n → read_fields n (show w f ++ further w fs) ≡ ok (f ∷ fs) []
unfolding read_fields
further_read w zero f fs g gs h = absurd (omega arith)
further_read w (suc n) f [] g gs h = and_then_eq _ (show_read w f (further w []) g (ends_further w [])) ∙ last_field w n f
further_read w (suc n) f (x ∷ fs) g gs h =
    and_then_eq _ (show_read w f (further w (x ∷ fs)) g (ends_further w (x ∷ fs)))
    ∙ next_field w n f x fs (further_read w n x fs gs.0 gs.1 (omega arith))

gap_some : (w : Form) → 1 ≤ length (gap w)
unfolding gap
gap_some as_text = omega arith
gap_some as_sheet = omega arith

further_size : (w : Form) (fs : List Field) → length fs ≤ length (further w fs)
unfolding further
further_size w [] = omega arith
further_size w (f ∷ fs) = let h = further_size w fs in simp length-append (omega (arith, gap_some w))

pub line_read : (w : Form) (f : Field) (fs : List Field) → AllGood (f ∷ fs) → all_fields (line_of w (f ∷ fs)) ≡ ok (f ∷ fs) []
unfolding line_of all_fields
line_read w f fs g = further_read w _ f fs g.0 g.1 (omega (arith, further_size w fs, length-append (show w f) (further w fs)))

-- ---- no control bytes

pub letters_printable : (s : List ℕ) → all_letters s ≡ true → All Printable s
unfolding all_letters
letters_printable [] a = tt
letters_printable (c ∷ s) a =
    let (p, q) = and_both (is_letter c) (all_letters s) a in
    let h = letter_range c p in
    (omega arith, letters_printable s q)

pub digits_printable : (l : List ℕ) → All Digit l → All Printable l
digits_printable [] a = tt
digits_printable (c ∷ l) a = (omega arith, digits_printable l a.1)

spelled_printable : (w : Form) (d : List ℕ) → All Printable (spell_in w d)
unfolding spell_in
spelled_printable as_text d = escapes_printable d
spelled_printable as_sheet d = spell_printable d

pub show_printable : (w : Form) (f : Field) → Good f → All Printable (show w f)
unfolding show Good quote
show_printable w (num n) g = digits_printable (decimal n) (decimal_digits n g).1
show_printable w (minus n) g = (omega arith, digits_printable (decimal n) (decimal_digits n g.1).1)
show_printable w (name s) g = letters_printable s g.1
show_printable w (quoted d) g = (omega arith, all_append Printable (spell_in w d) (34 ∷ []) (spelled_printable w d) (omega arith, tt))

gap_printable : (w : Form) → All Printable (gap w)
unfolding gap
gap_printable as_text = (omega arith, (omega arith, tt))
gap_printable as_sheet = (omega arith, tt)

joined_printable : (w : Form) (f : Field) → Good f → All Printable (joined w f)
joined_printable w f g = all_append Printable (gap w) (show w f) (gap_printable w) (show_printable w f g)

further_printable : (w : Form) (fs : List Field) → AllGood fs → All Printable (further w fs)
unfolding further
further_printable w [] g = tt
further_printable w (f ∷ fs) g = all_append Printable (joined w f) (further w fs) (joined_printable w f g.0) (further_printable w fs g.1)

pub line_printable : (w : Form) (fs : List Field) → AllGood fs → All Printable (line_of w fs)
unfolding line_of
line_printable w [] g = tt
line_printable w (f ∷ fs) g = all_append Printable (show w f) (further w fs) (show_printable w f g.0) (further_printable w fs g.1)
