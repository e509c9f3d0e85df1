-- A cell is none of the words: it has a backslash in it, which no word has, or it is its text, which is no word.
use mathlib.Core.Path.{◌≡◌, refl, sym, ap, ◌∙◌}
use Prim.Native.Nat.{ℕ, ◌+◌, ◌≤◌}
use mathlib.Core.Bool.{Bool, true, false, false≢true, ◌&&◌, ◌||◌, not}
use mathlib.Core.List.{List, [], ◌∷◌, ◌++◌, append-nil}
use native.Mathlib.Omega.{arith}
use lib.ListN.{length}
use lib.Dec.{leb, eqb}
use borrow.Author.Tests.{leb-true, leb-false, eqb-true, ne_eqb, not-true}
use Rattle.event.specs.Choice.{pick}
use Rattle.event.proofs.ChoiceLaws.{by_test, and_both}
use Rattle.midicsv.specs.ReadField.{is_letter}
use Rattle.midicsv.specs.Names.{lower, same_name}
use Rattle.midicsv.specs.TruthWords.{truth_words}
use Rattle.midicsv.specs.Spell.{octal, or_octal, stands_inside, stands_last, unblanked, listed, is_truth, spell_rest, spell_short, octal_all, spell_text, longest}
use Rattle.midicsv.proofs.TruthLaws.{few_bytes}

-- whether a backslash is in it
unfoldable slashed : List ℕ → Bool
slashed [] = false
slashed (c ∷ l) = eqb c 92 || slashed l

-- ---- no word has one

lower_slash : (c : ℕ) → eqb (lower c) 92 ≡ eqb c 92
unfolding lower pick
lower_slash c =
    by_test (leb 65 c && leb c 90)
    (λ t.
    let (low, high) = and_both (leb 65 c) (leb c 90) t in
    let p = leb-true 65 c low in
    let q = leb-true c 90 high in
    rw (t, ne_eqb (c + 32) 92 (λ e. omega arith), ne_eqb c 92 (λ e. omega arith)))
    (λ t. rw t)

same_slashed : (s t : List ℕ) → same_name s t ≡ true → slashed s ≡ slashed t
unfolding same_name slashed
same_slashed [] [] e = refl
same_slashed [] (d ∷ t) e = absurd (false≢true e)
same_slashed (c ∷ s) [] e = absurd (false≢true e)
same_slashed (c ∷ s) (d ∷ t) e =
    let (here, there) = and_both (eqb (lower c) (lower d)) (same_name s t) e in
    let byte : eqb c 92 ≡ eqb d 92 = sym (lower_slash c) ∙ ap (λ z. eqb z 92) (eqb-true (lower c) (lower d) here) ∙ lower_slash d in
    rw (byte, same_slashed s t there)

abbrev any_slashed : List (List ℕ) → Bool
any_slashed [] = false
any_slashed (w ∷ ws) = slashed w || any_slashed ws

or_neither : (a b : Bool) → (a || b) ≡ false → (a ≡ false) × (b ≡ false)
or_neither true b e = absurd (false≢true (sym e))
or_neither false b e = (refl, e)

never_listed : (d : List ℕ) (ws : List (List ℕ)) → slashed d ≡ true → any_slashed ws ≡ false → listed d ws ≡ false
unfolding listed
never_listed d [] s e = refl
never_listed d (w ∷ ws) s e =
    let (here, there) = or_neither (slashed w) (any_slashed ws) e in
    by_test (same_name d w)
    (λ t. absurd (false≢true (sym here ∙ sym (same_slashed d w t) ∙ s)))
    (λ t. rw (t, never_listed d ws s there))

unblanked_slashed : (d : List ℕ) → slashed (unblanked d) ≡ slashed d
unfolding unblanked slashed pick
unblanked_slashed [] = refl
unblanked_slashed (c ∷ []) = by_test (eqb c 32) (λ t. rw (eqb-true c 32 t)) (λ t. rw t)
unblanked_slashed (c ∷ x ∷ l) = ap (λ b. eqb c 92 || b) (unblanked_slashed (x ∷ l))

slashed_no_word : (d : List ℕ) → slashed d ≡ true → is_truth d ≡ false
unfolding is_truth truth_words slashed
slashed_no_word d s = never_listed (unblanked d) truth_words (unblanked_slashed d ∙ s) refl

-- ---- a cell without one is its text

plain_byte : (b : Bool) (c : ℕ) (l : List ℕ) → slashed (or_octal b c ++ l) ≡ false → (b ≡ true) × (slashed l ≡ false) × (or_octal b c ++ l ≡ c ∷ l)
unfolding or_octal octal pick slashed
plain_byte true c l e = (refl, (or_neither (eqb c 92) (slashed l) e).1, refl)
plain_byte false c l e = absurd (false≢true (sym e))

plain_rest : (free : Bool) (before : ℕ) (l : List ℕ) → slashed (spell_rest free before l) ≡ false → (spell_rest free before l ≡ l) × (1 ≤ length l → free ≡ true)
unfolding spell_rest
plain_rest free before [] e = (refl, λ h. absurd (omega arith))
plain_rest free before (c ∷ []) e =
    let b = free && stands_last before c in
    let p = plain_byte b c [] (ap slashed (append-nil (or_octal b c)) ∙ e) in
    (sym (append-nil (or_octal b c)) ∙ p.2, λ h. (and_both free (stands_last before c) p.0).0)
plain_rest free before (c ∷ x ∷ l) e =
    let p = plain_byte (stands_inside c) c (spell_rest free c (x ∷ l)) e in
    let r = plain_rest free c (x ∷ l) p.1 in
    (p.2 ∙ ap (λ m. c ∷ m) r.0, λ h. r.1 (omega arith))

plain_short : (d : List ℕ) → slashed (spell_short d) ≡ false → (spell_short d ≡ d) × (2 ≤ length d → is_truth d ≡ false)
unfolding spell_short
plain_short [] e = (refl, λ h. absurd (omega arith))
plain_short (c ∷ l) e =
    let p = plain_byte (is_letter c) c (spell_rest (not (is_truth (c ∷ l))) c l) e in
    let r = plain_rest (not (is_truth (c ∷ l))) c l p.1 in
    (p.2 ∙ ap (λ m. c ∷ m) r.0, λ h. not-true (is_truth (c ∷ l)) (r.1 (omega arith)))

short_no_word : (d : List ℕ) → is_truth (spell_short d) ≡ false
short_no_word d =
    by_test (slashed (spell_short d))
    (λ t. slashed_no_word (spell_short d) t)
    (λ t.
    let p = plain_short d t in
    rw p.0 (by_test (leb 2 (length d)) (λ h. p.1 (leb-true 2 (length d) h)) (λ h. few_bytes d (omega (arith, leb-false 2 (length d) h)))))

octals_no_word : (d : List ℕ) → is_truth (octal_all d) ≡ false
unfolding octal_all octal slashed
octals_no_word [] = few_bytes [] (omega arith)
octals_no_word (c ∷ d) = slashed_no_word (octal_all (c ∷ d)) refl

pub no_word : (d : List ℕ) → is_truth (spell_text d) ≡ false
unfolding spell_text pick
no_word d = by_test (leb (length d) longest) (λ t. rw t (short_no_word d)) (λ t. rw t (octals_no_word d))
