-- A word is looked for only among those of its length.
use mathlib.Core.Path.{◌≡◌, refl, sym, ap, ◌∙◌}
use Prim.Native.Nat.{ℕ, zero, suc, ◌+◌, ◌-◌, ◌*◌, ◌/◌, ◌%◌, ◌<◌, ◌≤◌}
use mathlib.Core.Bool.{Bool, true, false, ◌&&◌, ◌||◌}
use mathlib.Core.List.{List, [], ◌∷◌, ◌++◌}
use native.Mathlib.Omega.{arith}
use lib.Seq.{drop-drop, drop-cons}
use lib.ListN.{length, take, drop, get_or, length-drop, drop_of_length-le}
use lib.Pointwise.{pointwise}
use Rattle.std.proofs.lemmas.Bool.{or_left, or_right}
use Rattle.std.specs.Borrow.{Bor}
use Rattle.std.specs.Prelude.{Option, Some, None, MatchOption}
use Rattle.std.specs.Option.{unwrap_or, option_map}
use Rattle.std.specs.List.{IsSubsliceAt}
use Rattle.std.specs.Prelude.{IfSome}
use Rattle.std.specs.Iterator.Runs.{Run, IsChunksExactRun, AllItems}
use Rattle.std.proofs.Math.Bool.{and-true}
use lib.Dec.{leb, eqb}
use borrow.Author.Tests.{le-leb, lt-leb, leb-true, eqb-true, eqb-false, ne_eqb}
use Rattle.event.specs.Choice.{pick}
use Rattle.event.proofs.ChoiceLaws.{by_test, pick_true, pick_false, and_both}
use Rattle.midicsv.specs.Names.{same_name}
use Rattle.midicsv.specs.TruthWords.{truth_words}
use Rattle.midicsv.specs.Spell.{unblanked, listed, is_truth}
use Rattle.midicsv.specs.Code.Words.{words_for, words_in}
use Rattle.midicsv.proofs.WordLaws.{lengths_apart}

-- ---- the words of a row, one after the other

-- room for more words than there are changes nothing
same_words : (k m n : ℕ) (l : List ℕ) → 1 ≤ n → length l ≤ k → length l ≤ m → words_for k n l ≡ words_for m n l
unfolding words_for
same_words zero zero n l h p q = refl
same_words zero (suc m) n l h p q = sym (pick_false _ _ (lt-leb n (length l) (omega arith)))
same_words (suc k) zero n l h p q = pick_false _ _ (lt-leb n (length l) (omega arith))
same_words (suc k) (suc m) n l h p q =
    by_test (leb n (length l))
    (λ t. let g = leb-true n (length l) t in ap (λ ws. pick (leb n (length l)) (take n l ∷ ws) []) (same_words k m n (drop n l) h (simp length-drop (omega arith)) (simp length-drop (omega arith))))
    (λ t. pick_false _ _ t ∙ sym (pick_false _ _ t))

words_begin : (k n : ℕ) (l : List ℕ) → length l ≡ suc k → n ≤ length l → words_in n l ≡ take n l ∷ words_for k n (drop n l)
unfolding words_in words_for
words_begin k n l e h = ap (λ z. words_for z n l) e ∙ pick_true _ _ (le-leb n (length l) h)

words_more : (n : ℕ) (l : List ℕ) → 1 ≤ n → n ≤ length l → words_in n l ≡ take n l ∷ words_in n (drop n l)
unfolding words_in
words_more n l one h =
    let k : ℕ = length l - 1 in
    words_begin k n l (omega arith) h ∙ ap (λ ws. take n l ∷ ws) (same_words k (length (drop n l)) n (drop n l) one (simp length-drop (omega arith)) (omega arith))

words_over : (k n : ℕ) (l : List ℕ) → length l < n → words_for k n l ≡ []
unfolding words_for
words_over zero n l h = refl
words_over (suc k) n l h = pick_false _ _ (lt-leb n (length l) h)

-- ---- the words of a row by their number

module _ (d words : List ℕ) (one : 1 ≤ length d) where
  -- whether it is among the words from a place on, and the word at that place
  abbrev Left : ℕ → Bool
  Left i = listed d (words_in (length d) (drop i words))

  abbrev Here : ℕ → Bool
  Here i = same_name d (take (length d) (drop i words))

  listed_here : (i : ℕ) → i + length d ≤ length words → Left i ≡ (Here i || Left (i + length d))
  unfolding listed
  listed_here i h =
      let g : length d ≤ length (drop i words) = simp length-drop (omega arith) in
      rw (words_more (length d) (drop i words) one g, drop-drop)

  row_has : (k i : ℕ) → i + k * length d + length d ≤ length words → Here (i + k * length d) ≡ true → Left i ≡ true
  row_has zero i h e =
      let place : i + zero * length d ≡ i = omega arith in
      listed_here i (omega arith) ∙ or_left (Here i) (Left (i + length d)) (rw place at e)
  row_has (suc k) i h e =
      let place : i + suc k * length d ≡ (i + length d) + k * length d = omega arith in
      listed_here i (omega arith) ∙ or_right (Here i) (Left (i + length d)) (row_has k (i + length d) (omega arith) (rw place at e))

  row_lacks : (k i : ℕ) → i + k * length d ≤ length words → length words < i + k * length d + length d → ((j : ℕ) → j < k → Here (i + j * length d) ≡ false) → Left i ≡ false
  unfolding listed words_in
  row_lacks zero i h over none =
      let g : length (drop i words) < length d = simp length-drop (omega arith) in rw (words_over (length (drop i words)) (length d) (drop i words) g)
  row_lacks (suc k) i h over none =
      let first : Here i ≡ false = let place : i + 0 * length d ≡ i = omega arith in rw place at (none 0 (omega arith)) in
      let others : Left (i + length d) ≡ false =
      row_lacks k (i + length d) (omega arith) (omega arith)
      (λ j g. let place : i + suc j * length d ≡ (i + length d) + j * length d = omega arith in rw place at (none (suc j) (omega arith))) in
      rw (listed_here i (omega arith), first, others)

-- what is known of a search through the chunks of a row, of as many bytes as the word
pub among_told : (b : Bool) (d words : List ℕ) → 1 ≤ length d
    → (b ≡ true → (k : ℕ) × ((k * length d + length d ≤ length words) × (same_name d (take (length d) (drop (k * length d) words)) ≡ true)))
    → (b ≡ false → (k : ℕ) → k < length words / length d → same_name d (take (length d) (drop (k * length d) words)) ≡ false)
    → b ≡ listed d (words_in (length d) words)
among_told true d words one found none =
    let (k, (fits, same)) = found refl in
    let place : 0 + k * length d ≡ k * length d = omega arith in
    sym (row_has d words one k 0 (omega arith) (rw place same))
among_told false d words one found none =
    let count : ℕ = length words / length d in
    let whole : length d * count + length words % length d ≡ length words = omega arith in
    let less : length words % length d < length d = omega arith in
    sym (row_lacks d words one count 0 (omega arith) (omega arith) (λ j h. let place : 0 + j * length d ≡ j * length d = omega arith in rw place (none refl j h)))

-- each chunk of a run that went on to the end is a word of the row
pub chunks_lack : {S : Type 0} {steps : S → Option (Bor (List ℕ)) → S → Type 0} (p : Run steps) (d words : List ℕ) → IsChunksExactRun p (length d) words → p.whole ≡ true
    → AllItems p (λ x. same_name d x.now ≡ false) → (k : ℕ) → k < length words / length d → same_name d (take (length d) (drop (k * length d) words)) ≡ false
chunks_lack p d words chunks whole none k h = here (p.at k) (p.reads k (record { ref_ptr = (0, 0); now = [] }) (omega (arith, chunks.1 whole))) (chunks.2 k) (none k)
  where
    here : {y : Bor (List ℕ)} (o : Option (Bor (List ℕ))) → option_map (λ y. y) o ≡ Some y → IfSome o (λ x. (length x.now ≡ length d) × (k * length d + length d ≤ length words) × IsSubsliceAt (length d) words (k * length d) x.now)
        → IfSome o (λ x. same_name d x.now ≡ false) → same_name d (take (length d) (drop (k * length d) words)) ≡ false
    here None e a b = cc
    here (Some x) e a b = rw (sym a.2.0) b

-- ---- only the words of its length

-- those of n bytes
unfoldable pub sized : ℕ → List (List ℕ) → List (List ℕ)
sized n [] = []
sized n (w ∷ ws) = pick (eqb n (length w)) (w ∷ sized n ws) (sized n ws)

pub listed_sized : (d : List ℕ) (ws : List (List ℕ)) → listed d ws ≡ listed d (sized (length d) ws)
unfolding listed sized pick
listed_sized d [] = refl
listed_sized d (w ∷ ws) =
    by_test (eqb (length d) (length w))
    (λ t. rw (t, listed_sized d ws))
    (λ t. rw (t, lengths_apart d w (eqb-false _ _ t), listed_sized d ws))

-- words in a row
abbrev pub in_row : List (List ℕ) → List ℕ
in_row [] = []
in_row (w ∷ ws) = w ++ in_row ws

-- a word of n bytes is looked for in the row ws of those of n bytes
pub in_row_lem : (n : ℕ) (d : List ℕ) (ws : List (List ℕ)) → length d ≡ n → sized n truth_words ≡ words_in n (in_row ws)
    → listed d (words_in (length d) (in_row ws)) ≡ listed d truth_words
in_row_lem n d ws h e =
    let shorter : listed d truth_words ≡ listed d (sized n truth_words) = rw h at (listed_sized d truth_words) in
    rw h (ap (λ z. listed d z) (sym e) ∙ sym shorter)

-- ---- every word has from 2 to 12 bytes

abbrev fair_lengths : List (List ℕ) → Bool
fair_lengths [] = true
fair_lengths (w ∷ ws) = (leb 2 (length w) && leb (length w) 12) && fair_lengths ws

none_fair : (d : List ℕ) (ws : List (List ℕ)) → (2 ≤ length d → 13 ≤ length d) → fair_lengths ws ≡ true → listed d ws ≡ false
unfolding listed
none_fair d [] h e = refl
none_fair d (w ∷ ws) h e =
    let (fair, others) = and_both (leb 2 (length w) && leb (length w) 12) (fair_lengths ws) e in
    let (low, high) = and_both (leb 2 (length w)) (leb (length w) 12) fair in
    let p = leb-true 2 (length w) low in
    let q = leb-true (length w) 12 high in
    rw (lengths_apart d w (λ s. let z : 13 ≤ length d = h (omega arith) in omega arith), none_fair d ws h others)

pub no_length : (d : List ℕ) → (2 ≤ length d → 13 ≤ length d) → false ≡ listed d truth_words
unfolding truth_words
no_length d h = sym (none_fair d truth_words h refl)

-- ---- without a blank at its end

pub blank_dropped : (k : ℕ) (d : List ℕ) → length d ≡ k + 1 → get_or d k 0 ≡ 32 → take k d ≡ unblanked d
unfolding unblanked pick
blank_dropped k [] h e = absurd (omega arith)
blank_dropped zero (c ∷ []) h e = rw e
blank_dropped (suc k) (c ∷ []) h e = absurd (omega arith)
blank_dropped zero (c ∷ x ∷ l) h e = absurd (omega arith)
blank_dropped (suc k) (c ∷ x ∷ l) h e = ap (λ m. c ∷ m) (blank_dropped k (x ∷ l) (omega arith) e)

pub no_blank_lem : (k : ℕ) (d : List ℕ) → length d ≡ k + 1 → (get_or d k 0 ≡ 32 → ⊥) → d ≡ unblanked d
unfolding unblanked pick
no_blank_lem k [] h e = absurd (omega arith)
no_blank_lem zero (c ∷ []) h e = rw (ne_eqb c 32 e)
no_blank_lem (suc k) (c ∷ []) h e = absurd (omega arith)
no_blank_lem zero (c ∷ x ∷ l) h e = absurd (omega arith)
no_blank_lem (suc k) (c ∷ x ∷ l) h e = ap (λ m. c ∷ m) (no_blank_lem k (x ∷ l) (omega arith) e)

pub empty_unblanked : (d : List ℕ) → length d ≡ 0 → d ≡ unblanked d
unfolding unblanked
empty_unblanked [] h = refl
empty_unblanked (c ∷ d) h = absurd (omega arith)

-- whether the last byte is a blank, as the library asks
abbrev ends_blank : List ℕ → Bool
ends_blank d = pointwise eqb (drop (length d - 1) d) (32 ∷ [])

ends_told : (d : List ℕ) → 1 ≤ length d → ends_blank d ≡ eqb (get_or d (length d - 1) 0) 32
ends_told d h =
    let k : ℕ = length d - 1 in
    let e : drop k d ≡ get_or d k 0 ∷ [] = rw (drop-cons d k 0 (omega arith), drop_of_length-le d {i = suc k} (omega arith)) in
    rw (e, and-true)

-- a text without the blank that the library takes off
pub stripped : (d : List ℕ) (text : Bor (List ℕ)) (r : Option (Bor (List ℕ))) → text.now ≡ d
    → MatchOption r (ends_blank d ≡ false) (λ x. (ends_blank d ≡ true) × (x.now ≡ take (length d - 1) d) × (length x.now + 1 ≡ length d))
    → (unwrap_or r text).now ≡ unblanked d
stripped [] text None e h = e ∙ empty_unblanked [] refl
stripped (c ∷ l) text None e h =
    let d : List ℕ = c ∷ l in
    e ∙ no_blank_lem (length d - 1) d (omega arith) (eqb-false _ _ (sym (ends_told d (omega arith)) ∙ h))
stripped d text (Some x) e h =
    h.1 ∙ blank_dropped (length d - 1) d (omega (arith, h.2)) (eqb-true _ _ (sym (ends_told d (omega (arith, h.2))) ∙ h.0))

shorter_unblanked : (d : List ℕ) → length (unblanked d) ≤ length d
unfolding unblanked pick
shorter_unblanked [] = omega arith
shorter_unblanked (c ∷ []) = by_test (eqb c 32) (λ t. rw t (omega arith)) (λ t. rw t (omega arith))
shorter_unblanked (c ∷ x ∷ l) = let h = shorter_unblanked (x ∷ l) in omega arith

-- a text of one byte is no word
pub few_bytes : (d : List ℕ) → length d ≤ 1 → is_truth d ≡ false
unfolding is_truth truth_words
few_bytes d h = none_fair (unblanked d) truth_words (λ two. let s = shorter_unblanked d in absurd (omega arith)) refl
