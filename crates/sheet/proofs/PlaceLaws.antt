-- Where the text of a record stands, by its name.
use mathlib.Core.Path.{◌≡◌, refl, sym, ap}
use Prim.Native.Nat.{ℕ}
use mathlib.Core.Bool.{Bool, true, false, ◌&&◌, ◌||◌}
use mathlib.Core.List.{List, [], ◌∷◌, ◌++◌}
use native.Mathlib.Omega.{arith}
use lib.ListN.{take, drop}
use lib.Dec.{eqb}
use borrow.Author.Tests.{eqb-true}
use Rattle.event.specs.Choice.{pick}
use Rattle.event.proofs.ChoiceLaws.{and_both, or_cases}
use Rattle.sheet_table.proofs.CutLaws.{or_left, or_right}
use Rattle.midicsv.specs.Field.{bytes}
use Rattle.midicsv.specs.Table.{words, key_signature_name, RecordName, event, spelled, event_spelled, event_shape, shape}
use Rattle.midicsv.specs.Names.{all_names, lower, same_name, find}
use Rattle.midicsv.specs.Result.{Result, good}
use Rattle.sheet_table.specs.Table.{TextPlace, nowhere, after, text_from, text_of_name}

-- ---- bytes that are the same name as another are that name

same_as : (s a b : List ℕ) → same_name s a ≡ true → same_name s b ≡ same_name a b
unfolding same_name
same_as [] [] b e = refl
same_as [] (d ∷ a) b e = let z : ◌≡◌ {A = ℕ} 0 1 = cc in absurd (omega arith)
same_as (c ∷ s) [] b e = let z : ◌≡◌ {A = ℕ} 0 1 = cc in absurd (omega arith)
same_as (c ∷ s) (d ∷ a) [] e = refl
same_as (c ∷ s) (d ∷ a) (x ∷ b) e =
    let (h, t) = and_both (eqb (lower c) (lower d)) (same_name s a) e in
    rw (eqb-true (lower c) (lower d) h, same_as s a b t)

find_same : (s a : List ℕ) (ns : List RecordName) → same_name s a ≡ true → find s ns ≡ find a ns
unfolding find
find_same s a [] e = refl
find_same s a (n ∷ ns) e = rw (same_as s a (spelled n) e, find_same s a ns e)

pub named : (s a : List ℕ) → same_name s a ≡ true → text_of_name (find a all_names) ≡ text_of_name (find s all_names)
named s a e = ap text_of_name (sym (find_same s a all_names e))

-- ---- a name that is none of those with a text

is_nowhere : TextPlace → Bool
is_nowhere nowhere = true
is_nowhere (after k) = false

nowhere_is : (t : TextPlace) → is_nowhere t ≡ true → t ≡ nowhere
unfolding is_nowhere
nowhere_is nowhere e = refl
nowhere_is (after k) e = let z : ◌≡◌ {A = ℕ} 0 1 = cc in absurd (omega arith)

-- either way
past_one : (t : Bool) (n : RecordName) (m : Result RecordName) → text_of_name (good n) ≡ nowhere → text_of_name m ≡ nowhere → text_of_name (pick t (good n) m) ≡ nowhere
unfolding pick
past_one true n m e h = e
past_one false n m e h = h

-- none of the names has a text
no_text : List RecordName → Bool
no_text [] = true
no_text (n ∷ ns) = is_nowhere (text_of_name (good n)) && no_text ns

module _ (s : List ℕ) where
  -- past a name that it is not
  other : (n : RecordName) (ns : List RecordName) → same_name s (spelled n) ≡ false → text_of_name (find s ns) ≡ nowhere → text_of_name (find s (n ∷ ns)) ≡ nowhere
  unfolding find pick
  other n ns e h = rw (e, h)

  -- past names without a text
  past : (ns ms : List RecordName) → no_text ns ≡ true → text_of_name (find s ms) ≡ nowhere → text_of_name (find s (ns ++ ms)) ≡ nowhere
  unfolding no_text find
  past [] ms e h = h
  past (n ∷ ns) ms e h =
      let (x, y) = and_both (is_nowhere (text_of_name (good n))) (no_text ns) e in
      past_one (same_name s (spelled n)) n (find s (ns ++ ms)) (nowhere_is (text_of_name (good n)) x) (past ns ms y h)

  -- of the names with a text it is none
  pub unnamed : same_name s (bytes "Text_t") ≡ false → same_name s (bytes "Copyright_t") ≡ false → same_name s (bytes "Title_t") ≡ false → same_name s (bytes "Instrument_name_t") ≡ false
      → same_name s (bytes "Lyric_t") ≡ false → same_name s (bytes "Marker_t") ≡ false → same_name s (bytes "Cue_point_t") ≡ false → same_name s (bytes "Key_signature") ≡ false
      → text_of_name (find s all_names) ≡ nowhere
  unfolding no_text is_nowhere text_of_name text_from shape event_shape spelled event_spelled find
  unnamed a b c d e f g h =
      past (take 13 all_names) (drop 13 all_names) refl
      (other (event (words 1)) (drop 14 all_names) a
      (other (event (words 2)) (drop 15 all_names) b
      (other (event (words 3)) (drop 16 all_names) c
      (other (event (words 4)) (drop 17 all_names) d
      (other (event (words 5)) (drop 18 all_names) e
      (other (event (words 6)) (drop 19 all_names) f
      (other (event (words 7)) (drop 20 all_names) g
      (past (take 6 (drop 20 all_names)) (drop 26 all_names) refl
      (other (event key_signature_name) (drop 27 all_names) h
      (past (drop 27 all_names) [] refl refl))))))))))

  -- one of the seven texts
  abbrev is_text_name : Bool
  is_text_name =
      same_name s (bytes "Text_t") || (same_name s (bytes "Copyright_t") || (same_name s (bytes "Title_t") || (same_name s (bytes "Instrument_name_t")
      || (same_name s (bytes "Lyric_t") || (same_name s (bytes "Marker_t") || (same_name s (bytes "Cue_point_t") || false))))))

  pub text_named : is_text_name ≡ true → after 3 ≡ text_of_name (find s all_names)
  unfolding text_of_name text_from find pick same_name lower spelled event_spelled shape event_shape
  text_named e =
      or_cases _ _ e (named s (bytes "Text_t")) (λ e1.
      or_cases _ _ e1 (named s (bytes "Copyright_t")) (λ e2.
      or_cases _ _ e2 (named s (bytes "Title_t")) (λ e3.
      or_cases _ _ e3 (named s (bytes "Instrument_name_t")) (λ e4.
      or_cases _ _ e4 (named s (bytes "Lyric_t")) (λ e5.
      or_cases _ _ e5 (named s (bytes "Marker_t")) (λ e6.
      or_cases _ _ e6 (named s (bytes "Cue_point_t")) (λ e7. cc)))))))

  pub key_named : same_name s (bytes "Key_signature") ≡ true → after 4 ≡ text_of_name (find s all_names)
  unfolding text_of_name text_from find pick same_name lower spelled event_spelled shape event_shape
  key_named e = named s (bytes "Key_signature") e

  pub none_named : is_text_name ≡ false → same_name s (bytes "Key_signature") ≡ false → nowhere ≡ text_of_name (find s all_names)
  none_named e h =
      let e1 = or_right _ _ e in
      let e2 = or_right _ _ e1 in
      let e3 = or_right _ _ e2 in
      let e4 = or_right _ _ e3 in
      let e5 = or_right _ _ e4 in
      let e6 = or_right _ _ e5 in
      sym (unnamed (or_left _ _ e) (or_left _ _ e1) (or_left _ _ e2) (or_left _ _ e3) (or_left _ _ e4) (or_left _ _ e5) (or_left _ _ e6) h)
