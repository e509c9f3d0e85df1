-- A quoted text from a place of the line on: one character more, and the end of the line.
use mathlib.Core.Path.{◌≡◌, refl, sym}
use Prim.Native.Nat.{ℕ, suc, ◌+◌, ◌-◌, ◌<◌, ◌≤◌}
use native.Mathlib.Omega.{arith}
use mathlib.Core.List.{List, []}
use native.Mathlib.Numerals.{add-one}
use lib.ListN.{length, get_or, take, drop, length-drop, drop_of_length-le}
use lib.Seq.{drop-cons, get_or-drop}
use Rattle.std.proofs.lemmas.List.{take_all}
use Rattle.midicsv.specs.ReadField.{Seen, plain, a_quote, a_slash, octal1, octal2}
use Rattle.midicsv_scan.specs.Unquoted.{unquoted}
use Rattle.midicsv_record.specs.TextState.{seen_as, step_as, Gives}
use Rattle.midicsv_record.specs.declared.TextState.{TextState}
use Rattle.midicsv_record.specs.declared.TextStep.{TextStep}

unquoted_nil : (s : Seen) → unquoted [] s ≡ []
unfolding unquoted
unquoted_nil plain = refl
unquoted_nil a_quote = refl
unquoted_nil a_slash = refl
unquoted_nil (octal1 n) = refl
unquoted_nil (octal2 n) = refl

pub unquoted_past : (l : List ℕ) (i : ℕ) (s : Seen) → length l ≤ i → unquoted (drop i l) s ≡ []
unquoted_past l i s h = rw (drop_of_length-le l h) (unquoted_nil s)

pub unquoted_on : (l : List ℕ) (i : ℕ) (p : TextState) (r : TextStep) → i < length l → Gives p (get_or l i 0) r → unquoted (drop i l) (seen_as p) ≡ step_as r (drop (i + 1) l)
unquoted_on l i p r h g = rw (add-one i, drop-cons l i 0 h) (sym (g (drop (suc i) l)))

-- ---- the same of the part of the line from start on

abbrev pub part : List ℕ → ℕ → List ℕ
part l start = take (length l - start) (drop start l)

part_is : (l : List ℕ) (start : ℕ) → part l start ≡ drop start l
part_is l start = take_all (length l - start) (drop start l) (omega (arith, length-drop start l))

pub quoted_turn : (l : List ℕ) (start i : ℕ) (p : TextState) (r : TextStep) → i < length (part l start) → Gives p (get_or (part l start) i 0) r
    → unquoted (drop (start + i) l) (seen_as p) ≡ step_as r (drop (start + (i + 1)) l)
quoted_turn l start i p r h g =
    let inside : i < length (drop start l) = rw (part_is l start) at h in
    let same : get_or (part l start) i 0 ≡ get_or l (start + i) 0 = rw (part_is l start) (get_or-drop start l i 0) in
    let on : start + (i + 1) ≡ start + i + 1 = omega arith in
    rw on (unquoted_on l (start + i) p r (omega (arith, inside, length-drop start l)) (rw same at g))

pub quoted_end : (l : List ℕ) (start i : ℕ) (s : Seen) → length (part l start) ≤ i → unquoted (drop (start + i) l) s ≡ []
quoted_end l start i s h =
    let out : length (drop start l) ≤ i = rw (part_is l start) at h in
    unquoted_past l (start + i) s (omega (arith, out, length-drop start l))
