-- Names compared, case ignored.
use Rattle.std.proofs.Common.{◌≡◌, ℕ, suc, Bool, true, false, List, [], ◌∷◌, length, map, refl, sym, ap, arith, ◌↔◌, IsTrue}
use Rattle.std.proofs.Math.Bool.{and-false}
use lib.Dec.{eqb}
use borrow.Author.Tests.{eq-eqb, eqb-true}
use Rattle.std.specs.Char.{to_ascii_lowercase}
use Rattle.event.specs.Choice.{pick}
use Rattle.event.proofs.ChoiceLaws.{by_test, and_both}
use Rattle.midicsv.specs.Names.{lower, same_name}

-- names of different lengths are never the same
pub lengths_apart : (s t : List ℕ) → (length s ≡ length t → ⊥) → same_name s t ≡ false
unfolding same_name
lengths_apart [] [] h = absurd (h refl)
lengths_apart [] (d ∷ t) h = refl
lengths_apart (c ∷ s) [] h = refl
lengths_apart (c ∷ s) (d ∷ t) h = rw (lengths_apart s t (λ q. h (ap suc q)), and-false (eqb (lower c) (lower d)))

-- the library's small letter is that of the names
small : (c : ℕ) → to_ascii_lowercase c ≡ lower c
unfolding lower pick
small c = grind arith

map_same : (s t : List ℕ) → map to_ascii_lowercase s ≡ map to_ascii_lowercase t → same_name s t ≡ true
unfolding same_name
map_same [] [] h = refl
map_same [] (d ∷ t) h = cc
map_same (c ∷ s) [] h = cc
map_same (c ∷ s) (d ∷ t) h =
    let e : to_ascii_lowercase c ≡ to_ascii_lowercase d = cc in
    rw (sym (small c), sym (small d), eq-eqb _ _ e) (map_same s t cc)

same_map : (s t : List ℕ) → same_name s t ≡ true → map to_ascii_lowercase s ≡ map to_ascii_lowercase t
unfolding same_name
same_map [] [] h = refl
same_map [] (d ∷ t) h = cc
same_map (c ∷ s) [] h = cc
same_map (c ∷ s) (d ∷ t) h =
    let (here, others) = and_both (eqb (lower c) (lower d)) (same_name s t) h in
    let e : lower c ≡ lower d = eqb-true _ _ here in
    let l : map to_ascii_lowercase s ≡ map to_ascii_lowercase t = same_map s t others in
    rw (small c, small d, e, l)

pub same_told : (r : Bool) (s t : List ℕ) → (IsTrue r ↔ (map to_ascii_lowercase s ≡ map to_ascii_lowercase t)) → r ≡ same_name s t
same_told true s t h = sym (map_same s t (h.0 refl))
same_told false s t h = by_test (same_name s t) (λ e. let z : false ≡ true = h.1 (same_map s t e) in cc) (λ e. sym e)
