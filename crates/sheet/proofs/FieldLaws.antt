-- A cell's content as a field: what is left to write, and how it is in quotes.
use mathlib.Core.Path.{◌≡◌, refl, sym, ap, subst, ◌∙◌}
use Prim.Native.Nat.{ℕ, ◌*◌, ◌≤◌}
use mathlib.Core.Bool.{Bool, true, false, ◌||◌, not}
use mathlib.Core.List.{List, [], ◌∷◌, ◌++◌}
use native.Mathlib.Omega.{arith}
use lib.ListN.{length, drop, get_or}
use lib.Dec.{eqb}
use borrow.Author.Tests.{ne_eqb, eqb-true}
use Rattle.std.specs.List.{list_any}
use Rattle.event.specs.Choice.{pick}
use Rattle.event.proofs.ChoiceLaws.{by_test, pick_true, pick_false}
use Rattle.event_write.specs.Written.{Written}
use Rattle.event_write.proofs.WriteLaws.{then}
use Rattle.sheet_table.specs.Cut.{has}
use Rattle.sheet_table.specs.Table.{doubled, requote, plain_cell}
use Rattle.sheet.specs.Code.Seen.{singled, seen, Passed}
use Rattle.sheet.specs.Code.Cell.{content_of}
use Rattle.sheet.proofs.SeenLaws.{seen_past}
use Rattle.sheet.proofs.BlankLaws.{content_seen}
use Rattle.sheet_table.proofs.CutLaws.{or_left, or_right}
use Rattle.sheet.proofs.CutLaws.{Paired, doubled_append}

-- ---- a comma or a quote among the bytes

abbrev Needy : List ℕ → Bool
Needy l = has 44 l || has 34 l

needy_comma : (x : ℕ) (l : List ℕ) → x ≡ 44 → Needy (x ∷ l) ≡ true
unfolding has
needy_comma x l e = rw e refl

needy_quote : (x : ℕ) (l : List ℕ) → x ≡ 34 → Needy (x ∷ l) ≡ true
unfolding has
needy_quote x l e = rw e (or_true (has 44 l))
  where
    or_true : (b : Bool) → (b || true) ≡ true
    or_true true = refl
    or_true false = refl

needy_other : (x : ℕ) (l : List ℕ) → eqb x 44 ≡ false → eqb x 34 ≡ false → Needy (x ∷ l) ≡ Needy l
unfolding has
needy_other x l n m = rw (n, m) refl

or_four : (a b c d : Bool) → ((a || b) || (c || d)) ≡ ((a || c) || (b || d))
or_four true true c d = refl
or_four true false c d = refl
or_four false true true d = refl
or_four false true false d = refl
or_four false false c d = refl

pub any_needy : (l : List ℕ) → list_any (λ c. eqb c 44 || eqb c 34) l ≡ Needy l
unfolding has
any_needy [] = refl
any_needy (c ∷ l) = rw (any_needy l) (or_four (eqb c 44) (eqb c 34) (has 44 l) (has 34 l))

-- what `contains` answers
pub has_any : (c : ℕ) (l : List ℕ) → list_any (λ x. eqb x c) l ≡ has c l
unfolding has
has_any c [] = refl
has_any c (x ∷ l) = rw (has_any c l)

-- ---- the bytes that are left to write, each quote twice where that is asked

abbrev pub Left : Bool → Bool → List ℕ → ℕ → List ℕ
Left twice double l p = pick double (doubled (seen twice (drop p l))) (seen twice (drop p l))

one_more : (double : Bool) (x : ℕ) (s : List ℕ) → pick double (doubled (x ∷ s)) (x ∷ s) ≡ pick double (doubled (x ∷ [])) (x ∷ []) ++ pick double (doubled s) s
unfolding pick
one_more true x s = doubled_append (x ∷ []) s
one_more false x s = refl

pub left_more : {twice : Bool} {l : List ℕ} {p n : ℕ} (double : Bool) → Passed twice l p n
    → Left twice double l p ≡ pick double (doubled (get_or l p 0 ∷ [])) (get_or l p 0 ∷ []) ++ Left twice double l n
left_more {twice} {l} {p} {n} double q = ap (λ z. pick double (doubled z) z) q.rest ∙ one_more double (get_or l p 0) (seen twice (drop n l))

pub left_none : (twice double : Bool) (l : List ℕ) (p : ℕ) → length l ≤ p → Left twice double l p ≡ []
unfolding pick doubled
left_none twice true l p h = ap doubled (seen_past twice l p h)
left_none twice false l p h = seen_past twice l p h

doubled_length : (l : List ℕ) → length (doubled l) ≤ 2 * length l
unfolding doubled pick
doubled_length [] = omega arith
doubled_length (x ∷ l) = let h = doubled_length l in by_test (eqb x 34) (λ t. rw t (omega arith)) (λ t. rw t (omega arith))

singled_length : (l : List ℕ) → length (singled l) ≤ length l
unfolding singled pick
singled_length [] = omega arith
singled_length (c ∷ []) = omega arith
singled_length (c ∷ d ∷ l) =
    let g = singled_length l in
    let h = singled_length (d ∷ l) in
    by_test (eqb c 34) (λ t. rw t (omega arith)) (λ t. rw t (omega arith))

seen_length : (twice : Bool) (l : List ℕ) → length (seen twice l) ≤ length l
unfolding seen pick
seen_length true l = singled_length l
seen_length false l = omega arith

pub left_length : (twice double : Bool) (l : List ℕ) → length (Left twice double l 0) ≤ 2 * length l
unfolding pick
left_length twice true l = omega (arith, doubled_length (seen twice l), seen_length twice l)
left_length twice false l = omega (arith, seen_length twice l)

-- a byte as it is written
pub one_plain : (double : Bool) (x : ℕ) → double ≡ false → x ∷ [] ≡ pick double (doubled (x ∷ [])) (x ∷ [])
one_plain double x e = sym (pick_false _ _ e)

pub one_other : (double : Bool) (x : ℕ) → (x ≡ 34 → ⊥) → x ∷ [] ≡ pick double (doubled (x ∷ [])) (x ∷ [])
unfolding doubled pick
one_other true x n = sym (pick_false _ _ (ne_eqb x 34 n))
one_other false x n = refl

pub one_quote : (double : Bool) (x : ℕ) → double ≡ true → x ≡ 34 → 34 ∷ 34 ∷ [] ≡ pick double (doubled (x ∷ [])) (x ∷ [])
unfolding doubled pick
one_quote double x d e = rw (d, e) refl

-- ---- a content with no comma and no quote is its bytes; with one it has one however it is read

singled_plain : (l : List ℕ) → Needy l ≡ false → singled l ≡ l
unfolding singled has
singled_plain [] n = refl
singled_plain (c ∷ []) n = refl
singled_plain (c ∷ d ∷ l) n =
    let f = or_left (has 44 (c ∷ d ∷ l)) (has 34 (c ∷ d ∷ l)) n in
    let g = or_right (has 44 (c ∷ d ∷ l)) (has 34 (c ∷ d ∷ l)) n in
    let e = or_left (eqb c 34) (has 34 (d ∷ l)) g in
    let m : Needy (d ∷ l) ≡ false = sym (needy_other c (d ∷ l) (or_left (eqb c 44) (has 44 (d ∷ l)) f) e) ∙ n in
    pick_false _ _ e ∙ ap (λ z. c ∷ z) (singled_plain (d ∷ l) m)

singled_needy : (l : List ℕ) → Needy (singled l) ≡ Needy l
unfolding singled
singled_needy [] = refl
singled_needy (c ∷ []) = refl
singled_needy (c ∷ d ∷ l) =
    by_test (eqb c 34)
    (λ e. ap Needy (pick_true _ _ e) ∙ needy_quote c (singled l) (eqb-true c 34 e) ∙ sym (needy_quote c (d ∷ l) (eqb-true c 34 e)))
    (λ e.
    ap Needy (pick_false _ _ e)
    ∙ by_test (eqb c 44)
    (λ k. needy_comma c (singled (d ∷ l)) (eqb-true c 44 k) ∙ sym (needy_comma c (d ∷ l) (eqb-true c 44 k)))
    (λ k. needy_other c (singled (d ∷ l)) k e ∙ singled_needy (d ∷ l) ∙ sym (needy_other c (d ∷ l) k e)))

seen_plain : (twice : Bool) (l : List ℕ) → Needy l ≡ false → seen twice l ≡ l
unfolding seen pick
seen_plain true l n = singled_plain l n
seen_plain false l n = refl

seen_needy : (twice : Bool) (l : List ℕ) → Needy (seen twice l) ≡ Needy l
unfolding seen pick
seen_needy true l = singled_needy l
seen_needy false l = refl

-- ---- a cell

-- as a field: in quotes where it is the text
abbrev FieldOf : Bool → Bool → Bool → List ℕ → List ℕ
FieldOf twice quoted text l = pick text (requote (content_of quoted (seen twice l))) (plain_cell (content_of quoted (seen twice l)))

pub field_plain : (twice quoted text : Bool) (l : List ℕ) → text ≡ false → Needy l ≡ false → l ≡ FieldOf twice quoted text l
unfolding plain_cell
field_plain twice quoted text l t n =
    let e : content_of quoted (seen twice l) ≡ l = ap (content_of quoted) (seen_plain twice l n) ∙ content_seen quoted l ∙ seen_plain quoted l n in
    sym (pick_false _ _ t ∙ ap plain_cell e ∙ pick_false _ _ n)

pub field_text : (twice quoted text : Bool) (l : List ℕ) → text ≡ true → requote (content_of quoted (seen twice l)) ≡ FieldOf twice quoted text l
field_text twice quoted text l t = sym (pick_true _ _ t)

pub field_needy : (twice quoted text : Bool) (l : List ℕ) → text ≡ false → Needy l ≡ true → requote (content_of quoted (seen twice l)) ≡ FieldOf twice quoted text l
unfolding plain_cell
field_needy twice quoted text l t n =
    let e : Needy (content_of quoted (seen twice l)) ≡ true = ap Needy (content_seen quoted (seen twice l)) ∙ seen_needy quoted (seen twice l) ∙ seen_needy twice l ∙ n in
    sym (pick_false _ _ t ∙ pick_true _ _ e)

-- in quotes: of a quoted cell the bytes as they are, else each quote twice
requoted : (twice quoted : Bool) (l : List ℕ) → (quoted ≡ true → Paired (seen twice l))
    → (34 ∷ []) ++ (pick (not quoted) (doubled (seen twice l)) (seen twice l) ++ (34 ∷ [])) ≡ requote (content_of quoted (seen twice l))
unfolding requote content_of pick
requoted twice true l p = ap (λ z. 34 ∷ (z ++ (34 ∷ []))) (sym (p refl))
requoted twice false l p = refl

pub written_quoted : {old one two new : List ℕ} {at a b next : ℕ} (twice quoted : Bool) (l : List ℕ) → (quoted ≡ true → Paired (seen twice l))
    → Written old at (34 ∷ []) one a → Written one a (Left twice (not quoted) l 0) two b → Written two b (34 ∷ []) new next
    → Written old at (requote (content_of quoted (seen twice l))) new next
written_quoted {old} {one} {two} {new} {at} {a} {b} {next} twice quoted l p x y z = subst (λ w. Written old at w new next) (requoted twice quoted l p) (then x (then y z))
