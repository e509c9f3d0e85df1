-- Bytes that are written as zeros first and filled in later.
use mathlib.Core.Path.{◌≡◌, refl, sym, ap, ◌∙◌}
use Prim.Native.Nat.{ℕ, suc, ◌+◌, ◌<◌}
use mathlib.Core.List.{List, [], ◌∷◌, ◌++◌}
use native.Mathlib.Omega.{arith}
use lib.ListN.{length, set, length-append}
use lib.Seq.{sets, set-set, set_comm}
use Rattle.event_write.specs.Written.{Written}
use Rattle.event_write.proofs.WriteLaws.{sets_append}

-- a store before a run of stores
store_first : (ys l : List ℕ) (i j a : ℕ) → i < j → sets (set l i a) j ys ≡ set (sets l j ys) i a
store_first [] l i j a h = refl
store_first (y ∷ ys) l i j a h =
    ap (λ z. sets z (suc j) ys) (set_comm l i j a y (λ e. omega arith)) ∙ store_first ys (set l j y) i (suc j) a (omega arith)

-- as many bytes again at the same place
refill : (old new ys l : List ℕ) (i : ℕ) → length old ≡ length new → sets (sets l i (old ++ ys)) i new ≡ sets l i (new ++ ys)
refill [] [] ys l i h = refl
refill [] (b ∷ new) ys l i h = absurd (omega arith)
refill (a ∷ old) [] ys l i h = absurd (omega arith)
refill (a ∷ old) (b ∷ new) ys l i h =
    ap (λ z. sets z (suc i) new) (sym (store_first (old ++ ys) (set l i a) i (suc i) b (omega arith)) ∙ ap (λ z. sets z (suc i) (old ++ ys)) (set-set l i a b))
    ∙ refill old new ys (set l i b) (suc i) (omega arith)

-- the bytes old, which stand after xs, are filled in with new
filled_in : (xs old new ys l : List ℕ) (i : ℕ) → length old ≡ length new
    → sets (sets l i (xs ++ (old ++ ys))) (i + length xs) new ≡ sets l i (xs ++ (new ++ ys))
filled_in xs old new ys l i h =
    ap (λ z. sets z (i + length xs) new) (sym (sets_append xs (old ++ ys) l i))
    ∙ refill old new ys (sets l i xs) (i + length xs) h
    ∙ sets_append xs (new ++ ys) l i

-- the same of what was written: the gap after xs is filled, all else stays
pub patch : {old mid new : List ℕ} {at m p q : ℕ} (xs gap fill ys : List ℕ) → Written old at (xs ++ (gap ++ ys)) mid m → Written mid p fill new q
    → p ≡ at + length xs → length gap ≡ length fill → Written old at (xs ++ (fill ++ ys)) new m
patch {old} {mid} {new} {at} {m} {p} {q} xs gap fill ys a b e h =
    record {
      contents = b.contents ∙ rw (a.contents, e) (filled_in xs gap fill ys old at h);
      place = omega (arith, a.place, length-append xs (gap ++ ys), length-append gap ys, length-append xs (fill ++ ys), length-append fill ys);
    }
