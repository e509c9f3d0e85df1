-- A reader leaves an end of its list, so a place in a slice says what is left; numbers and data bytes as the code is given them.
use mathlib.Core.Path.{◌≡◌, refl, sym, ap, ◌∙◌}
use Prim.Native.Nat.{ℕ, zero, suc, ◌+◌, ◌-◌, ◌*◌, ◌<◌, ◌≤◌}
use mathlib.Core.Bool.{Bool, true, false}
use mathlib.Core.List.{List, [], ◌∷◌, ◌++◌, append_assoc}
use native.Mathlib.Omega.{arith}
use lib.ListN.{length, take, drop, get_or, length-drop, length-append, drop_of_length-le, take-append-drop}
use lib.Seq.{drop-cons, drop_at, drop-drop}
use lib.Dec.{leb, ltb}
use borrow.Author.Tests.{le-leb, lt-leb}
use Rattle.event.specs.Choice.{pick}
use Rattle.event.proofs.ChoiceLaws.{by_test}
use Rattle.event.specs.Outcome.{Outcome, ok, refused, check}
use Rattle.event.specs.Reader.{read_more, read_vlq, data_byte}
use Rattle.event.specs.Step.{number_step, byte_step}
use Rattle.event.specs.declared.NumberRead.{NumberRead}
use Rattle.std.specs.Prelude.{Ok, Err}

-- an accepted outcome leaves an end of l
abbrev pub Left : {A : Type 0} → List ℕ → Outcome A → Type 0
Left l (ok a r) = (pre : List ℕ) × (l ≡ pre ++ r)
Left l (refused n p) = Unit {0}

pub check_left : {A : Type 0} (l : List ℕ) (t : Bool) (n p : ℕ) (m : Outcome A) → Left l m → Left l (check t n p m)
unfolding check
check_left l true n p m h = h
check_left l false n p m h = tt

pub pick_left : {A : Type 0} (l : List ℕ) (t : Bool) (a b : Outcome A) → Left l a → Left l b → Left l (pick t a b)
unfolding pick
pick_left l true a b h k = h
pick_left l false a b h k = k

pub cons_left : {A : Type 0} (l : List ℕ) (b : ℕ) (m : Outcome A) → Left l m → Left (b ∷ l) m
cons_left l b (ok a r) h = (b ∷ h.0, ap (λ z. b ∷ z) h.1)
cons_left l b (refused n p) h = tt

pub more_left : (k acc : ℕ) (l : List ℕ) → Left l (read_more k acc l)
unfolding read_more
more_left zero acc l = tt
more_left (suc k) acc [] = tt
more_left (suc k) acc (b ∷ l) = pick_left (b ∷ l) (ltb b 128) _ _ (b ∷ [], refl) (cons_left l b (read_more k (acc * 128 + (b - 128)) l) (more_left k (acc * 128 + (b - 128)) l))

pub vlq_left : (l : List ℕ) → Left l (read_vlq l)
unfolding read_vlq
vlq_left l = more_left 4 0 l

pub byte_left : (l : List ℕ) → Left l (data_byte l)
unfolding data_byte
byte_left [] = tt
byte_left (a ∷ l) = check_left (a ∷ l) (leb a 127) 9 0 _ (a ∷ [], refl)

-- what is left of a part of s is the part of s from its place on
pub place : (s pre r : List ℕ) (at : ℕ) → drop at s ≡ pre ++ r → drop (length s - length r) s ≡ r
place s pre r at e =
    let whole : (take at s ++ pre) ++ r ≡ s = append_assoc (take at s) pre r ∙ ap (λ z. take at s ++ z) (sym e) ∙ take-append-drop at s in
    let size : length (take at s ++ pre) ≡ length s - length r = omega (arith, simp length-append at (ap length whole), length-append (take at s) pre) in
    ap (drop (length s - length r)) (sym whole) ∙ drop_at (take at s ++ pre) r (length s - length r) size

pub place_back : (s : List ℕ) (q : ℕ) → q ≤ length s → length s - length (drop q s) ≡ q
place_back s q h = simp length-drop (omega arith)

-- what the code was given, as the reader's answer
found_at : (s : List ℕ) (at v p w : ℕ) (r : List ℕ) → Left (drop at s) (ok w r) → w ≡ v → length s - length r ≡ p → (ok w r ≡ ok v (drop p s)) × (p ≤ length s)
found_at s at v p w r h vw pp =
    let back : drop (length s - length r) s ≡ r = place s h.0 r at h.1 in
    (cc, omega arith)

number_found : (x : ℕ) (s : List ℕ) (at : ℕ) (f : NumberRead) (m : Outcome ℕ) → Left (drop at s) m → number_step (length s) x m ≡ Ok f → (m ≡ ok f.value (drop f.next s)) × (f.next ≤ length s)
unfolding number_step
number_found x s at f (ok w r) h e =
    let same : record { value = w; next = length s - length r; padding = x } ≡ f = cc in
    found_at s at f.value f.next w r h (ap (λ z. z.value) same) (ap (λ z. z.next) same)
number_found x s at f (refused k z) h e = let w : ◌≡◌ {A = ℕ} 0 1 = cc in absurd (omega arith)

pub number_came : (x : ℕ) (s : List ℕ) (at : ℕ) (f : NumberRead) → number_step (length s) x (read_vlq (drop at s)) ≡ Ok f → (read_vlq (drop at s) ≡ ok f.value (drop f.next s)) × (f.next ≤ length s)
number_came x s at f e = number_found x s at f (read_vlq (drop at s)) (vlq_left (drop at s)) e

-- and the count beside it is the one that was asked for
pub number_told : {f : NumberRead} (x n : ℕ) (m : Outcome ℕ) → number_step n x m ≡ Ok f → x ≡ f.padding
unfolding number_step
number_told {f} x n (ok w r) e = let same : record { value = w; next = n - length r; padding = x } ≡ f = cc in ap (λ z. z.padding) same
number_told x n (refused k z) e = let w : ◌≡◌ {A = ℕ} 0 1 = cc in absurd (omega arith)

pub number_bad : (x n k : ℕ) (m : Outcome ℕ) → number_step n x m ≡ Err k → (z : ℕ) × (m ≡ refused k z)
unfolding number_step
number_bad x n k (ok v r) e = let w : ◌≡◌ {A = ℕ} 0 1 = cc in absurd (omega arith)
number_bad x n k (refused j z) e = (z, cc)

-- the byte that came is the one at the place, and the rest begins one on
byte_tail : (l : List ℕ) (w : ℕ) (r : List ℕ) → data_byte l ≡ ok w r → (r ≡ drop 1 l) × (0 < length l)
unfolding data_byte check
byte_tail [] w r e = let z : ◌≡◌ {A = ℕ} 0 1 = cc in absurd (omega arith)
byte_tail (a ∷ l) w r e =
    by_test (leb a 127) (λ q. let z : ok a l ≡ ok w r = rw q at e in (cc, omega arith))
    (λ q. let z : ◌≡◌ {A = Outcome ℕ} (refused 9 0) (ok w r) = rw q at e in let y : ◌≡◌ {A = ℕ} 0 1 = cc in absurd (omega arith))

byte_rest : (s : List ℕ) (at w : ℕ) (r : List ℕ) → data_byte (drop at s) ≡ ok w r → (r ≡ drop (at + 1) s) × (at < length s)
byte_rest s at w r e =
    let (same, more) = byte_tail (drop at s) w r e in
    (same ∙ drop-drop 1 at s, omega (arith, more, length-drop at s))

byte_found : (s : List ℕ) (at v : ℕ) (m : Outcome ℕ) → data_byte (drop at s) ≡ m → byte_step m ≡ Ok v → (m ≡ ok v (drop (at + 1) s)) × (at < length s)
unfolding byte_step
byte_found s at v (ok w r) m e = let same : w ≡ v = cc in let (rest, h) = byte_rest s at w r m in (rw (same, rest) refl, h)
byte_found s at v (refused k z) m e = let w : ◌≡◌ {A = ℕ} 0 1 = cc in absurd (omega arith)

pub byte_came : (s : List ℕ) (at v : ℕ) → byte_step (data_byte (drop at s)) ≡ Ok v → (data_byte (drop at s) ≡ ok v (drop (at + 1) s)) × (at < length s)
byte_came s at v e = byte_found s at v (data_byte (drop at s)) refl e

pub byte_bad : (k : ℕ) (m : Outcome ℕ) → byte_step m ≡ Err k → (z : ℕ) × (m ≡ refused k z)
unfolding byte_step
byte_bad k (ok v r) e = let w : ◌≡◌ {A = ℕ} 0 1 = cc in absurd (omega arith)
byte_bad k (refused j z) e = (z, cc)

-- the cases of a data byte
pub byte_none : (s : List ℕ) (at : ℕ) → length s ≤ at → byte_step (data_byte (drop at s)) ≡ Err 6
unfolding byte_step data_byte
byte_none s at h = rw (drop_of_length-le s h)

pub byte_low : (s : List ℕ) (at : ℕ) → at < length s → get_or s at 0 < 128 → byte_step (data_byte (drop at s)) ≡ Ok (get_or s at 0)
unfolding byte_step data_byte check
byte_low s at h k = rw (drop-cons s at 0 h, le-leb (get_or s at 0) 127 (omega arith))

pub byte_high : (s : List ℕ) (at : ℕ) → at < length s → 128 ≤ get_or s at 0 → byte_step (data_byte (drop at s)) ≡ Err 9
unfolding byte_step data_byte check
byte_high s at h k = rw (drop-cons s at 0 h, lt-leb (get_or s at 0) 127 k)
