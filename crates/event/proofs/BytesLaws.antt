-- Bytes, numbers of a fixed count of bytes, and runs of bytes: what is laid out is read back, and what is read was laid out.
use mathlib.Core.Path.{◌≡◌, refl, sym, ap, ap₂, subst, ◌∙◌}
use Prim.Native.Nat.{ℕ, zero, suc, ◌+◌, ◌-◌, ◌*◌, ◌/◌, ◌%◌, ◌<◌, ◌≤◌}
use mathlib.Core.List.{List, [], ◌∷◌, ◌++◌, append-nil}
use native.Mathlib.Omega.{arith}
use lib.ListN.{length, take, drop, get_or, take-append-drop, length-append, length-drop}
use lib.Seq.{take-append_seam, drop-append_seam, length-take-le, drop-drop}
use borrow.Author.Tests.{leb-true, le-leb, lt-leb}
use Rattle.event.specs.Bytes.{Bytes, below, bytes_onto, big_endian, horner, number}
use Rattle.event.specs.Outcome.{ok, refused, and_then, check}
use Rattle.event.specs.Reader.{read_data, read_number}
use Rattle.event.specs.Step.{bytes_from}
use Rattle.event.proofs.OutcomeLaws.{and_then_ok, and_then_eq, check_ok, check_eq, ok_same}

-- ---- lists of bytes

pub bytes_right : (s t : List ℕ) → Bytes (s ++ t) → Bytes t
bytes_right [] t b = b
bytes_right (x ∷ s) t b = bytes_right s t b.1

pub bytes_left : (s t : List ℕ) → Bytes (s ++ t) → Bytes s
bytes_left [] t b = tt
bytes_left (x ∷ s) t b = (b.0, bytes_left s t b.1)

-- ---- numbers of k bytes

length_onto : (k n : ℕ) (l : List ℕ) → length (bytes_onto k n l) ≡ k + length l
unfolding bytes_onto
length_onto zero n l = omega arith
length_onto (suc k) n l = length_onto k (n / 256) (n % 256 ∷ l) ∙ omega arith

pub length_big_endian : (k n : ℕ) → length (big_endian k n) ≡ k
unfolding big_endian
length_big_endian k n = length_onto k n [] ∙ omega arith

-- one byte more of a list
horner_more : (k a i : ℕ) (l : List ℕ) → horner a (bytes_from (suc k) l i) ≡ horner a (bytes_from k l i) * 256 + get_or l (k + i) 0
unfolding horner
horner_more zero a i l = let e : zero + i ≡ i = omega arith in rw e refl
horner_more (suc k) a i l = let e : suc k + i ≡ k + suc i = omega arith in rw e (horner_more k (a * 256 + get_or l i 0) (suc i) l)

pub number_more : (k : ℕ) (l : List ℕ) → number (bytes_from (k + 1) l 0) ≡ number (bytes_from k l 0) * 256 + get_or l k 0
unfolding number
number_more k l = let e : k + 0 ≡ k = omega arith in let f : k + 1 ≡ suc k = omega arith in rw f (rw e at (horner_more k 0 0 l))

pub below_more : (k : ℕ) → below (k + 1) ≡ 256 * below k
below_more k = let f : k + 1 ≡ suc k = omega arith in rw f refl

pub below_four : (k : ℕ) → k < 4 → below k ≤ 16777216
below_four zero h = omega arith
below_four (suc zero) h = omega arith
below_four (suc (suc zero)) h = omega arith
below_four (suc (suc (suc zero))) h = omega arith
below_four (suc (suc (suc (suc k)))) h = omega arith

horner_onto : (k n : ℕ) (l : List ℕ) → n < below k → horner 0 (bytes_onto k n l) ≡ horner n l
unfolding bytes_onto horner
horner_onto zero n l h = ap (λ m. horner m l) (omega arith)
horner_onto (suc k) n l h = horner_onto k (n / 256) (n % 256 ∷ l) (omega arith) ∙ ap (λ m. horner m l) (omega arith)

pub number_big_endian : (k n : ℕ) → n < below k → number (big_endian k n) ≡ n
unfolding number big_endian horner
number_big_endian k n h = horner_onto k n [] h

onto_horner : (d : List ℕ) (j a : ℕ) (l : List ℕ) → Bytes d → bytes_onto (length d + j) (horner a d) l ≡ bytes_onto j a (d ++ l)
unfolding bytes_onto horner
onto_horner [] j a l b = let e : zero + j ≡ j = omega arith in ap (λ k. bytes_onto k a l) e
onto_horner (x ∷ d) j a l b =
    let e : suc (length d) + j ≡ length d + suc j = omega arith in
    let q : (a * 256 + x) / 256 ≡ a = omega arith in
    let r : (a * 256 + x) % 256 ≡ x = omega arith in
    ap (λ k. bytes_onto k (horner (a * 256 + x) d) l) e
    ∙ onto_horner d (suc j) (a * 256 + x) l b.1
    ∙ ap₂ (λ m y. bytes_onto j m (y ∷ d ++ l)) q r

pub big_endian_number : (d : List ℕ) → Bytes d → big_endian (length d) (number d) ≡ d
unfolding big_endian number bytes_onto
big_endian_number d b =
    let e : length d ≡ length d + 0 = omega arith in
    ap (λ k. bytes_onto k (horner 0 d) []) e ∙ onto_horner d 0 0 [] b ∙ simp append-nil

-- ---- a run of n bytes

pub data_read : (d r : List ℕ) → read_data (length d) (d ++ r) ≡ ok d r
unfolding read_data
data_read d r =
    check_eq 6 0 _ (le-leb (length d) (length (d ++ r)) (omega (arith, length-append d r)))
    ∙ simp (take-append_seam, drop-append_seam)

pub data_sound : (n : ℕ) (l d r : List ℕ) → read_data n l ≡ ok d r → (length d ≡ n) × (l ≡ d ++ r)
unfolding read_data
data_sound n l d r e =
    let c = check_ok _ 6 0 _ d r e in
    let h : n ≤ length l = leb-true _ _ c.0 in
    let p : take n l ≡ d = cc c.1 in
    let q : drop n l ≡ r = cc c.1 in
    (rw (← p) (length-take-le n l h), rw (← p, ← q) (sym (take-append-drop n l)))

-- ---- a number of k bytes

pub number_read : (k v : ℕ) (r : List ℕ) → v < below k → read_number k (big_endian k v ++ r) ≡ ok v r
unfolding read_number
number_read k v r h =
    let e : read_data k (big_endian k v ++ r) ≡ ok (big_endian k v) r =
    ap (λ n. read_data n (big_endian k v ++ r)) (sym (length_big_endian k v)) ∙ data_read (big_endian k v) r
    in
    and_then_eq _ e ∙ ap (λ n. ok n r) (number_big_endian k v h)

horner_fits : (d : List ℕ) (j a : ℕ) → Bytes d → a < below j → horner a d < below (length d + j)
unfolding horner
horner_fits [] j a b h = let e : zero + j ≡ j = omega arith in rw e h
horner_fits (x ∷ d) j a b h =
    let e : suc (length d) + j ≡ length d + suc j = omega arith in
    rw e (horner_fits d (suc j) (a * 256 + x) b.1 (omega arith))

-- what was read: a number that fits its bytes, these bytes, and bytes after them
pub record NumberLaid (k : ℕ) (l : List ℕ) (v : ℕ) (r : List ℕ) : Type 0 where
  pub fits : v < below k
  pub bytes : l ≡ big_endian k v ++ r
  pub after : Bytes r

-- k bytes are those of a number
pub number_fits : (k : ℕ) (d : List ℕ) → Bytes d → length d ≡ k → (number d < below k) × (big_endian k (number d) ≡ d)
unfolding number
number_fits k d b e =
    let s : length d + 0 ≡ k = omega arith in
    let n : horner 0 d < below (length d + 0) = horner_fits d 0 0 b (omega arith) in
    (subst (λ m. horner 0 d < below m) s n, ap (λ m. big_endian m (number d)) (sym e) ∙ big_endian_number d b)

pub number_sound : (k : ℕ) (l : List ℕ) (v : ℕ) (r : List ℕ) → Bytes l → read_number k l ≡ ok v r → NumberLaid k l v r
unfolding read_number
number_sound k l v r bs e =
    and_then_ok (read_data k l) _ v r e (λ d m qd q.
    let (hd, ld) = data_sound k l d m qd in
    let both : Bytes (d ++ m) = rw ld at bs in
    let (x, y) = number_fits k d (bytes_left d m both) hd in
    ok_same (number d) v m r q (λ p mr. rw (← p, ← mr) (record { fits = x; bytes = rw (y, ld); after = bytes_right d m both })))

-- ---- a slice of bytes, and a place in it

pub bytes_of : (s : List ℕ) → ((i : ℕ) → get_or s i 0 < 256) → Bytes s
bytes_of [] g = tt
bytes_of (a ∷ s) g = (g 0, bytes_of s (λ i. g (suc i)))

pub bytes_drop : (s : List ℕ) (at : ℕ) → Bytes s → Bytes (drop at s)
bytes_drop s at b = bytes_right (take at s) (drop at s) (rw (take-append-drop at s) b)

pub data_at_lem : (s : List ℕ) (p n : ℕ) → p + n ≤ length s → read_data n (drop p s) ≡ ok (take n (drop p s)) (drop (p + n) s)
unfolding read_data check
data_at_lem s p n h =
    let fit : n ≤ length (drop p s) = simp length-drop (omega arith) in
    rw (le-leb n (length (drop p s)) fit) (ap (ok (take n (drop p s))) (drop-drop n p s))

pub data_short : (s : List ℕ) (p n : ℕ) → length s - p < n → read_data n (drop p s) ≡ refused 6 0
unfolding read_data check
data_short s p n h =
    let few : length (drop p s) < n = simp length-drop h in
    rw (lt-leb n (length (drop p s)) few)

pub number_at : (s : List ℕ) (p k : ℕ) → p + k ≤ length s → read_number k (drop p s) ≡ ok (number (take k (drop p s))) (drop (p + k) s)
unfolding read_number and_then
number_at s p k h = simp (data_at_lem s p k h)

pub size_at : (s : List ℕ) (p n : ℕ) → p + n ≤ length s → length (take n (drop p s)) ≡ n
size_at s p n h = let fit : n ≤ length (drop p s) = simp length-drop (omega arith) in length-take-le n (drop p s) fit

pub bytes_take : (s : List ℕ) (n : ℕ) → Bytes s → Bytes (take n s)
bytes_take s n b = bytes_left (take n s) (drop n s) (rw (take-append-drop n s) b)
