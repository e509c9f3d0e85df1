-- Variable-length numbers: what is laid out is read back, what is read was laid out, and writers use the fewest bytes.
use mathlib.Core.Path.{◌≡◌, refl, sym, ap, ◌∙◌}
use Prim.Native.Nat.{ℕ, suc, ◌+◌, ◌-◌, ◌*◌, ◌/◌, ◌%◌, ◌<◌, ◌≤◌}
use mathlib.Core.List.{List, [], ◌∷◌, ◌++◌}
use native.Mathlib.Omega.{arith}
use lib.Dec.{ltb, leb}
use lib.ListN.{length}
use borrow.Author.Tests.{ltb-true, ltb-false, lt-ltb, le-ltb, leb-true, leb-false, le-leb, lt-leb}
use Rattle.event.specs.Choice.{pick}
use Rattle.event.specs.Bytes.{Bytes}
use Rattle.event.specs.Number.{Width, w1, w2, w3, w4, bytes_in, limit, vlq, least}
use Rattle.event.specs.Outcome.{ok}
use Rattle.event.specs.Reader.{read_more, read_vlq}
use Rattle.event.proofs.ChoiceLaws.{pick_true, pick_false, pick_cases, by_test}
use Rattle.event.proofs.OutcomeLaws.{not_ok}
use Rattle.event.proofs.BesideLaws.{Fewest}

-- ---- a laid-out number is read back

last : (k acc b : ℕ) (l : List ℕ) → b < 128 → read_more (suc k) acc (b ∷ l) ≡ ok (acc * 128 + b) l
unfolding read_more
last k acc b l h = rw (lt-ltb b 128 h)

lead : (k acc b : ℕ) (l : List ℕ) → read_more (suc k) acc ((128 + b) ∷ l) ≡ read_more k (acc * 128 + b) l
unfolding read_more
lead k acc b l = rw (le-ltb (128 + b) 128 (omega arith)) (ap (λ n. read_more k n l) (omega arith))

pub vlq_read : (w : Width) (v : ℕ) (rest : List ℕ) → v < limit w → read_vlq (vlq w v ++ rest) ≡ ok v rest
unfolding read_vlq vlq
vlq_read w1 v rest h = last 3 0 v rest h ∙ ap (λ n. ok n rest) (omega arith)
vlq_read w2 v rest h = lead 3 0 _ _ ∙ last 2 _ _ _ (omega arith) ∙ ap (λ n. ok n rest) (omega arith)
vlq_read w3 v rest h = lead 3 0 _ _ ∙ lead 2 _ _ _ ∙ last 1 _ _ _ (omega arith) ∙ ap (λ n. ok n rest) (omega arith)
vlq_read w4 v rest h = lead 3 0 _ _ ∙ lead 2 _ _ _ ∙ lead 1 _ _ _ ∙ last 0 _ _ _ (omega arith) ∙ ap (λ n. ok n rest) (omega arith)

-- ---- an accepted number was laid out

-- by cases: the number's last byte, or a byte before it
step : {X : Type 0} (k acc : ℕ) (l : List ℕ) (v : ℕ) (r : List ℕ) → Bytes l → read_more (suc k) acc l ≡ ok v r
    → ((b : ℕ) → b < 128 → l ≡ b ∷ r → v ≡ acc * 128 + b → X)
    → ((b : ℕ) (m : List ℕ) → b < 128 → l ≡ (128 + b) ∷ m → Bytes m → read_more k (acc * 128 + b) m ≡ ok v r → X)
    → X
unfolding read_more
step k acc [] v r bs e f g = not_ok e
step k acc (b ∷ m) v r bs e f g =
    pick_cases (ltb b 128) _ _ _ e
    (λ t q. f b (ltb-true b 128 t) (cc) (cc))
    (λ t q.
    let h128 : 128 ≤ b = ltb-false b 128 t in
    let back : 128 + (b - 128) ≡ b = omega arith in
    g (b - 128) m (omega arith) (rw back) bs.1 q)

none_left : {X : Type 0} (acc : ℕ) (l : List ℕ) (v : ℕ) (r : List ℕ) → read_more 0 acc l ≡ ok v r → X
unfolding read_more
none_left acc l v r e = not_ok e

abbrev VlqLaid : List ℕ → ℕ → List ℕ → Type 0
VlqLaid l v r = (w : Width) × (v < limit w) × (l ≡ vlq w v ++ r)

vlq_laid : (l : List ℕ) (v : ℕ) (r : List ℕ) → Bytes l → read_vlq l ≡ ok v r → VlqLaid l v r
unfolding read_vlq vlq
vlq_laid l v r bs e =
    step 3 0 l v r bs e
    (λ a ha qa p. let x : v ≡ a = omega arith in (w1, omega arith, cc))
    (λ a la ha qa bsa ea.
    step 2 _ la v r bsa ea
    (λ b hb qb p.
    let x : v / 128 ≡ a = omega arith in
    let y : v % 128 ≡ b = omega arith in
    (w2, omega arith, cc))
    (λ b lb hb qb bsb eb.
    step 1 _ lb v r bsb eb
    (λ c hc qc p.
    let x : v / 16384 ≡ a = omega arith in
    let y : v / 128 % 128 ≡ b = omega arith in
    let z : v % 128 ≡ c = omega arith in
    (w3, omega arith, cc))
    (λ c lc hc qc bsc ec.
    step 0 _ lc v r bsc ec
    (λ d hd qd p.
    let x : v / 2097152 ≡ a = omega arith in
    let y : v / 16384 % 128 ≡ b = omega arith in
    let z : v / 128 % 128 ≡ c = omega arith in
    let u : v % 128 ≡ d = omega arith in
    (w4, omega arith, cc))
    (λ d ld hd qd bsd ed. none_left _ ld v r ed))))

-- what it finds is handed on, so that it is a variable there
pub vlq_sound : {X : Type 0} (l : List ℕ) (v : ℕ) (r : List ℕ) → Bytes l → read_vlq l ≡ ok v r → ((w : Width) → v < limit w → l ≡ vlq w v ++ r → X) → X
vlq_sound l v r bs e k = let s = vlq_laid l v r bs e in k s.0 s.1 s.2

-- its bytes are as many as its width says, one at least and four at most
pub vlq_length : (w : Width) (v : ℕ) → length (vlq w v) ≡ bytes_in w
unfolding vlq
vlq_length w1 v = refl
vlq_length w2 v = refl
vlq_length w3 v = refl
vlq_length w4 v = refl

pub bytes_some : (w : Width) → 1 ≤ bytes_in w
bytes_some w1 = omega arith
bytes_some w2 = omega arith
bytes_some w3 = omega arith
bytes_some w4 = omega arith

pub bytes_most : (w : Width) → bytes_in w ≤ 4
bytes_most w1 = omega arith
bytes_most w2 = omega arith
bytes_most w3 = omega arith
bytes_most w4 = omega arith

pub vlq_size : (w : Width) (v : ℕ) → 1 ≤ length (vlq w v)
vlq_size w v = omega (arith, vlq_length w v, bytes_some w)

-- ---- the fewest bytes

pub limit_most : (w : Width) → limit w ≤ 268435456
limit_most w1 = omega arith
limit_most w2 = omega arith
limit_most w3 = omega arith
limit_most w4 = omega arith

-- a choice by a bound
within : (v n : ℕ) (x y : Width) → v ≤ n → pick (leb v n) x y ≡ x
within v n x y h = pick_true x y (le-leb v n h)

above : (v n : ℕ) (x y : Width) → n < v → pick (leb v n) x y ≡ y
above v n x y h = pick_false x y (lt-leb v n h)

-- the size, by the bounds
module _ (v : ℕ) where
  pub in_one : v ≤ 127 → least v ≡ w1
  unfolding least
  in_one h = within v _ _ _ (omega (arith, h))

  pub in_two : 127 < v → v ≤ 16383 → least v ≡ w2
  unfolding least
  in_two g h = above v _ _ _ (omega (arith, g)) ∙ within v _ _ _ (omega (arith, h))

  pub in_three : 16383 < v → v ≤ 2097151 → least v ≡ w3
  unfolding least
  in_three g h = above v _ _ _ (omega (arith, g)) ∙ above v _ _ _ (omega (arith, g)) ∙ within v _ _ _ (omega (arith, h))

  pub in_four : 2097151 < v → least v ≡ w4
  unfolding least
  in_four g = above v _ _ _ (omega (arith, g)) ∙ above v _ _ _ (omega (arith, g)) ∙ above v _ _ _ (omega (arith, g))

-- every number has one of them
pub least_cases : {X : Type 0} (v : ℕ)
    → (least v ≡ w1 → v ≤ 127 → X) → (least v ≡ w2 → 127 < v → v ≤ 16383 → X)
    → (least v ≡ w3 → 16383 < v → v ≤ 2097151 → X) → (least v ≡ w4 → 2097151 < v → X) → X
least_cases v f1 f2 f3 f4 =
    by_test (leb v 127) (λ t. let h = leb-true v 127 t in f1 (in_one v h) h) (λ n1.
    let g1 = leb-false v 127 n1 in
    by_test (leb v 16383) (λ t. let h = leb-true v 16383 t in f2 (in_two v g1 h) g1 h) (λ n2.
    let g2 = leb-false v 16383 n2 in
    by_test (leb v 2097151) (λ t. let h = leb-true v 2097151 t in f3 (in_three v g2 h) g2 h) (λ n3.
    let g3 = leb-false v 2097151 n3 in
    f4 (in_four v g3) g3)))

-- a number that fits some bytes fits the writers'
pub least_fits : (w : Width) (v : ℕ) → v < limit w → v < limit (least v)
least_fits w v h =
    least_cases v (λ e l. rw e (omega arith)) (λ e g l. rw e (omega arith)) (λ e g l. rw e (omega arith)) (λ e g. let m = limit_most w in rw e (omega arith))

-- no bytes that it fits are fewer, and as few are the writers' own
pub least_width : (w : Width) (v : ℕ) → v < limit w → (bytes_in (least v) ≤ bytes_in w) × (bytes_in w ≤ bytes_in (least v) → w ≡ least v)
least_width w1 v h =
    least_cases v (λ e l. rw e (omega arith, λ z. refl)) (λ e g l. absurd (omega arith)) (λ e g l. absurd (omega arith)) (λ e g. absurd (omega arith))
least_width w2 v h =
    least_cases v (λ e l. rw e (omega arith, λ z. absurd (omega arith))) (λ e g l. rw e (omega arith, λ z. refl)) (λ e g l. absurd (omega arith)) (λ e g. absurd (omega arith))
least_width w3 v h =
    least_cases v (λ e l. rw e (omega arith, λ z. absurd (omega arith))) (λ e g l. rw e (omega arith, λ z. absurd (omega arith))) (λ e g l. rw e (omega arith, λ z. refl))
    (λ e g. absurd (omega arith))
least_width w4 v h =
    least_cases v (λ e l. rw e (omega arith, λ z. absurd (omega arith))) (λ e g l. rw e (omega arith, λ z. absurd (omega arith)))
    (λ e g l. rw e (omega arith, λ z. absurd (omega arith))) (λ e g. rw e (omega arith, λ z. refl))

-- so their bytes are the fewest, and no others are as few
pub number_fewest : (w : Width) (v : ℕ) → v < limit w → Fewest (vlq (least v) v) (vlq w v)
number_fewest w v h =
    let (wide, only) = least_width w v h in
    let ours = vlq_length (least v) v in
    let theirs = vlq_length w v in
    record { no_more = omega (arith, wide, ours, theirs); only = λ g. ap (λ x. vlq x v) (sym (only (omega (arith, g, ours, theirs)))) }

pub least_fewest : (w : Width) (v : ℕ) → v < limit w → length (vlq (least v) v) ≤ length (vlq w v)
least_fewest w v h = (number_fewest w v h).no_more
