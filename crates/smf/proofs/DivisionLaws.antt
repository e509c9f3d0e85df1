-- A division and its bits: each gives the other back; the bits of either kind lie between bounds; and what the code does with them.
use mathlib.Core.Path.{◌≡◌, refl, ap, ◌∙◌}
use Prim.Native.Nat.{ℕ, suc, ◌+◌, ◌-◌, ◌*◌, ◌/◌, ◌%◌, ◌<◌, ◌≤◌}
use mathlib.Core.Bool.{Bool, true, false, ◌&&◌}
use mathlib.Core.Logic.{◌⊎◌, inl, inr, ⊎_elim}
use native.Mathlib.Omega.{arith}
use lib.Dec.{leb, eqb}
use borrow.Author.Tests.{leb-true, le-leb, lt-leb, eqb-true, eqb-false, ne_eqb}
use Rattle.event.specs.Choice.{pick}
use Rattle.event.proofs.ChoiceLaws.{by_test, or_cases, and_both}
use Rattle.smf.specs.Division.{Division, pulses, frames, rate_ok, in_range, LawfulDivision, bits, division_of, division_ok}
use Rattle.smf.specs.Step.{division_step, division_from}
use Rattle.smf.specs.declared.Division
use Rattle.smf.specs.declared.Division.TheVariants.{Pulses, Frames}

-- ---- what the range says

rate_between : (r : ℕ) → rate_ok r ≡ true → (24 ≤ r) × (r ≤ 30)
unfolding rate_ok
rate_between r e =
    or_cases (eqb r 24) _ e (λ t. let h = eqb-true r 24 t in (omega arith, omega arith)) (λ e1.
    or_cases (eqb r 25) _ e1 (λ t. let h = eqb-true r 25 t in (omega arith, omega arith)) (λ e2.
    or_cases (eqb r 29) _ e2 (λ t. let h = eqb-true r 29 t in (omega arith, omega arith)) (λ t. let h = eqb-true r 30 t in (omega arith, omega arith))))

pulses_between : (n : ℕ) → LawfulDivision (pulses n) → (1 ≤ n) × (n ≤ 32767)
unfolding LawfulDivision in_range
pulses_between n e = let (a, b) = and_both (leb 1 n) _ e in (leb-true 1 n a, leb-true n 32767 b)

frames_between : (r t : ℕ) → LawfulDivision (frames r t) → (24 ≤ r) × (r ≤ 30) × (1 ≤ t) × (t ≤ 255)
unfolding LawfulDivision in_range
frames_between r t e =
    let (a, b) = and_both (rate_ok r) _ e in
    let (c, d) = and_both (leb 1 t) _ b in
    let (lo, hi) = rate_between r a in
    (lo, hi, leb-true 1 t c, leb-true t 255 d)

-- ---- a division from its bits, and bits from their division

-- the bits of frames, taken apart
frames_apart : (r t : ℕ) → 24 ≤ r → r ≤ 30 → t ≤ 255
    → (32767 < (256 - r) * 256 + t) × (256 - ((256 - r) * 256 + t) / 256 ≡ r) × (((256 - r) * 256 + t) % 256 ≡ t)
frames_apart r t lo hi h =
    let e : ((256 - r) * 256 + t) / 256 ≡ 256 - r = omega arith in
    (omega arith, rw e (omega arith), omega arith)

pub division_back : (d : Division) → LawfulDivision d → division_of (bits d) ≡ d
unfolding division_of bits pick
division_back (pulses n) h = rw (le-leb n 32767 (pulses_between n h).1) refl
division_back (frames r t) h =
    let (lo, hi, _, few) = frames_between r t h in
    let (a, b, c) = frames_apart r t lo hi few in
    rw (lt-leb ((256 - r) * 256 + t) 32767 a, b, c) refl

pub division_yes : (d : Division) → LawfulDivision d → division_ok (bits d) ≡ true
unfolding division_ok LawfulDivision
division_yes d h = rw (division_back d h) h

pub division_is : (n : ℕ) → division_ok n ≡ true → LawfulDivision (division_of n)
unfolding division_ok LawfulDivision
division_is n h = h

pub bits_back : (n : ℕ) → n < 65536 → bits (division_of n) ≡ n
unfolding division_of bits pick
bits_back n h =
    by_test (leb n 32767)
    (λ t. rw t refl)
    (λ t. let back : 256 - (256 - n / 256) ≡ n / 256 = omega arith in rw (t, back) (omega arith))

-- where the bits of each kind lie
abbrev pub EitherKind : ℕ → Type 0
EitherKind n = ((1 ≤ n) × (n ≤ 32767)) ⊎ ((57856 < n) × (n ≤ 59647))

pub division_kinds : (n : ℕ) → division_ok n ≡ true → EitherKind n
unfolding division_ok division_of pick LawfulDivision
division_kinds n e =
    by_test (leb n 32767)
    (λ t. inl (pulses_between n (rw t at e)))
    (λ t. let (lo, hi, some, few) = frames_between (256 - n / 256) (n % 256) (rw t at e) in inr (omega arith, omega arith))

pub division_small : (n : ℕ) → division_ok n ≡ true → n < 65536
division_small n e = ⊎_elim (λ h. omega arith) (λ h. omega arith) (division_kinds n e)

pub division_fits : (d : Division) → LawfulDivision d → bits d < 65536
division_fits d h = division_small (bits d) (division_yes d h)

-- ---- the code's division

pub division_same : (d : Division) → division_from (division_step d) ≡ d
unfolding division_from division_step
division_same (pulses n) = refl
division_same (frames r t) = refl

and_true : (a : Bool) → a ≡ (a && true)
and_true true = refl
and_true false = refl

low_in : (n : ℕ) → n ≤ 32767 → leb 1 n ≡ in_range (pulses n)
unfolding in_range
low_in n h = rw (le-leb n 32767 h) (and_true (leb 1 n))

pub low_ok : (n : ℕ) → n ≤ 32767 → leb 1 n ≡ division_ok n
unfolding division_ok division_of pick
low_ok n h = rw (le-leb n 32767 h) (low_in n h)

pub high_ok : (n : ℕ) → 32767 < n → rate_ok (256 - n / 256) ≡ true → leb 1 (n % 256) ≡ division_ok n
unfolding division_ok division_of in_range pick
high_ok n h e = rw (lt-leb n 32767 h, e, le-leb (n % 256) 255 (omega arith)) (and_true (leb 1 (n % 256)))

pub high_not : (n : ℕ) → 32767 < n → rate_ok (256 - n / 256) ≡ false → false ≡ division_ok n
unfolding division_ok division_of in_range pick
high_not n h e = rw (lt-leb n 32767 h, e) refl

-- the high bytes of the four rates, two and two in a row, and any other
rate_pair : (a q : ℕ) → rate_ok (256 - a) ≡ true → rate_ok (256 - suc a) ≡ true → a ≤ q → q < a + 2 → rate_ok (256 - q) ≡ true
rate_pair a q h k lo hi =
    by_test (eqb q a)
    (λ t. ap (λ z. rate_ok (256 - z)) (eqb-true q a t) ∙ h)
    (λ t. let e : q ≡ suc a = omega (arith, eqb-false q a t) in ap (λ z. rate_ok (256 - z)) e ∙ k)

pub rate_low : (q : ℕ) → 0xE2 ≤ q → q < 0xE4 → rate_ok (256 - q) ≡ true
unfolding rate_ok
rate_low q lo hi = rate_pair 0xE2 q refl refl lo hi

pub rate_high : (q : ℕ) → 0xE7 ≤ q → q < 0xE9 → rate_ok (256 - q) ≡ true
unfolding rate_ok
rate_high q lo hi = rate_pair 0xE7 q refl refl lo hi

pub rate_none : (q : ℕ) → (q ≡ 0xE2 → ⊥) → (q ≡ 0xE3 → ⊥) → (q ≡ 0xE7 → ⊥) → (q ≡ 0xE8 → ⊥) → rate_ok (256 - q) ≡ false
unfolding rate_ok
rate_none q a b c d =
    rw (ne_eqb (256 - q) 24 (λ e. d (omega arith)), ne_eqb (256 - q) 25 (λ e. c (omega arith)), ne_eqb (256 - q) 29 (λ e. b (omega arith)), ne_eqb (256 - q) 30 (λ e. a (omega arith))) refl

pub pulses_are : (n : ℕ) → n ≤ 32767 → Pulses n ≡ division_step (division_of n)
unfolding division_of division_step pick
pulses_are n h = rw (le-leb n 32767 h) refl

pub frames_are : (n : ℕ) → 32767 < n → Frames (256 - n / 256) (n % 256) ≡ division_step (division_of n)
unfolding division_of division_step pick
frames_are n h = rw (lt-leb n 32767 h) refl

module _ (d : Rattle.smf.specs.declared.Division.Division) where
  pub bits_pulses : (n : ℕ) → d ≡ Pulses n → n ≡ bits (division_from d)
  unfolding bits division_from
  bits_pulses n e = rw e refl

  pub bits_frames : (r t : ℕ) → d ≡ Frames r t → (256 - r) * 256 + t ≡ bits (division_from d)
  unfolding bits division_from
  bits_frames r t e = rw e refl

  pub frames_small : (r t : ℕ) → d ≡ Frames r t → LawfulDivision (division_from d) → (24 ≤ r) × (r ≤ 30) × (1 ≤ t) × (t ≤ 255)
  unfolding division_from
  frames_small r t e h = frames_between r t (rw e at h)
