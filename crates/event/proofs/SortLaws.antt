-- A table that agrees with the chain of comparisons, and what the number of a byte says of the byte.
use mathlib.Core.Path.{◌≡◌, refl}
use Prim.Native.Nat.{ℕ, ◌<◌, ◌≤◌}
use mathlib.Core.Bool.{Bool, true, false}
use mathlib.Core.List.{List}
use native.Mathlib.Omega.{arith}
use lib.ListN.{get_or}
use lib.Dec.{leb, eqb}
use borrow.Author.Tests.{leb-true, leb-false, eqb-true, eqb-false}
use Rattle.event.specs.Choice.{pick}
use Rattle.event.specs.Outcome.{refused, check}
use Rattle.event.specs.Reader.{one_data, two_data, one_byte, channel_data, is_channel}
use Rattle.event.specs.Sort.{sort_of, sort_table}
use Rattle.event.proofs.ChoiceLaws.{by_test}
use Rattle.event.proofs.FrameLaws.{channel_is}
use Rattle.event.proofs.KindLaws.{one_low, one_yes, one_high}
use Rattle.event.proofs.StatusLaws.{Other, channel_low, channel_high}
use Rattle.event.proofs.Table.{every, at}

-- ---- the table

-- the test of an entry: the number n at the place b is the chain's
abbrev agrees : ℕ → ℕ → Bool
agrees b n = eqb n (sort_of b)

-- "Prove once over the entire table that it agrees with a chain of comparisons": antt computes the test
tested : every agrees 0 sort_table ≡ true
unfolding sort_table sort_of pick
tested = refl

pub table_at : (b : ℕ) → b < 256 → get_or sort_table b 0 ≡ sort_of b
unfolding sort_table
table_at b h = eqb-true (get_or sort_table b 0) (sort_of b) (at agrees sort_table b tested h)

-- ---- the chain

-- case by case
sort_cases : {X : Type 0} (b : ℕ)
    → (sort_of b ≡ 0 → b < 128 → X)
    → (sort_of b ≡ 6 → 128 ≤ b → b < 240 → one_byte b ≡ false → X)
    → (sort_of b ≡ 5 → 192 ≤ b → b < 224 → X)
    → (sort_of b ≡ 8 → b ≡ 240 → X)
    → (sort_of b ≡ 12 → b ≡ 247 → X)
    → (sort_of b ≡ 16 → b ≡ 255 → X)
    → (sort_of b ≡ 20 → Other b → X) → X
unfolding sort_of pick
sort_cases b low two one exclusive packet meta none =
    by_test (leb b 0x7f) (λ t. let h = leb-true b 0x7f t in low (rw t refl) (omega arith)) (λ n1. let h1 = leb-false b 0x7f n1 in
    by_test (leb b 0xbf) (λ t. let h = leb-true b 0xbf t in two (rw (n1, t) refl) (omega arith) (omega arith) (one_low b (omega arith))) (λ n2. let h2 = leb-false b 0xbf n2 in
    by_test (leb b 0xdf) (λ t. let h = leb-true b 0xdf t in one (rw (n1, n2, t) refl) (omega arith) (omega arith)) (λ n3. let h3 = leb-false b 0xdf n3 in
    by_test (leb b 0xef) (λ t. let h = leb-true b 0xef t in two (rw (n1, n2, n3, t) refl) (omega arith) (omega arith) (one_high b (omega arith))) (λ n4. let h4 = leb-false b 0xef n4 in
    by_test (eqb b 0xf0) (λ t. exclusive (rw (n1, n2, n3, n4, t) refl) (eqb-true b 0xf0 t)) (λ n5.
    by_test (eqb b 0xf7) (λ t. packet (rw (n1, n2, n3, n4, n5, t) refl) (eqb-true b 0xf7 t)) (λ n6.
    by_test (eqb b 0xff) (λ t. meta (rw (n1, n2, n3, n4, n5, n6, t) refl) (eqb-true b 0xff t)) (λ n7.
    none (rw (n1, n2, n3, n4, n5, n6, n7) refl) (record { high = omega arith; plain = eqb-false b 0xf0 n5; packet = eqb-false b 0xf7 n6; meta = eqb-false b 0xff n7 }))))))))

module _ (b : ℕ) where
  pub sort_data : sort_of b ≡ 0 → b < 128
  sort_data e = sort_cases b (omega arith) (omega arith) (omega arith) (omega arith) (omega arith) (omega arith) (omega arith)

  pub sort_channel : 5 ≤ sort_of b → sort_of b ≤ 6 → (128 ≤ b) × (b < 240)
  sort_channel l h = sort_cases b (omega arith) (omega arith) (omega arith) (omega arith) (omega arith) (omega arith) (omega arith)

  pub sort_exclusive : sort_of b ≡ 8 → b ≡ 240
  sort_exclusive e = sort_cases b (omega arith) (omega arith) (omega arith) (omega arith) (omega arith) (omega arith) (omega arith)

  pub sort_packet : sort_of b ≡ 12 → b ≡ 247
  sort_packet e = sort_cases b (omega arith) (omega arith) (omega arith) (omega arith) (omega arith) (omega arith) (omega arith)

  pub sort_meta : sort_of b ≡ 16 → b ≡ 255
  sort_meta e = sort_cases b (omega arith) (omega arith) (omega arith) (omega arith) (omega arith) (omega arith) (omega arith)

  pub sort_other : (sort_of b ≡ 0 → ⊥) → (5 ≤ sort_of b → sort_of b ≤ 6 → ⊥) → (sort_of b ≡ 8 → ⊥) → (sort_of b ≡ 12 → ⊥) → (sort_of b ≡ 16 → ⊥) → Other b
  sort_other n0 n1 n2 n3 n4 =
      sort_cases b (λ f h. absurd (n0 f)) (λ f l h o. absurd (n1 (omega arith) (omega arith))) (λ f l h. absurd (n1 (omega arith) (omega arith)))
      (λ f h. absurd (n2 f)) (λ f h. absurd (n3 f)) (λ f h. absurd (n4 f)) (λ f o. o)

  -- ---- a channel event of the status b, from its data bytes l on

  module _ (l : List ℕ) where
    pub channel_one : sort_of b ≡ 5 → check (is_channel b) 8 0 (channel_data b l) ≡ one_data b l
    unfolding check channel_data pick
    channel_one e =
        let (lo, hi) : (192 ≤ b) × (b < 224) = sort_cases b (omega arith) (omega arith) (omega arith) (omega arith) (omega arith) (omega arith) (omega arith) in
        simp (channel_is b (omega arith), one_yes b lo hi)

    pub channel_two : sort_of b ≡ 6 → check (is_channel b) 8 0 (channel_data b l) ≡ two_data b l
    unfolding check channel_data pick
    channel_two e =
        sort_cases b (λ f h. absurd (omega arith)) (λ f lo hi o. simp (channel_is b (lo, hi), o)) (λ f lo hi. absurd (omega arith))
        (λ f h. absurd (omega arith)) (λ f h. absurd (omega arith)) (λ f h. absurd (omega arith)) (λ f o. absurd (omega arith))

    pub channel_none : (sort_of b ≡ 5 → ⊥) → (sort_of b ≡ 6 → ⊥) → check (is_channel b) 8 0 (channel_data b l) ≡ refused 8 0
    unfolding check
    channel_none n1 n2 =
        sort_cases b (λ f h. rw (channel_low b h)) (λ f lo hi o. absurd (n2 f)) (λ f lo hi. absurd (n1 f)) (λ f h. rw (channel_high b (omega arith)))
        (λ f h. rw (channel_high b (omega arith))) (λ f h. rw (channel_high b (omega arith))) (λ f o. rw (channel_high b o.high))
