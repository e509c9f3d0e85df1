-- An event from its status byte on, and a meta event from its type on, as the code gives them.
use mathlib.Core.Path.{◌≡◌}
use Prim.Native.Nat.{ℕ, ◌+◌, ◌-◌, ◌<◌, ◌≤◌}
use mathlib.Core.Bool.{true, false}
use mathlib.Core.List.{List, ◌∷◌}
use mathlib.Core.Logic.{◌⊎◌, inl, inr}
use native.Mathlib.Omega.{arith}
use native.Mathlib.Numerals.{add-one}
use lib.ListN.{length, drop, get_or, drop_of_length-le}
use lib.Seq.{drop-cons}
use borrow.Author.Tests.{le-leb, lt-leb, ne_eqb}
use Rattle.event.specs.Choice.{pick}
use Rattle.event.specs.Meta.{kind_of}
use Rattle.event.specs.Outcome.{ok, refused, and_then, check}
use Rattle.event.specs.Reader.{read_vlq, channel_data, is_channel, read_exclusive, length_ok, meta_data, read_meta_of, read_meta, read_frame}
use Rattle.event.specs.Step.{frame_step}
use Rattle.std.specs.Prelude.{Err}
use Rattle.event.proofs.BytesLaws.{data_short}
use Rattle.event.proofs.FrameLaws.{channel_is}

pub frame_none : (s : List ℕ) (f at : ℕ) → length s ≤ at → Err 6 ≡ frame_step (length s) (read_frame f (drop at s))
unfolding read_frame frame_step
frame_none s f at h = rw (drop_of_length-le s h)

pub meta_none : (s : List ℕ) (at : ℕ) → length s ≤ at → Err 6 ≡ frame_step (length s) (read_meta (drop at s))
unfolding read_meta frame_step
meta_none s at h = rw (drop_of_length-le s h)

-- "F1..F6, F8..FE"
pub record Other (b : ℕ) : Type 0 where
  pub high : 240 ≤ b
  pub plain : b ≡ 240 → ⊥
  pub packet : b ≡ 247 → ⊥
  pub meta : b ≡ 255 → ⊥

module _ (s : List ℕ) (f at : ℕ) (h : at < length s) where
  abbrev b : ℕ
  b = get_or s at 0

  there : drop at s ≡ b ∷ drop (at + 1) s
  there = rw (add-one at) (drop-cons s at 0 h)

  -- ---- from the status byte on, with f in force

  pub frame_data_lem : b < 128 → read_frame f (drop at s) ≡ check (is_channel f) 8 0 (channel_data f (drop at s))
  unfolding read_frame pick
  frame_data_lem low = rw there (simp (le-leb b 127 (omega arith)))

  pub frame_channel : 128 ≤ b → b < 240 → read_frame f (drop at s) ≡ check (is_channel b) 8 0 (channel_data b (drop (at + 1) s))
  unfolding read_frame check pick
  frame_channel lo hi = simp (there, lt-leb b 127 lo, le-leb b 239 (omega arith), channel_is b (lo, hi))

  pub frame_exclusive : (b ≡ 240) ⊎ (b ≡ 247) → read_frame f (drop at s) ≡ read_exclusive b (drop (at + 1) s)
  unfolding read_frame pick
  frame_exclusive (inl e) = simp (there, e)
  frame_exclusive (inr e) = simp (there, e)

  pub frame_meta : b ≡ 255 → read_frame f (drop at s) ≡ read_meta (drop (at + 1) s)
  unfolding read_frame pick
  frame_meta e = simp (there, e)

  pub frame_other : Other b → Err 8 ≡ frame_step (length s) (read_frame f (drop at s))
  unfolding read_frame pick frame_step
  frame_other o =
      simp (there, lt-leb b 127 (omega (arith, o.high)), lt-leb b 239 o.high, ne_eqb b 255 o.meta, ne_eqb b 240 o.plain, ne_eqb b 247 o.packet)

  -- ---- from the type of a meta event on

  pub meta_type : 127 < b → Err 8 ≡ frame_step (length s) (read_meta (drop at s))
  unfolding read_meta read_meta_of check frame_step
  meta_type high = simp (there, lt-leb b 127 high)

  pub meta_bad : (k z : ℕ) → b ≤ 127 → read_vlq (drop (at + 1) s) ≡ refused k z → Err k ≡ frame_step (length s) (read_meta (drop at s))
  unfolding read_meta read_meta_of check and_then frame_step
  meta_bad k z low q = simp (there, le-leb b 127 low, q)

  module _ (n p : ℕ) (low : b ≤ 127) (q : read_vlq (drop (at + 1) s) ≡ ok n (drop p s)) where
    pub meta_wrong : length_ok (kind_of b) n ≡ false → Err 10 ≡ frame_step (length s) (read_meta (drop at s))
    unfolding read_meta read_meta_of check and_then frame_step
    meta_wrong e = simp (there, le-leb b 127 low, q, e)

    pub meta_right : length_ok (kind_of b) n ≡ true → read_meta (drop at s) ≡ meta_data b n (drop p s)
    unfolding read_meta read_meta_of check and_then
    meta_right e = simp (there, le-leb b 127 low, q, e)

    pub meta_short : length_ok (kind_of b) n ≡ true → length s - p < n → Err 6 ≡ frame_step (length s) (read_meta (drop at s))
    unfolding meta_data and_then frame_step
    meta_short e few = simp (meta_right e, data_short s p n few)

pub channel_low : (f : ℕ) → f < 128 → is_channel f ≡ false
unfolding is_channel
channel_low f h = rw (lt-leb 128 f h)

pub channel_high : (f : ℕ) → 240 ≤ f → is_channel f ≡ false
unfolding is_channel
channel_high f h = rw (lt-leb f 239 h, le-leb 128 f (omega arith))
