-- An event after its delta, by its shape: what is laid out is read back, and what is read was laid out.
use mathlib.Core.Path.{◌≡◌, refl, ◌∙◌}
use Prim.Native.Nat.{ℕ, ◌<◌, ◌≤◌}
use mathlib.Core.Bool.{true, false, ◌||◌, false≢true}
use mathlib.Core.List.{List, [], ◌∷◌, ◌++◌, append_assoc}
use mathlib.Core.Logic.{◌⊎◌, inl, inr}
use native.Mathlib.Omega.{arith}
use lib.ListN.{length}
use lib.Dec.{leb, eqb}
use borrow.Author.Tests.{leb-true, leb-false, le-leb, lt-leb, eqb-true}
use Rattle.event.specs.Choice.{pick}
use Rattle.event.specs.Bytes.{Bytes}
use Rattle.event.specs.Number.{Width, limit, vlq}
use Rattle.event.specs.Meta.{kind_of}
use Rattle.event.specs.Frame.{Frame, channel1, channel2, exclusive, meta}
use Rattle.event.specs.Spelling.{Rest, left_out, length_in, Spelled}
use Rattle.event.specs.Layout.{lay_channel, lay_frame}
use Rattle.event.specs.Outcome.{ok}
use Rattle.event.specs.Reader.{data_byte, one_data, two_data, one_byte, channel_data, is_channel, read_vlq, read_data, read_exclusive, length_ok, value_ok, meta_data, read_meta_of, read_meta, read_frame}
use Rattle.event.proofs.ChoiceLaws.{pick_true, pick_false, pick_cases, or_cases, and_both}
use Rattle.event.proofs.OutcomeLaws.{not_ok, and_then_ok, and_then_eq, check_ok, check_eq}
use Rattle.event.proofs.BytesLaws.{bytes_left, bytes_right, data_read, data_sound}
use Rattle.event.proofs.NumberLaws.{vlq_read, vlq_sound}

-- a status byte of a channel event
abbrev pub Channel : ℕ → Type 0
Channel s = (128 ≤ s) × (s < 240)

-- what the reader promises of the bytes that it accepts
unfoldable pub Valid : Frame → Type 0
Valid (channel1 s a) = (Channel s) × (one_byte s ≡ true) × (a ≤ 127)
Valid (channel2 s a b) = (Channel s) × (one_byte s ≡ false) × (a ≤ 127) × (b ≤ 127)
Valid (exclusive s d) = ((s ≡ 240) ⊎ (s ≡ 247)) × Bytes d
Valid (meta t d) = (t ≤ 127) × (length_ok (kind_of t) (length d) ≡ true) × (value_ok (kind_of t) d ≡ true) × Bytes d

-- ---- what is laid out is read back

byte_read : (a : ℕ) (r : List ℕ) → a ≤ 127 → data_byte (a ∷ r) ≡ ok a r
unfolding data_byte
byte_read a r h = check_eq 9 0 _ (le-leb a 127 h)

channel1_read : (s a : ℕ) (r : List ℕ) → one_byte s ≡ true → a ≤ 127 → channel_data s (a ∷ r) ≡ ok (channel1 s a) r
unfolding channel_data one_data two_data
channel1_read s a r o h = pick_true _ _ o ∙ and_then_eq _ (byte_read a r h)

channel2_read : (s a b : ℕ) (r : List ℕ) → one_byte s ≡ false → a ≤ 127 → b ≤ 127 → channel_data s (a ∷ b ∷ r) ≡ ok (channel2 s a b) r
unfolding channel_data one_data two_data
channel2_read s a b r o h k = pick_false _ _ o ∙ and_then_eq _ (byte_read a _ h) ∙ and_then_eq _ (byte_read b r k)

exclusive_read : (w : Width) (s : ℕ) (d r : List ℕ) → length d < limit w → read_exclusive s (vlq w (length d) ++ d ++ r) ≡ ok (exclusive s d) r
unfolding read_exclusive
exclusive_read w s d r h =
    rw append_assoc (and_then_eq _ (vlq_read w (length d) (d ++ r) h) ∙ and_then_eq _ (data_read d r))

meta_read : (w : Width) (t : ℕ) (d r : List ℕ) → t ≤ 127 → length d < limit w → length_ok (kind_of t) (length d) ≡ true → value_ok (kind_of t) d ≡ true
    → read_meta (t ∷ (vlq w (length d) ++ d ++ r)) ≡ ok (meta t d) r
unfolding read_meta read_meta_of meta_data
meta_read w t d r ht h lo vo =
    rw append_assoc
    (check_eq 8 0 _ (le-leb t 127 ht)
    ∙ and_then_eq _ (vlq_read w (length d) (d ++ r) h)
    ∙ check_eq 10 0 _ lo
    ∙ and_then_eq _ (data_read d r)
    ∙ check_eq 11 0 _ vo)

-- with the status written, and with it left out
written : (force s : ℕ) (l : List ℕ) → Channel s → read_frame force (s ∷ l) ≡ channel_data s l
unfolding read_frame
written force s l h = pick_false _ _ (lt-leb s 127 h.0) ∙ pick_true _ _ (le-leb s 239 (omega arith))

pub channel_is : (s : ℕ) → Channel s → is_channel s ≡ true
unfolding is_channel
channel_is s h = rw (le-leb 128 s h.0, le-leb s 239 (omega arith))

pub is_channel_lem : (s : ℕ) → is_channel s ≡ true → Channel s
unfolding is_channel
is_channel_lem s e = let (p, q) = and_both (leb 128 s) (leb s 239) e in let h = leb-true s 239 q in (leb-true 128 s p, omega arith)

omitted : (s a : ℕ) (l : List ℕ) → Channel s → a ≤ 127 → read_frame s (a ∷ l) ≡ channel_data s (a ∷ l)
unfolding read_frame
omitted s a l h ha = pick_true _ _ (le-leb a 127 ha) ∙ check_eq 8 0 _ (channel_is s h)

exclusive_status : (force s : ℕ) (l : List ℕ) → (s ≡ 240) ⊎ (s ≡ 247) → read_frame force (s ∷ l) ≡ read_exclusive s l
unfolding read_frame pick
exclusive_status force s l (inl e) = rw e
exclusive_status force s l (inr e) = rw e

meta_status : (force : ℕ) (l : List ℕ) → read_frame force (255 ∷ l) ≡ read_meta l
unfolding read_frame pick
meta_status force l = refl

pub frame_read : (force : ℕ) (x : Frame) (s : Rest) (r : List ℕ) → Valid x → Spelled force x s → read_frame force (lay_frame x s ++ r) ≡ ok x r
unfolding lay_frame lay_channel Spelled Valid
frame_read force (channel1 s a) (left_out true) r v p = rw (p refl) (omitted s a r v.0 v.2 ∙ channel1_read s a r v.1 v.2)
frame_read force (channel1 s a) (left_out false) r v p = written force s _ v.0 ∙ channel1_read s a r v.1 v.2
frame_read force (channel1 s a) (length_in w) r v p = absurd p
frame_read force (channel2 s a b) (left_out true) r v p = rw (p refl) (omitted s a _ v.0 v.2 ∙ channel2_read s a b r v.1 v.2 v.3)
frame_read force (channel2 s a b) (left_out false) r v p = written force s _ v.0 ∙ channel2_read s a b r v.1 v.2 v.3
frame_read force (channel2 s a b) (length_in w) r v p = absurd p
frame_read force (exclusive s d) (left_out out) r v p = absurd p
frame_read force (exclusive s d) (length_in w) r v p = exclusive_status force s _ v.0 ∙ exclusive_read w s d r p
frame_read force (meta t d) (left_out out) r v p = absurd p
frame_read force (meta t d) (length_in w) r v p = meta_status force _ ∙ meta_read w t d r v.0 p v.1 v.2

-- ---- what is accepted was laid out

pub byte_sound : (l : List ℕ) (a : ℕ) (r : List ℕ) → data_byte l ≡ ok a r → (a ≤ 127) × (l ≡ a ∷ r)
unfolding data_byte
byte_sound [] a r e = not_ok e
byte_sound (b ∷ l) a r e =
    let c = check_ok _ 9 0 _ a r e in
    let q : b ≡ a = cc c.1 in
    let p : l ≡ r = cc c.1 in
    (rw q at (leb-true b 127 c.0), cc)

-- the data bytes l of a channel event after the status s: the event with its status left out, and with it written
record Came (s : ℕ) (l : List ℕ) (x : Frame) (r : List ℕ) : Type 0 where
  valid : Valid x
  same : Spelled s x (left_out true)
  free : (f : ℕ) → Spelled f x (left_out false)
  out : l ≡ lay_frame x (left_out true) ++ r
  full : s ∷ l ≡ lay_frame x (left_out false) ++ r

channel_sound : (s : ℕ) (l : List ℕ) (x : Frame) (r : List ℕ) → Channel s → channel_data s l ≡ ok x r → Came s l x r
unfolding channel_data one_data two_data Spelled lay_frame lay_channel Valid
channel_sound s l x r h e =
    pick_cases (one_byte s) _ _ _ e
    (λ t q.
    and_then_ok (data_byte l) _ x r q (λ a m qa k.
    let (ha, la) = byte_sound l a m qa in
    let p : channel1 s a ≡ x = cc in
    let mr : m ≡ r = cc in
    rw (← p, ← mr) (record { valid = (h, t, ha); same = λ z. refl; free = λ f z. absurd (false≢true z); out = la; full = rw la })))
    (λ t q.
    and_then_ok (data_byte l) _ x r q (λ a m qa k.
    and_then_ok (data_byte m) _ x r k (λ b n qb k2.
    let (ha, la) = byte_sound l a m qa in
    let (hb, lb) = byte_sound m b n qb in
    let p : channel2 s a b ≡ x = cc in
    let mr : n ≡ r = cc in
    rw (← p, ← mr) (record { valid = (h, t, ha, hb); same = λ z. refl; free = λ f z. absurd (false≢true z); out = cc; full = cc }))))

-- valid bytes, and a permitted spelling of them, which these bytes are
pub record FrameLaid (force : ℕ) (l : List ℕ) (x : Frame) (r : List ℕ) : Type 0 where
  pub spelling : Rest
  pub valid : Valid x
  pub permitted : Spelled force x spelling
  pub bytes : l ≡ lay_frame x spelling ++ r

exclusive_sound : (force s : ℕ) (l : List ℕ) (x : Frame) (r : List ℕ) → (s ≡ 240) ⊎ (s ≡ 247) → Bytes l → read_exclusive s l ≡ ok x r → FrameLaid force (s ∷ l) x r
unfolding read_exclusive Spelled lay_frame Valid
exclusive_sound force s l x r h bs e =
    and_then_ok (read_vlq l) _ x r e (λ n m qn k.
    and_then_ok (read_data n m) _ x r k (λ d q qd k2.
    vlq_sound l n m bs qn (λ w hw lw.
    let (hd, ld) = data_sound n m d q qd in
    let p : exclusive s d ≡ x = cc in
    let qr : q ≡ r = cc in
    let bd : Bytes (d ++ q) = rw ld at (bytes_right (vlq w n) m (rw lw at bs)) in
    rw (← p, ← qr)
    (record { spelling = length_in w; valid = (h, bytes_left d q bd); permitted = rw hd hw; bytes = rw (lw, ld, hd, append_assoc (vlq w n) d q) }))))

meta_sound : (force : ℕ) (l : List ℕ) (x : Frame) (r : List ℕ) → Bytes l → read_meta l ≡ ok x r → FrameLaid force (255 ∷ l) x r
unfolding read_meta read_meta_of meta_data Spelled lay_frame Valid
meta_sound force [] x r bs e = not_ok e
meta_sound force (t ∷ l) x r bs e =
    let (c0, e0) = check_ok _ 8 0 _ x r e in
    and_then_ok (read_vlq l) _ x r e0 (λ n m qn k.
    let (c1, e1) = check_ok _ 10 0 _ x r k in
    and_then_ok (read_data n m) _ x r e1 (λ d q qd k2.
    let (c2, e2) = check_ok _ 11 0 _ x r k2 in
    vlq_sound l n m bs.1 qn (λ w hw lw.
    let (hd, ld) = data_sound n m d q qd in
    let p : meta t d ≡ x = cc in
    let qr : q ≡ r = cc in
    let bd : Bytes (d ++ q) = rw ld at (bytes_right (vlq w n) m (rw lw at bs.1)) in
    rw (← p, ← qr)
    (record {
      spelling = length_in w;
      valid = (leb-true t 127 c0, rw hd c1, c2, bytes_left d q bd);
      permitted = rw hd hw;
      bytes = rw (lw, ld, hd, append_assoc (vlq w n) d q);
    }))))

pub frame_sound : (force : ℕ) (l : List ℕ) (x : Frame) (r : List ℕ) → Bytes l → read_frame force l ≡ ok x r → FrameLaid force l x r
unfolding read_frame
frame_sound force [] x r bs e = not_ok e
frame_sound force (b ∷ l) x r bs e =
    pick_cases (leb b 127) _ _ _ e
    (λ t q.
    let (c, k) = check_ok _ 8 0 _ x r q in
    let came = channel_sound force (b ∷ l) x r (is_channel_lem force c) k in
    record { spelling = left_out true; valid = came.valid; permitted = came.same; bytes = came.out })
    (λ t q.
    pick_cases (leb b 239) _ _ _ q
    (λ t2 k.
    let low = leb-true b 239 t2 in
    let came = channel_sound b l x r (leb-false b 127 t, omega arith) k in
    record { spelling = left_out false; valid = came.valid; permitted = came.free force; bytes = came.full })
    (λ t2 q2.
    pick_cases (eqb b 255) _ _ _ q2
    (λ t3 k. rw (eqb-true b 255 t3) (meta_sound force l x r bs.1 k))
    (λ t3 q3.
    pick_cases (eqb b 240 || eqb b 247) _ _ _ q3
    (λ t4 k. exclusive_sound force b l x r (or_cases (eqb b 240) _ t4 (λ z. inl (eqb-true b 240 z)) (λ z. inr (eqb-true b 247 z))) bs.1 k)
    (λ t4 k. not_ok k))))
