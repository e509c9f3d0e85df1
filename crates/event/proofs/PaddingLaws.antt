-- The bytes above the fewest: what is told of the bytes of a layout is what its spelling says, and never more than those bytes.
use mathlib.Core.Path.{◌≡◌, refl, sym, ap, ap₂, ◌∙◌}
use Prim.Native.Nat.{ℕ, zero, suc, ◌+◌, ◌-◌, ◌*◌, ◌<◌, ◌≤◌}
use mathlib.Core.Bool.{Bool, true, false, ◌||◌}
use lib.Dec.{leb, eqb}
use mathlib.Core.Logic.{◌⊎◌, inl, inr}
use mathlib.Core.List.{List, [], ◌∷◌, ◌++◌, append_assoc}
use native.Mathlib.Omega.{arith}
use lib.ListN.{length, drop, get_or, length-append, length-drop}
use borrow.Author.Tests.{le-leb, eqb-true, eqb-false}
use Rattle.event.specs.Choice.{pick}
use Rattle.event.specs.Bytes.{Bytes}
use Rattle.event.specs.Number.{Width, bytes_in, limit, vlq, least}
use Rattle.event.specs.Event.{Event, Lawful}
use Rattle.event.specs.Frame.{Frame, channel1, channel2, exclusive, meta, frame}
use Rattle.event.specs.Spelling.{Rest, left_out, length_in, Spelling, Spelled, Permitted}
use Rattle.event.specs.Layout.{lay_channel, lay_frame, lay_event}
use Rattle.event.specs.Outcome.{Outcome, ok, refused}
use Rattle.event.specs.Reader.{read_vlq, read_event}
use Rattle.event.specs.Padding.{width_padding, rest_padding, spelled_padding, rest_of, padding_in, vlq_padding, meta_padding, frame_padding, event_padding}
use Rattle.event.proofs.BytesLaws.{bytes_drop}
use Rattle.event.proofs.NumberLaws.{vlq_read, vlq_sound, vlq_length, bytes_some, bytes_most, vlq_size, in_one, in_two, in_three, in_four, least_cases, least_width}
use Rattle.event.proofs.ChoiceLaws.{by_test}
use native.Mathlib.Numerals.{add-one}
use lib.Seq.{drop-cons}
use Rattle.event.specs.Step.{frame_at, frame_step, padded}
use Rattle.event.specs.declared.FrameRead.{FrameRead}
use Rattle.std.specs.Prelude.{Result, Ok, Err}
use Rattle.event.proofs.FrameLaws.{Valid}
use Rattle.event.proofs.KindLaws.{frame_valid}
use Rattle.event.proofs.EventLaws.{event_sound}

vlq_told : (w : Width) (v : ℕ) (r : List ℕ) → v < limit w → vlq_padding (vlq w v ++ r) ≡ width_padding w v
unfolding vlq_padding padding_in width_padding
vlq_told w v r h =
    let size : length (vlq w v ++ r) - length r ≡ bytes_in w = omega (arith, length-append (vlq w v) r, vlq_length w v) in
    rw (vlq_read w v r h, size) refl

-- a status or a data byte: no length follows
low_told : (b : ℕ) (l : List ℕ) → b < 240 → frame_padding (b ∷ l) ≡ 0
unfolding frame_padding pick
low_told b l h = rw (le-leb b 239 (omega arith)) refl

channel_told : (out : Bool) (s a : ℕ) (l r : List ℕ) → s < 240 → a ≤ 127 → frame_padding (lay_channel out s (a ∷ l) ++ r) ≡ 0
unfolding lay_channel
channel_told true s a l r hs ha = low_told a (l ++ r) (omega arith)
channel_told false s a l r hs ha = low_told s (a ∷ l ++ r) hs

exclusive_told : (s : ℕ) (l : List ℕ) → (s ≡ 240) ⊎ (s ≡ 247) → frame_padding (s ∷ l) ≡ vlq_padding l
unfolding frame_padding pick
exclusive_told s l (inl e) = rw e refl
exclusive_told s l (inr e) = rw e refl

sized_told : (w : Width) (d r : List ℕ) → length d < limit w → vlq_padding (vlq w (length d) ++ d ++ r) ≡ width_padding w (length d)
sized_told w d r h = rw (append_assoc (vlq w (length d)) d r) (vlq_told w (length d) (d ++ r) h)

meta_told : (t : ℕ) (l : List ℕ) → frame_padding (0xff ∷ t ∷ l) ≡ vlq_padding l
unfolding frame_padding meta_padding pick
meta_told t l = refl

frame_told : (force : ℕ) (x : Frame) (s : Rest) (r : List ℕ) → Valid x → Spelled force x s → frame_padding (lay_frame x s ++ r) ≡ rest_padding x s
unfolding lay_frame Valid Spelled rest_padding
frame_told force (channel1 s a) (left_out out) r v p = channel_told out s a [] r v.0.1 v.2
frame_told force (channel1 s a) (length_in w) r v p = absurd p
frame_told force (channel2 s a b) (left_out out) r v p = channel_told out s a (b ∷ []) r v.0.1 v.2
frame_told force (channel2 s a b) (length_in w) r v p = absurd p
frame_told force (exclusive s d) (left_out out) r v p = absurd p
frame_told force (exclusive s d) (length_in w) r v p = exclusive_told s _ v.0 ∙ sized_told w d r p
frame_told force (meta t d) (left_out out) r v p = absurd p
frame_told force (meta t d) (length_in w) r v p = meta_told t _ ∙ sized_told w d r p

-- what is told of the bytes of an event is what its spelling says
pub event_told : (prev force : ℕ) (e : Event) (s : Spelling) (r : List ℕ) → Lawful prev e → Permitted prev force e s → event_padding (lay_event prev e s ++ r) ≡ spelled_padding prev e s
unfolding event_padding lay_event spelled_padding rest_of
event_told prev force e s r h p =
    let split = append_assoc (vlq s.delta (e.time - prev)) (lay_frame (frame e.kind) s.rest) r in
    let rest : List ℕ = lay_frame (frame e.kind) s.rest ++ r in
    rw (split, vlq_read s.delta (e.time - prev) rest p.delta)
    (ap₂ (λ a b. a + b) (vlq_told s.delta (e.time - prev) rest p.delta) (frame_told force (frame e.kind) s.rest r (frame_valid e.kind h.fits) p.rest))

-- ---- it is less than the bytes that the event takes

width_within : (w : Width) (v : ℕ) → width_padding w v ≤ length (vlq w v)
unfolding width_padding
width_within w v = omega (arith, vlq_length w v)

rest_within : (force : ℕ) (x : Frame) (s : Rest) → Spelled force x s → rest_padding x s ≤ length (lay_frame x s)
unfolding rest_padding Spelled lay_frame
rest_within force (channel1 s a) (left_out out) p = omega arith
rest_within force (channel1 s a) (length_in w) p = omega arith
rest_within force (channel2 s a b) (left_out out) p = omega arith
rest_within force (channel2 s a b) (length_in w) p = omega arith
rest_within force (exclusive s d) (left_out out) p = omega arith
rest_within force (exclusive s d) (length_in w) p = omega (arith, width_within w (length d), length-append (vlq w (length d)) d)
rest_within force (meta t d) (left_out out) p = omega arith
rest_within force (meta t d) (length_in w) p = omega (arith, width_within w (length d), length-append (vlq w (length d)) d)

-- so the sum over a track's events is less than the bytes of the track, and fits 32 bits
pub padding_within : (prev force : ℕ) (l : List ℕ) (e : Event) (r : List ℕ) → Bytes l → read_event prev force l ≡ ok e r → event_padding l + length r ≤ length l
unfolding lay_event spelled_padding
padding_within prev force l e r bs q =
    let laid = event_sound prev force l e r bs q in
    let s = laid.spelling in
    let a = ap event_padding laid.bytes ∙ event_told prev force e s r laid.lawful laid.permitted in
    let b = ap length laid.bytes ∙ length-append (lay_event prev e s) r in
    let c = length-append (vlq s.delta (e.time - prev)) (lay_frame (frame e.kind) s.rest) in
    let d = width_within s.delta (e.time - prev) in
    let f = rest_within force (frame e.kind) s.rest laid.permitted.rest in
    omega arith

-- ---- what read_number computes

-- the number that the code was given took no fewer bytes than the fewest
pub took : (s : List ℕ) (at v q : ℕ) → Bytes s → q ≤ length s → read_vlq (drop at s) ≡ ok v (drop q s)
    → (bytes_in (least v) ≤ q - at) × (at ≤ q) × (vlq_padding (drop at s) ≡ q - at - bytes_in (least v))
unfolding vlq_padding padding_in
took s at v q bs k e =
    vlq_sound (drop at s) v (drop q s) (bytes_drop s at bs) e (λ w hw lw.
    let size = ap length lw ∙ length-append (vlq w v) (drop q s) in
    let a = length-drop at s in
    let b = length-drop q s in
    let c = vlq_length w v in
    let d = (least_width w v hw).0 in
    let one = vlq_size w v in
    let h : at < length s = omega (arith, size, a, one) in
    let x : length (drop at s) - length (drop q s) ≡ q - at = omega (arith, a, b, h, k) in
    (omega arith, omega arith, rw (e, x) refl))

-- the bytes of what has come of a number, its leading 80h aside
abbrev pub significant : ℕ → ℕ
significant zero = 0
significant (suc n) = bytes_in (least (suc n))

some_bytes : (v : ℕ) → 0 < v → bytes_in (least v) ≡ significant v
some_bytes zero h = absurd (omega arith)
some_bytes (suc n) h = refl

-- with a byte more it takes a byte more
pub next_bytes : (acc b : ℕ) → acc < 2097152 → b < 128 → bytes_in (least (acc * 128 + b)) ≡ significant acc + 1
next_bytes zero b h k = ap bytes_in (in_one (0 * 128 + b) (omega arith))
next_bytes (suc n) b h k =
    let v : ℕ = suc n * 128 + b in
    least_cases (suc n)
    (λ e l. rw (e, in_two v (omega arith) (omega arith)) refl)
    (λ e g l. rw (e, in_three v (omega arith) (omega arith)) refl)
    (λ e g l. rw (e, in_four v (omega arith)) refl)
    (λ e g. absurd (omega arith))

-- unless it is still 0
pub lead_bytes : (acc b padding : ℕ) → acc < 2097152 → b < 128
    → pick (eqb (acc * 128 + b) 0) (padding + 1) padding + significant (acc * 128 + b) ≡ padding + significant acc + 1
unfolding pick
lead_bytes acc b padding h k =
    let v : ℕ = acc * 128 + b in
    by_test (eqb v 0)
    (λ t.
    let z : v ≡ 0 = eqb-true v 0 t in
    let a : acc ≡ 0 = omega arith in
    rw (z, a) (omega arith))
    (λ t.
    let some = sym (some_bytes v (omega (arith, eqb-false v 0 t))) ∙ next_bytes acc b h k in
    rw t (omega (arith, some)))

-- an event without a length
pub padded_none : (n : ℕ) (m : Outcome Frame) → padded 0 (frame_step n m) ≡ frame_step n m
unfolding padded frame_step frame_at
padded_none n (ok x r) = refl
padded_none n (refused k p) = refl

-- frame_padding at the place of a byte
pub low_there : (s : List ℕ) (at : ℕ) → at < length s → get_or s at 0 < 240 → frame_padding (drop at s) ≡ 0
low_there s at h k = rw (drop-cons s at 0 h) (low_told (get_or s at 0) _ k)

pub exclusive_there : (s : List ℕ) (at : ℕ) → at < length s → (get_or s at 0 ≡ 240) ⊎ (get_or s at 0 ≡ 247) → frame_padding (drop at s) ≡ vlq_padding (drop (at + 1) s)
exclusive_there s at h k = rw (drop-cons s at 0 h, add-one at) (exclusive_told (get_or s at 0) _ k)

pub meta_there : (s : List ℕ) (at : ℕ) → at < length s → get_or s at 0 ≡ 255 → frame_padding (drop at s) ≡ meta_padding (drop (at + 1) s)
unfolding frame_padding pick
meta_there s at h k = rw (drop-cons s at 0 h, add-one at, k) refl

pub type_there : (s : List ℕ) (at : ℕ) → at < length s → meta_padding (drop at s) ≡ vlq_padding (drop (at + 1) s)
unfolding meta_padding
type_there s at h = rw (drop-cons s at 0 h, add-one at) refl

-- a number takes three bytes above the fewest at most
small_with : (l : List ℕ) (m : Outcome ℕ) → Bytes l → read_vlq l ≡ m → padding_in l m ≤ 3
unfolding padding_in
small_with l (ok v r) bs e =
    vlq_sound l v r bs e (λ w hw lw.
    omega (arith, ap length lw, length-append (vlq w v) r, vlq_length w v, bytes_most w, bytes_some (least v)))
small_with l (refused k p) bs e = omega arith

vlq_small : (l : List ℕ) → Bytes l → vlq_padding l ≤ 3
unfolding vlq_padding
vlq_small l bs = small_with l (read_vlq l) bs refl

meta_small : (l : List ℕ) → Bytes l → meta_padding l ≤ 3
unfolding meta_padding
meta_small [] bs = omega arith
meta_small (t ∷ l) bs = vlq_small l bs.1

pick_small : (t : Bool) (a b : ℕ) → a ≤ 3 → b ≤ 3 → pick t a b ≤ 3
unfolding pick
pick_small true a b h k = h
pick_small false a b h k = k

frame_small : (l : List ℕ) → Bytes l → frame_padding l ≤ 3
unfolding frame_padding
frame_small [] bs = omega arith
frame_small (b ∷ l) bs =
    pick_small (leb b 0xef) 0 _ (omega arith)
    (pick_small (eqb b 0xff) (meta_padding l) _ (meta_small l bs.1) (pick_small (eqb b 0xf0 || eqb b 0xf7) (vlq_padding l) 0 (vlq_small l bs.1) (omega arith)))

-- the count that a frame was given
pub frame_padding_lem : {f : FrameRead} (y : ℕ) (m : Result FrameRead ℕ) → padded y m ≡ Ok f → y ≡ f.padding
unfolding padded
frame_padding_lem {f} y (Ok g) e = let same : record { kind = g.kind; next = g.next; status = g.status; padding = y } ≡ f = cc in ap (λ z. z.padding) same
frame_padding_lem y (Err k) e = let w : ◌≡◌ {A = ℕ} 0 1 = cc in absurd (omega arith)

-- so the sum of both fits
pub sum_small : (x y : ℕ) (l m : List ℕ) → Bytes l → Bytes m → vlq_padding l ≡ x → frame_padding m ≡ y → x + y ≤ 6
sum_small x y l m bl bm e f = omega (arith, vlq_small l bl, frame_small m bm)
