-- An event with its delta, as the code gives it.
use mathlib.Core.Path.{◌≡◌, refl, sym, ap, ap₂, ◌∙◌}
use Prim.Native.Nat.{ℕ, ◌+◌, ◌-◌}
use mathlib.Core.Bool.{true, false}
use mathlib.Core.List.{List}
use native.Mathlib.Omega.{arith}
use lib.ListN.{length, drop}
use lib.Dec.{leb}
use Rattle.event.specs.Choice.{pick}
use Rattle.event.specs.Bytes.{Bytes}
use Rattle.event.specs.Event.{Event, Kind, note_off, note_on, poly_aftertouch, control, program, channel_aftertouch, pitch_bend, system_exclusive, system_exclusive_packet, sequence_number, text, channel_prefix, midi_port, end_track, tempo, smpte_offset, time_signature, key_signature, sequencer_specific, unknown_meta, is_end}
use Rattle.event.specs.Frame.{Frame, frame, after}
use Rattle.event.specs.Outcome.{Outcome, ok, refused, and_then, check}
use Rattle.event.specs.Reader.{read_vlq, read_frame, kind_in, read_event}
use Rattle.event.specs.Dates.{later_of}
use Rattle.event.specs.Step.{kind_at, frame_at, frame_step, padded, event_step, end_of}
use Rattle.event.specs.Padding.{rest_of, vlq_padding, frame_padding, event_padding}
use Rattle.event.specs.declared.Time.{Time}
use Rattle.std.specs.Prelude.{Ok, Err, Option, Some, None}
use Rattle.event.specs.declared.FrameRead.{FrameRead}
use Rattle.event.specs.declared.EventRead.{EventRead}
use Rattle.event.proofs.ChoiceLaws.{by_test}
use Rattle.event.proofs.FrameLaws.{frame_sound}
use Rattle.event.proofs.KindLaws.{frame_back}

-- ---- the delta added

later_over : (t d : ℕ) → later_of t d ≡ None → leb (t + d) 4294967295 ≡ false
unfolding later_of pick
later_over t d e =
    by_test (leb (t + d) 4294967295)
    (λ q. let z : ◌≡◌ {A = Option Time} (Some (record { 0 = t + d })) None = rw q at e in let w : ◌≡◌ {A = ℕ} 0 1 = cc in absurd (omega arith))
    (λ q. q)

later_at : (t d : ℕ) (u : Time) → later_of t d ≡ Some u → (leb (t + d) 4294967295 ≡ true) × (record { 0 = t + d } ≡ u)
unfolding later_of pick
later_at t d u e =
    by_test (leb (t + d) 4294967295)
    (λ q. let z : Some (record { 0 = t + d }) ≡ Some u = rw q at e in (q, cc))
    (λ q. let z : ◌≡◌ {A = Option Time} None (Some u) = rw q at e in let w : ◌≡◌ {A = ℕ} 0 1 = cc in absurd (omega arith))

-- ---- the event after it

abbrev Timed : ℕ → Outcome Frame → Outcome Event
Timed t m = and_then m (λ x r. ok (record { time = t; kind = kind_in x }) r)

-- an event of the Time t, read with the padding b of its delta
abbrev pub event_of : Time → FrameRead → ℕ → EventRead
event_of t f x = record { kind = f.kind; next = record { place = f.next; time = t; status = f.status }; padding = x }

-- the status in force after an event that was read is the one that its kind gives
found : (n t f b y : ℕ) (l : List ℕ) (m : Outcome Frame) (g : FrameRead) → Bytes l → read_frame f l ≡ m → padded y (frame_step n m) ≡ Ok g
    → Ok (event_of (record { 0 = t }) g (b + g.padding)) ≡ event_step n (b + y) (Timed t m)
unfolding frame_step frame_at padded event_step and_then
found n t f b y l (ok x r) g bs come q =
    let same : record { kind = kind_at (n - length r) (kind_in x); next = n - length r; status = after x; padding = y } ≡ g = cc in
    let back : frame (kind_in x) ≡ x = frame_back x (frame_sound f l x r bs come).valid in
    rw (sym same) (simp back)
found n t f b y l (refused k z) g bs come q = let w : ◌≡◌ {A = ℕ} 0 1 = cc in absurd (omega arith)

stopped : (n t y u : ℕ) (m : Outcome Frame) (k : ℕ) → padded y (frame_step n m) ≡ Err k → Err k ≡ event_step n u (Timed t m)
unfolding frame_step frame_at padded event_step and_then
stopped n t y u (ok x r) k q = let w : ◌≡◌ {A = ℕ} 0 1 = cc in absurd (omega arith)
stopped n t y u (refused j z) k q = let e : j ≡ k = cc in ap Err (sym e)

module _ (s : List ℕ) (prev f at : ℕ) where
  pub event_bad : (k z : ℕ) → read_vlq (drop at s) ≡ refused k z → Err k ≡ event_step (length s) (event_padding (drop at s)) (read_event prev f (drop at s))
  unfolding read_event and_then event_step
  event_bad k z q = simp q

  module _ (v p : ℕ) (q : read_vlq (drop at s) ≡ ok v (drop p s)) where
    pub event_over : later_of prev v ≡ None → Err 7 ≡ event_step (length s) (event_padding (drop at s)) (read_event prev f (drop at s))
    unfolding read_event and_then event_step check
    event_over e = simp (q, later_over prev v e)

    event_timed : leb (prev + v) 4294967295 ≡ true → read_event prev f (drop at s) ≡ Timed (prev + v) (read_frame f (drop p s))
    unfolding read_event and_then check
    event_timed e = simp (q, e)

    pub event_refused : (u : Time) (k : ℕ) → later_of prev v ≡ Some u → padded (frame_padding (drop p s)) (frame_step (length s) (read_frame f (drop p s))) ≡ Err k
        → Err k ≡ event_step (length s) (event_padding (drop at s)) (read_event prev f (drop at s))
    event_refused u k e h = let (b, w) = later_at prev v u e in rw (event_timed b) (stopped (length s) (prev + v) _ _ (read_frame f (drop p s)) k h)

    pub event_found : (u : Time) (g : FrameRead) (x : ℕ) → vlq_padding (drop at s) ≡ x → Bytes (drop p s) → later_of prev v ≡ Some u
        → padded (frame_padding (drop p s)) (frame_step (length s) (read_frame f (drop p s))) ≡ Ok g
        → Ok (event_of u g (x + g.padding)) ≡ event_step (length s) (event_padding (drop at s)) (read_event prev f (drop at s))
    unfolding event_padding rest_of
    event_found u g x ex bs l h =
        let (b, w) = later_at prev v u l in
        let sum : event_padding (drop at s) ≡ x + frame_padding (drop p s) = ap₂ (λ a c. a + frame_padding (rest_of c)) ex q in
        ap (λ t. Ok (event_of t g (x + g.padding))) (sym w) ∙ found (length s) (prev + v) f x (frame_padding (drop p s)) (drop p s) _ g bs refl h
        ∙ ap₂ (event_step (length s)) (sym sum) (sym (event_timed b))

-- ---- End_track to the code and to the reader

pub end_of_lem : (n : ℕ) (x : Kind) → end_of (kind_at n x) ≡ is_end x
unfolding kind_at is_end
end_of_lem n (note_off a b c) = refl
end_of_lem n (note_on a b c) = refl
end_of_lem n (poly_aftertouch a b c) = refl
end_of_lem n (control a b c) = refl
end_of_lem n (program a b) = refl
end_of_lem n (channel_aftertouch a b) = refl
end_of_lem n (pitch_bend a b) = refl
end_of_lem n (system_exclusive a) = refl
end_of_lem n (system_exclusive_packet a) = refl
end_of_lem n (sequence_number a) = refl
end_of_lem n (text a b) = refl
end_of_lem n (channel_prefix a) = refl
end_of_lem n (midi_port a) = refl
end_of_lem n end_track = refl
end_of_lem n (tempo a) = refl
end_of_lem n (smpte_offset a b c d e) = refl
end_of_lem n (time_signature a b c d) = refl
end_of_lem n (key_signature a b) = refl
end_of_lem n (sequencer_specific a) = refl
end_of_lem n (unknown_meta a b) = refl
