-- One event: what is laid out is read back, what is read was laid out, and it takes a byte at least.
use mathlib.Core.Path.{◌≡◌, ap, ap₂, ◌∙◌}
use Prim.Native.Nat.{ℕ, ◌+◌, ◌-◌, ◌<◌, ◌≤◌}
use mathlib.Core.List.{List, ◌++◌, append_assoc}
use native.Mathlib.Omega.{arith}
use lib.ListN.{length, length-append}
use borrow.Author.Tests.{leb-true, le-leb}
use Rattle.event.specs.Bytes.{Bytes}
use Rattle.event.specs.Number.{Width, limit, vlq}
use Rattle.event.specs.Event.{Event, Lawful}
use Rattle.event.specs.Frame.{Frame, frame}
use Rattle.event.specs.Spelling.{Spelling, Permitted}
use Rattle.event.specs.Layout.{lay_frame, lay_event}
use Rattle.event.specs.Outcome.{ok}
use Rattle.event.specs.Reader.{read_vlq, read_frame, kind_in, read_event}
use Rattle.event.proofs.OutcomeLaws.{and_then_ok, and_then_eq, check_ok, check_eq, ok_same}
use Rattle.event.proofs.BytesLaws.{bytes_right}
use Rattle.event.proofs.NumberLaws.{vlq_read, vlq_sound, vlq_size}
use Rattle.event.proofs.FrameLaws.{FrameLaid, frame_read, frame_sound}
use Rattle.event.proofs.KindLaws.{frame_valid, kind_back, kind_fits, frame_back}

pub event_read : (prev force : ℕ) (e : Event) (s : Spelling) (r : List ℕ) → Lawful prev e → Permitted prev force e s
    → read_event prev force (lay_event prev e s ++ r) ≡ ok e r
unfolding read_event lay_event
event_read prev force e s r h p =
    let back : prev + (e.time - prev) ≡ e.time = omega arith in
    rw append_assoc
    (and_then_eq _ (vlq_read s.delta (e.time - prev) (lay_frame (frame e.kind) s.rest ++ r) p.delta)
    ∙ check_eq 7 0 _ (le-leb (prev + (e.time - prev)) 4294967295 (omega arith))
    ∙ and_then_eq _ (frame_read force (frame e.kind) s.rest r (frame_valid e.kind h.fits) p.rest)
    ∙ ap₂ (λ t k. ok (record { time = t; kind = k }) r) back (kind_back e.kind h.fits))

-- an event, and a permitted spelling of it, which these bytes are
pub record EventLaid (prev force : ℕ) (l : List ℕ) (e : Event) (r : List ℕ) : Type 0 where
  pub spelling : Spelling
  pub lawful : Lawful prev e
  pub permitted : Permitted prev force e spelling
  pub bytes : l ≡ lay_event prev e spelling ++ r

event_laid : (prev force : ℕ) (l : List ℕ) (d : ℕ) (m : List ℕ) (x : Frame) (n : List ℕ) (w : Width) → prev + d ≤ 4294967295 → d < limit w → l ≡ vlq w d ++ m
    → FrameLaid force m x n → EventLaid prev force l (record { time = prev + d; kind = kind_in x }) n
unfolding lay_event
event_laid prev force l d m x n w hc hw lw laid =
    let back : prev + d - prev ≡ d = omega arith in
    let same : frame (kind_in x) ≡ x = frame_back x laid.valid in
    record {
      spelling = record { delta = w; rest = laid.spelling };
      lawful = record { later = omega arith; bounded = hc; fits = kind_fits x laid.valid };
      permitted = record { delta = rw back hw; rest = rw same laid.permitted };
      bytes = rw (lw, back, same, append_assoc (vlq w d) (lay_frame x laid.spelling) n) (ap (λ z. vlq w d ++ z) laid.bytes);
    }

pub event_sound : (prev force : ℕ) (l : List ℕ) (e : Event) (r : List ℕ) → Bytes l → read_event prev force l ≡ ok e r → EventLaid prev force l e r
unfolding read_event
event_sound prev force l e r bs q =
    and_then_ok (read_vlq l) _ e r q (λ d m qd q1.
    let (c, q2) = check_ok _ 7 0 _ e r q1 in
    and_then_ok (read_frame force m) _ e r q2 (λ x n qx q3.
    vlq_sound l d m bs qd (λ w hw lw.
    let laid = frame_sound force m x n (bytes_right (vlq w d) m (rw lw at bs)) qx in
    let found = event_laid prev force l d m x n w (leb-true (prev + d) 4294967295 c) hw lw laid in
    ok_same _ e n r q3 (λ p mr. rw (← p, ← mr) found))))

-- every layout of an event has a byte
pub event_size : (prev : ℕ) (e : Event) (s : Spelling) → 1 ≤ length (lay_event prev e s)
unfolding lay_event
event_size prev e s =
    omega (arith, vlq_size s.delta (e.time - prev), length-append (vlq s.delta (e.time - prev)) (lay_frame (frame e.kind) s.rest))

-- so an accepted event leaves fewer bytes
pub event_shorter : (prev force : ℕ) (l : List ℕ) (e : Event) (r : List ℕ) → Bytes l → read_event prev force l ≡ ok e r
    → (length r < length l) × Bytes r
event_shorter prev force l e r bs q =
    let laid = event_sound prev force l e r bs q in
    let size : length l ≡ length (lay_event prev e laid.spelling) + length r = ap length laid.bytes ∙ length-append (lay_event prev e laid.spelling) r in
    (omega (arith, event_size prev e laid.spelling), bytes_right (lay_event prev e laid.spelling) r (rw laid.bytes at bs))
