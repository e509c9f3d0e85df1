-- The event that was read by the answer of the event side, and the reading of the events from its place on, for a walk over any
-- track (WalkLaws) and over one that is known to be accepted (TurnLaws).
use Rattle.event.proofs.PassedLaws.{ok_is}
use Rattle.std.specs.Prelude.{Result, Ok, Err}
use Rattle.event.specs.declared.EventRead.{EventRead}
use mathlib.Core.Path.{◌≡◌, refl, sym, ap, ◌∙◌}
use Prim.Native.Nat.{ℕ, ◌+◌, ◌-◌, ◌<◌, ◌≤◌}
use mathlib.Core.Bool.{true, false}
use mathlib.Core.List.{List, ◌∷◌}
use native.Mathlib.Omega.{arith}
use lib.ListN.{length, drop, length-drop}
use Rattle.event.specs.Bytes.{Bytes}
use Rattle.event.specs.Event.{Event, Lawful, is_end}
use Rattle.event.specs.Frame.{frame, after}
use Rattle.event.specs.Layout.{lay_event}
use Rattle.event.specs.Outcome.{Outcome, ok, refused, and_then, placed}
use Rattle.event.specs.Reader.{read_event}
use Rattle.event.specs.Spelling.{Spelling, Permitted}
use Rattle.event.specs.Padding.{event_padding}
use Rattle.event.specs.Step.{kind_at, kind_from, end_of, event_step}
use Rattle.event.specs.declared.Time.{Time}
use Rattle.event.specs.declared.EventKind.{EventKind}
use Rattle.event.proofs.BytesLaws.{bytes_drop}
use Rattle.event.proofs.DataLaws.{kind_there}
use Rattle.event.proofs.EventLaws.{event_sound, event_shorter}
use Rattle.event.proofs.PlaceLaws.{place}
use Rattle.event.proofs.StepLaws.{end_of_lem}
use Rattle.smf.specs.Reader.{ended, go_on, read_all}
use Rattle.smf.proofs.TrackLaws.{all_step}

-- the event at the place at, after the Time t, with the status f in force; what the event side answered of it: u, k, q, st
pub record Came (s : List ℕ) (at t f : ℕ) (u : Time) (k : EventKind) (q st : ℕ) : Type 0 where
  pub event : Event
  pub come : read_event t f (drop at s) ≡ ok event (drop q s)
  pub later : at < q
  pub inside : q ≤ length s
  pub time : event.time ≡ u.0
  pub kind : kind_at q event.kind ≡ k
  pub ends : end_of k ≡ is_end event.kind
  pub there : kind_from s k ≡ event.kind
  pub status : after (frame event.kind) ≡ st
  pub lawful : Lawful t event
  pub spelling : Spelling
  pub permitted : Permitted t f event spelling

came_of : (s : List ℕ) (at t f : ℕ) (u : Time) (k : EventKind) (q st x y : ℕ) (m : Outcome Event) → Bytes (drop at s) → at ≤ length s
    → read_event t f (drop at s) ≡ m → event_step (length s) x m ≡ Ok (record { kind = k; next = record { place = q; time = u; status = st }; padding = y }) → Came s at t f u k q st
unfolding event_step
came_of s at t f u k q st x y (ok e r) bs h come p =
    let laid = event_sound t f (drop at s) e r bs come in
    let back : drop (length s - length r) s ≡ r = place s (lay_event t e laid.spelling) r at laid.bytes in
    let (shorter, br) = event_shorter t f (drop at s) e r bs come in
    let same = ok_is p in
    let pq : length s - length r ≡ q = ap (λ (z : EventRead). z.next.place) same in
    let pk : kind_at (length s - length r) e.kind ≡ k = ap (λ (z : EventRead). z.kind) same in
    let pt : e.time ≡ u.0 = ap (λ (z : EventRead). z.next.time.0) same in
    let ps : after (frame e.kind) ≡ st = ap (λ (z : EventRead). z.next.status) same in
    let rest : r ≡ drop q s = cc in
    let kind : kind_at q e.kind ≡ k = ap (λ z. kind_at z e.kind) (sym pq) ∙ pk in
    record {
      event = e;
      come = come ∙ ap (ok e) rest;
      later = omega (arith, length-drop at s);
      inside = omega arith;
      time = pt;
      kind = kind;
      ends = ap end_of (sym kind) ∙ end_of_lem q e.kind;
      there = ap (kind_from s) (sym pk) ∙ kind_there t f e laid.spelling s r at laid.lawful laid.permitted laid.bytes h;
      status = ps;
      lawful = laid.lawful;
      spelling = laid.spelling;
      permitted = laid.permitted;
    }
came_of s at t f u k q st x y (refused n z) bs h come p = let w : ◌≡◌ {A = ℕ} 0 1 = cc in absurd (omega arith)

-- x is the answer
pub event_came : {x : Result EventRead ℕ} {u : Time} {k : EventKind} {q st y : ℕ} (s : List ℕ) (at t f : ℕ) → Bytes s → at ≤ length s
    → x ≡ event_step (length s) (event_padding (drop at s)) (read_event t f (drop at s)) → x ≡ Ok (record { kind = k; next = record { place = q; time = u; status = st }; padding = y }) → Came s at t f u k q st
event_came {x} {u} {k} {q} {st} {y} s at t f bs h e given = came_of s at t f u k q st _ y _ (bytes_drop s at bs) h refl (sym e ∙ given)

padding_with : (n x : ℕ) (u : Time) (k : EventKind) (q st y : ℕ) (m : Outcome Event) → event_step n x m ≡ Ok (record { kind = k; next = record { place = q; time = u; status = st }; padding = y }) → x ≡ y
unfolding event_step
padding_with n x u k q st y (ok e r) p = ap (λ (z : EventRead). z.padding) (ok_is p)
padding_with n x u k q st y (refused j z) p = let w : ◌≡◌ {A = ℕ} 0 1 = cc in absurd (omega arith)

-- and the bytes that it took above the fewest
pub event_padding_lem : {x : Result EventRead ℕ} {u : Time} {k : EventKind} {q st y : ℕ} (s : List ℕ) (at t f : ℕ) → x ≡ event_step (length s) (event_padding (drop at s)) (read_event t f (drop at s)) → x ≡ Ok (record { kind = k; next = record { place = q; time = u; status = st }; padding = y })
    → event_padding (drop at s) ≡ y
event_padding_lem {x} {u} {k} {q} {st} {y} s at t f e given = padding_with (length s) _ u k q st y _ (sym e ∙ given)

stopped : (n x k : ℕ) (m : Outcome Event) → event_step n x m ≡ Err k → (z : ℕ) × (m ≡ refused k z)
unfolding event_step
stopped n x k (ok e r) p = let w : ◌≡◌ {A = ℕ} 0 1 = cc in absurd (omega arith)
stopped n x k (refused j z) p = (z, cc)

-- ---- the events from that place on, which is called p in the file, as p' is the place after the event

pub came_stop : {x : Result EventRead ℕ} {k : ℕ} (s : List ℕ) (at t f p : ℕ) → Bytes s → x ≡ event_step (length s) (event_padding (drop at s)) (read_event t f (drop at s)) → x ≡ Err k → read_all p t f (drop at s) ≡ refused k p
unfolding and_then placed
came_stop {x} {k} s at t f p bs e given = let (z, q) = stopped (length s) _ k _ (sym e ∙ given) in rw (all_step p t f (drop at s) (bytes_drop s at bs), q) refl

module _ {s : List ℕ} {at t f : ℕ} {u : Time} {k : EventKind} {q st : ℕ} (bs : Bytes s) (c : Came s at t f u k q st) (p p' : ℕ) (move : p' ≡ p + (q - at)) where
  came_all : read_all p t f (drop at s) ≡ go_on (end_of k) p' c.event (drop q s) (read_all p' u.0 st (drop q s))
  unfolding and_then placed
  came_all =
      let lt = c.later in
      let le = c.inside in
      let next : p + (length (drop at s) - length (drop q s)) ≡ p' = simp length-drop (omega arith) in
      rw (all_step p t f (drop at s) (bytes_drop s at bs), c.come, next, c.status, c.time, c.ends) refl

  pub came_next : end_of k ≡ false → read_all p t f (drop at s) ≡ and_then (read_all p' u.0 st (drop q s)) (λ es r. ok (c.event ∷ es) r)
  unfolding go_on
  came_next last = came_all ∙ ap (λ z. go_on z p' c.event (drop q s) (read_all p' u.0 st (drop q s))) last

  pub came_end : end_of k ≡ true → read_all p t f (drop at s) ≡ ended p' c.event (drop q s)
  unfolding go_on
  came_end last = came_all ∙ ap (λ z. go_on z p' c.event (drop q s) (read_all p' u.0 st (drop q s))) last
