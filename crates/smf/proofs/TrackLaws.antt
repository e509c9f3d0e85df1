-- The events of a track: what is laid out is read back, and what is read was laid out.
use mathlib.Core.Path.{◌≡◌, refl, ap, ◌∙◌}
use Prim.Native.Nat.{ℕ, zero, suc, ◌+◌, ◌-◌, ◌<◌, ◌≤◌}
use mathlib.Core.Bool.{Bool, true, false}
use mathlib.Core.List.{List, [], ◌∷◌, ◌++◌}
use native.Mathlib.Omega.{arith}
use lib.ListN.{length, length-append}
use Rattle.event.specs.Bytes.{Bytes}
use Rattle.event.specs.Event.{Event, is_end}
use Rattle.event.specs.Frame.{frame, after}
use Rattle.event.specs.Spelling.{Spelling}
use Rattle.event.specs.Layout.{lay_event}
use Rattle.event.specs.Outcome.{Outcome, ok, and_then, placed}
use Rattle.event.specs.Reader.{read_event}
use Rattle.event.proofs.OutcomeLaws.{not_ok, ok_same, and_then_ok, and_then_eq, and_then_same, placed_ok, placed_eq}
use Rattle.event.proofs.BytesLaws.{bytes_right}
use Rattle.event.proofs.EventLaws.{event_read, event_sound, event_size, event_shorter}
use Rattle.smf.specs.Piece.{Ends, LawfulEvents}
use Rattle.smf.specs.Spelling.{PermittedEvents}
use Rattle.smf.specs.Layout.{lay_events}
use Rattle.smf.specs.Reader.{ended, go_on, read_events, read_all}

-- ---- what is laid out is read back

go_read : (b : Bool) (at : ℕ) (e : Event) (es : List Event) (ss : List Spelling) (t : ℕ) (k : Outcome (List Event)) (P : Type 0)
    → Ends b es P → (P → k ≡ ok es []) → go_on b at e (lay_events t es ss) k ≡ ok (e ∷ es) []
unfolding Ends go_on ended lay_events
go_read true at e es ss t k P h f = rw h
go_read false at e es ss t k P h f = and_then_eq _ (f h)

pub events_read_lem : (n at prev force : ℕ) (es : List Event) (ss : List Spelling) → LawfulEvents prev es → PermittedEvents prev force es ss → length es ≤ n
    → read_events n at prev force (lay_events prev es ss) ≡ ok es []
unfolding read_events LawfulEvents PermittedEvents lay_events
events_read_lem n at prev force [] ss l p h = absurd l
events_read_lem n at prev force (e ∷ es) [] l p h = absurd p
events_read_lem zero at prev force (e ∷ es) (s ∷ ss) l p h = absurd (omega arith)
events_read_lem (suc n) at prev force (e ∷ es) (s ∷ ss) l p h =
    and_then_eq _ (placed_eq at (event_read prev force e s (lay_events e.time es ss) l.0 p.0))
    ∙ go_read (is_end e.kind) _ e es ss e.time _ _ l.1 (λ c. events_read_lem n _ e.time (after (frame e.kind)) es ss c p.1 (omega arith))

-- a track has no more events than bytes
pub events_size : (prev force : ℕ) (es : List Event) (ss : List Spelling) → PermittedEvents prev force es ss → length es ≤ length (lay_events prev es ss)
unfolding PermittedEvents lay_events
events_size prev force [] ss p = omega arith
events_size prev force (e ∷ es) [] p = absurd p
events_size prev force (e ∷ es) (s ∷ ss) p =
    let h : length es ≤ length (lay_events e.time es ss) = events_size e.time _ es ss p.1 in
    simp length-append (omega (arith, event_size prev e s))

pub all_read : (at prev force : ℕ) (es : List Event) (ss : List Spelling) → LawfulEvents prev es → PermittedEvents prev force es ss
    → read_all at prev force (lay_events prev es ss) ≡ ok es []
unfolding read_all
all_read at prev force es ss l p = events_read_lem (suc (length (lay_events prev es ss))) at prev force es ss l p (omega (arith, events_size prev force es ss p))

-- ---- what is read was laid out

pub go_sound : {X : Type 0} (b : Bool) (at : ℕ) (e : Event) (r : List ℕ) (k : Outcome (List Event)) (es : List Event) (q : List ℕ) → go_on b at e r k ≡ ok es q
    → (b ≡ true → r ≡ [] → e ∷ [] ≡ es → [] ≡ q → X)
    → (b ≡ false → (fs : List Event) → k ≡ ok fs q → e ∷ fs ≡ es → X) → X
unfolding go_on ended
go_sound true at e [] k es q h f g = f refl refl (cc) (cc)
go_sound true at e (b ∷ r) k es q h f g = not_ok h
go_sound false at e r k es q h f g = and_then_ok k _ es q h (λ fs m qk qe. ok_same _ es m q qe (λ p mq. g refl fs (rw (← mq) qk) p))

-- lawful events, and a permitted spelling of them, which all these bytes are
pub record EventsLaid (prev force : ℕ) (l : List ℕ) (es : List Event) (r : List ℕ) : Type 0 where
  pub spelling : List Spelling
  pub lawful : LawfulEvents prev es
  pub permitted : PermittedEvents prev force es spelling
  pub bytes : l ≡ lay_events prev es spelling
  pub all : [] ≡ r

pub events_sound : (n at prev force : ℕ) (l : List ℕ) (es : List Event) (r : List ℕ) → Bytes l → read_events n at prev force l ≡ ok es r
    → EventsLaid prev force l es r
unfolding read_events LawfulEvents PermittedEvents lay_events Ends
events_sound zero at prev force l es r bs q = not_ok q
events_sound (suc n) at prev force l es r bs q =
    and_then_ok _ _ es r q (λ e m qe q1.
    let laid = event_sound prev force l e m bs (placed_ok at _ e m qe) in
    go_sound (is_end e.kind) _ e m _ es r q1
    (λ b mn p rn.
    rw (← p)
    (record {
      spelling = laid.spelling ∷ [];
      lawful = (laid.lawful, rw b refl);
      permitted = (laid.permitted, tt);
      bytes = laid.bytes ∙ ap (λ z. lay_event prev e laid.spelling ++ z) mn;
      all = rn;
    }))
    (λ b fs qk p.
    let rest = events_sound n _ e.time (after (frame e.kind)) m fs r (bytes_right (lay_event prev e laid.spelling) m (rw laid.bytes at bs)) qk in
    rw (← p)
    (record {
      spelling = laid.spelling ∷ rest.spelling;
      lawful = (laid.lawful, rw b rest.lawful);
      permitted = (laid.permitted, rest.permitted);
      bytes = laid.bytes ∙ ap (λ z. lay_event prev e laid.spelling ++ z) rest.bytes;
      all = rest.all;
    })))

-- ---- the count of read_events never shows: any that is large enough gives the same, and read_all's is large enough

pub events_fuel : (n m at prev force : ℕ) (l : List ℕ) → Bytes l → length l < n → length l < m → read_events n at prev force l ≡ read_events m at prev force l
unfolding read_events
events_fuel zero m at prev force l bs hn hm = absurd (omega arith)
events_fuel (suc n) zero at prev force l bs hn hm = absurd (omega arith)
events_fuel (suc n) (suc m) at prev force l bs hn hm =
    and_then_same (placed at (read_event prev force l)) _ _ (λ e r q.
    let (shorter, br) = event_shorter prev force l e r bs (placed_ok at _ e r q) in
    ap (go_on (is_end e.kind) _ e r) (events_fuel n m _ e.time (after (frame e.kind)) r br (omega arith) (omega arith)))

-- read_all by its own recursion, with no count in sight
pub all_step : (at prev force : ℕ) (l : List ℕ) → Bytes l
    → read_all at prev force l
    ≡ and_then (placed at (read_event prev force l)) (λ e r.
    go_on (is_end e.kind) (at + (length l - length r)) e r (read_all (at + (length l - length r)) e.time (after (frame e.kind)) r))
unfolding read_all read_events
all_step at prev force l bs =
    and_then_same (placed at (read_event prev force l)) _ _ (λ e r q.
    let (shorter, br) = event_shorter prev force l e r bs (placed_ok at _ e r q) in
    ap (go_on (is_end e.kind) _ e r) (events_fuel (length l) (suc (length r)) _ e.time (after (frame e.kind)) r br (omega arith) (omega arith)))
