-- Rows: what one that stands before events tells, how it goes on, and how all of them change when one does.
use Rattle.std.specs.Prelude.{Result, Err}
use Rattle.event.specs.declared.EventRead.{EventRead}
use mathlib.Core.Path.{◌≡◌, refl, sym, ap, ◌∙◌, subst}
use Prim.Native.Nat.{ℕ, ◌-◌, ◌≤◌, ◌<◌}
use mathlib.Core.Bool.{true, false}
use mathlib.Core.List.{List, [], ◌∷◌, ◌++◌}
use native.Mathlib.Omega.{arith}
use lib.Dec.{eqb}
use lib.ListN.{length, drop, get_or, set, length-drop}
use lib.Seq.{get_or-set_same, get_or-set_other, drop-set-lt}
use borrow.Author.Tests.{eqb-true, eqb-false}
use Rattle.event.specs.Bytes.{Bytes}
use Rattle.event.specs.Choice.{pick}
use Rattle.event.specs.Event.{Event, Kind, is_end, note_off, note_on, poly_aftertouch, control, program, channel_aftertouch, pitch_bend, system_exclusive, system_exclusive_packet, sequence_number, text, channel_prefix, midi_port, end_track, tempo, smpte_offset, time_signature, key_signature, sequencer_specific, unknown_meta}
use Rattle.event.specs.Frame.{frame, after}
use Rattle.event.specs.Layout.{lay_event}
use Rattle.event.specs.Outcome.{ok}
use Rattle.event.specs.Reader.{read_event}
use Rattle.event.specs.Padding.{event_padding}
use Rattle.event.specs.Step.{event_step, kind_from, kind_at}
use Rattle.event.specs.declared.Time.{Time}
use Rattle.event.specs.declared.EventKind.{EventKind}
use Rattle.event.proofs.ChoiceLaws.{by_test}
use Rattle.event.proofs.BytesLaws.{bytes_drop}
use Rattle.event.proofs.OutcomeLaws.{ok_same}
use Rattle.event.proofs.EventLaws.{event_read, event_sound}
use Rattle.event.proofs.StepLaws.{end_of_lem}
use Rattle.smf.proofs.CameLaws.{Came}
use Rattle.smf.specs.Walk.{Placed}
use Rattle.fold.specs.Code.Row.{row_of}
use Rattle.fold.specs.Code.Stand.{first_time, first_status, Stand, Rows}
use Rattle.fold.specs.declared.Row.{Row}
use Rattle.smf.specs.Code.Chain.{Chain, Link, Tail}

-- ---- no event leaves the status 1 in force

pub never_one : (k : Kind) → after (frame k) ≡ 1 → ⊥
unfolding frame after
never_one (note_off c k v) z = omega arith
never_one (note_on c k v) z = omega arith
never_one (poly_aftertouch c k v) z = omega arith
never_one (control c k v) z = omega arith
never_one (program c p) z = omega arith
never_one (channel_aftertouch c v) z = omega arith
never_one (pitch_bend c v) z = omega arith
never_one (system_exclusive d) z = omega arith
never_one (system_exclusive_packet d) z = omega arith
never_one (sequence_number n) z = omega arith
never_one (text t d) z = omega arith
never_one (channel_prefix n) z = omega arith
never_one (midi_port n) z = omega arith
never_one end_track z = omega arith
never_one (tempo n) z = omega arith
never_one (smpte_offset h m s f u) z = omega arith
never_one (time_signature n d c b) z = omega arith
never_one (key_signature k m) z = omega arith
never_one (sequencer_specific d) z = omega arith
never_one (unknown_meta t d) z = omega arith

-- ---- the row made by row_at stands

stands_with : (f : List ℕ) (at prev force : ℕ) (ms : List Placed) → (force ≡ 1 → ⊥) → Chain f at prev force ms
    → let row : Row = row_of at prev force (event_step (length f) (event_padding (drop at f)) (read_event prev force (drop at f))) in Stand f row.place row.time row.status ms
unfolding Chain row_of event_step first_time first_status
stands_with f at prev force [] h c = absurd c
stands_with f at prev force (m ∷ ms) h c =
    rw c.0.come
    (record {
      prev = prev;
      force = force;
      plain = h;
      chain = c;
      time_is = refl;
      status_is = ap (λ z. pick z 1 force) (end_of_lem (length f - length (drop m.next f)) m.event.kind);
    })

pub row_stands : (f : List ℕ) (at prev force : ℕ) (ms : List Placed) (row : Row) → (force ≡ 1 → ⊥) → Chain f at prev force ms
    → row ≡ row_of at prev force (event_step (length f) (event_padding (drop at f)) (read_event prev force (drop at f))) → Stand f row.place row.time row.status ms
row_stands f at prev force ms row h c e = subst (λ (r : Row). Stand f r.place r.time r.status ms) (sym e) (stands_with f at prev force ms h c)

-- ---- a row that has an event left

pub record Opened (f : List ℕ) (place time status : ℕ) (ms : List Placed) : Type 0 where
  pub first : Placed
  pub rest : List Placed
  pub same : ms ≡ first ∷ rest
  pub inner : is_end first.event.kind ≡ false
  pub time_is : time ≡ first.event.time
  pub prev : ℕ
  pub link : Link f place prev status first
  pub chain : Chain f first.next first.event.time (after (frame first.event.kind)) rest

pub stand_open : (f : List ℕ) (p t s : ℕ) (ms : List Placed) → Stand f p t s ms → (s ≡ 1 → ⊥) → Opened f p t s ms
unfolding Chain Tail first_time first_status pick
stand_open f p t s [] d h = absurd d.chain
stand_open f p t s (m ∷ ms) d h =
    by_test (is_end m.event.kind) (λ b. absurd (h (rw b at d.status_is)))
    (λ b.
    let e : s ≡ d.force = rw b at d.status_is in
    record {
      first = m;
      rest = ms;
      same = refl;
      inner = b;
      time_is = d.time_is;
      prev = d.prev;
      link = subst (λ z. Link f p d.prev z m) (sym e) d.chain.0;
      chain = rw b at d.chain.1;
    })

-- a row with none: it stands at the End_track
pub record Ended (f : List ℕ) (place time : ℕ) (ms : List Placed) : Type 0 where
  pub first : Placed
  pub same : ms ≡ first ∷ []
  pub last : is_end first.event.kind ≡ true
  pub place_is : place ≡ first.start
  pub time_is : time ≡ first.event.time

pub stand_ended : (f : List ℕ) (p t s : ℕ) (ms : List Placed) → Stand f p t s ms → s ≡ 1 → Ended f p t ms
unfolding Chain Tail first_time first_status pick
stand_ended f p t s [] d h = absurd d.chain
stand_ended f p t s (m ∷ ms) d h =
    by_test (is_end m.event.kind)
    (λ b. record { first = m; same = ap (λ z. m ∷ z) (rw b at d.chain.1); last = b; place_is = sym d.chain.0.place; time_is = d.time_is })
    (λ b. let e : s ≡ d.force = rw b at d.status_is in absurd (d.plain (sym e ∙ h)))

-- ---- the event read again at its place, after the Time 0: all but its Time is the same

read_zero : (f : List ℕ) (at prev force : ℕ) (m : Placed) → Bytes f → Link f at prev force m
    → read_event 0 force (drop at f) ≡ ok (record { time = m.event.time - prev; kind = m.event.kind }) (drop m.next f)
unfolding lay_event
read_zero f at prev force m bs link =
    let e : Event = m.event in
    let laid = event_sound prev force (drop at f) e (drop m.next f) (bytes_drop f at bs) link.come in
    let law = laid.lawful in
    let mine = laid.permitted in
    let d : Event = record { time = e.time - prev; kind = e.kind } in
    let less : e.time - prev ≡ e.time - prev - 0 = omega arith in
    let bytes : lay_event prev e laid.spelling ≡ lay_event 0 d laid.spelling = rw (← less) refl in
    ap (read_event 0 force) (laid.bytes ∙ ap (λ z. z ++ drop m.next f) bytes)
    ∙ event_read 0 force d laid.spelling (drop m.next f) (record { later = omega arith; bounded = omega (arith, law.bounded); fits = law.fits })
    (record { delta = rw (← less) mine.delta; rest = mine.rest })

pub record Taken (f : List ℕ) (k : EventKind) (n st : ℕ) (m : Placed) : Type 0 where
  pub next : n ≡ m.next
  pub kind : kind_from f k ≡ m.event.kind
  pub shape : kind_at n m.event.kind ≡ k
  pub status : after (frame m.event.kind) ≡ st

pub taken : (f : List ℕ) (at prev force : ℕ) (m : Placed) (u : Time) (k : EventKind) (n st : ℕ) → Bytes f → Link f at prev force m → Came f at 0 force u k n st → Taken f k n st m
taken f at prev force m u k n st bs link c =
    ok_same _ _ (drop n f) (drop m.next f) (sym c.come ∙ read_zero f at prev force m bs link) (λ e r.
    let size = ap length r in
    let same : c.event.kind ≡ m.event.kind = ap (λ (x : Event). x.kind) e in
    record {
      next = omega (arith, size, length-drop n f, length-drop m.next f, c.inside, link.inside);
      kind = c.there ∙ same;
      shape = ap (kind_at n) (sym same) ∙ c.kind;
      status = ap (λ z. after (frame z)) (sym same) ∙ c.status;
    })

pub no_stop : (f : List ℕ) (at prev force : ℕ) (m : Placed) (k : ℕ) (x : Result EventRead ℕ) → Bytes f → Link f at prev force m → x ≡ event_step (length f) (event_padding (drop at f)) (read_event 0 force (drop at f)) → x ≡ Err k → ⊥
unfolding event_step
no_stop f at prev force m k x bs link e g =
    let p = sym g ∙ e ∙ ap (event_step (length f) (event_padding (drop at f))) (read_zero f at prev force m bs link) in
    let z : ◌≡◌ {A = ℕ} 0 1 = cc in omega arith

-- ---- one row changes

pub rows_set : (f : List ℕ) (n : ℕ) (left : List (List Placed)) (ps ts ss ps₀ ts₀ ss₀ : List ℕ) (i p t s : ℕ) (ms : List Placed) → i < n → n ≤ length ps → n ≤ length ts → n ≤ length ss → n ≤ length left
    → Rows f n left ps ts ss ps₀ ts₀ ss₀ → Stand f p t s ms → Rows f n (set left i ms) (set ps i p) (set ts i t) (set ss i s) ps₀ ts₀ ss₀
rows_set f n left ps ts ss ps₀ ts₀ ss₀ i p t s ms h a b c d rows stand =
    record {
      standing =
          λ j g.
          by_test (eqb j i)
          (λ y.
          let e : i ≡ j = sym (eqb-true j i y) in
          subst (λ z. Stand f (get_or (set ps i p) z 0) (get_or (set ts i t) z 0) (get_or (set ss i s) z 0) (get_or (set left i ms) z [])) e
          (rw (get_or-set_same ps i p 0 (omega arith), get_or-set_same ts i t 0 (omega arith), get_or-set_same ss i s 0 (omega arith), get_or-set_same left i ms [] (omega arith)) stand))
          (λ y.
          let e = eqb-false j i y in
          rw (get_or-set_other ps i j p 0 e, get_or-set_other ts i j t 0 e, get_or-set_other ss i j s 0 e, get_or-set_other left i j ms [] e) (rows.standing j g));
      places = drop-set-lt n ps i p h ∙ rows.places;
      times = drop-set-lt n ts i t h ∙ rows.times;
      statuses = drop-set-lt n ss i s h ∙ rows.statuses;
    }
