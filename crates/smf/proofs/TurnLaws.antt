-- A turn of a loop over a file's own events or tracks, for a file that is known to be accepted: what was read, what is left.
use Rattle.std.specs.Prelude.{Result, Ok, Err}
use Rattle.event.specs.declared.EventRead.{EventRead}
use mathlib.Core.Path.{◌≡◌, refl, sym, ap, subst, ◌∙◌}
use Prim.Native.Nat.{ℕ, zero, suc, ◌+◌, ◌-◌, ◌<◌}
use mathlib.Core.Bool.{true, false}
use mathlib.Core.List.{List, [], ◌∷◌}
use native.Mathlib.Omega.{arith}
use lib.ListN.{length, take, drop, length-drop}
use Rattle.event.specs.Bytes.{Bytes}
use Rattle.event.specs.Event.{Event}
use Rattle.event.specs.Frame.{no_status}
use Rattle.event.specs.Outcome.{Outcome, ok, refused, and_then, Readable, value_or}
use Rattle.event.specs.Reader.{read_event}
use Rattle.event.specs.Padding.{event_padding}
use Rattle.event.specs.Step.{end_of, event_step}
use Rattle.event.specs.declared.Time.{Time}
use Rattle.event.specs.declared.EventKind.{EventKind}
use Rattle.event.proofs.BytesLaws.{bytes_drop, bytes_take}
use Rattle.event.proofs.OutcomeLaws.{readable_ok, cons_readable, cons_value}
use Rattle.smf.specs.Reader.{ended, read_all, read_chunk, read_track, read_tracks}
use Rattle.smf.specs.Step.{chunk_step}
use Rattle.smf.proofs.TrackLaws.{all_read, EventsLaid, events_sound}
use Rattle.smf.proofs.FileLaws.{TracksLaid, tracks_sound}
use Rattle.smf.proofs.CameLaws.{Came, came_stop, came_next, came_end}
use Rattle.smf.proofs.ChunkLaws.{chunk_bad, chunk_body}
use Rattle.smf.proofs.ListLaws.{R}

-- ---- events: the body's bytes from the place at on

abbrev pub A : List ℕ → ℕ → ℕ → ℕ → Outcome (List Event)
A s at t f = read_all at t f (drop at s)

pub turn_stop : {x : Result EventRead ℕ} {k : ℕ} (s : List ℕ) (at t f : ℕ) → Bytes s → x ≡ event_step (length s) (event_padding (drop at s)) (read_event t f (drop at s)) → x ≡ Err k → Readable (A s at t f) → ⊥
unfolding Readable
turn_stop s at t f bs e given h = rw (came_stop s at t f at bs e given) at h

end_value : (at : ℕ) (e : Event) (r : List ℕ) → Readable (ended at e r) → value_or [] (ended at e r) ≡ e ∷ []
unfolding ended Readable value_or
end_value at e [] h = refl
end_value at e (b ∷ r) h = absurd h

-- the event, and then the events that are left
module _ {s : List ℕ} {at t f : ℕ} {u : Time} {k : EventKind} {q st : ℕ} (bs : Bytes s) (c : Came s at t f u k q st) (good : Readable (A s at t f)) where
  move : q ≡ at + (q - at)
  move = omega (arith, c.later)

  pub turn_next : end_of k ≡ false → Readable (A s q u.0 st) × (value_or [] (A s at t f) ≡ c.event ∷ value_or [] (A s q u.0 st))
  turn_next last =
      let step = came_next bs c at q move last in
      let rest : Readable (A s q u.0 st) = cons_readable c.event (A s q u.0 st) (rw step at good) in
      (rest, ap (value_or []) step ∙ cons_value c.event (A s q u.0 st) rest)

  pub turn_end : end_of k ≡ true → value_or [] (A s at t f) ≡ c.event ∷ []
  turn_end last = let step = came_end bs c at q move last in ap (value_or []) step ∙ end_value q c.event (drop q s) (rw step at good)

-- they were laid out so
pub events_laid : (s : List ℕ) (at t f : ℕ) → Bytes s → Readable (A s at t f) → EventsLaid t f (drop at s) (value_or [] (A s at t f)) []
unfolding read_all value_or
events_laid s at t f bs h =
    let (es, r, e) = readable_ok (A s at t f) h in
    let laid = events_sound (suc (length (drop at s))) at t f (drop at s) es r (bytes_drop s at bs) e in
    rw e (subst (λ z. EventsLaid t f (drop at s) es z) (sym laid.all) laid)

-- ---- tracks: so many from the place at on

pub tracks_stop : (s : List ℕ) (left at k p : ℕ) → 0 < left → chunk_step (length s) (read_chunk at (drop at s)) ≡ Err (k, p) → Readable (R s left at) → ⊥
unfolding read_tracks read_track and_then Readable
tracks_stop s zero at k p z e h = omega arith
tracks_stop s (suc n) at k p z e h = rw (chunk_bad (length s) k p (read_chunk at (drop at s)) e) at h

-- they were laid out so
pub tracks_laid : (s : List ℕ) (left at : ℕ) → Bytes s → Readable (R s left at) → (r : List ℕ) × TracksLaid left (drop at s) (value_or [] (R s left at)) r
unfolding value_or
tracks_laid s left at bs h =
    let (ts, r, e) = readable_ok (R s left at) h in
    (r, subst (λ z. TracksLaid left (drop at s) (value_or [] z) r) (sym e) (tracks_sound left at (drop at s) ts r (bytes_drop s at bs) e))

-- the events of a body are the same wherever it stands
anywhere : (base prev force : ℕ) (l : List ℕ) (es : List Event) (q : List ℕ) → Bytes l → read_all base prev force l ≡ ok es q → read_all 0 prev force l ≡ ok es []
unfolding read_all
anywhere base prev force l es q bs e =
    let laid = events_sound (suc (length l)) base prev force l es q bs e in
    rw laid.bytes (all_read 0 prev force es laid.spelling laid.lawful laid.permitted)

-- one track is read, in the body from a to b; n others are left
pub record TrackTurn (s : List ℕ) (left n at a b : ℕ) : Type 0 where
  pub body : Readable (read_all 0 0 0 (take (b - a) (drop a s)))
  pub rest : Readable (R s n b)
  pub all : value_or [] (R s left at) ≡ value_or [] (read_all 0 0 0 (take (b - a) (drop a s))) ∷ value_or [] (R s n b)

turn_with : (s : List ℕ) (n at a b : ℕ) (x : Outcome (List Event)) → Bytes (take (b - a) (drop a s)) → read_all a 0 no_status (take (b - a) (drop a s)) ≡ x
    → R s (suc n) at ≡ and_then (and_then x (λ es q. ok es (drop b s))) (λ t r. and_then (read_tracks n (at + (length (drop at s) - length r)) r) (λ ts q. ok (t ∷ ts) q))
    → at + (length (drop at s) - length (drop b s)) ≡ b → Readable (R s (suc n) at) → TrackTurn s (suc n) n at a b
unfolding and_then Readable value_or
turn_with s n at a b (ok es q) bs e step next good =
    let there : read_all 0 0 0 (take (b - a) (drop a s)) ≡ ok es [] = anywhere a 0 0 (take (b - a) (drop a s)) es q bs e in
    let one : R s (suc n) at ≡ and_then (R s n b) (λ ts r. ok (es ∷ ts) r) = step ∙ ap (λ z. and_then (read_tracks n z (drop b s)) (λ ts r. ok (es ∷ ts) r)) next in
    let rest : Readable (R s n b) = cons_readable es (R s n b) (rw one at good) in
    let all : value_or [] (R s (suc n) at) ≡ es ∷ value_or [] (R s n b) = ap (value_or []) one ∙ cons_value es (R s n b) rest in
    record { body = rw there tt; rest = rest; all = all ∙ ap (λ z. value_or [] z ∷ value_or [] (R s n b)) (sym there) }
turn_with s n at a b (refused k p) bs e step next good = absurd (rw step at good)

turn_one : (s : List ℕ) (n at a b : ℕ) → Bytes s → chunk_step (length s) (read_chunk at (drop at s)) ≡ Ok (record { start = a; end = b }) → Readable (R s (suc n) at) → TrackTurn s (suc n) n at a b
unfolding read_tracks read_track and_then
turn_one s n at a b bs e good =
    let there = chunk_body s at a b bs e in
    let next : at + (length (drop at s) - length (drop b s)) ≡ b = simp length-drop (omega (arith, there.begins, there.order, there.inside)) in
    turn_with s n at a b _ (bytes_take (drop a s) (b - a) (bytes_drop s a bs)) refl (rw (there.read, there.start) refl) next good

pub turn_track : (s : List ℕ) (left n at a b : ℕ) → left ≡ suc n → Bytes s → chunk_step (length s) (read_chunk at (drop at s)) ≡ Ok (record { start = a; end = b }) → Readable (R s left at) → TrackTurn s left n at a b
turn_track s left n at a b q bs e good = rw q (turn_one s n at a b bs e (rw q at good))
