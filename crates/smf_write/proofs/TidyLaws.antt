-- Writing a file's own events again: the turns of the loops over events and tracks.
use mathlib.Core.Path.{◌≡◌, refl, sym, ap, ap₂, ◌∙◌}
use Prim.Native.Nat.{ℕ, ◌-◌, ◌*◌, ◌≤◌}
use mathlib.Core.List.{List, [], ◌∷◌, ◌++◌, append-nil}
use native.Mathlib.Omega.{arith}
use lib.ListN.{length, drop}
use Rattle.event.specs.Bytes.{Bytes}
use Rattle.event.specs.Dates.{since_of}
use Rattle.std.specs.Prelude.{unwrap_or}
use Rattle.event.specs.Choice.{pick}
use Rattle.event.proofs.ChoiceLaws.{by_test}
use borrow.Author.Tests.{leb-false}
use lib.Dec.{leb}
use Rattle.event.specs.Event.{Event}
use Rattle.event.specs.Frame.{frame, after}
use Rattle.event.specs.Layout.{lay_event}
use Rattle.event.specs.Manner.{Manner, spell_event}
use Rattle.event.specs.Outcome.{Readable, value_or}
use Rattle.event.specs.Step.{kind_from}
use Rattle.event.specs.declared.Time.{Time}
use Rattle.event.specs.declared.EventKind.{EventKind}
use Rattle.event_write.specs.Head.{head_bytes, data_of}
use Rattle.event_write.proofs.HeadLaws.{event_bytes}
use Rattle.smf.specs.Layout.{lay_events}
use Rattle.smf.specs.Manner.{spell_events}
use Rattle.smf.proofs.MannerLaws.{events_double}
use Rattle.smf.proofs.CameLaws.{Came}
use Rattle.smf.proofs.TurnLaws.{A, events_laid}
use Rattle.smf_write.specs.Tidy.{events_in, step_of}

-- ---- a turn of the loop over a track's events: the body's bytes from the place at on

-- what is left to write
abbrev pub Left : Manner → List ℕ → ℕ → ℕ → ℕ → List ℕ
Left m s at t f = events_in m t f (value_or [] (A s at t f))

module _ (m : Manner) {s : List ℕ} {at t f : ℕ} {u : Time} {k : EventKind} {q st : ℕ} (c : Came s at t f u k q st) where
  -- what the event is written as
  item : lay_event t c.event (spell_event m t f c.event) ≡ head_bytes m f (u.0 - t) k ++ data_of (kind_from s k)
  item =
      event_bytes m t f q c.event c.lawful c.spelling c.permitted
      ∙ ap₂ (λ x y. head_bytes m f (x - t) y ++ data_of c.event.kind) c.time c.kind
      ∙ ap (λ z. head_bytes m f (u.0 - t) k ++ data_of z) (sym c.there)

  pub next_left : value_or [] (A s at t f) ≡ c.event ∷ value_or [] (A s q u.0 st)
      → Left m s at t f ≡ head_bytes m f (u.0 - t) k ++ data_of (kind_from s k) ++ Left m s q u.0 st
  unfolding lay_events spell_events
  next_left all =
      let es : List Event = value_or [] (A s q u.0 st) in
      ap (events_in m t f) all
      ∙ ap₂ (λ x y. x ++ events_in m y (after (frame c.event.kind)) es) item c.time
      ∙ ap (λ z. head_bytes m f (u.0 - t) k ++ data_of (kind_from s k) ++ events_in m u.0 z es) c.status

  pub end_left : value_or [] (A s at t f) ≡ c.event ∷ [] → Left m s at t f ≡ head_bytes m f (u.0 - t) k ++ data_of (kind_from s k)
  unfolding lay_events spell_events
  end_left all = ap (events_in m t f) all ∙ append-nil _ ∙ item

-- the events that are left take at most twice the bytes of the body
pub left_small : (m : Manner) (s : List ℕ) (at t f : ℕ) → Bytes s → Readable (A s at t f) → length (Left m s at t f) ≤ 2 * length (drop at s)
left_small m s at t f bs h =
    let laid = events_laid s at t f bs h in
    omega (arith, ap length laid.bytes, events_double m t f (value_or [] (A s at t f)) laid.spelling laid.permitted)

-- ---- the delta

pub step_is : (t u : ℕ) → unwrap_or (since_of t u) (record { 0 = 0 }) ≡ step_of t u
unfolding since_of pick
step_is t u =
    by_test (leb u t) (λ q. rw q refl)
    (λ q. let h = leb-false u t q in let z : 0 ≡ t - u = omega arith in rw q (ap (λ n. record { 0 = n }) z))
