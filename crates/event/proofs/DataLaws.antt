-- The data bytes of an event stand at the end of its bytes, where its answer says.
use mathlib.Core.Path.{◌≡◌, refl, sym, ap, ◌∙◌}
use Prim.Native.Nat.{ℕ, ◌+◌, ◌-◌, ◌≤◌}
use mathlib.Core.List.{List, [], ◌∷◌, ◌++◌, append_assoc, append-nil}
use native.Mathlib.Omega.{arith}
use lib.ListN.{length, drop, length-append, length-drop}
use lib.Seq.{take-append_seam}
use borrow.Author.Tests.{le-leb}
use Rattle.event.specs.Choice.{pick}
use Rattle.event.specs.Number.{vlq}
use Rattle.event.specs.Event.{Event, Lawful, Kind, note_off, note_on, poly_aftertouch, control, program, channel_aftertouch, pitch_bend, system_exclusive, system_exclusive_packet, sequence_number, text, channel_prefix, midi_port, end_track, tempo, smpte_offset, time_signature, key_signature, sequencer_specific, unknown_meta, Fits}
use Rattle.event.specs.Frame.{Frame, channel1, channel2, exclusive, meta, frame}
use Rattle.event.specs.Spelling.{Rest, left_out, length_in, Spelling, Spelled, Permitted}
use Rattle.event.specs.Layout.{lay_frame, lay_event}
use Rattle.event.specs.Step.{kind_at, kind_from, data_at}
use Rattle.event.proofs.KindLaws.{key_back}
use Rattle.event.proofs.PlaceLaws.{place}

-- the data of a system exclusive or meta event
unfoldable pub frame_data : Frame → List ℕ
frame_data (channel1 s a) = []
frame_data (channel2 s a b) = []
frame_data (exclusive s d) = d
frame_data (meta t d) = d

frame_ends : (force : ℕ) (x : Frame) (s : Rest) → Spelled force x s → (pre : List ℕ) × (lay_frame x s ≡ pre ++ frame_data x)
unfolding Spelled lay_frame frame_data
frame_ends force (channel1 s a) (left_out o) p = (lay_frame (channel1 s a) (left_out o), sym (append-nil _))
frame_ends force (channel1 s a) (length_in w) p = absurd p
frame_ends force (channel2 s a b) (left_out o) p = (lay_frame (channel2 s a b) (left_out o), sym (append-nil _))
frame_ends force (channel2 s a b) (length_in w) p = absurd p
frame_ends force (exclusive s d) (left_out o) p = absurd p
frame_ends force (exclusive s d) (length_in w) p = (s ∷ vlq w (length d), refl)
frame_ends force (meta t d) (left_out o) p = absurd p
frame_ends force (meta t d) (length_in w) p = (0xff ∷ t ∷ vlq w (length d), refl)

-- data d, before what is left of a body
data_from_lem : (body pre d r : List ℕ) (at : ℕ) → drop at body ≡ pre ++ (d ++ r) → at ≤ length body → data_at body (length body - length r - length d) (length d) ≡ d
unfolding data_at pick
data_from_lem body pre d r at e h =
    let both : length (d ++ r) ≡ length d + length r = length-append d r in
    let size : length body - at ≡ length pre + length (d ++ r) = sym (length-drop at body) ∙ ap length e ∙ length-append pre (d ++ r) in
    let start : length body - length r - length d ≡ length body - length (d ++ r) = omega arith in
    let there : drop (length body - length r - length d) body ≡ d ++ r = ap (λ k. drop k body) start ∙ place body pre (d ++ r) at e in
    simp (
      le-leb (length body - length r - length d) (length body) (omega arith),
      le-leb (length d) (length body - (length body - length r - length d)) (omega arith),
      there,
      take-append_seam d r,
    )

event_data_lem : (prev force : ℕ) (e : Event) (s : Spelling) (body r : List ℕ) (at : ℕ) → Permitted prev force e s → drop at body ≡ lay_event prev e s ++ r → at ≤ length body
    → data_at body (length body - length r - length (frame_data (frame e.kind))) (length (frame_data (frame e.kind))) ≡ frame_data (frame e.kind)
unfolding lay_event
event_data_lem prev force e s body r at p q h =
    let (pre, ends) = frame_ends force (frame e.kind) s.rest p.rest in
    let d : List ℕ = frame_data (frame e.kind) in
    let v : List ℕ = vlq s.delta (e.time - prev) in
    let whole : drop at body ≡ v ++ pre ++ (d ++ r) = q ∙ ap (λ z. v ++ z ++ r) ends ∙ ap (λ z. z ++ r) (sym (append_assoc v pre d)) ∙ append_assoc (v ++ pre) d r in
    data_from_lem body (v ++ pre) d r at whole h

-- ---- a kind and its data

kind_from_lem : (body : List ℕ) (next : ℕ) (k : Kind) → Fits k → data_at body (next - length (frame_data (frame k))) (length (frame_data (frame k))) ≡ frame_data (frame k)
    → kind_from body (kind_at next k) ≡ k
unfolding kind_from kind_at frame_data frame Fits
kind_from_lem body next (note_off c k v) f h = refl
kind_from_lem body next (note_on c k v) f h = refl
kind_from_lem body next (poly_aftertouch c k v) f h = refl
kind_from_lem body next (control c k v) f h = refl
kind_from_lem body next (program c p) f h = refl
kind_from_lem body next (channel_aftertouch c v) f h = refl
kind_from_lem body next (pitch_bend c v) f h = refl
kind_from_lem body next (system_exclusive d) f h = ap system_exclusive h
kind_from_lem body next (system_exclusive_packet d) f h = ap system_exclusive_packet h
kind_from_lem body next (sequence_number n) f h = refl
kind_from_lem body next (text t d) f h = ap (text t) h
kind_from_lem body next (channel_prefix n) f h = refl
kind_from_lem body next (midi_port n) f h = refl
kind_from_lem body next end_track f h = refl
kind_from_lem body next (tempo n) f h = refl
kind_from_lem body next (smpte_offset a m s x u) f h = refl
kind_from_lem body next (time_signature n d c b) f h = refl
kind_from_lem body next (key_signature k m) f h = ap (λ z. key_signature z m) (key_back k f.0)
kind_from_lem body next (sequencer_specific d) f h = ap sequencer_specific h
kind_from_lem body next (unknown_meta t d) f h = ap (unknown_meta t) h

-- the kind of an event that was read, by its answer, with the data that stand in the body
pub kind_there : (prev force : ℕ) (e : Event) (s : Spelling) (body r : List ℕ) (at : ℕ) → Lawful prev e → Permitted prev force e s → drop at body ≡ lay_event prev e s ++ r → at ≤ length body
    → kind_from body (kind_at (length body - length r) e.kind) ≡ e.kind
kind_there prev force e s body r at l p q h = kind_from_lem body (length body - length r) e.kind l.fits (event_data_lem prev force e s body r at p q h)
