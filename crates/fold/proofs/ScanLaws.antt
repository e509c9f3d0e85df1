-- Looking for the first Channel_prefix or MIDI_port.
use Rattle.std.specs.Prelude.{Ok}
use mathlib.Core.Path.{◌≡◌, refl, sym, ap, ◌∙◌}
use Prim.Native.Nat.{ℕ, zero, suc, ◌+◌, ◌≤◌, ◌<◌}
use mathlib.Core.Bool.{true, false}
use mathlib.Core.List.{List, ◌∷◌}
use native.Mathlib.Omega.{arith}
use borrow.Author.Tests.{le-leb, lt-leb}
use Rattle.event.specs.Choice.{pick}
use Rattle.event.proofs.ChoiceLaws.{by_test}
use lib.ListN.{length, drop}
use Rattle.event.specs.Bytes.{Bytes}
use Rattle.event.specs.Outcome.{check, Readable}
use Rattle.event.specs.Reader.{read_event}
use Rattle.event.specs.Padding.{event_padding}
use Rattle.event.specs.Step.{event_step, end_of, kind_from}
use Rattle.event.specs.declared.Time.{Time}
use Rattle.event.specs.declared.EventKind.{EventKind}
use Rattle.event.specs.declared.EventKind.TheVariants.{NoteOff, NoteOn, PolyAftertouch, Control, Program, ChannelAftertouch, PitchBend, SystemExclusive, SystemExclusivePacket, SequenceNumber, Text, ChannelPrefix, MidiPort, EndTrack, Tempo, SmpteOffset, TimeSignature, KeySignature, SequencerSpecific, UnknownMeta}
use Rattle.smf.specs.Reader.{read_all}
use Rattle.smf.specs.Answer.{success, refusal}
use Rattle.smf.specs.declared.Answer.{Answer}
use Rattle.smf.proofs.CameLaws.{Came, event_came}
use Rattle.smf.proofs.TurnLaws.{A, turn_next}
use Rattle.smf.specs.Walk.{Placed, walked_body, placed_of}
use Rattle.smf.specs.PlacedFile.{placed_tracks}
use Rattle.fold_piece.specs.FoldAnswer.{is_prefix_or_port, track_free, tracks_free, several_free}
use Rattle.smf.proofs.WalkedLaws.{Met, met_all, met_next, met_end}
use Rattle.fold_piece.proofs.FreeLaws.{Free, stopped, through, free_track}
use Rattle.fold.specs.Code.Look.{fine, look_answer, prefix_or_port_of}
use Rattle.smf.specs.Code.Chain.{placed_from}

prefix_kind_lem : (body : List ℕ) (k : EventKind) → is_prefix_or_port (kind_from body k) ≡ prefix_or_port_of k
unfolding is_prefix_or_port kind_from
prefix_kind_lem body (NoteOff a b c) = refl
prefix_kind_lem body (NoteOn a b c) = refl
prefix_kind_lem body (PolyAftertouch a b c) = refl
prefix_kind_lem body (Control a b c) = refl
prefix_kind_lem body (Program a b) = refl
prefix_kind_lem body (ChannelAftertouch a b) = refl
prefix_kind_lem body (PitchBend a b) = refl
prefix_kind_lem body (SystemExclusive a b) = refl
prefix_kind_lem body (SystemExclusivePacket a b) = refl
prefix_kind_lem body (SequenceNumber a) = refl
prefix_kind_lem body (Text a b c) = refl
prefix_kind_lem body (ChannelPrefix a) = refl
prefix_kind_lem body (MidiPort a) = refl
prefix_kind_lem body EndTrack = refl
prefix_kind_lem body (Tempo a) = refl
prefix_kind_lem body (SmpteOffset a b c d e) = refl
prefix_kind_lem body (TimeSignature a b c d) = refl
prefix_kind_lem body (KeySignature a b) = refl
prefix_kind_lem body (SequencerSpecific a b) = refl
prefix_kind_lem body (UnknownMeta a b c) = refl

-- ---- a track's body whose first byte has the place base, from the place at on

pub record Scanning (body : List ℕ) (base at t force : ℕ) : Type 0 where
  pub readable : Readable (A body at t force)
  pub same : track_free (Met body base at t force) fine ≡ track_free (placed_of (walked_body base body)) fine

pub scan_first : (body : List ℕ) (base : ℕ) → Readable (read_all 0 0 0 body) → Scanning body base 0 0 0
scan_first body base h = record { readable = h; same = ap (λ z. track_free z fine) (met_all body base) }

module _ {body : List ℕ} {base at t force : ℕ} {u : Time} {k : EventKind} {q st y : ℕ} (s : Scanning body base at t force) (bs : Bytes body) (h : at ≤ length body)
    (answer : event_step (length body) (event_padding (drop at body)) (read_event t force (drop at body)) ≡ Ok (record { kind = k; next = record { place = q; time = u; status = st }; padding = y })) where
  came : Came body at t force u k q st
  came = event_came body at t force bs h refl answer

  is_prefix : is_prefix_or_port came.event.kind ≡ prefix_or_port_of k
  is_prefix = ap is_prefix_or_port (sym came.there) ∙ prefix_kind_lem body k

  pub scan_found : prefix_or_port_of k ≡ true → refusal 33 (base + at) ≡ look_answer (track_free (placed_of (walked_body base body)) fine)
  unfolding check look_answer track_free
  scan_found y =
      let r = s.same in
      by_test (end_of k) (λ e. ap look_answer (rw (met_end base bs came e, is_prefix, y) at r)) (λ e. ap look_answer (rw (met_next base bs came e, is_prefix, y) at r))

  pub scan_ended : prefix_or_port_of k ≡ false → end_of k ≡ true → success 0 ≡ look_answer (track_free (placed_of (walked_body base body)) fine)
  unfolding check look_answer track_free
  scan_ended n e = let r = s.same in ap look_answer (rw (met_end base bs came e, is_prefix, n) at r)

  pub scan_next : prefix_or_port_of k ≡ false → end_of k ≡ false → (at < q) × (q ≤ length body) × Scanning body base q u.0 st
  unfolding check track_free
  scan_next n e =
      let r = s.same in
      (came.later, came.inside, record { readable = (turn_next bs came s.readable e).0; same = rw (met_next base bs came e, is_prefix, n) at r })

-- ---- the tracks

pub track_refused : (es : List Placed) (ts : List (List Placed)) (r : Answer) → r ≡ look_answer (track_free es fine) → (r.number ≡ 0 → ⊥) → r ≡ look_answer (tracks_free (es ∷ ts) fine)
unfolding tracks_free look_answer
track_refused es ts r e h = cases (free_track es)
  where
    cases : Free (λ A. track_free {A = A} es) → r ≡ look_answer (track_free es (tracks_free ts fine))
    cases (stopped p g) = e ∙ ap look_answer (g ℕ fine ∙ sym (g ℕ (tracks_free ts fine)))
    cases (through g) = absurd (h (ap (λ (a : Answer). a.number) (e ∙ ap look_answer (g ℕ fine))))

pub track_fine : (es : List Placed) (ts : List (List Placed)) (r : Answer) → r ≡ look_answer (track_free es fine) → r.number ≡ 0 → tracks_free (es ∷ ts) fine ≡ tracks_free ts fine
unfolding tracks_free look_answer
track_fine es ts r e h = cases (free_track es)
  where
    cases : Free (λ A. track_free {A = A} es) → track_free es (tracks_free ts fine) ≡ tracks_free ts fine
    cases (stopped p g) = let z = ap (λ (a : Answer). a.number) (sym (e ∙ ap look_answer (g ℕ fine))) ∙ h in absurd (omega (arith, z))
    cases (through g) = g ℕ (tracks_free ts fine)

pub scan_none : (f : List ℕ) (left at : ℕ) → left ≤ 0 → success 0 ≡ look_answer (tracks_free (placed_from f left at) fine)
unfolding placed_tracks tracks_free look_answer
scan_none f zero at h = refl
scan_none f (suc n) at h = absurd (omega arith)

-- ---- only where there are several

pub look_few : (ts : List (List Placed)) (n : ℕ) → n < 2 → success 0 ≡ look_answer (several_free n ts fine)
unfolding several_free pick look_answer
look_few ts n h = rw (lt-leb 2 n h) refl

pub look_many : (ts : List (List Placed)) (n : ℕ) (r : Answer) → 2 ≤ n → r ≡ look_answer (tracks_free ts fine) → r ≡ look_answer (several_free n ts fine)
unfolding several_free pick
look_many ts n r h e = rw (le-leb 2 n h) e
