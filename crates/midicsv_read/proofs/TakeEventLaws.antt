-- An event taken: one law for each exit of the code.
use mathlib.Core.Path.{◌≡◌, refl, sym, ap, ap₂, subst, ◌∙◌}
use Prim.Native.Nat.{ℕ, suc, ◌+◌, ◌-◌, ◌<◌, ◌≤◌}
use mathlib.Core.Bool.{true, false, false≢true, ◌&&◌}
use mathlib.Core.List.{List, [], ◌∷◌, ◌++◌}
use native.Mathlib.Omega.{arith}
use lib.ListN.{length, length-append}
use lib.Dec.{leb, eqb}
use borrow.Author.Tests.{le-leb, lt-leb, eq-eqb, ne_eqb}
use Rattle.event.specs.Bytes.{big_endian}
use Rattle.event.specs.Event.{Event, is_end}
use Rattle.event.specs.Frame.{no_status}
use Rattle.event.specs.Layout.{lay_event}
use Rattle.event.specs.Manner.{Manner, spell_event}
use Rattle.event.specs.Step.{end_of}
use Rattle.event.proofs.BytesLaws.{length_big_endian}
use Rattle.event_write.specs.Written.{Written}
use Rattle.event_write.specs.Head.{head_bytes}
use Rattle.event_write.proofs.WriteLaws.{then}
use Rattle.midicsv.specs.Table.{EventName, RecordName, header, start_track, end_of_file, event}
use Rattle.midicsv.specs.Record.{Values, Record}
use Rattle.midicsv.specs.Result.{good, test}
use Rattle.midicsv.specs.KindOf.{kind_named}
use Rattle.smf.specs.Piece.{Header}
use Rattle.midicsv.specs.Order.{first, between, inside, finished, after_event, take_event, step_on, step}
use Rattle.midicsv.specs.PieceOfText.{text_limit}
use Rattle.midicsv.proofs.ResultLaws.{test_eq}
use Rattle.midicsv.proofs.LayableLaws.{Layable}
use Rattle.midicsv.proofs.KindAcceptedLaws.{kind_fits}
use Rattle.midicsv.proofs.RecordAcceptedLaws.{Given}
use Rattle.midicsv_read.specs.RowEvent.{event_kind, kind_numbered, is_event, status_after}
use Rattle.midicsv_read.specs.Progress.{events_bytes, front_bytes, bytes_of, Inside, InTrack, Follows}
use Rattle.midicsv_read.specs.declared.Progress.{Progress}
use Rattle.std.specs.Prelude.{Ok, Err}
use Rattle.event.specs.declared.refusal.Refusal.TheVariants.{RecordOutOfOrder, StepTooGreat}
use Rattle.midicsv_read.specs.declared.Phase.{Phase}
use Rattle.event_write.proofs.PatchLaws.{patch}
use Rattle.midicsv_read.proofs.BytesSoFarLaws.{last_time_lem, last_force_lem, inside_more, between_more}
use Rattle.midicsv_read.proofs.RowEventLaws.{row_event, status_row, end_row}

module _ (m : Manner) (st : Progress) (out : List ℕ) (track time : ℕ) (v : Values) where
  abbrev said : RecordName → Record
  said x = record { track = track; time = time; name = x; values = v }

  abbrev this : EventName → Event
  this g = record { time = time; kind = kind_named g v }

  -- ---- refused

  pub event_phase : (x : RecordName) (new : List ℕ) → is_event x ≡ true → (st.phase ≡ Phase.InTrack → ⊥) → Follows m st out (λ s. step s (said x)) (Err RecordOutOfOrder) new
  unfolding is_event step step_on
  event_phase header new i q s old a = absurd (false≢true i)
  event_phase start_track new i q s old a = absurd (false≢true i)
  event_phase end_of_file new i q s old a = absurd (false≢true i)
  event_phase (event g) new i q first old a = refl
  event_phase (event g) new i q (between h ts) old a = refl
  event_phase (event g) new i q (inside h ts es prev) old a = absurd (q a.numbers.phase)
  event_phase (event g) new i q (finished p) old a = refl

  pub event_track : (x : RecordName) (new : List ℕ) → is_event x ≡ true → (track ≡ st.tracks + 1 → ⊥) → Follows m st out (λ s. step s (said x)) (Err RecordOutOfOrder) new
  unfolding is_event step step_on take_event test
  event_track header new i n s old a = absurd (false≢true i)
  event_track start_track new i n s old a = absurd (false≢true i)
  event_track end_of_file new i n s old a = absurd (false≢true i)
  event_track (event g) new i n first old a = refl
  event_track (event g) new i n (between h ts) old a = refl
  event_track (event g) new i n (inside h ts es prev) old a =
      let k : Inside m st h ts es prev = a.numbers in
      rw (ne_eqb track (suc (length ts)) (λ e. n (omega (arith, k.tracks))))
  event_track (event g) new i n (finished p) old a = refl

  pub event_falls : (x : RecordName) (new : List ℕ) → is_event x ≡ true → track ≡ st.tracks + 1 → time < st.time.0 → Follows m st out (λ s. step s (said x)) (Err RecordOutOfOrder) new
  unfolding is_event step step_on take_event test
  event_falls header new i t n s old a = absurd (false≢true i)
  event_falls start_track new i t n s old a = absurd (false≢true i)
  event_falls end_of_file new i t n s old a = absurd (false≢true i)
  event_falls (event g) new i t n first old a = refl
  event_falls (event g) new i t n (between h ts) old a = refl
  event_falls (event g) new i t n (inside h ts es prev) old a =
      let k : Inside m st h ts es prev = a.numbers in
      rw (eq-eqb track (suc (length ts)) (omega (arith, k.tracks)), lt-leb prev time (omega (arith, k.time)))
  event_falls (event g) new i t n (finished p) old a = refl

  passes : (h : Header) (ts : List (List Event)) (es : List Event) (prev : ℕ) → Inside m st h ts es prev → track ≡ st.tracks + 1 → st.time.0 ≤ time
      → (eqb track (suc (length ts)) && leb prev time) ≡ true
  passes h ts es prev k t n = ap₂ ◌&&◌ (eq-eqb track (suc (length ts)) (omega (arith, k.tracks))) (le-leb prev time (omega (arith, k.time)))

  pub event_far : (x : RecordName) (new : List ℕ) (d : ℕ) → is_event x ≡ true → st.phase ≡ Phase.InTrack → track ≡ st.tracks + 1 → st.time.0 ≤ time → d ≡ time - st.time.0 → 268435455 < d
      → Follows m st out (λ s. step s (said x)) (Err StepTooGreat) new
  unfolding is_event step step_on take_event test
  event_far header new d i q t n e f s old a = absurd (false≢true i)
  event_far start_track new d i q t n e f s old a = absurd (false≢true i)
  event_far end_of_file new d i q t n e f s old a = absurd (false≢true i)
  event_far (event g) new d i q t n e f first old a = absurd (cc (a.numbers))
  event_far (event g) new d i q t n e f (between h ts) old a = absurd (cc (a.numbers.phase))
  event_far (event g) new d i q t n e f (inside h ts es prev) old a =
      let k : Inside m st h ts es prev = a.numbers in
      rw (passes h ts es prev k t n, lt-leb (time - prev) 268435455 (omega (arith, k.time)))
  event_far (event g) new d i q t n e f (finished p) old a = absurd (cc (a.numbers))

  -- ---- taken

  module _ (g : EventName) (h : Header) (ts : List (List Event)) (es : List Event) (prev d : ℕ) (k : Inside m st h ts es prev) (there : InTrack st track time d) where
    taken : step (inside h ts es prev) (said (event g)) ≡ good (after_event (is_end (kind_named g v)) h ts es (this g))
    unfolding step step_on take_event
    taken =
        test_eq 26 _ (passes h ts es prev k there.track there.later)
        ∙ test_eq 27 _ (le-leb (time - prev) 268435455 (omega (arith, k.time, there.delta, there.near)))

    layable : (n : ℕ) → Given n (said (event g)) → n ≤ text_limit → Layable prev (this g)
    layable n gv short =
        let (fits, size) = kind_fits g v gv.spelled gv.columns gv.tail in
        record {
          lawful = record { later = omega (arith, k.time, there.later); bounded = gv.time; fits = fits };
          step = omega (arith, k.time, there.delta, there.near);
          size = omega (arith, gv.small);
        }

    -- its bytes after those that stand already
    grown : (start n at : ℕ) (old new : List ℕ) → Given n (said (event g)) → n ≤ text_limit → Written old 0 (bytes_of m (inside h ts es prev)) out st.at
        → Written out st.at (head_bytes m st.force d (event_kind g v.columns start (length v.body)) ++ v.body) new at
        → Written old 0 (bytes_of m (inside h ts (es ++ (this g ∷ [])) time)) new at
    grown start n at old new gv short a b =
        let delta : d ≡ time - prev = there.delta ∙ ap (λ z. time - z) k.time in
        let same =
        ap (λ z. head_bytes m st.force z (event_kind g v.columns start (length v.body)) ++ v.body) delta
        ∙ row_event m prev st.force time g v start gv.spelled gv.columns gv.tail (layable n gv short)
        ∙ ap₂ (λ p f. lay_event p (this g) (spell_event m p f (this g))) k.last k.force in
        rw (inside_more m h ts es prev time (this g)) (then a (subst (λ z. Written out st.at z new at) same b))

  pub event_moved : (x : RecordName) (new : List ℕ) (start n d at f : ℕ) → is_event x ≡ true → Given n (said x) → n ≤ text_limit → InTrack st track time d
      → Written out st.at (head_bytes m st.force d (kind_numbered x v.columns start (length v.body)) ++ v.body) new at
      → end_of (kind_numbered x v.columns start 0) ≡ false → f ≡ status_after (kind_numbered x v.columns start 0)
      → Follows m st out (λ s. step s (said x)) (Ok (record { phase = st.phase; count = st.count; tracks = st.tracks; time = record { 0 = time }; force = f; size = st.size; at = at })) new
  unfolding is_event kind_numbered after_event
  event_moved header new start n d at f i gv short there b z w s old a = absurd (false≢true i)
  event_moved start_track new start n d at f i gv short there b z w s old a = absurd (false≢true i)
  event_moved end_of_file new start n d at f i gv short there b z w s old a = absurd (false≢true i)
  event_moved (event g) new start n d at f i gv short there b z w first old a = absurd (cc (a.numbers, there.phase))
  event_moved (event g) new start n d at f i gv short there b z w (between h ts) old a = absurd (cc (a.numbers.phase, there.phase))
  event_moved (event g) new start n d at f i gv short there b z w (inside h ts es prev) old a =
      let k : Inside m st h ts es prev = a.numbers in (
        inside h ts (es ++ (this g ∷ [])) time,
        taken g h ts es prev d k there ∙ ap (λ y. good (after_event y h ts es (this g))) (sym (end_row g v.columns v start 0) ∙ z),
        record {
          numbers =
              record {
                phase = there.phase;
                count = k.count;
                tracks = k.tracks;
                more = k.more;
                few = k.few;
                time = refl;
                last = sym (last_time_lem 0 es (this g));
                force = w ∙ status_row g v start 0 gv.columns ∙ sym (last_force_lem no_status es (this g));
                size = k.size;
              };
          few = a.few;
          written = grown g h ts es prev d k there start n at old new gv short a.written b;
        },
      )
  event_moved (event g) new start n d at f i gv short there b z w (finished p) old a = absurd (cc (a.numbers, there.phase))

  -- the length that the track has, over the zero that stood for it
  filled : (h : Header) (ts : List (List Event)) (es : List Event) (old mid new : List ℕ) (at next : ℕ) → st.size ≡ length (front_bytes m h ts)
      → Written old 0 (bytes_of m (inside h ts es time)) mid at → Written mid st.size (big_endian 4 (at - st.size - 4)) new next
      → Written old 0 (bytes_of m (between h (ts ++ (es ∷ [])))) new at
  unfolding bytes_of
  filled h ts es old mid new at next k a b =
      let size : at - st.size - 4 ≡ length (events_bytes m es) =
      omega (arith, a.place, length-append (front_bytes m h ts) (big_endian 4 0 ++ events_bytes m es), length-append (big_endian 4 0) (events_bytes m es), length_big_endian 4 0) in
      let b1 : Written mid st.size (big_endian 4 (length (events_bytes m es))) new next = subst (λ z. Written mid st.size (big_endian 4 z) new next) size b in
      rw (between_more m h ts es)
      (patch (front_bytes m h ts) (big_endian 4 0) (big_endian 4 (length (events_bytes m es))) (events_bytes m es) a b1 (omega (arith, k)) (length_big_endian 4 0 ∙ sym (length_big_endian 4 _)))

  pub event_ended : (x : RecordName) (mid new : List ℕ) (start n d at next : ℕ) → is_event x ≡ true → Given n (said x) → n ≤ text_limit → InTrack st track time d
      → Written out st.at (head_bytes m st.force d (kind_numbered x v.columns start (length v.body)) ++ v.body) mid at
      → end_of (kind_numbered x v.columns start 0) ≡ true → Written mid st.size (big_endian 4 (at - st.size - 4)) new next
      → Follows m st out (λ s. step s (said x)) (Ok (record { phase = Phase.BetweenTracks; count = st.count; tracks = st.tracks + 1; time = record { 0 = 0 }; force = 0; size = 0; at = at })) new
  unfolding is_event kind_numbered after_event
  event_ended header mid new start n d at next i gv short there b z w s old a = absurd (false≢true i)
  event_ended start_track mid new start n d at next i gv short there b z w s old a = absurd (false≢true i)
  event_ended end_of_file mid new start n d at next i gv short there b z w s old a = absurd (false≢true i)
  event_ended (event g) mid new start n d at next i gv short there b z w first old a = absurd (cc (a.numbers, there.phase))
  event_ended (event g) mid new start n d at next i gv short there b z w (between h ts) old a = absurd (cc (a.numbers.phase, there.phase))
  event_ended (event g) mid new start n d at next i gv short there b z w (inside h ts es prev) old a =
      let k : Inside m st h ts es prev = a.numbers in
      let fs : List Event = es ++ (this g ∷ []) in
      let more : length (ts ++ ((es ++ (this g ∷ [])) ∷ [])) ≡ length ts + 1 = length-append ts ((es ++ (this g ∷ [])) ∷ []) in (
        between h (ts ++ (fs ∷ [])),
        taken g h ts es prev d k there ∙ ap (λ y. good (after_event y h ts es (this g))) (sym (end_row g v.columns v start 0) ∙ z),
        record {
          numbers =
              record {
                phase = refl;
                count = k.count;
                tracks = omega (arith, more, k.tracks);
                most = omega (arith, more, k.more);
                few = k.few;
              };
          few = omega (arith, k.tracks, k.more, k.few);
          written = filled h ts fs old mid new at next k.size (grown g h ts es prev d k there start n at old mid gv short a.written b) w;
        },
      )
  event_ended (event g) mid new start n d at next i gv short there b z w (finished p) old a = absurd (cc (a.numbers, there.phase))
