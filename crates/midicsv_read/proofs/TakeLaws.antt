-- Header, Start_track and End_of_file taken: one law for each exit of the code.
use mathlib.Core.Path.{◌≡◌, refl, sym, ap₂, ◌∙◌}
use Prim.Native.Nat.{ℕ, suc, ◌+◌, ◌<◌, ◌≤◌, ◌^◌}
use mathlib.Core.Bool.{Bool, true, false, ◌&&◌}
use mathlib.Core.List.{List, [], ◌++◌, append-nil}
use native.Mathlib.Omega.{arith}
use lib.ListN.{length, get_or, length-append}
use Rattle.std.proofs.lemmas.List.{get_or-take}
use lib.Dec.{eqb}
use borrow.Author.Tests.{lt-ltb, le-ltb, eq-eqb, ne_eqb}
use Rattle.event.specs.Bytes.{big_endian}
use Rattle.event.specs.Manner.{Manner}
use Rattle.event.proofs.BytesLaws.{length_big_endian}
use Rattle.event_write.specs.Written.{Written}
use Rattle.event_write.proofs.WriteLaws.{then}
use Rattle.smf.specs.Chunk.{track_tag}
use Rattle.smf.specs.Division.{division_of}
use Rattle.smf.specs.Layout.{lay_events, lay_tracks, lay_header}
use Rattle.smf.specs.Step.{last_time}
use Rattle.midicsv.specs.Result.{test}
use Rattle.midicsv.specs.Order.{State, first, between, inside, finished, take_header, take_start, take_end, step_on}
use Rattle.midicsv.proofs.ResultLaws.{test_eq}
use Rattle.midicsv_read.specs.Progress.{last_force, events_bytes, tracks_bytes, between_bytes, front_bytes, bytes_of, Between, At, Follows, Sized, header_step, start_step, end_step}
use Rattle.midicsv_record.specs.declared.Row.{Row}
use Rattle.midicsv_read.specs.declared.Progress.{Progress}
use Rattle.std.specs.Prelude.{Ok, Err}
use Rattle.event.specs.declared.refusal.Refusal.TheVariants.{RecordOutOfOrder}
use Rattle.midicsv_read.specs.declared.Phase.{Phase}
use Rattle.midicsv_read.proofs.BytesSoFarLaws.{finished_same}

-- ---- the arithmetic of a step

size_in_lem : (m : Manner) (s : State) (old : List ℕ) (st : Progress) (out : List ℕ) → At m s old st out → st.phase ≡ Phase.InTrack → st.size + 4 ≤ st.at
unfolding bytes_of
size_in_lem m first old st out a e = absurd (cc (a.numbers))
size_in_lem m (between h ts) old st out a e = absurd (cc (a.numbers.phase))
size_in_lem m (inside h ts es prev) old st out a e =
    omega
    (arith, a.numbers.size, a.written.place, length-append (front_bytes m h ts) (big_endian 4 0 ++ events_bytes m es), length-append (big_endian 4 0) (events_bytes m es), length_big_endian 4 0)
size_in_lem m (finished p) old st out a e = absurd (cc (a.numbers))

pub sized : (m : Manner) (s : State) (old : List ℕ) (st : Progress) (out : List ℕ) → At m s old st out → st.at < 2 ^ 30 → Sized st
sized m s old st out a h = record { at = h; tracks = a.few; size = size_in_lem m s old st out a }

module _ (m : Manner) (st : Progress) (out : List ℕ) (row : Row) where
  -- whether the record has this Track and the Time 0
  abbrev marked : ℕ → Bool
  marked track = eqb row.track track && eqb row.time 0

  -- ---- Header

  pub header_phase : (new : List ℕ) → (st.phase ≡ Phase.BeforeHeader → ⊥) → Follows m st out (header_step row) (Err RecordOutOfOrder) new
  unfolding step_on
  header_phase new q first old a = absurd (q a.numbers)
  header_phase new q (between h ts) old a = refl
  header_phase new q (inside h ts es prev) old a = refl
  header_phase new q (finished p) old a = refl

  pub header_unmarked : (new : List ℕ) → marked 0 ≡ false → Follows m st out (header_step row) (Err RecordOutOfOrder) new
  unfolding step_on take_header test
  header_unmarked new w first old a = rw w
  header_unmarked new w (between h ts) old a = refl
  header_unmarked new w (inside h ts es prev) old a = refl
  header_unmarked new w (finished p) old a = refl

  pub header_moved : (new : List ℕ) (at : ℕ) → st.phase ≡ Phase.BeforeHeader → marked 0 ≡ true → get_or row.columns 1 0 ≤ 65535
      → Written out st.at (lay_header (get_or row.columns 0 0) (get_or row.columns 1 0) (division_of (get_or row.columns 2 0)) [] []) new at
      → Follows m st out (header_step row) (Ok (record { phase = Phase.BetweenTracks; count = get_or row.columns 1 0; tracks = 0; time = record { 0 = 0 }; force = 0; size = 0; at = at })) new
  unfolding step_on take_header test bytes_of between_bytes tracks_bytes lay_tracks
  header_moved new at q k n w first old a = (
    between (record { format = get_or row.columns 0 0; count = get_or row.columns 1 0; division = division_of (get_or row.columns 2 0) }) [],
    rw (k, get_or-take 3 row.columns 0 0 (omega arith), get_or-take 3 row.columns 1 0 (omega arith), get_or-take 3 row.columns 2 0 (omega arith)),
    record {
      numbers = record { phase = refl; count = refl; tracks = refl; most = omega arith; few = n };
      few = omega arith;
      written = then a.written w;
    },
  )
  header_moved new at q k n w (between h ts) old a = absurd (cc (a.numbers.phase))
  header_moved new at q k n w (inside h ts es prev) old a = absurd (cc (a.numbers.phase))
  header_moved new at q k n w (finished p) old a = absurd (cc (a.numbers))

  -- ---- Start_track

  pub start_phase : (new : List ℕ) → (st.phase ≡ Phase.BetweenTracks → ⊥) → Follows m st out (start_step row) (Err RecordOutOfOrder) new
  unfolding step_on
  start_phase new q first old a = refl
  start_phase new q (between h ts) old a = absurd (q a.numbers.phase)
  start_phase new q (inside h ts es prev) old a = refl
  start_phase new q (finished p) old a = refl

  pub start_full : (new : List ℕ) → st.count ≤ st.tracks → Follows m st out (start_step row) (Err RecordOutOfOrder) new
  unfolding step_on take_start test
  start_full new n first old a = refl
  start_full new n (between h ts) old a =
      let k : Between st h ts = a.numbers in
      rw (le-ltb (length ts) h.count (omega (arith, k.tracks, k.count)))
  start_full new n (inside h ts es prev) old a = refl
  start_full new n (finished p) old a = refl

  pub start_unmarked : (new : List ℕ) → st.tracks < st.count → marked (st.tracks + 1) ≡ false → Follows m st out (start_step row) (Err RecordOutOfOrder) new
  unfolding step_on take_start test
  start_unmarked new n w first old a = refl
  start_unmarked new n w (between h ts) old a =
      let k : Between st h ts = a.numbers in
      let e : suc (length ts) ≡ st.tracks + 1 = omega (arith, k.tracks) in
      rw (lt-ltb (length ts) h.count (omega (arith, k.tracks, k.count)), e, w)
  start_unmarked new n w (inside h ts es prev) old a = refl
  start_unmarked new n w (finished p) old a = refl

  pub start_moved : (mid new : List ℕ) (size at : ℕ) → st.phase ≡ Phase.BetweenTracks → st.tracks < st.count → marked (st.tracks + 1) ≡ true
      → Written out st.at (big_endian 4 track_tag) mid size → Written mid size (big_endian 4 0) new at
      → Follows m st out (start_step row) (Ok (record { phase = Phase.InTrack; count = st.count; tracks = st.tracks; time = record { 0 = 0 }; force = 0; size = size; at = at })) new
  unfolding step_on take_start bytes_of front_bytes events_bytes lay_events last_time last_force
  start_moved mid new size at q n w x y first old a = absurd (cc (a.numbers))
  start_moved mid new size at q n w x y (between h ts) old a =
      let k : Between st h ts = a.numbers in
      let e : suc (length ts) ≡ st.tracks + 1 = omega (arith, k.tracks) in
      let front : Written old 0 (between_bytes m h ts ++ big_endian 4 track_tag) mid size = then a.written x in (
        inside h ts [] 0,
        test_eq 26 _ (ap₂ ◌&&◌ (lt-ltb (length ts) h.count (omega (arith, k.tracks, k.count))) (rw e w)),
        record {
          numbers =
              record {
                phase = refl;
                count = k.count;
                tracks = k.tracks;
                more = omega (arith, k.tracks, k.count);
                few = k.few;
                time = refl;
                last = refl;
                force = refl;
                size = omega (arith, front.place);
              };
          few = a.few;
          written = then front (rw (append-nil (big_endian 4 0)) y);
        },
      )
  start_moved mid new size at q n w x y (inside h ts es prev) old a = absurd (cc (a.numbers.phase))
  start_moved mid new size at q n w x y (finished p) old a = absurd (cc (a.numbers))

  -- ---- End_of_file

  pub end_phase : (new : List ℕ) → (st.phase ≡ Phase.BetweenTracks → ⊥) → Follows m st out (end_step row) (Err RecordOutOfOrder) new
  unfolding step_on
  end_phase new q first old a = refl
  end_phase new q (between h ts) old a = absurd (q a.numbers.phase)
  end_phase new q (inside h ts es prev) old a = refl
  end_phase new q (finished p) old a = refl

  pub end_few : (new : List ℕ) → (st.tracks ≡ st.count → ⊥) → Follows m st out (end_step row) (Err RecordOutOfOrder) new
  unfolding step_on take_end test
  end_few new n first old a = refl
  end_few new n (between h ts) old a =
      let k : Between st h ts = a.numbers in
      rw (ne_eqb (length ts) h.count (λ e. n (k.tracks ∙ e ∙ sym k.count)))
  end_few new n (inside h ts es prev) old a = refl
  end_few new n (finished p) old a = refl

  pub end_unmarked : (new : List ℕ) → st.tracks ≡ st.count → marked 0 ≡ false → Follows m st out (end_step row) (Err RecordOutOfOrder) new
  unfolding step_on take_end test
  end_unmarked new n w first old a = refl
  end_unmarked new n w (between h ts) old a =
      let k : Between st h ts = a.numbers in
      rw (eq-eqb (length ts) h.count (sym k.tracks ∙ n ∙ k.count), w)
  end_unmarked new n w (inside h ts es prev) old a = refl
  end_unmarked new n w (finished p) old a = refl

  pub end_moved : st.phase ≡ Phase.BetweenTracks → st.tracks ≡ st.count → marked 0 ≡ true
      → Follows m st out (end_step row) (Ok (record { phase = Phase.AfterEnd; count = st.count; tracks = st.tracks; time = record { 0 = 0 }; force = 0; size = 0; at = st.at })) out
  unfolding step_on take_end
  end_moved q n w first old a = absurd (cc (a.numbers))
  end_moved q n w (between h ts) old a =
      let k : Between st h ts = a.numbers in
      let e : length ts ≡ h.count = sym k.tracks ∙ n ∙ k.count in (
        finished (record { format = h.format; division = h.division; tracks = ts }),
        test_eq 26 _ (ap₂ ◌&&◌ (eq-eqb (length ts) h.count e) w),
        record { numbers = refl; few = a.few; written = rw (finished_same m h ts e) a.written },
      )
  end_moved q n w (inside h ts es prev) old a = absurd (cc (a.numbers.phase))
  end_moved q n w (finished p) old a = absurd (cc (a.numbers))
