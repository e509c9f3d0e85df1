-- The tracks of a lawful piece, taken apart and joined.
use mathlib.Core.Path.{◌≡◌, refl, sym, ap, ◌∙◌}
use Prim.Native.Nat.{ℕ, ◌+◌, ◌≤◌, max}
use mathlib.Core.Bool.{true, false, false≢true}
use mathlib.Core.Logic.{◌⊎◌, inl, inr, ⊎_elim}
use mathlib.Core.List.{List, [], ◌∷◌, ◌++◌, append-nil}
use native.Mathlib.Omega.{arith}
use lib.Dec.{leb}
use borrow.Author.Tests.{leb-true, leb-false}
use Rattle.event.specs.Choice.{pick}
use Rattle.event.specs.Event.{Event, Kind, Fits, Lawful, is_end, note_off, note_on, poly_aftertouch, control, program, channel_aftertouch, pitch_bend, system_exclusive, system_exclusive_packet, sequence_number, text, channel_prefix, midi_port, end_track, tempo, smpte_offset, time_signature, key_signature, sequencer_specific, unknown_meta}
use Rattle.event.proofs.ChoiceLaws.{by_test}
use Rattle.smf.specs.Piece.{Ends, LawfulEvents, LawfulTracks}
use Rattle.smf.specs.Step.{last_time}
use Rattle.smf.specs.Listing.{end_times}
use Rattle.fold_piece.specs.Fold.{others, joined, by_time, greatest, end_at, folded_track}
use Rattle.fold_piece.specs.Order.{Rising, at, each_at, longest, Steps}
use Rattle.fold_piece.proofs.OrderLaws.{All, all_append, all_by_time, all_weaken, NotBefore, rising_by_time, by_time_rising, at_append, at_by_time}
use Rattle.fold_piece.proofs.GapLaws.{Some, some_left, some_right, some_either, some_by_time, some_timed, Above, Near, steps_gap, gap_steps}

pub end_kind_lem : (k : Kind) → is_end k ≡ true → k ≡ end_track
unfolding is_end
end_kind_lem (note_off c k v) e = absurd (false≢true e)
end_kind_lem (note_on c k v) e = absurd (false≢true e)
end_kind_lem (poly_aftertouch c k v) e = absurd (false≢true e)
end_kind_lem (control c k v) e = absurd (false≢true e)
end_kind_lem (program c p) e = absurd (false≢true e)
end_kind_lem (channel_aftertouch c v) e = absurd (false≢true e)
end_kind_lem (pitch_bend c v) e = absurd (false≢true e)
end_kind_lem (system_exclusive d) e = absurd (false≢true e)
end_kind_lem (system_exclusive_packet d) e = absurd (false≢true e)
end_kind_lem (sequence_number n) e = absurd (false≢true e)
end_kind_lem (text t d) e = absurd (false≢true e)
end_kind_lem (channel_prefix n) e = absurd (false≢true e)
end_kind_lem (midi_port n) e = absurd (false≢true e)
end_kind_lem end_track e = refl
end_kind_lem (tempo n) e = absurd (false≢true e)
end_kind_lem (smpte_offset h m s f u) e = absurd (false≢true e)
end_kind_lem (time_signature n d c b) e = absurd (false≢true e)
end_kind_lem (key_signature k m) e = absurd (false≢true e)
end_kind_lem (sequencer_specific d) e = absurd (false≢true e)
end_kind_lem (unknown_meta t d) e = absurd (false≢true e)

-- ---- a lawful track: its End_track, or an event and the rest

pub lawful_cases {ℓ} : {X : Type ℓ} (prev : ℕ) (e : Event) (es : List Event) → LawfulEvents prev (e ∷ es)
    → (is_end e.kind ≡ true → es ≡ [] → X) → (is_end e.kind ≡ false → LawfulEvents e.time es → X) → X
unfolding LawfulEvents Ends
lawful_cases prev e es l f g = by_test (is_end e.kind) (λ b. f b (rw b at l.1)) (λ b. g b (rw b at l.1))

first_lawful : (prev : ℕ) (e : Event) (es : List Event) → LawfulEvents prev (e ∷ es) → Lawful prev e
unfolding LawfulEvents
first_lawful prev e es l = l.0

pub last_later : (prev : ℕ) (t : List Event) → LawfulEvents prev t → (prev ≤ last_time prev t) × (last_time prev t ≤ 4294967295)
unfolding LawfulEvents last_time
last_later prev [] l = absurd l
last_later prev (e ∷ es) l =
    let h = first_lawful prev e es l in
    lawful_cases prev e es l (λ b n. rw n (h.later, h.bounded)) (λ b m. let g = last_later e.time es m in (omega (arith, h.later, g.0), g.1))

-- an event that is no End_track, not after the Time t
pub record Kept (t : ℕ) (e : Event) : Type 0 where
  pub fits : Fits e.kind
  pub inner : is_end e.kind ≡ false
  pub before : e.time ≤ t

pub kept_later : (t u : ℕ) → t ≤ u → (es : List Event) → All (Kept t) es → All (Kept u) es
kept_later t u h = all_weaken (Kept t) (Kept u) (λ e k. record { fits = k.fits; inner = k.inner; before = omega (arith, k.before) })

pub others_kept : (prev : ℕ) (t : List Event) → LawfulEvents prev t → All (Kept (last_time prev t)) (others t)
unfolding LawfulEvents last_time others All pick
others_kept prev [] l = absurd l
others_kept prev (e ∷ es) l =
    let h = first_lawful prev e es l in
    lawful_cases prev e es l (λ b n. rw (b, n) tt)
    (λ b m. rw b (record { fits = h.fits; inner = b; before = (last_later e.time es m).0 }, others_kept e.time es m))

pub others_rising : (prev : ℕ) (t : List Event) → LawfulEvents prev t → Rising prev (others t)
unfolding LawfulEvents others Rising pick
others_rising prev [] l = absurd l
others_rising prev (e ∷ es) l =
    let h = first_lawful prev e es l in
    lawful_cases prev e es l (λ b n. rw (b, n) tt) (λ b m. rw b (h.later, others_rising e.time es m))

end_event : (e : Event) → is_end e.kind ≡ true → end_at e.time ≡ e
end_event e b = ap (λ k. record { time = e.time; kind = k }) (sym (end_kind_lem e.kind b))

-- the events that are no End_track, and the one that is, make the track
pub track_whole : (prev : ℕ) (t : List Event) → LawfulEvents prev t → others t ++ (end_at (last_time prev t) ∷ []) ≡ t
unfolding LawfulEvents last_time others pick
track_whole prev [] l = absurd l
track_whole prev (e ∷ es) l =
    lawful_cases prev e es l (λ b n. rw (b, n) (ap (λ z. z ∷ []) (end_event e b))) (λ b m. rw b (ap (λ z. e ∷ z) (track_whole e.time es m)))

-- ---- one track is left as it is

pub fold_one : (t : List Event) → LawfulEvents 0 t → folded_track (t ∷ []) ≡ t
unfolding folded_track joined end_times greatest
fold_one t l =
    let one : max (last_time 0 t) 0 ≡ last_time 0 t = omega arith in
    rw (append-nil (others t), one, by_time_rising 0 (others t) (others_rising 0 t l)) (track_whole 0 t l)

-- ---- many tracks

pub joined_kept : (ts : List (List Event)) → LawfulTracks ts → All (Kept (greatest (end_times ts))) (joined ts)
unfolding LawfulTracks joined end_times greatest All
joined_kept [] l = tt
joined_kept (t ∷ ts) l =
    let a = last_time 0 t in
    let b = greatest (end_times ts) in
    all_append (Kept (max a b)) (others t) (joined ts) (kept_later a (max a b) (omega arith) (others t) (others_kept 0 t l.0))
    (kept_later b (max a b) (omega arith) (joined ts) (joined_kept ts l.1))

pub greatest_bounded : (ts : List (List Event)) → LawfulTracks ts → greatest (end_times ts) ≤ 4294967295
unfolding LawfulTracks end_times greatest
greatest_bounded [] l = omega arith
greatest_bounded (t ∷ ts) l =
    let h = last_later 0 t l.0 in
    let g = greatest_bounded ts l.1 in
    omega (arith, h.1)

all_later : (es : List Event) → All (NotBefore 0) es
unfolding All
all_later [] = tt
all_later (e ∷ es) = (omega arith, all_later es)

pub folded_rising : (ts : List (List Event)) → Rising 0 (by_time (joined ts))
folded_rising ts = rising_by_time 0 (joined ts) (all_later (joined ts))

-- events by Time before an End_track make a lawful track
closed : (prev t : ℕ) (xs : List Event) → Rising prev xs → All (Kept t) xs → prev ≤ t → t ≤ 4294967295 → LawfulEvents prev (xs ++ (end_at t ∷ []))
unfolding LawfulEvents Ends Rising All is_end Fits
closed prev t [] r a h g = (record { later = h; bounded = g; fits = tt }, refl)
closed prev t (x ∷ xs) r a h g =
    let k = a.0 in
    (record { later = r.0; bounded = omega (arith, k.before); fits = k.fits }, rw k.inner (closed x.time t xs r.1 a.1 k.before g))

pub fold_lawful : (ts : List (List Event)) → LawfulTracks ts → LawfulEvents 0 (folded_track ts)
unfolding folded_track
fold_lawful ts l =
    let t = greatest (end_times ts) in
    closed 0 t (by_time (joined ts)) (folded_rising ts) (all_by_time (Kept t) (joined ts) (joined_kept ts l)) (omega arith) (greatest_bounded ts l)

-- ---- at each Time: track 1's events in their own order, then track 2's ..

joined_at : (t : ℕ) (ts : List (List Event)) → at t (joined ts) ≡ each_at t ts
unfolding at joined each_at
joined_at t [] = refl
joined_at t (x ∷ xs) = at_append t (others x) (joined xs) ∙ ap (λ z. at t (others x) ++ z) (joined_at t xs)

pub folded_at : (t : ℕ) (ts : List (List Event)) → at t (by_time (joined ts)) ≡ each_at t ts
folded_at t ts = at_by_time t (joined ts) ∙ joined_at t ts

-- ---- steps

unfoldable pub StepsTracks : List (List Event) → Type 0
StepsTracks [] = Unit {0}
StepsTracks (t ∷ ts) = Steps 0 t × StepsTracks ts

others_steps : (prev : ℕ) (t : List Event) → LawfulEvents prev t → Steps prev t → Steps prev (others t)
unfolding LawfulEvents others Steps pick
others_steps prev [] l s = absurd l
others_steps prev (e ∷ es) l s = lawful_cases prev e es l (λ b n. rw (b, n) tt) (λ b m. rw b (s.0, others_steps e.time es m s.1))

joined_gap : (c : ℕ) (ts : List (List Event)) → LawfulTracks ts → StepsTracks ts → Some (Above c) (joined ts) → Some (Near c) (joined ts)
unfolding LawfulTracks StepsTracks joined Some
joined_gap c [] l s h = absurd h
joined_gap c (t ∷ ts) l s h =
    some_either (Above c) (others t) (joined ts) h
    (λ x. some_left (Near c) (others t) (joined ts) (steps_gap 0 c (others t) (omega arith) (others_steps 0 t l.0 s.0) x))
    (λ x. some_right (Near c) (others t) (joined ts) (joined_gap c ts l.1 s.1 x))

end_gap : (prev c : ℕ) (t : List Event) → LawfulEvents prev t → Steps prev t → prev ≤ c → Some (Near c) (others t) ⊎ (last_time prev t ≤ c + longest)
unfolding LawfulEvents last_time others Steps Some pick
end_gap prev c [] l s h = absurd l
end_gap prev c (e ∷ es) l s h =
    lawful_cases prev e es l (λ b n. inr (rw n (omega (arith, s.0, h))))
    (λ b m.
    rw b
    (by_test (leb e.time c)
    (λ y. ⊎_elim (λ x. inl (inr x)) (λ x. inr x) (end_gap e.time c es m s.1 (leb-true e.time c y)))
    (λ y. inl (inl (leb-false e.time c y, omega (arith, s.0, h))))))

greatest_gap : (c : ℕ) (ts : List (List Event)) → LawfulTracks ts → StepsTracks ts → Some (Near c) (joined ts) ⊎ (greatest (end_times ts) ≤ c + longest)
unfolding LawfulTracks StepsTracks joined end_times greatest
greatest_gap c [] l s = inr (omega arith)
greatest_gap c (t ∷ ts) l s =
    ⊎_elim (λ x. inl (some_left (Near c) (others t) (joined ts) x))
    (λ h. ⊎_elim (λ x. inl (some_right (Near c) (others t) (joined ts) x)) (λ g. inr (omega (arith, h, g))) (greatest_gap c ts l.1 s.1))
    (end_gap 0 c t l.0 s.0 (omega arith))

rising_closed : (prev t : ℕ) (xs : List Event) → Rising prev xs → All (Kept t) xs → prev ≤ t → Rising prev (xs ++ (end_at t ∷ []))
unfolding Rising All
rising_closed prev t [] r a h = (h, tt)
rising_closed prev t (x ∷ xs) r a h = (r.0, rising_closed x.time t xs r.1 a.1 a.0.before)

-- "A folded step never passes 268,435,455"
pub fold_steps : (ts : List (List Event)) → LawfulTracks ts → StepsTracks ts → Steps 0 (folded_track ts)
unfolding folded_track Some
fold_steps ts l s =
    let t = greatest (end_times ts) in
    let xs = by_time (joined ts) in
    let kept = all_by_time (Kept t) (joined ts) (joined_kept ts l) in
    gap_steps 0 (xs ++ (end_at t ∷ [])) (rising_closed 0 t xs (folded_rising ts) kept (omega arith))
    (λ c z h.
    some_either (Above c) xs (end_at t ∷ []) h
    (λ x. some_left (Near c) xs (end_at t ∷ []) (some_by_time (Near c) (joined ts) (joined_gap c ts l s (some_timed (Above c) (joined ts) x))))
    (λ x.
    ⊎_elim (λ y. some_left (Near c) xs (end_at t ∷ []) (some_by_time (Near c) (joined ts) y))
    (λ y. some_right (Near c) xs (end_at t ∷ []) (⊎_elim (λ w. inl (w, y)) (λ w. absurd w) x))
    (greatest_gap c ts l s)))
