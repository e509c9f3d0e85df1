-- The end of a merge: every row stands at its track's End_track.
use mathlib.Core.Path.{◌≡◌, refl, sym, ap, ap₂, ◌∙◌, subst}
use Prim.Native.Nat.{ℕ, suc, ◌+◌, ◌-◌, ◌≤◌, ◌<◌, max}
use mathlib.Core.Bool.{true}
use mathlib.Core.List.{List, [], ◌∷◌, ◌++◌, map, append-nil}
use native.Mathlib.Omega.{arith}
use native.Mathlib.Numerals.{add-one}
use lib.ListN.{length, take, drop, get_or, get_or-map, length-map, replicate}
use lib.Seq.{take-suc}
use Rattle.event.specs.Event.{is_end}
use Rattle.event.specs.Manner.{short}
use Rattle.event.specs.Step.{kind_at, kind_from}
use Rattle.event.specs.declared.EventKind.TheVariants.{EndTrack}
use Rattle.event_write.specs.Written.{Written}
use Rattle.event_write.specs.Head.{head_bytes, data_of}
use Rattle.event_write.proofs.WriteLaws.{finish}
use Rattle.smf.specs.Layout.{lay_events}
use Rattle.smf.specs.Manner.{spell_events}
use Rattle.smf.specs.Piece.{LawfulEvents}
use Rattle.smf.specs.Spelling.{PermittedEvents}
use Rattle.smf.specs.Step.{last_time}
use Rattle.smf.specs.Listing.{end_times}
use Rattle.smf_write.specs.Tidy.{events_in}
use Rattle.event.specs.Choice.{pick}
use Rattle.fold_piece.specs.Fold.{others, greatest, end_at, folded_track}
use Rattle.smf.specs.Walk.{Placed, events_of, tracks_of}
use Rattle.fold_piece.specs.FoldAnswer.{last_placed, ends_shown, place_shown, status_shown, time_shown}
use Rattle.fold_piece.proofs.WideLaws.{wide}
use Rattle.fold_piece.proofs.StepLaws.{fold_done}
use Rattle.fold.proofs.RowLaws.{Least}
use Rattle.fold.proofs.StandLaws.{Ended, stand_ended}
use Rattle.fold.proofs.MergeLaws.{Going, events_item}

-- ---- what a list of rows shows where each track has one event left

-- each of the tracks has one event left, and the list shows it
abbrev pub Shows : (Placed → ℕ) → List ℕ → List (List Placed) → Type 0
Shows g now left = (j : ℕ) → j < length left → (m : Placed) × (get_or left j [] ≡ m ∷ []) × (get_or now j 0 ≡ g m)

pub rows_shown : (g : Placed → ℕ) (left : List (List Placed)) (now : List ℕ) → length left ≤ length now → Shows g now left → now ≡ ends_shown g left ++ drop (length left) now
unfolding ends_shown last_placed
rows_shown g [] now h s = refl
rows_shown g (t ∷ ts) [] h s = absurd (omega arith)
rows_shown g (t ∷ ts) (x ∷ xs) h s =
    let (m, e, v) = s 0 (omega arith) in
    let rest : xs ≡ ends_shown g ts ++ drop (length ts) xs = rows_shown g ts xs (omega arith) (λ j k. s (suc j) (omega arith)) in
    ap₂ (λ a b. a ∷ b) v rest ∙ ap (λ z. ends_shown g (z ∷ ts) ++ drop (length ts) xs) (sym e)

zeros_shown : (left : List (List Placed)) → ((j : ℕ) → j < length left → (m : Placed) × (get_or left j [] ≡ m ∷ [])) → replicate (length left) 0 ≡ ends_shown status_shown left
unfolding ends_shown last_placed
zeros_shown [] s = refl
zeros_shown (t ∷ ts) s =
    let (m, e) = s 0 (omega arith) in
    ap (λ z. 0 ∷ z) (zeros_shown ts (λ j k. s (suc j) (omega arith))) ∙ ap (λ z. ends_shown status_shown (z ∷ ts)) (sym e)

one_last : (m : Placed) (ms : List Placed) → ms ≡ m ∷ [] → last_time 0 (events_of ms) ≡ m.event.time
unfolding last_time
one_last m ms e = rw e refl

end_times_lem : (left : List (List Placed)) (ts : List ℕ) → length left ≤ length ts → Shows time_shown ts left → end_times (tracks_of left) ≡ take (length left) ts
unfolding end_times
end_times_lem [] ts h s = refl
end_times_lem (t ∷ ls) [] h s = absurd (omega arith)
end_times_lem (t ∷ ls) (x ∷ xs) h s =
    let (m, e, v) = s 0 (omega arith) in
    ap₂ (λ a b. a ∷ b) (one_last m t e ∙ sym v) (end_times_lem ls xs (omega arith) (λ j k. s (suc j) (omega arith)))

one_end : (m : Placed) (ms : List Placed) → ms ≡ m ∷ [] → is_end m.event.kind ≡ true → others (events_of ms) ≡ []
unfolding others pick
one_end m ms e b = rw (e, b) refl

-- ---- at the end

module _ {f : List ℕ} {n : ℕ} {all : List (List Placed)} {old : List ℕ} {from : ℕ} {whole out : List ℕ} {next last force : ℕ} {ps ts ss ps₀ ts₀ ss₀ : List ℕ} (g : Going f n all old from whole out next last force ps ts ss ps₀ ts₀ ss₀) (i : ℕ) (none : n ≤ i) (l : Least n ts ss n i) where
  over : (j : ℕ) → j < length g.left → Ended f (get_or ps j 0) (get_or ts j 0) (get_or g.left j [])
  over j h =
      let k : j < n = omega (arith, g.size, h) in
      let all-looked : i ≡ n = omega (arith, l.within) in
      stand_ended f (get_or ps j 0) (get_or ts j 0) (get_or ss j 0) (get_or g.left j []) (g.rows.standing j k) (l.none all-looked j k)

  shows_places : Shows place_shown ps g.left
  shows_places j h = let o = over j h in (o.first, o.same, o.place_is)

  shows_times : Shows time_shown ts g.left
  shows_times j h = let o = over j h in (o.first, o.same, o.time_is)

  track_over : (j : ℕ) → j < length (tracks_of g.left) → others (get_or (tracks_of g.left) j []) ≡ []
  track_over j h =
      let o = over j (omega (arith, h, length-map g.left events_of)) in
      ap others (get_or-map events_of g.left j []) ∙ one_end o.first (get_or g.left j []) o.same o.last

  abbrev EndTime : ℕ
  EndTime = greatest (take n ts)

  only_end : n ≤ length ts → folded_track (tracks_of g.left) ≡ end_at EndTime ∷ []
  only_end h =
      let size = g.size in
      fold_done (tracks_of g.left) track_over
      ∙ ap (λ z. end_at (greatest z) ∷ []) (end_times_lem g.left ts (omega arith) shows_times ∙ ap (λ z. take z ts) size)

  module _ (h : n ≤ length ts) where
    abbrev Item : List ℕ
    Item = head_bytes short force (EndTime - last) EndTrack ++ data_of (kind_from f EndTrack)

    end_left : events_in short last force (folded_track (tracks_of g.left)) ≡ Item
    unfolding lay_events spell_events kind_at kind_from
    end_left =
        ap (events_in short last force) (only_end h)
        ∙ events_item f last force (end_at EndTime) [] EndTrack 0 (subst (LawfulEvents last) (only_end h) g.lawful)
        (subst (λ z. PermittedEvents last force z (map wide z)) (only_end h) g.permitted) refl refl
        ∙ append-nil Item

    pub written_all : (new : List ℕ) (next' : ℕ) → Written out next Item new next' → Written old from whole new next'
    written_all new next' w = finish _ Item g.remains end_left w

  pub places_shown : n ≤ length ps → ps ≡ ends_shown place_shown all ++ drop n ps₀
  places_shown h =
      let size = g.size in
      rows_shown place_shown g.left ps (omega arith) shows_places
      ∙ ap₂ (λ a b. a ++ drop b ps) (g.ends place_shown) size ∙ ap (λ z. ends_shown place_shown all ++ z) g.rows.places

  pub times_shown : n ≤ length ts → ts ≡ ends_shown time_shown all ++ drop n ts₀
  times_shown h =
      let size = g.size in
      rows_shown time_shown g.left ts (omega arith) shows_times
      ∙ ap₂ (λ a b. a ++ drop b ts) (g.ends time_shown) size ∙ ap (λ z. ends_shown time_shown all ++ z) g.rows.times

  pub statuses_shown : replicate n 0 ++ drop n ss ≡ ends_shown status_shown all ++ drop n ss₀
  statuses_shown =
      ap₂ (λ a b. a ++ b) (ap (λ z. replicate z 0) (sym g.size) ∙ zeros_shown g.left (λ j h. let o = over j h in (o.first, o.same)) ∙ g.ends status_shown) g.rows.statuses

-- ---- the loops of the end

pub greatest_more : (ts : List ℕ) (i : ℕ) → i < length ts → greatest (take (i + 1) ts) ≡ max (greatest (take i ts)) (get_or ts i 0)
unfolding greatest
greatest_more ts i h = rw (add-one i, take-suc ts i 0 h) (greatest_last (take i ts) (get_or ts i 0))
  where
    greatest_last : (xs : List ℕ) (y : ℕ) → greatest (xs ++ (y ∷ [])) ≡ max (greatest xs) y
    greatest_last [] y = omega arith
    greatest_last (x ∷ xs) y = omega (arith, greatest_last xs y)
