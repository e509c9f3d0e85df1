-- The step of a merge: from the tracks that are left, the first of those whose first event is least gives it up.
use mathlib.Core.Path.{◌≡◌, refl, sym, ap, ap₂, ◌∙◌}
use Prim.Native.Nat.{ℕ, zero, suc, ◌+◌, ◌≤◌, ◌<◌}
use mathlib.Core.Bool.{true, false}
use mathlib.Core.Logic.{◌⊎◌, ⊎_elim}
use mathlib.Core.List.{List, [], ◌∷◌, ◌++◌, append_assoc}
use native.Mathlib.Omega.{arith}
use lib.ListN.{length, take, drop, get_or, set, length-drop}
use lib.Seq.{split_at, set_split, get_or-take, get_or-drop, length-take-le}
use Rattle.event.specs.Choice.{pick}
use Rattle.event.specs.Event.{Event, is_end}
use Rattle.smf.specs.Piece.{LawfulEvents}
use Rattle.smf.specs.Step.{last_time}
use Rattle.smf.specs.Listing.{end_times}
use Rattle.fold_piece.specs.Fold.{others, joined, by_time, greatest, end_at, folded_track}
use Rattle.fold_piece.proofs.OrderLaws.{All, all_append, all_weaken, NotBefore, After, rising_all, take_least}
use Rattle.fold_piece.proofs.TrackLaws.{lawful_cases, others_rising}

joined_append : (xs ys : List (List Event)) → joined (xs ++ ys) ≡ joined xs ++ joined ys
unfolding joined
joined_append [] ys = refl
joined_append (x ∷ xs) ys = ap (λ z. others x ++ z) (joined_append xs ys) ∙ sym (append_assoc (others x) (joined xs) (joined ys))

all_joined : (P : Event → Type 0) (ts : List (List Event)) → ((j : ℕ) → j < length ts → All P (others (get_or ts j []))) → All P (joined ts)
unfolding joined All
all_joined P [] h = tt
all_joined P (t ∷ ts) h = all_append P (others t) (joined ts) (h 0 (omega arith)) (all_joined P ts (λ j g. h (suc j) (omega arith)))

end_times_set : (ts : List (List Event)) (i : ℕ) (es : List Event) → last_time 0 es ≡ last_time 0 (get_or ts i []) → end_times (set ts i es) ≡ end_times ts
unfolding end_times
end_times_set [] i es h = refl
end_times_set (t ∷ ts) zero es h = ap (λ z. z ∷ end_times ts) h
end_times_set (t ∷ ts) (suc i) es h = ap (λ z. last_time 0 t ∷ z) (end_times_set ts i es h)

last_after_lem : (e : Event) (es : List Event) → LawfulEvents e.time es → last_time 0 es ≡ last_time 0 (e ∷ es)
unfolding last_time LawfulEvents
last_after_lem e [] l = absurd l
last_after_lem e (x ∷ xs) l = refl

others_inner : (e : Event) (es : List Event) → is_end e.kind ≡ false → others (e ∷ es) ≡ e ∷ others es
unfolding others pick
others_inner e es b = rw b refl

-- ---- what a track's first event says of all

pub front_after : (t prev : ℕ) (x : Event) (xs : List Event) → LawfulEvents prev (x ∷ xs) → (is_end x.kind ≡ true) ⊎ (t < x.time) → All (After t) (others (x ∷ xs))
unfolding others All pick
front_after t prev x xs l h =
    lawful_cases prev x xs l (λ b n. rw (b, n) tt)
    (λ b m.
    ⊎_elim (λ a. let z : ◌≡◌ {A = ℕ} 0 1 = cc in absurd (omega arith))
    (λ g. rw b (g, all_weaken (NotBefore x.time) (After t) (λ y k. omega (arith, g, k)) (others xs) (rising_all x.time (others xs) (others_rising x.time xs m)))) h)

pub front_later : (t prev : ℕ) (x : Event) (xs : List Event) → LawfulEvents prev (x ∷ xs) → (is_end x.kind ≡ true) ⊎ (t ≤ x.time) → All (NotBefore t) (others (x ∷ xs))
unfolding others All pick
front_later t prev x xs l h =
    lawful_cases prev x xs l (λ b n. rw (b, n) tt)
    (λ b m.
    ⊎_elim (λ a. let z : ◌≡◌ {A = ℕ} 0 1 = cc in absurd (omega arith))
    (λ g. rw b (g, all_weaken (NotBefore x.time) (NotBefore t) (λ y k. omega (arith, g, k)) (others xs) (rising_all x.time (others xs) (others_rising x.time xs m)))) h)

-- ---- the step

module _ (ts : List (List Event)) (i : ℕ) (inside : i < length ts) (e : Event) (es : List Event) (here : get_or ts i [] ≡ e ∷ es) (inner : is_end e.kind ≡ false) (rest : LawfulEvents e.time es) where
  whole : joined ts ≡ joined (take i ts) ++ (e ∷ (others es ++ joined (drop (suc i) ts)))
  unfolding joined
  whole =
      ap joined (split_at ts i [] inside) ∙ joined_append (take i ts) (get_or ts i [] ∷ drop (suc i) ts)
      ∙ ap (λ z. joined (take i ts) ++ (others z ++ joined (drop (suc i) ts))) here
      ∙ ap (λ z. joined (take i ts) ++ (z ++ joined (drop (suc i) ts))) (others_inner e es inner)

  less : joined (set ts i es) ≡ joined (take i ts) ++ (others es ++ joined (drop (suc i) ts))
  unfolding joined
  less = ap joined (set_split ts i es inside) ∙ joined_append (take i ts) (es ∷ drop (suc i) ts)

  pub fold_step : ((j : ℕ) → j < i → All (After e.time) (others (get_or ts j []))) → ((j : ℕ) → j < length ts → All (NotBefore e.time) (others (get_or ts j [])))
      → folded_track ts ≡ e ∷ folded_track (set ts i es)
  unfolding folded_track All
  fold_step before later =
      let size : length (take i ts) ≡ i = length-take-le i ts (omega arith) in
      let xs : All (After e.time) (joined (take i ts)) =
      all_joined (After e.time) (take i ts) (λ j h. let k : j < i = omega (arith, h, size) in rw (get_or-take i ts j [] k) (before j k))
      in
      let mine : All (NotBefore e.time) (e ∷ others es) = rw (here, others_inner e es inner) at (later i inside) in
      let ys : All (NotBefore e.time) (others es ++ joined (drop (suc i) ts)) =
      all_append (NotBefore e.time) (others es) (joined (drop (suc i) ts)) mine.1
      (all_joined (NotBefore e.time) (drop (suc i) ts)
      (λ j h. rw (get_or-drop (suc i) ts j []) (later (suc i + j) (omega (arith, h, length-drop (suc i) ts)))))
      in
      let ends : end_times (set ts i es) ≡ end_times ts = end_times_set ts i es (last_after_lem e es rest ∙ ap (last_time 0) (sym here)) in
      let order : by_time (joined ts) ≡ e ∷ by_time (joined (set ts i es)) =
      ap by_time whole ∙ take_least (joined (take i ts)) e (others es ++ joined (drop (suc i) ts)) xs ys ∙ ap (λ z. e ∷ by_time z) (sym less)
      in
      ap₂ (λ a b. a ++ (end_at (greatest b) ∷ [])) order (sym ends)

-- where every track stands at its End_track

no_others : (ts : List (List Event)) → ((j : ℕ) → j < length ts → others (get_or ts j []) ≡ []) → joined ts ≡ []
unfolding joined
no_others [] h = refl
no_others (t ∷ ts) h = ap₂ (λ a b. a ++ b) (h 0 (omega arith)) (no_others ts (λ j g. h (suc j) (omega arith)))

pub fold_done : (ts : List (List Event)) → ((j : ℕ) → j < length ts → others (get_or ts j []) ≡ []) → folded_track ts ≡ end_at (greatest (end_times ts)) ∷ []
unfolding folded_track by_time
fold_done ts h = ap (λ z. by_time z ++ (end_at (greatest (end_times ts)) ∷ [])) (no_others ts h)
