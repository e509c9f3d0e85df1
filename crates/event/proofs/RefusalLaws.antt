-- Every refusal has a number that is neither 0 nor 4, and number and place within bounds: of events the numbers end at 13.
use mathlib.Core.Path.{◌≡◌, refl}
use Prim.Native.Nat.{ℕ, zero, suc, ◌+◌, ◌-◌, ◌*◌, ◌≤◌}
use mathlib.Core.Bool.{Bool, true, false}
use mathlib.Core.List.{List, [], ◌∷◌}
use native.Mathlib.Omega.{arith}
use lib.Dec.{ltb}
use Rattle.event.specs.Choice.{pick}
use Rattle.event.specs.Outcome.{Outcome, ok, refused, and_then, check, placed}
use Rattle.event.specs.Reader.{read_more, read_vlq, read_data, read_number, data_byte, one_data, two_data, channel_data, read_exclusive, meta_data, read_meta_of, read_meta, read_frame, read_event}

-- a number that a refusal may have: 1 to top, and never 4, which "falls away"
abbrev pub Given : ℕ → ℕ → Type 0
Given top n = (1 ≤ n) × (n ≤ top) × (n ≡ 4 → ⊥)

-- what a refusal keeps to: its number is one of these, its place is at most m
abbrev pub Fair : {A : Type 0} → ℕ → ℕ → Outcome A → Type 0
Fair top m (ok a r) = Unit {0}
Fair top m (refused n p) = Given top n × (p ≤ m)

pub then_fair : {A B : Type 0} (top m : ℕ) (x : Outcome A) (f : A → List ℕ → Outcome B) → Fair top m x → ((a : A) (r : List ℕ) → x ≡ ok a r → Fair top m (f a r)) → Fair top m (and_then x f)
unfolding and_then
then_fair top m (ok a r) f h k = k a r refl
then_fair top m (refused n p) f h k = h

pub check_fair : {A : Type 0} (top m : ℕ) (t : Bool) (n p : ℕ) (x : Outcome A) → Given top n × (p ≤ m) → (t ≡ true → Fair top m x) → Fair top m (check t n p x)
unfolding check
check_fair top m true n p x h k = k refl
check_fair top m false n p x h k = h

pub pick_fair : {A : Type 0} (top m : ℕ) (t : Bool) (a b : Outcome A) → Fair top m a → Fair top m b → Fair top m (pick t a b)
unfolding pick
pick_fair top m true a b h k = h
pick_fair top m false a b h k = k

pub placed_fair : {A : Type 0} (top m n p : ℕ) (x : Outcome A) → p ≤ m → Fair top n x → Fair top m (placed p x)
unfolding placed
placed_fair top m n p (ok a r) h k = tt
placed_fair top m n p (refused i q) h k = (k.0, h)

more_fair : (m k acc : ℕ) (l : List ℕ) → Fair 13 m (read_more k acc l)
unfolding read_more
more_fair m zero acc l = omega arith
more_fair m (suc k) acc [] = omega arith
more_fair m (suc k) acc (b ∷ l) = pick_fair 13 m (ltb b 128) (ok (acc * 128 + b) l) (read_more k (acc * 128 + (b - 128)) l) tt (more_fair m k (acc * 128 + (b - 128)) l)

vlq_fair : (m : ℕ) (l : List ℕ) → Fair 13 m (read_vlq l)
unfolding read_vlq
vlq_fair m l = more_fair m 4 0 l

data_fair : (m n : ℕ) (l : List ℕ) → Fair 13 m (read_data n l)
unfolding read_data
data_fair m n l = check_fair 13 m _ 6 0 _ (omega arith) (λ e. tt)

pub number_fair : (m n : ℕ) (l : List ℕ) → Fair 13 m (read_number n l)
unfolding read_number
number_fair m n l = then_fair 13 m _ _ (data_fair m n l) (λ d r e. tt)

byte_fair : (m : ℕ) (l : List ℕ) → Fair 13 m (data_byte l)
unfolding data_byte
byte_fair m [] = omega arith
byte_fair m (a ∷ l) = check_fair 13 m _ 9 0 _ (omega arith) (λ e. tt)

channel_fair : (m s : ℕ) (l : List ℕ) → Fair 13 m (channel_data s l)
unfolding channel_data one_data two_data
channel_fair m s l =
    pick_fair 13 m _ _ _ (then_fair 13 m _ _ (byte_fair m l) (λ a r e. tt))
    (then_fair 13 m _ _ (byte_fair m l) (λ a r e. then_fair 13 m _ _ (byte_fair m r) (λ b q d. tt)))

meta_fair : (m : ℕ) (l : List ℕ) → Fair 13 m (read_meta l)
unfolding read_meta read_meta_of meta_data
meta_fair m [] = omega arith
meta_fair m (t ∷ l) =
    check_fair 13 m _ 8 0 _ (omega arith) (λ c0.
    then_fair 13 m _ _ (vlq_fair m l) (λ n r e.
    check_fair 13 m _ 10 0 _ (omega arith) (λ c1.
    then_fair 13 m _ _ (data_fair m n r) (λ d q e2. check_fair 13 m _ 11 0 _ (omega arith) (λ c2. tt)))))

frame_fair : (m f : ℕ) (l : List ℕ) → Fair 13 m (read_frame f l)
unfolding read_frame read_exclusive
frame_fair m f [] = omega arith
frame_fair m f (b ∷ l) =
    pick_fair 13 m _ _ _ (check_fair 13 m _ 8 0 _ (omega arith) (λ e. channel_fair m f (b ∷ l)))
    (pick_fair 13 m _ _ _ (channel_fair m b l)
    (pick_fair 13 m _ _ _ (meta_fair m l)
    (pick_fair 13 m _ _ _ (then_fair 13 m _ _ (vlq_fair m l) (λ n r e. then_fair 13 m _ _ (data_fair m n r) (λ d q e2. tt))) (omega arith))))

pub event_fair : (m prev f : ℕ) (l : List ℕ) → Fair 13 m (read_event prev f l)
unfolding read_event
event_fair m prev f l =
    then_fair 13 m _ _ (vlq_fair m l) (λ d r e. check_fair 13 m _ 7 0 _ (omega arith) (λ c. then_fair 13 m _ _ (frame_fair m f r) (λ x q e2. tt)))
