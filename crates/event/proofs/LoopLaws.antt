-- The loop that reads a variable-length number: the cases of a turn.
use mathlib.Core.Path.{◌≡◌, refl}
use Prim.Native.Nat.{ℕ, zero, suc, ◌+◌, ◌-◌, ◌*◌, ◌<◌, ◌≤◌}
use mathlib.Core.List.{List}
use native.Mathlib.Omega.{arith}
use native.Mathlib.Numerals.{add-one}
use lib.ListN.{length, drop, get_or, length-drop, drop_of_length-le}
use lib.Seq.{drop-cons}
use borrow.Author.Tests.{lt-ltb, le-ltb}
use Rattle.event.specs.Reader.{read_more}
use Rattle.event.specs.Step.{number_step}
use Rattle.event.specs.declared.NumberRead.{NumberRead}
use Rattle.std.specs.Prelude.{Result, Ok, Err}

-- the number so far lies below this, with k bytes left
abbrev pub room : ℕ → ℕ
room zero = 268435456
room (suc zero) = 2097152
room (suc (suc zero)) = 16384
room (suc (suc (suc zero))) = 128
room (suc (suc (suc (suc k)))) = 1

abbrev pub More : ℕ → List ℕ → ℕ → ℕ → ℕ → Result NumberRead ℕ
More x s k acc p = number_step (length s) x (read_more k acc (drop p s))

pub room_small : (k acc : ℕ) → 0 < k → acc < room k → acc < 2097152
room_small zero acc h r = absurd (omega arith)
room_small (suc zero) acc h r = r
room_small (suc (suc zero)) acc h r = omega arith
room_small (suc (suc (suc zero))) acc h r = omega arith
room_small (suc (suc (suc (suc k)))) acc h r = omega arith

room_next : (k acc b : ℕ) → k < 4 → acc < room (suc k) → b < 128 → acc * 128 + b < room k
room_next zero acc b z r h = omega arith
room_next (suc zero) acc b z r h = omega arith
room_next (suc (suc zero)) acc b z r h = omega arith
room_next (suc (suc (suc zero))) acc b z r h = omega arith
room_next (suc (suc (suc (suc k)))) acc b z r h = absurd (omega arith)

pub turn_short : (x : ℕ) (s : List ℕ) (k acc p : ℕ) → 0 < k → length s ≤ p → More x s k acc p ≡ Err 6
unfolding read_more number_step
turn_short x s zero acc p h e = absurd (omega arith)
turn_short x s (suc k) acc p h e = rw (drop_of_length-le s e)

pub turn_last : (x : ℕ) (s : List ℕ) (k acc p : ℕ) → 0 < k → p < length s → get_or s p 0 < 128 → More x s k acc p ≡ Ok (record { value = acc * 128 + get_or s p 0; next = p + 1; padding = x })
unfolding read_more number_step
turn_last x s zero acc p h e b = absurd (omega arith)
turn_last x s (suc k) acc p h e b =
    let next : length s - length (drop (suc p) s) ≡ p + 1 = simp length-drop (omega arith) in
    rw (drop-cons s p 0 e, lt-ltb (get_or s p 0) 128 b, next)

pub turn_on : (x : ℕ) (s : List ℕ) (k acc p : ℕ) → 0 < k → p < length s → 128 ≤ get_or s p 0 → get_or s p 0 < 256 → k ≤ 4 → acc < room k
    → (More x s k acc p ≡ More x s (k - 1) (acc * 128 + (get_or s p 0 - 128)) (p + 1)) × (acc * 128 + (get_or s p 0 - 128) < room (k - 1))
unfolding read_more
turn_on x s zero acc p h e b c z r = absurd (omega arith)
turn_on x s (suc k) acc p h e b c z r =
    let one : suc k - 1 ≡ k = omega arith in
    rw (one, add-one p, drop-cons s p 0 e, le-ltb (get_or s p 0) 128 b) (refl, room_next k acc (get_or s p 0 - 128) (omega arith) r (omega arith))

pub turn_none : (x : ℕ) (s : List ℕ) (k acc p : ℕ) → k ≤ 0 → More x s k acc p ≡ Err 5
unfolding read_more number_step
turn_none x s zero acc p h = refl
turn_none x s (suc k) acc p h = absurd (omega arith)
