-- Numbers high byte first.
use Rattle.std.proofs.Common.{◌≡◌, ℕ, suc, zero, ◌-◌, ◌/◌, ◌≤◌, take, drop, refl, arith}
use Rattle.std.specs.Int.{w32, to_be_bytes}
use Rattle.event.specs.Bytes.{big_endian, bytes_onto}

-- the last k of the four bytes of a number are its k lowest
pub low_bytes : (k n : ℕ) → k ≤ 4 → take (4 - (4 - k)) (drop (4 - k) (to_be_bytes w32 n)) ≡ big_endian k n
unfolding big_endian bytes_onto
low_bytes zero n h = refl
low_bytes (suc zero) n h = refl
low_bytes (suc (suc zero)) n h = refl
low_bytes (suc (suc (suc zero))) n h = let e : n / 65536 ≡ n / 256 / 256 = omega arith in rw e
low_bytes (suc (suc (suc (suc zero)))) n h =
    let e : n / 65536 ≡ n / 256 / 256 = omega arith in
    let f : n / 16777216 ≡ n / 256 / 256 / 256 = omega arith in
    rw (f, e)
low_bytes (suc (suc (suc (suc (suc k))))) n h = absurd (omega arith)
