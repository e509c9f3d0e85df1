-- The exported number is taken apart again into number, place and length, as the header's macros do.
use mathlib.Core.Path.{◌≡◌, ap}
use Prim.Native.Nat.{ℕ, ◌<◌, ◌≤◌}
use native.Mathlib.Omega.{arith}
use mathlib.Core.List.{List}
use Rattle.event.specs.Bytes.{Bytes}
use Rattle.smf.specs.Answer.{verdict}
use Rattle.smf.specs.Reader.{read_file}
use Rattle.smf.specs.declared.Answer.{Answer}
use Rattle.smf.proofs.RefusalLaws.{place_small, length_none}
use Rattle.smf.proofs.WritingLaws.{Fits28}
use Rattle.noferkash.specs.Packed.{packed, number_of, Says}

-- what pack asks of an answer that is known
pub small : (a b : Answer) → a ≡ b → Fits28 b → (a.place < 268435456) × (a.length < 268435456)
small a b e f = (omega (arith, ap (λ (v : Answer). v.place) e, f.place), omega (arith, ap (λ (v : Answer). v.length) e, f.length))

-- the verdict's place and length fit 28 bits
pub verdict_fits : (s : List ℕ) → Bytes s → Fits28 (verdict (read_file s))
verdict_fits s bs = record { place = omega (arith, place_small s bs); length = omega (arith, length_none s) }

pub taken_apart : (r : ℕ) (a : Answer) → r ≡ packed a → Fits28 a → Says r a
taken_apart r a e f =
    record {
      number = omega (arith, e, f.place, f.length);
      place = omega (arith, e, f.place, f.length);
      length = omega (arith, e, f.place, f.length);
    }

-- an answer of another number than 0 does not say 0, wherever its place lies
pub not_zero : (r : ℕ) (a : Answer) → r ≡ packed a → 1 ≤ a.number → number_of r ≡ 0 → ⊥
not_zero r a e h z = omega (arith, e, h, z)
