-- One more read, into what is left of a buffer.
use Rattle.std.proofs.Common.{◌≡◌, ℕ, ◌+◌, ◌≤◌, List, ◌++◌, Option, Result, Ok, Err, length, take, sym, ap, ◌∙◌, subst, le_refl, add-zero, length-take-le}
use Rattle.std.proofs.Math.Seq.{take-append-add}
use Rattle.std.proofs.lemmas.List.{take-append-le}
use Rattle.std.proofs.lemmas.Slice.{take-put_mid_below}
use Rattle.std.proofs.KnownBytes.{Consumes-trans, Consumes-kept}
use Rattle.std.specs.Io.{ReadsAtMost}
use Rattle.std.specs.Io.KnownBytes.{Consumes, ReadConsumes}
use Rattle.std.specs.Result.{result_unwrap_or}
use borrow.Rule.Slice.PartMut.{put_mid, post_of}

-- the first i, and n of the bytes that came behind them
take_came : (i k n : ℕ) (xs came : List ℕ) → i ≤ length xs → n ≤ length came → take (i + n) (put_mid i k xs came) ≡ take i xs ++ take n came
take_came i k n xs came within fits =
    let front : length (take i xs) ≡ i = length-take-le i xs within in
    ap (λ m. take (m + n) (put_mid i k xs came)) (sym front) ∙ take-append-add (take i xs) (came ++ post_of i k xs) n
    ∙ ap (λ l. take i xs ++ l) (take-append-le n came (post_of i k xs) fits)

module _ {E : Type 0} (old mid new : Option (List ℕ)) (i k : ℕ) (xs came : List ℕ) where
  -- what was taken of the source so far is what stands in the buffer so far
  pub read_more : (r : Result ℕ E) → i ≤ length xs → Consumes old mid (take i xs) → ReadsAtMost r came → ReadConsumes mid new r came
      → Consumes old new (take (i + result_unwrap_or r 0) (put_mid i k xs came))
  read_more (Ok n) within taken bound bytes =
      subst (Consumes old new) (sym (take_came i k n xs came within bound.0)) (Consumes-trans _ _ _ _ _ taken bytes.0)
  read_more (Err e) within taken bound bytes =
      rw add-zero (subst (Consumes old new) (sym (take-put_mid_below i k xs came i (le_refl i) within)) (Consumes-kept _ _ _ _ taken bytes))
