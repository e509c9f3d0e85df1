-- The header as the code reads it: one law for each of its answers.
use Rattle.std.specs.Prelude.{Result, Ok, Err}
use Rattle.smf.specs.declared.HeaderRead.{HeaderRead}
use mathlib.Core.Path.{◌≡◌, sym, ap, ◌∙◌}
use Prim.Native.Nat.{ℕ, ◌+◌, ◌-◌, ◌<◌, ◌≤◌}
use mathlib.Core.Bool.{true, false}
use mathlib.Core.List.{List}
use native.Mathlib.Omega.{arith}
use lib.ListN.{length, drop, length-drop}
use lib.Seq.{drop-drop}
use lib.Dec.{leb, eqb}
use borrow.Author.Tests.{le-leb, lt-leb, eq-eqb, ne_eqb}
use Rattle.event.specs.Bytes.{Bytes, number}
use Rattle.event.specs.Outcome.{ok, and_then, check}
use Rattle.event.specs.Reader.{read_number}
use Rattle.event.specs.Step.{bytes_from}
use Rattle.event.proofs.OutcomeLaws.{check_eq}
use Rattle.event.proofs.BytesLaws.{bytes_drop, number_at, number_sound}
use Rattle.event.proofs.PlaceLaws.{place_back}
use Rattle.event.proofs.RowLaws.{take_from}
use Rattle.smf.specs.Chunk.{header_tag}
use Rattle.smf.specs.Division.{division_of, division_ok}
use Rattle.smf.specs.Piece.{tracks_fit}
use Rattle.smf.specs.Reader.{count_ok, read_header}
use Rattle.smf.specs.Step.{division_step, header_step}

-- the number of k bytes at the place p, as the code reads it
abbrev pub N : List ℕ → ℕ → ℕ → ℕ
N s k p = number (bytes_from k (drop p s) 0)

pub number_there : (s : List ℕ) (k p : ℕ) → p + k ≤ length s → read_number k (drop p s) ≡ ok (N s k p) (drop (p + k) s)
number_there s k p h =
    let fit : k ≤ length (drop p s) = simp length-drop (omega arith) in
    number_at s p k h ∙ ap (λ d. ok (number d) (drop (p + k) s)) (take_from k (drop p s) fit)

abbrev H : List ℕ → Result HeaderRead (ℕ × ℕ)
H s = header_step (length s) (read_header s)

pub head_short : (s : List ℕ) → length s < 14 → Err (2, 0) ≡ H s
unfolding read_header check header_step
head_short s h = rw (lt-leb 14 (length s) h)

module _ (s : List ℕ) (h : 14 ≤ length s) where
  chain : read_header s
      ≡ check (eqb (N s 4 0) header_tag) 3 0 (check (leb 6 (N s 4 4)) 3 4 (check (leb (N s 4 4) (length (drop 8 s))) 2 0
      (check (leb (N s 2 8) 2) 3 8 (check (count_ok (N s 2 8) (N s 2 10)) 3 10
      (check (division_ok (N s 2 12)) 3 12 (ok (record { format = N s 2 8; count = N s 2 10; division = division_of (N s 2 12) }) (drop (N s 4 4 - 6) (drop 14 s))))))))
  unfolding read_header and_then
  chain =
      let q0 : read_number 4 s ≡ ok (N s 4 0) (drop 4 s) = number_there s 4 0 (omega arith) in
      let q1 : read_number 4 (drop 4 s) ≡ ok (N s 4 4) (drop 8 s) = number_there s 4 4 (omega arith) in
      let q2 : read_number 2 (drop 8 s) ≡ ok (N s 2 8) (drop 10 s) = number_there s 2 8 (omega arith) in
      let q3 : read_number 2 (drop 10 s) ≡ ok (N s 2 10) (drop 12 s) = number_there s 2 10 (omega arith) in
      let q4 : read_number 2 (drop 12 s) ≡ ok (N s 2 12) (drop 14 s) = number_there s 2 12 (omega arith) in
      check_eq 2 0 _ (le-leb 14 (length s) h) ∙ simp (q0, q1, q2, q3, q4)

  module _ (x0 : ℕ) (e0 : x0 ≡ N s 4 0) where
    pub head_tag : (x0 ≡ header_tag → ⊥) → Err (3, 0) ≡ H s
    unfolding check header_step
    head_tag n = simp (chain, ← e0, ne_eqb x0 header_tag n)

    module _ (t0 : x0 ≡ header_tag) (x1 : ℕ) (e1 : x1 ≡ N s 4 4) where
      y0 : eqb (N s 4 0) header_tag ≡ true
      y0 = eq-eqb (N s 4 0) header_tag (sym e0 ∙ t0)

      pub head_size : x1 < 6 → Err (3, 4) ≡ H s
      unfolding check header_step
      head_size n = simp (chain, y0, ← e1, lt-leb 6 x1 n)

      module _ (t1 : 6 ≤ x1) where
        long : leb 6 (N s 4 4) ≡ true
        long = rw (← e1) (le-leb 6 x1 t1)

        -- "2 at 0 for a header past the end"
        pub head_past : length s - 8 < x1 → Err (2, 0) ≡ H s
        unfolding check header_step
        head_past n =
            let few : length (drop 8 s) < x1 = simp length-drop n in
            let z : leb (N s 4 4) (length (drop 8 s)) ≡ false = rw (← e1) (lt-leb x1 (length (drop 8 s)) few) in
            simp (chain, y0, long, z)

        module _ (inside : 8 + x1 ≤ length s) (x2 : ℕ) (e2 : x2 ≡ N s 2 8) where
          whole : leb (N s 4 4) (length (drop 8 s)) ≡ true
          whole = let fit : x1 ≤ length (drop 8 s) = simp length-drop (omega arith) in rw (← e1) (le-leb x1 (length (drop 8 s)) fit)

          pub head_format : 2 < x2 → Err (3, 8) ≡ H s
          unfolding check header_step
          head_format n = simp (chain, y0, long, whole, ← e2, lt-leb x2 2 n)

          module _ (t2 : x2 ≤ 2) (x3 : ℕ) (e3 : x3 ≡ N s 2 10) where
            y2 : leb (N s 2 8) 2 ≡ true
            y2 = rw (← e2) (le-leb x2 2 t2)

            pub head_count : count_ok x2 x3 ≡ false → Err (3, 10) ≡ H s
            unfolding check header_step
            head_count n =
                let z : count_ok (N s 2 8) (N s 2 10) ≡ false = rw (← e2, ← e3) n in
                simp (chain, y0, long, whole, y2, z)

            module _ (t3 : count_ok x2 x3 ≡ true) (x4 : ℕ) (e4 : x4 ≡ N s 2 12) where
              y3 : count_ok (N s 2 8) (N s 2 10) ≡ true
              y3 = rw (← e2, ← e3) t3

              pub head_division : division_ok x4 ≡ false → Err (3, 12) ≡ H s
              unfolding check header_step
              head_division n =
                  let z : division_ok (N s 2 12) ≡ false = rw (← e4) n in
                  simp (chain, y0, long, whole, y2, y3, z)

              pub head_fine : division_ok x4 ≡ true → Ok (record { format = x2; count = x3; division = (division_step (division_of x4)); next = (8 + x1) }) ≡ H s
              unfolding check header_step
              head_fine n =
                  let z : division_ok (N s 2 12) ≡ true = rw (← e4) n in
                  let sum : 14 + (x1 - 6) ≡ 8 + x1 = omega arith in
                  let rest : drop (N s 4 4 - 6) (drop 14 s) ≡ drop (8 + x1) s = ap (λ k. drop (k - 6) (drop 14 s)) (sym e1) ∙ drop-drop (x1 - 6) 14 s ∙ ap (λ k. drop k s) sum in
                  rw (e2, e3, e4) (simp (chain, y0, long, whole, y2, y3, z, rest, place_back s (8 + x1) inside))

-- ---- its tests

pub count_none : (format n : ℕ) → n ≡ 0 → false ≡ count_ok format n
unfolding count_ok tracks_fit
count_none format n e = rw e

pub count_single : (format n : ℕ) → (n ≡ 0 → ⊥) → format ≡ 0 → eqb n 1 ≡ count_ok format n
unfolding count_ok tracks_fit
count_single format n h e = simp (e, le-leb 1 n (omega arith))

pub count_many : (format n : ℕ) → (n ≡ 0 → ⊥) → (format ≡ 0 → ⊥) → true ≡ count_ok format n
unfolding count_ok tracks_fit
count_many format n h e = simp (ne_eqb format 0 e, le-leb 1 n (omega arith))

pub two_bytes : (s : List ℕ) (p x : ℕ) → Bytes s → p + 2 ≤ length s → x ≡ N s 2 p → x ≤ 65535
two_bytes s p x bs h e =
    let laid = number_sound 2 (drop p s) (N s 2 p) (drop (p + 2) s) (bytes_drop s p bs) (number_there s 2 p h) in
    let k : N s 2 p < 65536 = laid.fits in
    omega arith
