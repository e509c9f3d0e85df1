-- The end of a line, looked for byte by byte.
use mathlib.Core.Path.{◌≡◌, sym, ap, ap₂, ◌∙◌}
use Prim.Native.Nat.{ℕ, suc, ◌+◌, ◌-◌, ◌<◌, ◌≤◌}
use mathlib.Core.Bool.{Bool}
use mathlib.Core.List.{List, [], ◌∷◌, ◌++◌, append-nil}
use native.Mathlib.Omega.{arith}
use native.Mathlib.Numerals.{add-one}
use lib.ListN.{length, get_or, take, drop, length-drop, drop_of_length-le}
use lib.Seq.{drop-cons, length-take-le, take-append_seam}
use lib.Dec.{eqb}
use borrow.Author.Tests.{eqb-true}
use Rattle.std.proofs.Common.{one-add, not}
use Rattle.std.specs.List.{prefix_len}
use Rattle.std.proofs.lemmas.List.{take-append-drop}
use Rattle.std.proofs.lemmas.List.Sums.{prefix_len-le-length}
use Rattle.event.proofs.ChoiceLaws.{by_test}
use Rattle.midicsv.specs.Lines.{lines_of}
use Rattle.midicsv.proofs.LineLaws.{NoFeed, lines_feed, lines_last}
use Rattle.midicsv_scan.specs.Cut.{CutAt}
use Rattle.midicsv_scan.proofs.RunLaws.{run_inside, run_rest, run_stops}

-- no LF from i to e
pub record Scanning (s : List ℕ) (i e : ℕ) : Type 0 where
  pub line : List ℕ
  pub clean : NoFeed line
  pub splits : drop i s ≡ line ++ drop e s
  pub size : i + length line ≡ e
  pub high : e ≤ length s

-- a byte of a line
abbrev pub in_line : ℕ → Bool
in_line c = not (eqb c 10)

clean_front : (l : List ℕ) → NoFeed (take (prefix_len in_line l) l)
clean_front [] = tt
clean_front (c ∷ l) = by_test (eqb c 10) (λ t. rw t tt) (λ t. rw (t, one-add) (t, clean_front l))

pub scanned : (s : List ℕ) (i e : ℕ) → i ≤ length s → e ≡ i + prefix_len in_line (drop i s) → Scanning s i e
scanned s i e h m =
    let n = prefix_len in_line (drop i s) in
    let k : n ≤ length (drop i s) = prefix_len-le-length in_line (drop i s) in
    record {
      line = take n (drop i s);
      clean = clean_front (drop i s);
      splits = sym (take-append-drop n (drop i s)) ∙ ap (λ z. take n (drop i s) ++ z) (run_rest in_line s i e m);
      size = omega (arith, length-take-le n (drop i s) k);
      high = run_inside in_line s i e m h;
    }

-- what ends a line is a LF
pub line_stops : (s : List ℕ) (i e : ℕ) → e ≡ i + prefix_len in_line (drop i s) → e < length s → get_or s e 0 ≡ 10
line_stops s i e m h =
    let t = run_stops in_line s i e m h in by_test (eqb (get_or s e 0) 10) (λ q. eqb-true (get_or s e 0) 10 q) (λ q. cc (rw q at t))

the_line : (s : List ℕ) (i e : ℕ) (a : Scanning s i e) → take (e - i) (drop i s) ≡ a.line
the_line s i e a =
    let size : e - i ≡ length a.line = omega (arith, a.size) in
    ap₂ take size a.splits ∙ take-append_seam a.line (drop e s)

pub cut_feed : (s : List ℕ) (i e : ℕ) → Scanning s i e → e < length s → get_or s e 0 ≡ 10 → CutAt s i e (e + 1)
cut_feed s i e a h n =
    record {
      lines =
          ap lines_of (a.splits ∙ ap (λ z. a.line ++ z) (drop-cons s e 0 h ∙ ap (λ z. z ∷ drop (suc e) s) n))
          ∙ lines_feed a.line (drop (suc e) s) a.clean
          ∙ ap₂ (λ x y. x ∷ lines_of (drop y s)) (sym (the_line s i e a)) (sym (add-one e));
      low = omega (arith, a.size);
      high = a.high;
      past = omega arith;
      more = omega (arith, a.size);
      most = omega arith;
    }

one_line : (l : List ℕ) → 1 ≤ length l → NoFeed l → lines_of l ≡ l ∷ lines_of []
unfolding lines_of
one_line [] h a = absurd (omega arith)
one_line (c ∷ l) h a = lines_last c l a

-- "bytes after the last LF are a line"
pub cut_last : (s : List ℕ) (i e : ℕ) → Scanning s i e → i < length s → length s ≤ e → CutAt s i e e
cut_last s i e a h n =
    let d : drop e s ≡ [] = drop_of_length-le s n in
    let w : drop i s ≡ a.line = a.splits ∙ ap (λ z. a.line ++ z) d ∙ append-nil a.line in
    record {
      lines = ap lines_of w ∙ one_line a.line (omega (arith, a.size)) a.clean ∙ ap₂ (λ x y. x ∷ lines_of y) (sym (the_line s i e a)) (sym d);
      low = omega (arith, a.size);
      high = a.high;
      past = omega arith;
      more = omega arith;
      most = a.high;
    }

pub cut_size : (s : List ℕ) (i e n : ℕ) → CutAt s i e n → length (take (e - i) (drop i s)) ≡ e - i
cut_size s i e n c = length-take-le (e - i) (drop i s) (omega (arith, length-drop i s, c.high))
