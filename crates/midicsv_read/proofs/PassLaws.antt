-- The loop over the lines of a text.
use mathlib.Core.Path.{◌≡◌, refl, sym, ap, subst, ◌∙◌}
use Prim.Native.Nat.{ℕ, suc, ◌+◌, ◌-◌, ◌*◌, ◌≤◌}
use mathlib.Core.List.{List, []}
use native.Mathlib.Omega.{arith}
use native.Mathlib.Numerals.{add-one}
use lib.ListN.{length, take, drop, drop_of_length-le}
use Rattle.event.specs.Manner.{Manner}
use Rattle.event.specs.Outcome.{Outcome, ok, refused}
use Rattle.event_write.proofs.WriteLaws.{nothing}
use Rattle.smf.specs.Piece.{Piece}
use Rattle.midicsv.specs.Result.{bad}
use Rattle.midicsv.specs.Lines.{lines_of}
use Rattle.midicsv.specs.Order.{State, first, between, inside, finished}
use Rattle.midicsv.specs.PieceOfText.{tell_line, step_told, advance, ended, run_lines, piece_told, piece_of_text}
use Rattle.midicsv_scan.specs.Cut.{CutAt}
use Rattle.midicsv_read.specs.Progress.{bytes_of, At, Answers, Follows, Near, line_step, length_of, Leaves}
use Rattle.midicsv_read.specs.declared.Progress.{Progress}
use Rattle.std.specs.Prelude.{Ok, Err, Result as CodeResult}
use Rattle.event.specs.declared.refusal.Refusal.{Refusal}
use Rattle.midicsv_read.specs.declared.Phase.{Phase}
use Rattle.event.specs.Refusal.{number_of}
use Rattle.midicsv_scan.proofs.CutLaws.{cut_size}

-- the lines from the place i, line n, on decide what the whole text decides; a line of k bytes adds at most 15 + k
pub record Going (m : Manner) (text old : List ℕ) (st : Progress) (i n : ℕ) (out : List ℕ) : Type 0 where
  pub state : State
  pub held : At m state old st out
  pub rest : run_lines tell_line (lines_of (drop i text)) state n ≡ piece_of_text text
  pub within : i ≤ length text
  pub line : n ≤ i + 1
  pub small : st.at ≤ 16 * i

pub going_first : (m : Manner) (text old : List ℕ)
    → Going m text old (record { phase = Phase.BeforeHeader; count = 0; tracks = 0; time = record { 0 = 0 }; force = 0; size = 0; at = 0 }) 0 1 old
unfolding piece_of_text piece_told bytes_of
going_first m text old =
    record {
      state = first;
      held = record { numbers = refl; few = omega arith; written = nothing old 0 };
      rest = refl;
      within = omega arith;
      line = omega arith;
      small = omega arith;
    }

-- ---- the line that is read

abbrev line_in : List ℕ → ℕ → ℕ → List ℕ
line_in text i end = take (end - i) (drop i text)

turn : (text : List ℕ) (s : State) (i n end next : ℕ) → CutAt text i end next
    → run_lines tell_line (lines_of (drop i text)) s n ≡ advance (step_told s (tell_line (line_in text i end))) n (λ t. run_lines tell_line (lines_of (drop next text)) t (suc n))
unfolding run_lines
turn text s i n end next c = ap (λ z. run_lines tell_line z s n) c.lines

module _ (m : Manner) (text old : List ℕ) (st : Progress) (i n : ℕ) (out : List ℕ) (g : Going m text old st i n out) (end next : ℕ) (c : CutAt text i end next) (new : List ℕ) (r : CodeResult Progress Refusal) (f : Follows m st out (line_step (line_in text i end)) r new) where
  pub going_on : (t : Progress) → r ≡ Ok t → Near (st.at + 15 + length (line_in text i end)) r → Going m text old t next (n + 1) new
  unfolding advance
  going_on t e b =
      let a : Answers m (step_told g.state (tell_line (line_in text i end))) old (Ok t) new =
      subst (λ z. Answers m (step_told g.state (tell_line (line_in text i end))) old z new) e (f g.state old g.held) in
      let b1 : Near (st.at + 15 + length (line_in text i end)) (Ok t) = subst (Near (st.at + 15 + length (line_in text i end))) e b in
      record {
        state = a.0;
        held = a.2;
        rest =
            rw (add-one n)
            (sym (turn text g.state i n end next c ∙ ap (λ z. advance z n (λ t. run_lines tell_line (lines_of (drop next text)) t (suc n))) a.1) ∙ g.rest);
        within = c.most;
        line = omega (arith, g.line, c.more);
        small = omega (arith, g.small, b1, c.low, c.past, c.more, cut_size text i end next c);
      }

  pub going_bad : (k : Refusal) → r ≡ Err k → piece_of_text text ≡ refused (number_of k) n
  unfolding advance
  going_bad k e =
      let a : step_told g.state (tell_line (line_in text i end)) ≡ bad (number_of k) =
      subst (λ z. Answers m (step_told g.state (tell_line (line_in text i end))) old z new) e (f g.state old g.held) in
      sym g.rest ∙ turn text g.state i n end next c ∙ ap (λ z. advance z n (λ t. run_lines tell_line (lines_of (drop next text)) t (suc n))) a

-- ---- the end of the text

none_left : (text : List ℕ) (s : State) (i n : ℕ) → length text ≤ i → run_lines tell_line (lines_of (drop i text)) s n ≡ ended s n
unfolding run_lines lines_of
none_left text s i n h = rw (drop_of_length-le text h)

done_at : (m : Manner) (s : State) (old : List ℕ) (st : Progress) (out : List ℕ) (n : ℕ) → At m s old st out → st.phase ≡ Phase.AfterEnd
    → (ok st.at [] ≡ length_of m (ended s n)) × Leaves m (ended s n) old out
unfolding ended length_of Leaves bytes_of
done_at m first old st out n a e = absurd (cc (a.numbers))
done_at m (between h ts) old st out n a e = absurd (cc (a.numbers.phase))
done_at m (inside h ts es t) old st out n a e = absurd (cc (a.numbers.phase))
done_at m (finished p) old st out n a e = (ap (λ k. ok k []) (omega (arith, a.written.place)), a.written.contents)

short_at : (m : Manner) (s : State) (old : List ℕ) (st : Progress) (out : List ℕ) (n : ℕ) → At m s old st out → (st.phase ≡ Phase.AfterEnd → ⊥) → ended s n ≡ refused 28 n
unfolding ended
short_at m first old st out n a e = refl
short_at m (between h ts) old st out n a e = refl
short_at m (inside h ts es t) old st out n a e = refl
short_at m (finished p) old st out n a e = absurd (e a.numbers)

pub stopped : (m : Manner) (x : Outcome Piece) (k n : ℕ) (old new : List ℕ) → x ≡ refused k n → (refused k n ≡ length_of m x) × Leaves m x old new
unfolding length_of Leaves
stopped m x k n old new e = rw e (refl, tt)

module _ (m : Manner) (text old : List ℕ) (st : Progress) (i n : ℕ) (out : List ℕ) (g : Going m text old st i n out) (h : length text ≤ i) where
  all_read : ended g.state n ≡ piece_of_text text
  all_read = sym (none_left text g.state i n h) ∙ g.rest

  pub going_done : st.phase ≡ Phase.AfterEnd → (ok st.at [] ≡ length_of m (piece_of_text text)) × Leaves m (piece_of_text text) old out
  going_done e = subst (λ z. (ok st.at [] ≡ length_of m z) × Leaves m z old out) all_read (done_at m g.state old st out n g.held e)

  pub going_short : (st.phase ≡ Phase.AfterEnd → ⊥) → (refused 28 n ≡ length_of m (piece_of_text text)) × Leaves m (piece_of_text text) old out
  going_short e = stopped m (piece_of_text text) 28 n old out (sym all_read ∙ short_at m g.state old st out n g.held e)
