-- The answers of midi2csv.
use mathlib.Core.Path.{◌≡◌, sym, subst}
use Prim.Native.Nat.{ℕ, ◌≤◌, ◌<◌}
use mathlib.Core.List.{List}
use native.Mathlib.Omega.{arith}
use lib.ListN.{length}
use lib.Dec.{leb}
use borrow.Author.Tests.{leb-true, le-leb, lt-leb}
use Rattle.event.specs.Choice.{pick}
use Rattle.event.specs.Outcome.{Outcome, ok, refused}
use Rattle.event.proofs.ChoiceLaws.{by_test, pick_true, pick_false}
use Rattle.smf.specs.Piece.{Piece}
use Rattle.smf.specs.Reader.{read_file}
use Rattle.smf.specs.Answer.{success, refusal, room_needed}
use Rattle.smf.specs.declared.Answer.{Answer}
use Rattle.midicsv.specs.Text.{text_of}
use Rattle.midicsv.specs.Show.{as_text}
use Rattle.midicsv_write.specs.ToText.{written_answer, written_leaves}
use Rattle.midi2csv_io.specs.Program.{input_limit, program_answer, program_leaves}

module _ (file old : List ℕ) where
  pub over_limit : input_limit < length file → (refusal 1 0 ≡ program_answer (length old) file) × (old ≡ program_leaves file old)
  unfolding program_answer program_leaves
  over_limit h = let no = lt-leb (length file) input_limit h in (sym (pick_false _ _ no), sym (pick_false _ _ no))

  -- the second fact alone, for a goal that has no answer in it
  pub over_leaves : input_limit < length file → old ≡ program_leaves file old
  over_leaves h = (over_limit h).1

  pub within_limit : length file ≤ input_limit → (written_answer as_text (length old) (read_file file) ≡ program_answer (length old) file) × (written_leaves as_text (read_file file) old ≡ program_leaves file old)
  unfolding program_answer program_leaves
  within_limit h = let yes = le-leb (length file) input_limit h in (sym (pick_true _ _ yes), sym (pick_true _ _ yes))

-- ---- what is written on success lies within the room

abbrev Within : ℕ → Answer → Type 0
Within room a = a.number ≡ 0 → a.length ≤ room

choice_within : (room n : ℕ) → Within room (pick (leb n room) (success n) (room_needed n))
unfolding pick
choice_within room n = by_test (leb n room) (λ e. rw e (λ z. leb-true n room e)) (λ e. rw e (λ z. let w : ◌≡◌ {A = ℕ} 14 0 = z in absurd (omega (arith, w))))

text_within : (room : ℕ) (x : Outcome Piece) → Within room (written_answer as_text room x)
unfolding written_answer
text_within room (ok p r) = choice_within room (length (text_of p))
text_within room (refused n q) = λ z. omega arith

program_answer_within : (room : ℕ) (file : List ℕ) → Within room (program_answer room file)
unfolding program_answer pick
program_answer_within room file =
    by_test (leb (length file) input_limit) (λ e. rw e (text_within room (read_file file))) (λ e. rw e (λ z. let w : ◌≡◌ {A = ℕ} 1 0 = z in absurd (omega (arith, w))))

pub program_within : (room : ℕ) (file : List ℕ) (a : Answer) → a ≡ program_answer room file → a.number ≡ 0 → a.length ≤ room
program_within room file a e = subst (Within room) (sym e) (program_answer_within room file)
