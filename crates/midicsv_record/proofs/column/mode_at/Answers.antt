use Rattle.event.specs.Choice.{pick}
use Rattle.midicsv.specs.Result.{good, bad}
use Rattle.midicsv.specs.ReadField.{plain}
use Rattle.midicsv.specs.ReadRecord.{same_bytes, read_column}
use Rattle.midicsv_scan.specs.Unquoted.{unquoted}
use lib.ListN.{drop}
use Rattle.midicsv_record.specs.Column.{value_as}
use Rattle.std.specs.Bool.{then_some}
use mathlib.Core.Bool.{Bool, true, false}
use Prim.Native.Nat.{ℕ}
use mathlib.Core.Path.{◌≡◌, refl, sym, ◌∙◌}
use Rattle.midicsv_record.proofs.column.mode_at.Goals as goal

picked : (b : Bool) (n : ℕ) → value_as (then_some b n) ≡ pick b (good n) (bad 25)
unfolding value_as pick
picked true n = refl
picked false n = refl

pub returns-then-is_word : goal.returns-then-is_word
unfolding value_as read_column pick
returns-then-is_word c = rw (sym c.is_word.ensures ∙ c.if-is_word.true) refl

pub returns : goal.returns
unfolding read_column pick
returns c = rw (sym c.is_word.ensures ∙ c.if-is_word.false, c.then_some.ensures, c.is_word-2.ensures) (picked (same_bytes (unquoted (drop c.args.start c.args.line.now) plain) _) 1)
