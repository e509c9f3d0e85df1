use Rattle.midicsv.specs.Code.Form.{form_of}
use Rattle.midicsv.specs.Text.{most}
use mathlib.Core.Path.{refl}
use Rattle.midicsv_write.proofs.to_text.most_for.Goals as goal

pub returns-then-sheet : goal.returns-then-sheet
unfolding form_of most
returns-then-sheet c = rw c.if-sheet.true refl

pub returns : goal.returns
unfolding form_of most
returns c = rw c.if-sheet.false refl
