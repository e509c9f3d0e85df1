use mathlib.Core.Path.{sym, ◌∙◌}
use Rattle.sheet.proofs.FieldLaws.{any_needy, field_plain, field_text, field_needy}
use Rattle.sheet.proofs.Content.put.Goals.{then-text-via-then-text, then-text-via-else-text+then-needs_quotes}
use Rattle.sheet.proofs.Content.put.Goals as goal

pub returns-then-text : goal.returns-then-text
returns-then-text c =
    let a = c.args in
    elim c.then-text.branch [
      | then-text-via-then-text w ↦ rw (field_text a.self.twice a.self.quoted a.text a.self.bytes.now w.if-text.true) at c.put_quoted.ensures
      | then-text-via-else-text+then-needs_quotes w ↦ rw (field_needy a.self.twice a.self.quoted a.text a.self.bytes.now w.if-text.false (sym (any_needy _) ∙ sym w.if-needs_quotes.ensures)) at c.put_quoted.ensures
    ]

pub returns : goal.returns
returns c = let a = c.args in rw (field_plain a.self.twice a.self.quoted a.text a.self.bytes.now c.if-text.false (sym (any_needy _) ∙ sym c.if-needs_quotes.ensures)) at c.put_bytes.ensures
