use mathlib.Core.Path.{◌≡◌, sym, ap, ◌∙◌}
use mathlib.Core.Bool.{true, false≢true, not}
use native.Mathlib.Omega.{arith}
use borrow.Author.Tests.{eq-eqb, ne_eqb, eqb-true}
use Rattle.std.specs.Option.{is_none}
use Rattle.sheet.proofs.FieldLaws.{has_any}
use Rattle.sheet.proofs.LinePart.stands.Goals.{then-self-eq-COMMA, else-self-eq-COMMA, then-is_none, else-is_none}
use Rattle.sheet.proofs.LinePart.stands.Goals as goal

pub returns-then-row : goal.returns-then-row
returns-then-row c =
    elim c.if-is_none.branch [
      | then-is_none w ↦
          elim c.if-self-eq-COMMA.branch [
            | then-self-eq-COMMA v ↦
                let r : v.is_none.result ≡ true = sym v.value-is ∙ w.if-is_none.true in
                let p : is_none c.args.row.place ≡ true = ap not (rw r at v.is_none.ensures) in
                let k = eq-eqb c.args.row.kept c.args.row.cells (omega (arith, eqb-true _ _ (sym w.value-is ∙ c.if-row.true))) in
                rw (eq-eqb c.args.self.sep 44 v.if-self-eq-COMMA.true, p, k) (ap not (c.contains.ensures.value ∙ has_any 34 _))
            | else-self-eq-COMMA v ↦ absurd (false≢true (sym (ne_eqb c.args.self.sep 44 v.if-self-eq-COMMA.false) ∙ sym v.value-is ∙ w.if-is_none.true))
          ]
      | else-is_none w ↦ absurd (false≢true (sym w.if-is_none.false ∙ sym w.value-is ∙ c.if-row.true))
    ]
