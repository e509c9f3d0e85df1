use Rattle.std.proofs.Common.{◌≡◌, ◌-◌, ◌&&◌, ◌∙◌, length, get_or, arith}
use Rattle.event_write.proofs.WriteLaws.{nothing, all_remains, go_on_lem, finish}
use Rattle.midicsv.proofs.SpellLaws.{rest_size}
use Rattle.midicsv.proofs.SpellWriteLaws.{rest_more, rest_last, rest_none}
use Rattle.midicsv.specs.Spell.{stands_last}
use Rattle.midicsv.proofs.spell.put_rest.Goals as goal
use Rattle.midicsv.proofs.spell.put_rest.Goals.{then-free, else-free}

pub returns-in_default : goal.returns-in_default
returns-in_default c = let a = c.args in rw (rest_none a.free a.first a.rest.now c.in_default.len_below) (nothing _ _)

pub loop-c-init : goal.loop-c-init
loop-c-init c = all_remains _ _ _

pub put_or_octal-next-requires : goal.put_or_octal-next-requires
put_or_octal-next-requires c = let a = c.args in omega (arith, c.loop-c.invariant.place, rest_size a.free a.first a.rest.now)

pub loop-c-preserved : goal.loop-c-preserved
loop-c-preserved c =
    let l = c.loop-c in
    let a = c.args in
    go_on_lem _ _ _ l.invariant (rest_more a.free l.before a.rest.now l.c-index c.loop-c-test.true) (rw c.stands_inside.ensures at c.put_or_octal-next.ensures)

pub put_or_octal-requires : goal.put_or_octal-requires
put_or_octal-requires c = let a = c.args in omega (arith, c.loop-c.invariant.place, rest_size a.free a.first a.rest.now)

pub returns : goal.returns
returns c =
    let l = c.loop-c in
    let a = c.args in
    let d = a.rest.now in
    let stands : c.if-free.put_or_octal ≡ (a.free && stands_last l.before (get_or d (length d - 1) 0)) =
    elim c.if-free.branch [
      | then-free w ↦ w.put_or_octal-is ∙ rw w.if-free.true w.stands_last.ensures
      | else-free w ↦ w.put_or_octal-is ∙ rw w.if-free.false
    ] in
    finish _ _ l.invariant (rest_last a.free l.before d l.c-index (omega arith) (omega arith)) (rw stands at c.put_or_octal.ensures)
