use mathlib.Core.Path.{subst, ◌≡◌, ◌∙◌, ap}
use mathlib.Core.List.{List, [], ◌++◌}
use Prim.Native.Nat.{ℕ}
use Rattle.event.specs.Manner.{Manner}
use Rattle.event.specs.declared.EventKind.{EventKind}
use Rattle.event_write.specs.Head.{manner_of, head_bytes}
use Rattle.event_write.specs.Written.{Written}
use Rattle.event_write.proofs.WriteLaws.{then, after_measure, measured}
use Rattle.event_write.proofs.DataLaws.{head_length}
use Rattle.midicsv_record.specs.declared.Row.{Row}
use Rattle.midicsv_read.specs.RowEvent.{row_kind, row_body, row_bytes}
use native.Mathlib.Omega.{arith}
use Rattle.midicsv_read.proofs.write_row.put_row.Goals as goal

-- the body measured, the head by that measure, the body
row_written : {part out mid new : List ℕ} {at size p next : ℕ} (m : Manner) (force delta : ℕ) (l : List ℕ) (r : Row) (k : EventKind) → Written [] 0 (row_body l r) part size
    → k ≡ row_kind r size → Written (part ++ out) at (head_bytes m force delta k) mid p → Written mid p (row_body l r) new next → Written out at (row_bytes m force delta l r) new next
row_written {part} {out} {mid} {new} {at} {size} {p} m force delta l r k s e h b =
    then (subst (λ z. Written out at (head_bytes m force delta z) mid p) (e ∙ ap (row_kind r) (measured s)) (after_measure s h)) b

pub put_row_body-requires : goal.put_row_body-requires
put_row_body-requires c = let a = c.args in
    record { fact_1 = omega (arith, c.put_head-p.ensures.place, head_length (manner_of a.short) a.force a.delta.0 c.row_kind-kind.result, c.requires.fact_1); fact_2 = c.requires.fact_2; fact_3 = c.requires.fact_3; fact_4 = c.requires.fact_4 }

pub returns : goal.returns
returns c = let a = c.args in
    row_written (manner_of a.short) a.force a.delta.0 a.line.now a.row c.row_kind-kind.result c.put_row_body-len.ensures c.row_kind-kind.ensures c.put_head-p.ensures c.put_row_body.ensures
