use mathlib.Core.Path.{sym}
use Rattle.event.specs.Choice.{pick}
use Rattle.sheet.proofs.PartLaws.{remark_part, uncut_part, cells_counted, cells_fielded, cells_part}
use Rattle.sheet.proofs.StandLaws.{stands_part}
use Rattle.sheet.proofs.LinePart.put.Goals as goal

pub returns-then-is_remark : goal.returns-then-is_remark
unfolding pick
returns-then-is_remark c = rw (← remark_part c.args.self.sep c.args.self.twice c.args.self.bytes.now (sym c.if-is_remark.ensures)) c.put_seen.ensures

pub returns-in_default : goal.returns-in_default
returns-in_default c = rw (← uncut_part _ _ _ (sym c.if-is_remark.ensures) c.in_default.ensures) c.put_byte.ensures

pub returns-then-stands : goal.returns-then-stands
returns-then-stands c = rw (← stands_part _ _ _ _ c.in-Some.ensures (sym c.if-is_remark.ensures) (sym c.if-stands.ensures)) c.put_bytes.ensures

pub field_count-requires : goal.field_count-requires
field_count-requires c = cells_counted _ _ _ _ c.in-Some.ensures c.args.self.short

pub put_row-requires : goal.put_row-requires
put_row-requires c = record { fact_1 = c.requires; fact_2 = cells_fielded _ _ _ _ c.in-Some.ensures _ c.field_count.ensures }

pub returns : goal.returns
returns c = rw (← cells_part _ _ _ _ c.in-Some.ensures _ c.field_count.ensures (sym c.if-is_remark.ensures)) c.put_row.ensures
