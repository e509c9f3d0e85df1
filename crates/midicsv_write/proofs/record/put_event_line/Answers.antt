use Rattle.midicsv.specs.Code.Form.{form_of}
use Rattle.event_write.proofs.WriteLaws.{then}
use Rattle.event.specs.Step.{kind_from}
use mathlib.Core.List.{[]}
use Rattle.midicsv_write.proofs.LineLaws.{name_length, columns_length, body_length, start_length, event_line}
use native.Mathlib.Omega.{arith}
use Rattle.midicsv_write.proofs.record.put_event_line.Goals as goal

pub put_event_name-q-requires : goal.put_event_name-q-requires
put_event_name-q-requires c = let a = c.args in omega (arith, c.put_line_start-p.ensures.place, start_length (form_of a.sheet) a.track a.time.0, c.requires.fact_1)

pub put_columns-r-requires : goal.put_columns-r-requires
put_columns-r-requires c = let a = c.args in
    omega (arith, c.put_event_name-q.ensures.place, name_length (kind_from [] a.kind), c.put_line_start-p.ensures.place, start_length (form_of a.sheet) a.track a.time.0, c.requires.fact_1)

pub put_body-s-requires : goal.put_body-s-requires
put_body-s-requires c = let a = c.args in
    record { fact_1 = omega (arith, c.put_columns-r.ensures.place, columns_length (form_of a.sheet) (kind_from [] a.kind), c.put_event_name-q.ensures.place, name_length (kind_from [] a.kind), c.put_line_start-p.ensures.place, start_length (form_of a.sheet) a.track a.time.0, c.requires.fact_1); fact_2 = omega (arith, c.requires.fact_2) }

pub put_byte-requires : goal.put_byte-requires
put_byte-requires c = let a = c.args in
    omega (arith, c.put_body-s.ensures.place, body_length (form_of a.sheet) a.body.now a.kind, c.put_columns-r.ensures.place, columns_length (form_of a.sheet) (kind_from [] a.kind), c.put_event_name-q.ensures.place, name_length (kind_from [] a.kind), c.put_line_start-p.ensures.place, start_length (form_of a.sheet) a.track a.time.0, c.requires.fact_1, c.requires.fact_2)

pub returns : goal.returns
returns c = let a = c.args in
    rw (event_line (form_of a.sheet) a.track a.time a.body.now a.kind) at (then c.put_line_start-p.ensures (then c.put_event_name-q.ensures (then c.put_columns-r.ensures (then c.put_body-s.ensures c.put_byte.ensures))))
