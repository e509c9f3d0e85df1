use Rattle.std.proofs.Common.{arith}
use Rattle.event_write.proofs.WriteLaws.{then}
use Rattle.midicsv.specs.Code.Form.{form_of}
use Rattle.midicsv_write.proofs.LineLaws.{number_length, field_length, header_line, start_length}
use Rattle.midicsv_write.proofs.record.put_header_line.Goals as goal

pub put_bytes-q-requires-clause-fact_1 : goal.put_bytes-q-requires-clause-fact_1
put_bytes-q-requires-clause-fact_1 c = omega (arith, c.put_line_start-p.ensures.place, start_length (form_of c.args.sheet) 0 0)

pub put_number_field-r-requires : goal.put_number_field-r-requires
put_number_field-r-requires c = omega (arith, c.put_bytes-q.ensures.place, c.put_line_start-p.ensures.place, start_length (form_of c.args.sheet) 0 0)

pub put_number_field-s-requires : goal.put_number_field-s-requires
put_number_field-s-requires c =
    let a = c.args in
    let w = form_of a.sheet in
    omega (arith, c.put_number_field-r.ensures.place, c.put_bytes-q.ensures.place, c.put_line_start-p.ensures.place, start_length w 0 0, number_length w a.format)

pub put_signed_field-t-requires-clause-fact_1 : goal.put_signed_field-t-requires-clause-fact_1
put_signed_field-t-requires-clause-fact_1 c =
    let a = c.args in
    let w = form_of a.sheet in
    omega (arith, c.put_number_field-s.ensures.place, c.put_number_field-r.ensures.place, c.put_bytes-q.ensures.place, c.put_line_start-p.ensures.place, start_length w 0 0, number_length w a.format, number_length w a.count)

pub put_byte-requires : goal.put_byte-requires
put_byte-requires c =
    let a = c.args in
    let w = form_of a.sheet in
    omega (arith, c.put_signed_field-t.ensures.place, c.put_number_field-s.ensures.place, c.put_number_field-r.ensures.place, c.put_bytes-q.ensures.place, c.put_line_start-p.ensures.place, start_length w 0 0, number_length w a.format, number_length w a.count, field_length w 32768 65536 a.bits)

pub returns : goal.returns
returns c =
    let a = c.args in
    rw (header_line (form_of a.sheet) a.format a.count a.bits)
    at (then c.put_line_start-p.ensures (then c.put_bytes-q.ensures (then c.put_number_field-r.ensures (then c.put_number_field-s.ensures (then c.put_signed_field-t.ensures c.put_byte.ensures)))))
