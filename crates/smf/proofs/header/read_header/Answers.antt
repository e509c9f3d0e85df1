use Prim.Native.Nat.{◌+◌}
use Rattle.event.proofs.BytesLaws.{bytes_of}
use Rattle.std.specs.Prelude.{Ok}
use Rattle.smf.specs.Step.{told}
use Rattle.smf.proofs.HeaderLaws.{head_short, head_tag, head_size, head_past, head_format, head_count, head_division, head_fine, two_bytes}
use native.Mathlib.Omega.{arith}
use mathlib.Core.Path.{sym, ap, ◌∙◌}
use Rattle.smf.proofs.header.read_header.Goals as goal

pub returns-then-file-lt14 : goal.returns-then-file-lt14
returns-then-file-lt14 c = ap told c.refuse.ensures ∙ head_short c.args.file.now c.if-file-lt14.true

pub returns-then-big_endian-ne-HEADER_TAG : goal.returns-then-big_endian-ne-HEADER_TAG
returns-then-big_endian-ne-HEADER_TAG c = ap told c.refuse-then-big_endian-ne-HEADER_TAG.ensures ∙ head_tag c.args.file.now c.if-file-lt14.false c.big_endian.result c.big_endian.ensures c.if-big_endian-ne-HEADER_TAG.true

pub returns-then-too_short : goal.returns-then-too_short
returns-then-too_short c = ap told c.refuse-then-too_short.ensures ∙ head_size c.args.file.now c.if-file-lt14.false c.big_endian.result c.big_endian.ensures c.if-big_endian-ne-HEADER_TAG.false c.big_endian-size.result c.big_endian-size.ensures c.if-too_short.true

pub returns-then-file-len : goal.returns-then-file-len
returns-then-file-len c = ap told c.refuse-then-file-len.ensures ∙ head_past c.args.file.now c.if-file-lt14.false c.big_endian.result c.big_endian.ensures c.if-big_endian-ne-HEADER_TAG.false c.big_endian-size.result c.big_endian-size.ensures c.if-too_short.false c.if-file-len.true

pub returns-then-format-gt2 : goal.returns-then-format-gt2
returns-then-format-gt2 c = ap told c.refuse-then-format-gt2.ensures ∙ head_format c.args.file.now c.if-file-lt14.false c.big_endian.result c.big_endian.ensures c.if-big_endian-ne-HEADER_TAG.false c.big_endian-size.result c.big_endian-size.ensures c.if-too_short.false (omega arith) c.big_endian-format.result c.big_endian-format.ensures c.if-format-gt2.true

pub division_of-requires : goal.division_of-requires
division_of-requires c = let s = c.args.file.now in
    two_bytes s 12 c.big_endian-bits.result (bytes_of s (λ i. omega (arith, c.type_inv.file i))) (omega arith) c.big_endian-bits.ensures

pub returns-then-not-count_ok : goal.returns-then-not-count_ok
returns-then-not-count_ok c = ap told c.refuse-then-not-count_ok.ensures ∙ head_count c.args.file.now c.if-file-lt14.false c.big_endian.result c.big_endian.ensures c.if-big_endian-ne-HEADER_TAG.false c.big_endian-size.result c.big_endian-size.ensures c.if-too_short.false (omega arith) c.big_endian-format.result c.big_endian-format.ensures c.if-format-gt2.false c.big_endian-count.result c.big_endian-count.ensures (sym c.if-not-count_ok.ensures)

pub returns-then-not-division_ok : goal.returns-then-not-division_ok
returns-then-not-division_ok c =
    ap told c.refuse-then-not-division_ok.ensures
    ∙ head_division c.args.file.now c.if-file-lt14.false c.big_endian.result c.big_endian.ensures c.if-big_endian-ne-HEADER_TAG.false c.big_endian-size.result c.big_endian-size.ensures c.if-too_short.false (omega arith) c.big_endian-format.result c.big_endian-format.ensures c.if-format-gt2.false c.big_endian-count.result c.big_endian-count.ensures (sym c.if-not-count_ok.ensures) c.big_endian-bits.result c.big_endian-bits.ensures (sym c.if-not-division_ok.ensures)

pub returns : goal.returns
returns c =
    ap (λ d. Ok (record { format = c.big_endian-format.result; count = c.big_endian-count.result; division = d; next = 8 + c.big_endian-size.result })) c.division_of.ensures
    ∙ head_fine c.args.file.now c.if-file-lt14.false c.big_endian.result c.big_endian.ensures c.if-big_endian-ne-HEADER_TAG.false c.big_endian-size.result c.big_endian-size.ensures c.if-too_short.false (omega arith) c.big_endian-format.result c.big_endian-format.ensures c.if-format-gt2.false c.big_endian-count.result c.big_endian-count.ensures (sym c.if-not-count_ok.ensures) c.big_endian-bits.result c.big_endian-bits.ensures (sym c.if-not-division_ok.ensures)
