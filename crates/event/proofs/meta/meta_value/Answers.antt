use Rattle.std.specs.Prelude.{Ok}
use Rattle.event.proofs.RowLaws.{row_text, row_prefix, row_port, row_end_lem, row_specific, row_unknown, sized, same_row, Other, other_kind}
use Rattle.event.specs.Meta.{kind_of}
use Rattle.event.specs.Reader.{length_ok}
use native.Mathlib.Omega.{arith}
use mathlib.Core.Path.{refl, ◌∙◌, ap}
use Rattle.event.proofs.meta.meta_value.Goals as goal

pub sequence_number-requires : goal.sequence_number-requires
unfolding kind_of length_ok
sequence_number-requires c = omega (arith, sized c.args.t 0 c.args.len 2 c.in-0.is refl c.requires.fits)

pub returns-in-0 : goal.returns-in-0
unfolding kind_of length_ok
returns-in-0 c = let a = c.args in
    same_row a.body.now a.start a.t 0 a.len 2 _ c.in-0.is (sized a.t 0 a.len 2 c.in-0.is refl c.requires.fits) c.sequence_number.ensures

pub returns-in-1-to-7 : goal.returns-in-1-to-7
unfolding kind_of length_ok
returns-in-1-to-7 c = let a = c.args in ap Ok c.silent-in-1-to-7.ensures ∙ row_text a.body.now a.start a.t a.len c.requires.there (omega arith) (omega arith)

pub tempo-requires : goal.tempo-requires
unfolding kind_of length_ok
tempo-requires c = omega (arith, sized c.args.t 0x51 c.args.len 3 c.in-81.is refl c.requires.fits)

pub smpte_offset-requires : goal.smpte_offset-requires
unfolding kind_of length_ok
smpte_offset-requires c = omega (arith, sized c.args.t 0x54 c.args.len 5 c.in-84.is refl c.requires.fits)

pub time_signature-requires : goal.time_signature-requires
unfolding kind_of length_ok
time_signature-requires c = omega (arith, sized c.args.t 0x58 c.args.len 4 c.in-88.is refl c.requires.fits)

pub key_signature-requires : goal.key_signature-requires
unfolding kind_of length_ok
key_signature-requires c = omega (arith, sized c.args.t 0x59 c.args.len 2 c.in-89.is refl c.requires.fits)

pub returns-in-32 : goal.returns-in-32
unfolding kind_of length_ok
returns-in-32 c = let a = c.args in
    let n = sized a.t 0x20 a.len 1 c.in-32.is refl c.requires.fits in
    same_row a.body.now a.start a.t 0x20 a.len 1 _ c.in-32.is n (ap Ok (rw n at c.silent.ensures) ∙ row_prefix a.body.now a.start c.byte_at.result (omega (arith, n)) c.byte_at.ensures)

pub returns-in-33 : goal.returns-in-33
unfolding kind_of length_ok
returns-in-33 c = let a = c.args in
    let n = sized a.t 0x21 a.len 1 c.in-33.is refl c.requires.fits in
    same_row a.body.now a.start a.t 0x21 a.len 1 _ c.in-33.is n (ap Ok (rw n at c.silent-in-33.ensures) ∙ row_port a.body.now a.start c.byte_at-in-33.result (omega (arith, n)) c.byte_at-in-33.ensures)

pub returns-in-47 : goal.returns-in-47
unfolding kind_of length_ok
returns-in-47 c = let a = c.args in ap Ok c.silent-in-47.ensures ∙ row_end_lem a.body.now a.start a.t a.len c.requires.there c.in-47.is

pub returns-in-81 : goal.returns-in-81
unfolding kind_of length_ok
returns-in-81 c = let a = c.args in
    same_row a.body.now a.start a.t 0x51 a.len 3 _ c.in-81.is (sized a.t 0x51 a.len 3 c.in-81.is refl c.requires.fits) c.tempo.ensures

pub returns-in-84 : goal.returns-in-84
unfolding kind_of length_ok
returns-in-84 c = let a = c.args in
    same_row a.body.now a.start a.t 0x54 a.len 5 _ c.in-84.is (sized a.t 0x54 a.len 5 c.in-84.is refl c.requires.fits) c.smpte_offset.ensures

pub returns-in-88 : goal.returns-in-88
unfolding kind_of length_ok
returns-in-88 c = let a = c.args in
    same_row a.body.now a.start a.t 0x58 a.len 4 _ c.in-88.is (sized a.t 0x58 a.len 4 c.in-88.is refl c.requires.fits) c.time_signature.ensures

pub returns-in-89 : goal.returns-in-89
unfolding kind_of length_ok
returns-in-89 c = let a = c.args in
    same_row a.body.now a.start a.t 0x59 a.len 2 _ c.in-89.is (sized a.t 0x59 a.len 2 c.in-89.is refl c.requires.fits) c.key_signature.ensures

pub returns-in-127 : goal.returns-in-127
unfolding kind_of length_ok
returns-in-127 c = let a = c.args in ap Ok c.silent-in-127.ensures ∙ row_specific a.body.now a.start a.t a.len c.requires.there c.in-127.is

pub returns-in_default : goal.returns-in_default
unfolding kind_of length_ok
returns-in_default c = let a = c.args in
    let r = c.in_default.in_default-own.rest in
    let o : Other a.t = record { not_prefix = r.0.0.0.0.0.0.0.1; not_port = r.0.0.0.0.0.0.1; not_end = r.0.0.0.0.0.1; not_tempo = r.0.0.0.0.1; not_offset = r.0.0.0.1; not_time = r.0.0.1; not_key = r.0.1 } in
    ap Ok c.silent-in_default.ensures ∙ row_unknown a.body.now a.start a.t a.len c.requires.there (other_kind a.t (omega arith) o r.1)
