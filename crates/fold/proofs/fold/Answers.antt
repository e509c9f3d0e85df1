use Rattle.smf.specs.Step.{HeaderOf}
use Rattle.smf.specs.declared.Answer.{Answer}
use Rattle.smf.proofs.ToldLaws.{not_success}
use Rattle.event.proofs.BytesLaws.{bytes_of}
use Rattle.fold_piece.specs.FoldAnswer.{rows_lent}
use Rattle.fold.proofs.TopLaws.{check_refused, short_enough, lawful_division, small_bits, tracks_readable, format_two_lem, many_tracks, few_rows, prefix_found, promise_kept}
use native.Mathlib.Omega.{arith}
use mathlib.Core.Path.{refl, sym, ap, ◌∙◌}
use Rattle.fold.proofs.fold.Goals as goal

pub returns-in-Err : goal.returns-in-Err
unfolding HeaderOf
returns-in-Err c = let a = c.args in let h = check_refused (rows_lent a.places.now a.times.now a.statuses.now) a.file.now a.out.now a.places.now a.times.now a.statuses.now c.answer.result (c.answer.ensures ∙ c.in-Err.ensures.verdict) (λ z. not_success c.in-Err.refused (ap (λ (x : Answer). x.number) (sym c.answer.ensures) ∙ z)) in record { fact_1 = h.0; fact_2 = h.1.0; fact_3 = h.1.1.0; fact_4 = h.1.1.1.0; fact_5 = h.1.1.1.1 }

pub returns-then-format-gt1 : goal.returns-then-format-gt1
unfolding HeaderOf
returns-then-format-gt1 c = let a = c.args in
    let bytes = bytes_of a.file.now (λ k. omega (arith, c.type_inv.file k)) in
    let h = format_two_lem a.file.now bytes c.in-Ok.ensures.verdict refl c.in-Ok.ensures.header refl a.out.now a.places.now a.times.now a.statuses.now _ c.if-format-gt1.true c.refuse.ensures in record { fact_1 = h.0; fact_2 = h.1.0; fact_3 = h.1.1.0; fact_4 = h.1.1.1.0; fact_5 = h.1.1.1.1 }

pub returns-then-count-gt-MOST_TRACKS : goal.returns-then-count-gt-MOST_TRACKS
unfolding HeaderOf
returns-then-count-gt-MOST_TRACKS c = let a = c.args in
    let bytes = bytes_of a.file.now (λ k. omega (arith, c.type_inv.file k)) in
    let h = many_tracks a.file.now bytes c.in-Ok.ensures.verdict refl c.in-Ok.ensures.header refl a.out.now a.places.now a.times.now a.statuses.now _ c.if-format-gt1.false c.if-count-gt-MOST_TRACKS.true c.refuse-then-count-gt-MOST_TRACKS.ensures in record { fact_1 = h.0; fact_2 = h.1.0; fact_3 = h.1.1.0; fact_4 = h.1.1.1.0; fact_5 = h.1.1.1.1 }

pub returns-then-rows_lent-tracks : goal.returns-then-rows_lent-tracks
unfolding HeaderOf
returns-then-rows_lent-tracks c = let a = c.args in
    let bytes = bytes_of a.file.now (λ k. omega (arith, c.type_inv.file k)) in
    let h = few_rows a.file.now bytes c.in-Ok.ensures.verdict refl c.in-Ok.ensures.header refl a.out.now a.places.now a.times.now a.statuses.now _ c.if-format-gt1.false c.if-count-gt-MOST_TRACKS.false (omega (arith, c.if-rows_lent-tracks.true, c.rows_lent.ensures)) c.refuse-then-rows_lent-tracks.ensures in record { fact_1 = h.0; fact_2 = h.1.0; fact_3 = h.1.1.0; fact_4 = h.1.1.1.0; fact_5 = h.1.1.1.1 }

pub look-requires : goal.look-requires
unfolding HeaderOf
look-requires c = let a = c.args in
    let bytes = bytes_of a.file.now (λ k. omega (arith, c.type_inv.file k)) in
    tracks_readable a.file.now bytes c.in-Ok.ensures.verdict refl c.in-Ok.ensures.header refl

pub returns-in-Some : goal.returns-in-Some
unfolding HeaderOf
returns-in-Some c = let a = c.args in
    let bytes = bytes_of a.file.now (λ k. omega (arith, c.type_inv.file k)) in
    let h = prefix_found a.file.now bytes c.in-Ok.ensures.verdict refl c.in-Ok.ensures.header refl a.out.now a.places.now a.times.now a.statuses.now _ c.if-format-gt1.false c.if-count-gt-MOST_TRACKS.false (omega (arith, c.if-rows_lent-tracks.false, c.rows_lent.ensures)) (c.refuse-in-Some.ensures ∙ c.in-Some.ensures) (λ z. omega (arith, ap (λ (r : Answer). r.number) c.refuse-in-Some.ensures, z)) in record { fact_1 = h.0; fact_2 = h.1.0; fact_3 = h.1.1.0; fact_4 = h.1.1.1.0; fact_5 = h.1.1.1.1 }

pub division_bits-bits-requires : goal.division_bits-bits-requires
unfolding HeaderOf
division_bits-bits-requires c = let a = c.args in
    let bytes = bytes_of a.file.now (λ k. omega (arith, c.type_inv.file k)) in
    lawful_division a.file.now bytes c.in-Ok.ensures.verdict refl c.in-Ok.ensures.header refl

pub put_measured-requires : goal.put_measured-requires
unfolding HeaderOf
put_measured-requires c = let a = c.args in
    let bytes = bytes_of a.file.now (λ k. omega (arith, c.type_inv.file k)) in
    let lent = c.rows_lent.ensures in
    let enough = c.if-rows_lent-tracks.false in record { fact_1 = small_bits a.file.now bytes c.in-Ok.ensures.verdict refl c.in-Ok.ensures.header refl _ c.division_bits-bits.ensures; fact_2 = short_enough a.file.now bytes c.in-Ok.ensures.verdict refl c.in-Ok.ensures.header refl; fact_3 = tracks_readable a.file.now bytes c.in-Ok.ensures.verdict refl c.in-Ok.ensures.header refl; fact_4 = (omega (arith, lent, enough), omega (arith, lent, enough), omega (arith, lent, enough)) }

pub returns : goal.returns
unfolding HeaderOf
returns c = let a = c.args in let bytes = bytes_of a.file.now (λ k. omega (arith, c.type_inv.file k)) in
    let h = promise_kept a.file.now bytes c.in-Ok.ensures.verdict refl c.in-Ok.ensures.header refl a.out.now a.places.now a.times.now a.statuses.now c.put_measured.result c.if-format-gt1.false c.if-count-gt-MOST_TRACKS.false (omega (arith, c.if-rows_lent-tracks.false, c.rows_lent.ensures)) _ c.in_default.ensures refl _ c.division_bits-bits.ensures _ _ _ _ c.put_measured.ensures.fact_1 c.put_measured.ensures.fact_2 c.put_measured.ensures.fact_3 c.put_measured.ensures.fact_4 c.put_measured.ensures.fact_5 in record { fact_1 = h.0; fact_2 = h.1.0; fact_3 = h.1.1.0; fact_4 = h.1.1.1.0; fact_5 = h.1.1.1.1 }
