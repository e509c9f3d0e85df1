use Rattle.event.specs.Step.{frame_step, padded}
use native.Mathlib.Omega.{arith}
use Rattle.event.proofs.PaddingLaws.{padded_none, low_there, exclusive_there, meta_there}
use lib.ListN.{length, get_or}
use mathlib.Core.Logic.{inl, inr}
use Rattle.event.proofs.StatusLaws.{frame_none, frame_data_lem, frame_channel, frame_exclusive, frame_meta, frame_other}
use Rattle.event.proofs.SortLaws.{sort_data, sort_channel, sort_exclusive, sort_packet, sort_meta, sort_other}
use mathlib.Core.Path.{sym, ◌∙◌, ap, ap₂}
use Rattle.event.proofs.read.after_delta.Goals as goal

pub returns-then-body-at : goal.returns-then-body-at
unfolding padded
returns-then-body-at c = let a = c.args in ap (padded _) (frame_none a.body.now a.status a.at c.if-body-at.true)

pub returns-in-0 : goal.returns-in-0
returns-in-0 c =
    let a = c.args in
    let there = c.if-body-at.false in
    let low = sort_data _ (sym c.sort_of-sort.ensures ∙ c.in-0.is) in
    c.channel_event.ensures ∙ sym (padded_none (length a.body.now) _) ∙ ap₂ (λ x m. padded x (frame_step (length a.body.now) m)) (sym (low_there a.body.now a.at there (omega (arith, low)))) (sym (frame_data_lem a.body.now a.status a.at there low))

pub returns-in-8 : goal.returns-in-8
returns-in-8 c =
    let a = c.args in
    let there = c.if-body-at.false in
    let e = inl (sort_exclusive _ (sym c.sort_of-sort.ensures ∙ c.in-8.is)) in
    c.exclusive_event.ensures ∙ ap₂ (λ x m. padded x (frame_step (length a.body.now) m)) (sym (exclusive_there a.body.now a.at there e)) (sym (frame_exclusive a.body.now a.status a.at there e))

pub returns-in-12 : goal.returns-in-12
returns-in-12 c =
    let a = c.args in
    let there = c.if-body-at.false in
    let e = inr (sort_packet _ (sym c.sort_of-sort.ensures ∙ c.in-12.is)) in
    c.exclusive_event-in-12.ensures ∙ ap₂ (λ x m. padded x (frame_step (length a.body.now) m)) (sym (exclusive_there a.body.now a.at there e)) (sym (frame_exclusive a.body.now a.status a.at there e))

pub returns-in-16 : goal.returns-in-16
returns-in-16 c =
    let a = c.args in
    let there = c.if-body-at.false in
    let e = sort_meta _ (sym c.sort_of-sort.ensures ∙ c.in-16.is) in
    c.meta_event.ensures ∙ ap₂ (λ x m. padded x (frame_step (length a.body.now) m)) (sym (meta_there a.body.now a.at there e)) (sym (frame_meta a.body.now a.status a.at there e))

pub returns-in-5 : goal.returns-in-5
returns-in-5 c =
    let a = c.args in
    let there = c.if-body-at.false in
    let sorted = c.sort_of-sort.ensures in
    let (lo, hi) = sort_channel (get_or a.body.now a.at 0) (omega (arith, sorted, c.in-5.if-sort-lt5-own.false)) (omega (arith, sorted, c.in-5.if-sort-lt7-own.true)) in
    c.channel_event-in-5.ensures ∙ sym (padded_none (length a.body.now) _) ∙ ap₂ (λ x m. padded x (frame_step (length a.body.now) m)) (sym (low_there a.body.now a.at there hi)) (sym (frame_channel a.body.now a.status a.at there lo hi))

pub returns-in_default : goal.returns-in_default
unfolding padded
returns-in_default c =
    let a = c.args in
    let sorted = c.sort_of-sort.ensures in
    let o = sort_other _ (λ e. c.in_default.in_default-own.rest.0.0.0.1 (sorted ∙ e)) (λ l h. omega (arith, sorted, c.in_default.if-sort-lt5-own.true)) (λ e. c.in_default.in_default-own.rest.0.0.1 (sorted ∙ e)) (λ e. c.in_default.in_default-own.rest.0.1 (sorted ∙ e)) (λ e. c.in_default.in_default-own.rest.1 (sorted ∙ e)) in
    ap (padded _) (frame_other a.body.now a.status a.at c.if-body-at.false o)

pub returns-in_default-2 : goal.returns-in_default-2
unfolding padded
returns-in_default-2 c =
    let a = c.args in
    let sorted = c.sort_of-sort.ensures in
    let o = sort_other _ (λ e. c.in_default.in_default-own.rest.0.0.0.1 (sorted ∙ e)) (λ l h. omega (arith, sorted, c.in_default.if-sort-lt7-own.false)) (λ e. c.in_default.in_default-own.rest.0.0.1 (sorted ∙ e)) (λ e. c.in_default.in_default-own.rest.0.1 (sorted ∙ e)) (λ e. c.in_default.in_default-own.rest.1 (sorted ∙ e)) in
    ap (padded _) (frame_other a.body.now a.status a.at c.if-body-at.false o)
