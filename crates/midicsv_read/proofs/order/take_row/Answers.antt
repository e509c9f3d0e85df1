use Prim.Native.Nat.{◌+◌}
use lib.ListN.{length}
use Rattle.event.proofs.BytesLaws.{bytes_of}
use Rattle.event_write.specs.Head.{manner_of}
use Rattle.midicsv_read.proofs.TakeLineLaws.{near_wider, row_header, row_start, row_end_lem, header_numbers}
use native.Mathlib.Omega.{arith}
use borrow.Author.Rules.{rules}
use Rattle.midicsv_read.specs.RowEvent.{is_event}
use Rattle.midicsv_read.proofs.order.take_row.Goals as goal

pub take_header-requires : goal.take_header-requires
take_header-requires c = let a = c.args in
    let l = a.line.now in
    let bytes = bytes_of l (λ i. omega (arith, c.type_inv.line i)) in
    let h = header_numbers l a.row bytes c.requires.fact_2 c.in-Header.is in
    record { fact_1 = c.requires.fact_1; fact_2 = h.0; fact_3 = h.1 }

pub take_event-requires : goal.take_event-requires
unfolding is_event
take_event-requires c = record { fact_1 = c.requires.fact_1; fact_2 = c.requires.fact_2; fact_3 = search rules }

pub returns-in-Header : goal.returns-in-Header
returns-in-Header c = let a = c.args in
    let l = a.line.now in
    let m = manner_of a.short in
    record { fact_1 = row_header m a.st _ l a.row c.take_header.result c.take_header.new.out c.in-Header.is (c.take_header.ensures.fact_1 m); fact_2 = near_wider (a.st.at + 15) (a.st.at + 15 + length l) c.take_header.result (omega arith) c.take_header.ensures.fact_2 }

pub returns-in-StartTrack : goal.returns-in-StartTrack
returns-in-StartTrack c = let a = c.args in
    let l = a.line.now in
    let m = manner_of a.short in
    record { fact_1 = row_start m a.st _ l a.row c.take_start.result c.take_start.new.out c.in-StartTrack.is (c.take_start.ensures.fact_1 m); fact_2 = near_wider (a.st.at + 15) (a.st.at + 15 + length l) c.take_start.result (omega arith) c.take_start.ensures.fact_2 }

pub returns-in-EndOfFile : goal.returns-in-EndOfFile
returns-in-EndOfFile c = let a = c.args in
    let l = a.line.now in
    let m = manner_of a.short in
    record { fact_1 = row_end_lem m a.st _ l a.row c.take_end.result a.out.now c.in-EndOfFile.is (c.take_end.ensures.fact_1 _ m); fact_2 = near_wider (a.st.at + 15) (a.st.at + 15 + length l) c.take_end.result (omega arith) c.take_end.ensures.fact_2 }
