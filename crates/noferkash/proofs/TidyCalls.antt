-- Nothing smaller, shown for calls of noferkash_tidy.
use mathlib.Core.Path.{◌≡◌, sym, ap, ap₂, subst, ◌∙◌}
use Prim.Native.Nat.{ℕ}
use mathlib.Core.List.{List}
use native.Mathlib.Omega.{arith}
use lib.ListN.{length, take}
use Rattle.event.specs.Bytes.{Bytes}
use Rattle.event.proofs.BytesLaws.{bytes_take}
use Rattle.smf.specs.Layout.{LaidOut}
use Rattle.smf.specs.PieceRead.{piece_read}
use Rattle.smf.specs.Reader.{read_file}
use Rattle.smf.specs.Answer.{verdict}
use Rattle.smf.specs.Writing.{short_answer, short_leaves}
use Rattle.smf.proofs.DemandLaws.{laid_read, demand_3, demand}
use Rattle.smf.proofs.SmallestLaws.{nothing_smaller}
use Rattle.smf_write.specs.Twice.{tidied}
use Rattle.smf_write.proofs.AnswerLaws.{answer_fits, no_longer}
use Rattle.smf_write.proofs.TwiceLaws.{Tidied, tidied_file}
use Rattle.noferkash.specs.Packed.{packed, number_of, length_of, Says}
use Rattle.noferkash.specs.Calls.{CheckCall, TidyCall}
use Rattle.noferkash.specs.TidyCalls.{TidyKept, TidyCalls}
use Rattle.noferkash.proofs.PackedLaws.{taken_apart}

module _ (f old : List ℕ) (r : ℕ) (new : List ℕ) (bs : Bytes f) (c : TidyCall f old r new) where
  said : Says r (short_answer (length old) (read_file f))
  said = taken_apart r _ c.0 (answer_fits (length old) f bs)

  -- what the number counts in the room is what tidy wrote
  counted : take (length_of r) new ≡ tidied f old
  counted = ap₂ take said.length c.1

  module _ (room : Bytes new) (z : number_of r ≡ 0) where
    there : Tidied f old
    there = tidied_file f old bs (sym said.number ∙ z)

    again : read_file (take (length_of r) new) ≡ read_file f
    again = ap read_file counted ∙ there.again

    -- the piece of f is the one that was written
    piece_there : piece_read f ≡ there.piece
    piece_there = (demand f bs).piece there.piece there.laid there.small

    -- a file with the same piece lays it out too
    other_laid : (g : List ℕ) → Bytes g → CheckCall g 0 → piece_read g ≡ piece_read f → LaidOut g there.piece
    other_laid g gs check same =
        let (q, laid, small) = (demand g gs).accepted.0 (omega (arith, check)) in
        subst (LaidOut g) (sym ((demand g gs).piece q laid small) ∙ same ∙ piece_there) laid

    tidy_kept : TidyKept f r new
    unfolding verdict
    tidy_kept =
        let read = laid_read f there.piece there.laid there.small in
        let w = take (length_of r) new in
        record {
          accepted = sym (ap (λ x. packed (verdict x)) (again ∙ read));
          piece = let (laid, small) = (demand_3 w (bytes_take new (length_of r) room) there.piece).0 (again ∙ read) in (demand w (bytes_take new (length_of r) room)).piece there.piece laid small ∙ sym piece_there;
          very_bytes = λ g gs check same size.
              nothing_smaller.very_bytes g there.piece (other_laid g gs check same) (size ∙ said.length ∙ there.size) ∙ sym (counted ∙ there.written);
          twice = λ other r' new' call. (call.0 ∙ ap (λ x. packed (short_answer (length other) x)) again, call.1 ∙ ap (λ x. short_leaves x other) again);
        }

pub tidy_calls : TidyCalls
tidy_calls =
    record {
      never_longer = λ f old r new bs c. omega (arith, (said f old r new bs c).length, (no_longer (length old) f bs).0);
      enough = λ f old r new bs c h n. (no_longer (length old) f bs).1 h (sym (said f old r new bs c).number ∙ n);
      kept = λ f old r new bs room c z. tidy_kept f old r new bs c room z;
    }
