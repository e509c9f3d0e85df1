-- Refusals with their number and place: what a `?` passes on, and when two are the same.
use mathlib.Core.Path.{◌≡◌, refl, ap, ap₂}
use Prim.Native.Nat.{ℕ}
use mathlib.Core.List.{List}
use Rattle.std.specs.Prelude.{Result, Err}
use Rattle.std.specs.Result.{IsErrAnd}
use Rattle.std.proofs.lemmas.Result.{err_from_is_err_and}
use Rattle.event.specs.Outcome.{Outcome, refused}
use native.Mathlib.Omega.{arith}
use Rattle.event.specs.Refusal.{number_of}
use Rattle.event.specs.declared.refusal.Refusal.{Refusal}
use Rattle.event.specs.declared.refusal.Refusal.TheVariants.{FileTooLong, FileCutShort, BadHeader, VariableTooLong, EventCutShort, TimeTooGreat, BadStatus, BadChannelData, BadMetaLength, BadMetaValue, BytesAfterEndTrack, BytesAfterLastTrack, RoomTooSmall, TextTooLong, BadField, UnknownRecord, WrongFieldCount, FieldOutOfRange, RecordOutOfOrder, StepTooGreat, TextCutShort, WrittenTooLong, BadManner, TooManyTracks, Format2, PrefixOrPort, TooFewRows, TableTooLong}
use Rattle.event.proofs.PassedLaws.{err_is}
use Rattle.smf.specs.Answer.{refusal, answered}
use Rattle.smf.specs.Step.{told, HeaderOf}
use Rattle.smf.specs.declared.HeaderRead.{HeaderRead}
use Rattle.smf.specs.declared.Refused.{Refused}

pub passed : {A : Type 0} (r : Result A Refused) (e : Refused) → IsErrAnd r (λ y. y ≡ e) → told r ≡ Err (number_of e.why, e.place)
passed r e h = let p = err_from_is_err_and r h in rw (p.1, p.2) refl

pub answered_passed : {A : Type 0} (r : Result A Refused) (e : Refused) → IsErrAnd r (λ y. y ≡ e) → answered r ≡ refusal (number_of e.why) e.place
answered_passed r e h = let p = err_from_is_err_and r h in rw (p.1, p.2) refl

pub no_header : (f : List ℕ) (r : Result HeaderRead Refused) (e : Refused) → IsErrAnd r (λ y. y ≡ e) → HeaderOf f r
unfolding HeaderOf
no_header f r e h = let p = err_from_is_err_and r h in rw p.1 tt

pub same_refusal : {A B : Type 0} (j z k p : ℕ) → ◌≡◌ {A = Result A (ℕ × ℕ)} (Err (j, z)) (Err (k, p)) → ◌≡◌ {A = Outcome B} (refused j z) (refused k p)
same_refusal j z k p e = let w = err_is e in ap₂ refused (ap (λ (v : ℕ × ℕ). v.0) w) (ap (λ (v : ℕ × ℕ). v.1) w)

-- no refusal has the number of success
pub not_success : (e : Refused) → number_of e.why ≡ 0 → ⊥
not_success e z = by_case e.why z
  where
    by_case : (r : Refusal) → number_of r ≡ 0 → ⊥
    by_case FileTooLong h = omega arith
    by_case FileCutShort h = omega arith
    by_case BadHeader h = omega arith
    by_case VariableTooLong h = omega arith
    by_case EventCutShort h = omega arith
    by_case TimeTooGreat h = omega arith
    by_case BadStatus h = omega arith
    by_case BadChannelData h = omega arith
    by_case BadMetaLength h = omega arith
    by_case BadMetaValue h = omega arith
    by_case BytesAfterEndTrack h = omega arith
    by_case BytesAfterLastTrack h = omega arith
    by_case RoomTooSmall h = omega arith
    by_case TextTooLong h = omega arith
    by_case BadField h = omega arith
    by_case UnknownRecord h = omega arith
    by_case WrongFieldCount h = omega arith
    by_case FieldOutOfRange h = omega arith
    by_case RecordOutOfOrder h = omega arith
    by_case StepTooGreat h = omega arith
    by_case TextCutShort h = omega arith
    by_case WrittenTooLong h = omega arith
    by_case BadManner h = omega arith
    by_case TooManyTracks h = omega arith
    by_case Format2 h = omega arith
    by_case PrefixOrPort h = omega arith
    by_case TooFewRows h = omega arith
    by_case TableTooLong h = omega arith
