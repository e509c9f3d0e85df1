-- The type numbers of each kind of meta event: the chain of tests inverted, once.
use mathlib.Core.Path.{◌≡◌}
use Prim.Native.Nat.{ℕ, ◌≤◌}
use mathlib.Core.Bool.{◌&&◌}
use native.Mathlib.Omega.{arith}
use lib.Dec.{leb, eqb}
use borrow.Author.Tests.{leb-true, le-leb, eqb-true, ne_eqb}
use Rattle.event.specs.Meta.{MetaKind, sequence_kind, text_kind, prefix_kind, port_kind, end_kind, tempo_kind, offset_kind, time_kind, key_kind, specific_kind, unknown_kind, kind_of}
use Rattle.event.proofs.ChoiceLaws.{by_test, and_both}

pub data KindIs : ℕ → MetaKind → Type 0 where
  is_sequence : KindIs 0 sequence_kind
  is_text_case : {t : ℕ} → 1 ≤ t → t ≤ 7 → KindIs t text_kind
  is_prefix : KindIs 0x20 prefix_kind
  is_port : KindIs 0x21 port_kind
  is_end_case : KindIs 0x2f end_kind
  is_tempo : KindIs 0x51 tempo_kind
  is_offset : KindIs 0x54 offset_kind
  is_time : KindIs 0x58 time_kind
  is_key : KindIs 0x59 key_kind
  is_specific : KindIs 0x7f specific_kind
  is_unknown : {t : ℕ} → KindIs t unknown_kind

pub kind_is : (t : ℕ) → KindIs t (kind_of t)
unfolding kind_of
kind_is t =
    by_test (eqb t 0) (λ e. rw (eqb-true t 0 e) is_sequence) (λ n0.
    by_test (leb 1 t && leb t 7) (λ e. rw (n0, e) (is_text_case (leb-true 1 t (and_both (leb 1 t) (leb t 7) e).0) (leb-true t 7 (and_both (leb 1 t) (leb t 7) e).1))) (λ n1.
    by_test (eqb t 0x20) (λ e. rw (eqb-true t 0x20 e) is_prefix) (λ n2.
    by_test (eqb t 0x21) (λ e. rw (eqb-true t 0x21 e) is_port) (λ n3.
    by_test (eqb t 0x2f) (λ e. rw (eqb-true t 0x2f e) is_end_case) (λ n4.
    by_test (eqb t 0x51) (λ e. rw (eqb-true t 0x51 e) is_tempo) (λ n5.
    by_test (eqb t 0x54) (λ e. rw (eqb-true t 0x54 e) is_offset) (λ n6.
    by_test (eqb t 0x58) (λ e. rw (eqb-true t 0x58 e) is_time) (λ n7.
    by_test (eqb t 0x59) (λ e. rw (eqb-true t 0x59 e) is_key) (λ n8.
    by_test (eqb t 0x7f) (λ e. rw (eqb-true t 0x7f e) is_specific) (λ n9.
    rw (n0, n1, n2, n3, n4, n5, n6, n7, n8, n9) is_unknown))))))))))

pub text_kind_lem : (t : ℕ) → 1 ≤ t → t ≤ 7 → kind_of t ≡ text_kind
unfolding kind_of
text_kind_lem t h k = rw (ne_eqb t 0 (λ e. omega arith), le-leb 1 t h, le-leb t 7 k)
