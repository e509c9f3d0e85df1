-- System exclusive events and the rows of the table that begin with FF, as the code gives them.
use mathlib.Core.Path.{◌≡◌, refl, sym, ap, ap₂, ◌∙◌}
use Prim.Native.Nat.{ℕ, zero, suc, ◌+◌, ◌-◌, ◌*◌, ◌<◌, ◌≤◌}
use mathlib.Core.Bool.{Bool, true, false, ◌&&◌, ◌||◌}
use mathlib.Core.List.{List, [], ◌∷◌}
use native.Mathlib.Omega.{arith}
use lib.ListN.{length, take, drop, get_or, length-drop}
use lib.Dec.{leb, eqb}
use borrow.Author.Tests.{le-leb, lt-leb, ne_eqb, eqb-true}
use Rattle.event.specs.Choice.{pick}
use Rattle.event.specs.Bytes.{number, horner}
use Rattle.event.specs.Meta.{MetaKind, sequence_kind, text_kind, prefix_kind, port_kind, end_kind, tempo_kind, offset_kind, time_kind, key_kind, specific_kind, unknown_kind, kind_of}
use Rattle.event.specs.Frame.{exclusive, after, key_byte}
use Rattle.event.specs.Outcome.{ok, and_then, check}
use Rattle.event.specs.Reader.{read_vlq, read_exclusive, length_ok, value_ok, meta_data, key_of, meta_of, kind_in}
use Rattle.event.specs.Step.{bytes_from, kind_at, frame_at, frame_step, silent}
use Rattle.event.specs.declared.EventKind.TheVariants.{SystemExclusive, SystemExclusivePacket, SequenceNumber, Text, ChannelPrefix, MidiPort, EndTrack, Tempo, SmpteOffset, TimeSignature, KeySignature, SequencerSpecific, UnknownMeta}
use Rattle.event.specs.declared.FrameRead.{FrameRead}
use Rattle.std.specs.Prelude.{Result, Ok, Err}
use Rattle.event.proofs.BytesLaws.{data_at_lem, data_short, size_at}
use Rattle.event.proofs.MetaLaws.{KindIs, is_sequence, is_text_case, is_prefix, is_port, is_end_case, is_tempo, is_offset, is_time, is_key, is_specific, is_unknown, kind_is, text_kind_lem}
use Rattle.event.proofs.PlaceLaws.{place_back}

-- ---- system exclusive events, their length n read and their data from the place p on

module _ (s : List ℕ) (status at n p : ℕ) (came : read_vlq (drop at s) ≡ ok n (drop p s)) where
  pub exclusive_short : length s - p < n → Err 6 ≡ frame_step (length s) (read_exclusive status (drop at s))
  unfolding read_exclusive and_then frame_step
  exclusive_short h = simp (came, data_short s p n h)

  exclusive_at : p + n ≤ length s → frame_step (length s) (read_exclusive status (drop at s)) ≡ Ok (frame_at (p + n) (exclusive status (take n (drop p s))))
  unfolding read_exclusive and_then frame_step
  exclusive_at h = simp (came, data_at_lem s p n h, place_back s (p + n) h)

  pub exclusive_first : p + n ≤ length s → status ≡ 240 → Ok (silent (SystemExclusive p n) (p + n)) ≡ frame_step (length s) (read_exclusive status (drop at s))
  unfolding frame_at kind_at kind_in after pick
  exclusive_first h e =
      let back : p + n - n ≡ p = omega arith in
      rw (exclusive_at h) (simp (e, size_at s p n h, back))

  pub exclusive_other : p + n ≤ length s → (status ≡ 240 → ⊥) → Ok (silent (SystemExclusivePacket p n) (p + n)) ≡ frame_step (length s) (read_exclusive status (drop at s))
  unfolding frame_at kind_at kind_in after pick
  exclusive_other h e =
      let back : p + n - n ≡ p = omega arith in
      simp (exclusive_at h, ne_eqb status 240 e, size_at s p n h, back)

-- ---- a row of the kind k with the data d, in its range or not

module _ (s : List ℕ) (t p n : ℕ) (d : List ℕ) (k : MetaKind) (fit : p + n ≤ length s) (got : take n (drop p s) ≡ d) (kind : kind_of t ≡ k) where
  row_ok : value_ok k d ≡ true → Ok (silent (kind_at (p + n) (meta_of k t d)) (p + n)) ≡ frame_step (length s) (meta_data t n (drop p s))
  unfolding meta_data and_then check frame_step frame_at kind_in after
  row_ok h = simp (data_at_lem s p n fit, got, kind, h, place_back s (p + n) fit)

  row_bad : value_ok k d ≡ false → Err 11 ≡ frame_step (length s) (meta_data t n (drop p s))
  unfolding meta_data and_then check frame_step
  row_bad h = simp (data_at_lem s p n fit, got, kind, h)

from_tail : (k a : ℕ) (l : List ℕ) (i : ℕ) → bytes_from k (a ∷ l) (suc i) ≡ bytes_from k l i
from_tail zero a l i = refl
from_tail (suc k) a l i = ap (λ z. get_or l i 0 ∷ z) (from_tail k a l (suc i))

-- where they are there, they are the list's own first bytes
pub take_from : (k : ℕ) (l : List ℕ) → k ≤ length l → take k l ≡ bytes_from k l 0
take_from zero l h = refl
take_from (suc k) [] h = absurd (omega arith)
take_from (suc k) (a ∷ l) h = ap (λ z. a ∷ z) (take_from k l (omega arith) ∙ sym (from_tail k a l 0))

and_false : (b : Bool) → (b && false) ≡ false
and_false true = refl
and_false false = refl

-- ---- the fixed rows: a, b, .. are the bytes at the place p

module _ (s : List ℕ) (p : ℕ) where
  abbrev B : ℕ → ℕ
  B i = get_or (drop p s) i 0

  abbrev M : ℕ → ℕ → Result FrameRead ℕ
  M t n = frame_step (length s) (meta_data t n (drop p s))

  got : (n : ℕ) → p + n ≤ length s → take n (drop p s) ≡ bytes_from n (drop p s) 0
  got n h = let fit : n ≤ length (drop p s) = simp length-drop (omega arith) in take_from n (drop p s) fit

  pub row_sequence : (v : ℕ) → p + 2 ≤ length s → v ≡ number (bytes_from 2 (drop p s) 0) → Ok (silent (SequenceNumber v) (p + 2)) ≡ M 0 2
  unfolding kind_of value_ok kind_at meta_of
  row_sequence v h e = ap (λ z. Ok (silent (SequenceNumber z) (p + 2))) e ∙ row_ok s 0 p 2 (B 0 ∷ B 1 ∷ []) sequence_kind h (got 2 h) refl refl

  pub row_prefix : (a : ℕ) → p + 1 ≤ length s → a ≡ B 0 → Ok (silent (ChannelPrefix a) (p + 1)) ≡ M 0x20 1
  unfolding kind_of value_ok kind_at meta_of number horner
  row_prefix a h ea = ap (λ z. Ok (silent (ChannelPrefix z) (p + 1))) (omega arith) ∙ row_ok s 0x20 p 1 (B 0 ∷ []) prefix_kind h (got 1 h) refl refl

  pub row_port : (a : ℕ) → p + 1 ≤ length s → a ≡ B 0 → Ok (silent (MidiPort a) (p + 1)) ≡ M 0x21 1
  unfolding kind_of value_ok kind_at meta_of number horner
  row_port a h ea = ap (λ z. Ok (silent (MidiPort z) (p + 1))) (omega arith) ∙ row_ok s 0x21 p 1 (B 0 ∷ []) port_kind h (got 1 h) refl refl

  module _ (m : ℕ) (h : p + 3 ≤ length s) (e : m ≡ number (bytes_from 3 (drop p s) 0)) where
    pub row_tempo : (m ≡ 0 → ⊥) → Ok (silent (Tempo m) (p + 3)) ≡ M 0x51 3
    unfolding kind_of value_ok kind_at meta_of number horner
    row_tempo n =
        ap (λ z. Ok (silent (Tempo z) (p + 3))) e
        ∙ row_ok s 0x51 p 3 (B 0 ∷ B 1 ∷ B 2 ∷ []) tempo_kind h (got 3 h) refl (le-leb 1 (((0 * 256 + B 0) * 256 + B 1) * 256 + B 2) (omega (arith, e)))

    pub row_tempo_bad : m ≡ 0 → Err 11 ≡ M 0x51 3
    unfolding kind_of value_ok number horner
    row_tempo_bad z = row_bad s 0x51 p 3 (B 0 ∷ B 1 ∷ B 2 ∷ []) tempo_kind h (got 3 h) refl (lt-leb 1 (((0 * 256 + B 0) * 256 + B 1) * 256 + B 2) (omega (arith, e)))

  pub row_offset_lem : (a b c f g : ℕ) → p + 5 ≤ length s → a ≡ B 0 → b ≡ B 1 → c ≡ B 2 → f ≡ B 3 → g ≡ B 4 → g ≤ 99 → Ok (silent (SmpteOffset a b c f g) (p + 5)) ≡ M 0x54 5
  unfolding kind_of value_ok kind_at meta_of
  row_offset_lem a b c f g h ea eb ec ef eg k =
      rw (ea, eb, ec, ef, eg) (row_ok s 0x54 p 5 (B 0 ∷ B 1 ∷ B 2 ∷ B 3 ∷ B 4 ∷ []) offset_kind h (got 5 h) refl (le-leb (B 4) 99 (omega arith)))

  pub row_offset_bad : (g : ℕ) → p + 5 ≤ length s → g ≡ B 4 → 99 < g → Err 11 ≡ M 0x54 5
  unfolding kind_of value_ok
  row_offset_bad g h eg k = row_bad s 0x54 p 5 (B 0 ∷ B 1 ∷ B 2 ∷ B 3 ∷ B 4 ∷ []) offset_kind h (got 5 h) refl (lt-leb (B 4) 99 (omega arith))

  pub row_time_lem : (a b c f : ℕ) → p + 4 ≤ length s → a ≡ B 0 → b ≡ B 1 → c ≡ B 2 → f ≡ B 3 → Ok (silent (TimeSignature a b c f) (p + 4)) ≡ M 0x58 4
  unfolding kind_of value_ok kind_at meta_of
  row_time_lem a b c f h ea eb ec ef = rw (ea, eb, ec, ef) (row_ok s 0x58 p 4 (B 0 ∷ B 1 ∷ B 2 ∷ B 3 ∷ []) time_kind h (got 4 h) refl refl)

  module _ (a b : ℕ) (h : p + 2 ≤ length s) (ea : a ≡ B 0) (eb : b ≡ B 1) where
    key_data : take 2 (drop p s) ≡ a ∷ b ∷ []
    key_data = rw (ea, eb) (got 2 h)

    pub row_sharps : a ≤ 7 → b ≤ 1 → Ok (silent (KeySignature a b) (p + 2)) ≡ M 0x59 2
    unfolding kind_of value_ok kind_at meta_of key_of key_byte pick
    row_sharps k m =
        let ok-is : value_ok key_kind (a ∷ b ∷ []) ≡ true = simp (le-leb a 7 k, le-leb b 1 m) in
        rw (le-leb a 7 k) at (row_ok s 0x59 p 2 (a ∷ b ∷ []) key_kind h key_data refl ok-is)

    pub row_flats : 249 ≤ a → a < 256 → b ≤ 1 → Ok (silent (KeySignature a b) (p + 2)) ≡ M 0x59 2
    unfolding kind_of value_ok kind_at meta_of key_of key_byte pick
    row_flats k f m =
        let ok-is : value_ok key_kind (a ∷ b ∷ []) ≡ true = simp (lt-leb a 7 (omega arith), le-leb 249 a k, le-leb b 1 m) in
        let back : 256 - (256 - a) ≡ a = omega arith in
        rw (lt-leb a 7 (omega arith), back) at (row_ok s 0x59 p 2 (a ∷ b ∷ []) key_kind h key_data refl ok-is)

    pub row_key_bad : 8 ≤ a → a < 249 → Err 11 ≡ M 0x59 2
    unfolding kind_of value_ok
    row_key_bad k m = row_bad s 0x59 p 2 (a ∷ b ∷ []) key_kind h key_data refl (simp (lt-leb a 7 k, lt-leb 249 a m))

    pub row_minor_bad : 1 < b → Err 11 ≡ M 0x59 2
    unfolding kind_of value_ok
    row_minor_bad k = row_bad s 0x59 p 2 (a ∷ b ∷ []) key_kind h key_data refl (rw (lt-leb b 1 k) (and_false (leb a 7 || leb 249 a)))

  -- ---- the rows with n data bytes, which stand from the place p on

  module _ (t n : ℕ) (fit : p + n ≤ length s) where
    size : n ≡ length (take n (drop p s))
    size = sym (size_at s p n fit)

    start : p ≡ p + n - length (take n (drop p s))
    start = omega (arith, size)

    pub row_end_lem : t ≡ 0x2f → Ok (silent EndTrack (p + n)) ≡ M t n
    unfolding kind_of value_ok kind_at meta_of
    row_end_lem e = row_ok s t p n (take n (drop p s)) end_kind fit refl (ap kind_of e) refl

    pub row_text : 1 ≤ t → t ≤ 7 → Ok (silent (Text t p n) (p + n)) ≡ M t n
    unfolding value_ok kind_at meta_of
    row_text h g = ap₂ (λ x y. Ok (silent (Text t x y) (p + n))) start size ∙ row_ok s t p n (take n (drop p s)) text_kind fit refl (text_kind_lem t h g) refl

    pub row_specific : t ≡ 0x7f → Ok (silent (SequencerSpecific p n) (p + n)) ≡ M t n
    unfolding kind_of value_ok kind_at meta_of
    row_specific e = ap₂ (λ x y. Ok (silent (SequencerSpecific x y) (p + n))) start size ∙ row_ok s t p n (take n (drop p s)) specific_kind fit refl (ap kind_of e) refl

    pub row_unknown : kind_of t ≡ unknown_kind → Ok (silent (UnknownMeta t p n) (p + n)) ≡ M t n
    unfolding value_ok kind_at meta_of
    row_unknown e = ap₂ (λ x y. Ok (silent (UnknownMeta t x y) (p + n))) start size ∙ row_ok s t p n (take n (drop p s)) unknown_kind fit refl e refl

-- a type of a fixed length has that length
pub sized : (t u n k : ℕ) → t ≡ u → length_ok (kind_of u) n ≡ eqb n k → length_ok (kind_of t) n ≡ true → n ≡ k
sized t u n k e q h = eqb-true n k (sym q ∙ ap (λ z. length_ok (kind_of z) n) (sym e) ∙ h)

-- the same row by other names for its type and its length
pub same_row : (s : List ℕ) (p t u n k : ℕ) (r : Result FrameRead ℕ) → t ≡ u → n ≡ k → r ≡ frame_step (length s) (meta_data u k (drop p s))
    → r ≡ frame_step (length s) (meta_data t n (drop p s))
same_row s p t u n k r e q h = h ∙ ap₂ (λ a b. frame_step (length s) (meta_data a b (drop p s))) (sym e) (sym q)

-- ---- types with no row of their own, and types of no fixed length

pub record Other (t : ℕ) : Type 0 where
  pub not_prefix : t ≡ 0x20 → ⊥
  pub not_port : t ≡ 0x21 → ⊥
  pub not_end : t ≡ 0x2f → ⊥
  pub not_tempo : t ≡ 0x51 → ⊥
  pub not_offset : t ≡ 0x54 → ⊥
  pub not_time : t ≡ 0x58 → ⊥
  pub not_key : t ≡ 0x59 → ⊥

other : (t : ℕ) (k : MetaKind) → KindIs t k → 8 ≤ t → Other t → (t ≡ 0x7f → ⊥) → k ≡ unknown_kind
other t _ is_sequence h o n = absurd (omega arith)
other t _ (is_text_case a b) h o n = absurd (omega arith)
other t _ is_prefix h o n = absurd (o.not_prefix refl)
other t _ is_port h o n = absurd (o.not_port refl)
other t _ is_end_case h o n = absurd (o.not_end refl)
other t _ is_tempo h o n = absurd (o.not_tempo refl)
other t _ is_offset h o n = absurd (o.not_offset refl)
other t _ is_time h o n = absurd (o.not_time refl)
other t _ is_key h o n = absurd (o.not_key refl)
other t _ is_specific h o n = absurd (n refl)
other t _ is_unknown h o n = refl

pub other_kind : (t : ℕ) → 8 ≤ t → Other t → (t ≡ 0x7f → ⊥) → kind_of t ≡ unknown_kind
other_kind t h o n = other t (kind_of t) (kind_is t) h o n

free : (t n : ℕ) (k : MetaKind) → KindIs t k → (t ≡ 0 → ⊥) → Other t → true ≡ length_ok k n
unfolding length_ok
free t n _ is_sequence z o = absurd (z refl)
free t n _ (is_text_case a b) z o = refl
free t n _ is_prefix z o = absurd (o.not_prefix refl)
free t n _ is_port z o = absurd (o.not_port refl)
free t n _ is_end_case z o = absurd (o.not_end refl)
free t n _ is_tempo z o = absurd (o.not_tempo refl)
free t n _ is_offset z o = absurd (o.not_offset refl)
free t n _ is_time z o = absurd (o.not_time refl)
free t n _ is_key z o = absurd (o.not_key refl)
free t n _ is_specific z o = refl
free t n _ is_unknown z o = refl

pub free_length : (t n : ℕ) → (t ≡ 0 → ⊥) → Other t → true ≡ length_ok (kind_of t) n
free_length t n z o = free t n (kind_of t) (kind_is t) z o
