-- The rows of the table and the shapes of their bytes: each row's bytes are valid and give the row back, and valid bytes are those of a row.
use mathlib.Core.Path.{◌≡◌, refl, sym, ap, ap₂, ◌∙◌}
use Prim.Native.Nat.{ℕ, ◌+◌, ◌-◌, ◌*◌, ◌/◌, ◌%◌, ◌<◌, ◌≤◌}
use mathlib.Core.Bool.{true, false, ◌&&◌, ◌||◌}
use mathlib.Core.List.{List, [], ◌∷◌}
use mathlib.Core.Logic.{◌⊎◌, inl, inr}
use native.Mathlib.Omega.{arith}
use lib.ListN.{length, get_or}
use lib.Dec.{leb}
use borrow.Author.Tests.{leb-true, leb-false, le-leb, lt-leb, eqb-true}
use Rattle.event.specs.Bytes.{Bytes, bytes_onto, big_endian, number, horner}
use Rattle.event.specs.Meta.{MetaKind, sequence_kind, text_kind, prefix_kind, port_kind, end_kind, tempo_kind, offset_kind, time_kind, key_kind, specific_kind, unknown_kind, kind_of}
use Rattle.event.specs.Event.{Key, sharps, flats, KeyFits, Kind, note_off, note_on, poly_aftertouch, control, program, channel_aftertouch, pitch_bend, system_exclusive, system_exclusive_packet, sequence_number, text, channel_prefix, midi_port, end_track, tempo, smpte_offset, time_signature, key_signature, sequencer_specific, unknown_meta, Fits}
use Rattle.event.specs.Frame.{Frame, channel1, channel2, exclusive, meta, key_byte, frame}
use Rattle.event.specs.Reader.{one_byte, length_ok, value_ok, key_of, kind2, meta_of, kind_in}
use Rattle.event.proofs.ChoiceLaws.{pick_true, pick_false, by_test, or_cases, and_both}
use Rattle.event.proofs.BytesLaws.{number_fits}
use Rattle.event.proofs.MetaLaws.{KindIs, is_sequence, is_text_case, is_prefix, is_port, is_end_case, is_tempo, is_offset, is_time, is_key, is_specific, is_unknown, kind_is, text_kind_lem}
use Rattle.event.proofs.FrameLaws.{Valid}

-- ---- the bytes of each row are valid, and give that row back

pub one_yes : (s : ℕ) → 192 ≤ s → s < 224 → one_byte s ≡ true
unfolding one_byte
one_yes s h k = rw (le-leb 192 s h, le-leb s 223 (omega arith))

pub one_low : (s : ℕ) → s < 192 → one_byte s ≡ false
unfolding one_byte
one_low s h = rw (lt-leb 192 s h)

pub one_high : (s : ℕ) → 224 ≤ s → one_byte s ≡ false
unfolding one_byte
one_high s h = rw (le-leb 192 s (omega arith), lt-leb s 223 h)

key_bytes : (k : Key) → KeyFits k → key_byte k < 256
unfolding KeyFits key_byte
key_bytes (sharps n) h = omega arith
key_bytes (flats n) h = omega arith

key_ok : (k : Key) → KeyFits k → (leb (key_byte k) 7 || leb 249 (key_byte k)) ≡ true
unfolding KeyFits key_byte
key_ok (sharps n) h = rw (le-leb n 7 h)
key_ok (flats n) h = rw (lt-leb (256 - n) 7 (omega arith), le-leb 249 (256 - n) (omega arith))

pub key_back : (k : Key) → KeyFits k → key_of (key_byte k) ≡ k
unfolding KeyFits key_byte key_of
key_back (sharps n) h = pick_true _ _ (le-leb n 7 h)
key_back (flats n) h = pick_false _ _ (lt-leb (256 - n) 7 (omega arith)) ∙ ap flats (omega arith)

pub frame_valid : (x : Kind) → Fits x → Valid (frame x)
unfolding Fits frame Valid kind_of length_ok value_ok big_endian bytes_onto number horner
frame_valid (note_off c k v) h = (omega arith, one_low _ (omega arith), h.1, h.2)
frame_valid (note_on c k v) h = (omega arith, one_low _ (omega arith), h.1, h.2)
frame_valid (poly_aftertouch c k v) h = (omega arith, one_low _ (omega arith), h.1, h.2)
frame_valid (control c k v) h = (omega arith, one_low _ (omega arith), h.1, h.2)
frame_valid (program c p) h = (omega arith, one_yes _ (omega arith) (omega arith), h.1)
frame_valid (channel_aftertouch c v) h = (omega arith, one_yes _ (omega arith) (omega arith), h.1)
frame_valid (pitch_bend c v) h = (omega arith, one_high _ (omega arith), omega arith, omega arith)
frame_valid (system_exclusive d) h = (inl refl, h)
frame_valid (system_exclusive_packet d) h = (inr refl, h)
frame_valid (sequence_number n) h = (omega arith, refl, refl, omega arith)
frame_valid (text t d) h = (omega arith, rw (text_kind_lem t h.0 h.1), rw (text_kind_lem t h.0 h.1), h.2)
frame_valid (channel_prefix n) h = (omega arith, refl, refl, omega arith)
frame_valid (midi_port n) h = (omega arith, refl, refl, omega arith)
frame_valid end_track h = (omega arith, refl, refl, tt)
frame_valid (tempo n) h = (omega arith, refl, le-leb 1 (number (big_endian 3 n)) (omega arith), omega arith)
frame_valid (smpte_offset a m s f u) h = (omega arith, refl, le-leb u 99 h.4, omega arith)
frame_valid (time_signature n d c b) h = (omega arith, refl, refl, omega arith)
frame_valid (key_signature k m) h = (omega arith, refl, rw (key_ok k h.0, le-leb m 1 h.1), (key_bytes k h.0, omega arith))
frame_valid (sequencer_specific d) h = (omega arith, refl, refl, h)
frame_valid (unknown_meta t d) h = (h.0, rw h.1, rw h.1, h.2)

pub kind_back : (x : Kind) → Fits x → kind_in (frame x) ≡ x
unfolding Fits frame kind_in kind2 kind_of meta_of big_endian bytes_onto number horner
kind_back (note_off c k v) h =
    pick_true _ _ (le-leb (0x80 + c) 0x8f (omega arith)) ∙ ap (λ n. note_off n k v) (omega arith)
kind_back (note_on c k v) h =
    pick_false _ _ (lt-leb (0x90 + c) 0x8f (omega arith))
    ∙ pick_true _ _ (le-leb (0x90 + c) 0x9f (omega arith)) ∙ ap (λ n. note_on n k v) (omega arith)
kind_back (poly_aftertouch c k v) h =
    pick_false _ _ (lt-leb (0xa0 + c) 0x8f (omega arith))
    ∙ pick_false _ _ (lt-leb (0xa0 + c) 0x9f (omega arith))
    ∙ pick_true _ _ (le-leb (0xa0 + c) 0xaf (omega arith)) ∙ ap (λ n. poly_aftertouch n k v) (omega arith)
kind_back (control c k v) h =
    pick_false _ _ (lt-leb (0xb0 + c) 0x8f (omega arith))
    ∙ pick_false _ _ (lt-leb (0xb0 + c) 0x9f (omega arith))
    ∙ pick_false _ _ (lt-leb (0xb0 + c) 0xaf (omega arith))
    ∙ pick_true _ _ (le-leb (0xb0 + c) 0xbf (omega arith)) ∙ ap (λ n. control n k v) (omega arith)
kind_back (program c p) h = pick_true _ _ (le-leb (0xc0 + c) 0xcf (omega arith)) ∙ ap (λ n. program n p) (omega arith)
kind_back (channel_aftertouch c v) h = pick_false _ _ (lt-leb (0xd0 + c) 0xcf (omega arith)) ∙ ap (λ n. channel_aftertouch n v) (omega arith)
kind_back (pitch_bend c v) h =
    pick_false _ _ (lt-leb (0xe0 + c) 0x8f (omega arith))
    ∙ pick_false _ _ (lt-leb (0xe0 + c) 0x9f (omega arith))
    ∙ pick_false _ _ (lt-leb (0xe0 + c) 0xaf (omega arith))
    ∙ pick_false _ _ (lt-leb (0xe0 + c) 0xbf (omega arith)) ∙ ap₂ pitch_bend (omega arith) (omega arith)
kind_back (system_exclusive d) h = refl
kind_back (system_exclusive_packet d) h = refl
kind_back (sequence_number n) h = ap sequence_number (omega arith)
kind_back (text t d) h = rw (text_kind_lem t h.0 h.1)
kind_back (channel_prefix n) h = ap channel_prefix (omega arith)
kind_back (midi_port n) h = ap midi_port (omega arith)
kind_back end_track h = refl
kind_back (tempo n) h = ap tempo (omega arith)
kind_back (smpte_offset a m s f u) h = refl
kind_back (time_signature n d c b) h = refl
kind_back (key_signature k m) h = ap (λ z. key_signature z m) (key_back k h.0)
kind_back (sequencer_specific d) h = refl
kind_back (unknown_meta t d) h = rw h.1

-- ---- valid bytes are those of a row

abbrev Row : Frame → Type 0
Row y = (x : Kind) × Fits x × (frame x ≡ y)

one_is : (s : ℕ) → one_byte s ≡ true → (192 ≤ s) × (s < 224)
unfolding one_byte
one_is s e = let (p, q) = and_both (leb 192 s) (leb s 223) e in let h = leb-true s 223 q in (leb-true 192 s p, omega arith)

two_is : (s : ℕ) → 192 ≤ s → one_byte s ≡ false → 224 ≤ s
unfolding one_byte
two_is s h e = leb-false s 223 (sym (ap (λ t. t && leb s 223) (le-leb 192 s h)) ∙ e)

row1 : (s a : ℕ) → Valid (channel1 s a) → Row (channel1 s a)
unfolding Valid Fits frame
row1 s a v =
    let (lo, hi) = one_is s v.1 in
    by_test (leb s 0xcf)
    (λ t. let h = leb-true s 0xcf t in (program (s - 0xc0) a, omega arith, ap (λ n. channel1 n a) (omega arith)))
    (λ t. let h = leb-false s 0xcf t in (channel_aftertouch (s - 0xd0) a, omega arith, ap (λ n. channel1 n a) (omega arith)))

row2 : (s a b : ℕ) → Valid (channel2 s a b) → Row (channel2 s a b)
unfolding Valid Fits frame
row2 s a b v =
    by_test (leb s 0x8f)
    (λ t. let h = leb-true s 0x8f t in (note_off (s - 0x80) a b, omega arith, ap (λ n. channel2 n a b) (omega arith))) (λ t1. let h1 = leb-false s 0x8f t1 in
    by_test (leb s 0x9f)
    (λ t. let h = leb-true s 0x9f t in (note_on (s - 0x90) a b, omega arith, ap (λ n. channel2 n a b) (omega arith))) (λ t2. let h2 = leb-false s 0x9f t2 in
    by_test (leb s 0xaf)
    (λ t. let h = leb-true s 0xaf t in (poly_aftertouch (s - 0xa0) a b, omega arith, ap (λ n. channel2 n a b) (omega arith))) (λ t3. let h3 = leb-false s 0xaf t3 in
    by_test (leb s 0xbf)
    (λ t. let h = leb-true s 0xbf t in (control (s - 0xb0) a b, omega arith, ap (λ n. channel2 n a b) (omega arith))) (λ t4.
    let h4 = leb-false s 0xbf t4 in
    let h5 = two_is s h4 v.1 in
    let x : 0xe0 + (s - 0xe0) ≡ s = omega arith in
    let y : (128 * b + a) % 128 ≡ a = omega arith in
    let z : (128 * b + a) / 128 ≡ b = omega arith in
    (pitch_bend (s - 0xe0) (128 * b + a), omega arith, cc)))))

row_end : (d : List ℕ) → length d ≡ 0 → Row (meta 0x2f d)
unfolding Fits frame
row_end [] e = (end_track, tt, refl)
row_end (a ∷ d) e = absurd (omega arith)

row_offset : (d : List ℕ) → Bytes d → length d ≡ 5 → get_or d 4 0 ≤ 99 → Row (meta 0x54 d)
unfolding Fits frame
row_offset [] bs e h = absurd (omega arith)
row_offset (a ∷ []) bs e h = absurd (omega arith)
row_offset (a ∷ b ∷ []) bs e h = absurd (omega arith)
row_offset (a ∷ b ∷ c ∷ []) bs e h = absurd (omega arith)
row_offset (a ∷ b ∷ c ∷ f ∷ []) bs e h = absurd (omega arith)
row_offset (a ∷ b ∷ c ∷ f ∷ g ∷ []) bs e h = (smpte_offset a b c f g, omega arith, refl)
row_offset (a ∷ b ∷ c ∷ f ∷ g ∷ i ∷ d) bs e h = absurd (omega arith)

row_time : (d : List ℕ) → Bytes d → length d ≡ 4 → Row (meta 0x58 d)
unfolding Fits frame
row_time [] bs e = absurd (omega arith)
row_time (a ∷ []) bs e = absurd (omega arith)
row_time (a ∷ b ∷ []) bs e = absurd (omega arith)
row_time (a ∷ b ∷ c ∷ []) bs e = absurd (omega arith)
row_time (a ∷ b ∷ c ∷ f ∷ []) bs e = (time_signature a b c f, omega arith, refl)
row_time (a ∷ b ∷ c ∷ f ∷ g ∷ d) bs e = absurd (omega arith)

key_is : (b : ℕ) → b < 256 → (leb b 7 || leb 249 b) ≡ true → (k : Key) × KeyFits k × (key_byte k ≡ b)
unfolding KeyFits key_byte
key_is b h e =
    or_cases (leb b 7) (leb 249 b) e
    (λ t. (sharps b, leb-true b 7 t, refl))
    (λ t. let k = leb-true 249 b t in (flats (256 - b), omega arith, omega arith))

row_key : (d : List ℕ) → Bytes d → length d ≡ 2 → value_ok key_kind d ≡ true → Row (meta 0x59 d)
unfolding Fits frame value_ok
row_key [] bs e h = absurd (omega arith)
row_key (a ∷ []) bs e h = absurd (omega arith)
row_key (a ∷ b ∷ []) bs e h =
    let (p, q) = and_both (leb a 7 || leb 249 a) (leb b 1) h in
    let (k, f, y) = key_is a bs.0 p in
    (key_signature k b, (f, leb-true b 1 q), ap (λ n. meta 0x59 (n ∷ b ∷ [])) y)
row_key (a ∷ b ∷ c ∷ d) bs e h = absurd (omega arith)

row_meta : (t : ℕ) (k : MetaKind) → KindIs t k → kind_of t ≡ k → (d : List ℕ) → t ≤ 127 → length_ok k (length d) ≡ true → value_ok k d ≡ true → Bytes d → Row (meta t d)
unfolding Fits frame length_ok value_ok
row_meta t sequence_kind is_sequence q d h lo vo bs = let (x, y) = number_fits 2 d bs (eqb-true _ _ lo) in (sequence_number (number d), omega arith, ap (meta 0) y)
row_meta t text_kind (is_text_case a b) q d h lo vo bs = (text t d, (a, b, bs), refl)
row_meta t prefix_kind is_prefix q d h lo vo bs = let (x, y) = number_fits 1 d bs (eqb-true _ _ lo) in (channel_prefix (number d), omega arith, ap (meta 0x20) y)
row_meta t port_kind is_port q d h lo vo bs = let (x, y) = number_fits 1 d bs (eqb-true _ _ lo) in (midi_port (number d), omega arith, ap (meta 0x21) y)
row_meta t end_kind is_end_case q d h lo vo bs = row_end d (eqb-true _ _ lo)
row_meta t tempo_kind is_tempo q d h lo vo bs = let (x, y) = number_fits 3 d bs (eqb-true _ _ lo) in (tempo (number d), (leb-true _ _ vo, omega arith), ap (meta 0x51) y)
row_meta t offset_kind is_offset q d h lo vo bs = row_offset d bs (eqb-true _ _ lo) (leb-true _ _ vo)
row_meta t time_kind is_time q d h lo vo bs = row_time d bs (eqb-true _ _ lo)
row_meta t key_kind is_key q d h lo vo bs = row_key d bs (eqb-true _ _ lo) vo
row_meta t specific_kind is_specific q d h lo vo bs = (sequencer_specific d, bs, refl)
row_meta t unknown_kind is_unknown q d h lo vo bs = (unknown_meta t d, (h, q, bs), refl)

row_exclusive : (s : ℕ) (d : List ℕ) → (s ≡ 240) ⊎ (s ≡ 247) → Bytes d → Row (exclusive s d)
unfolding Fits frame
row_exclusive s d (inl e) bs = (system_exclusive d, bs, ap (λ n. exclusive n d) (sym e))
row_exclusive s d (inr e) bs = (system_exclusive_packet d, bs, ap (λ n. exclusive n d) (sym e))

row_of_lem : (y : Frame) → Valid y → Row y
unfolding Valid
row_of_lem (channel1 s a) v = row1 s a v
row_of_lem (channel2 s a b) v = row2 s a b v
row_of_lem (exclusive s d) v = row_exclusive s d v.0 v.1
row_of_lem (meta t d) v = row_meta t (kind_of t) (kind_is t) refl d v.0 v.1 v.2 v.3

-- so the kind read from valid bytes fits, and has those bytes
pub kind_fits : (y : Frame) → Valid y → Fits (kind_in y)
kind_fits y v = let (x, f, e) = row_of_lem y v in rw (← e, kind_back x f) f

pub frame_back : (y : Frame) → Valid y → frame (kind_in y) ≡ y
frame_back y v = let (x, f, e) = row_of_lem y v in ap (λ z. frame (kind_in z)) (sym e) ∙ ap frame (kind_back x f) ∙ e
