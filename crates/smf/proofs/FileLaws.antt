-- Tracks, header and whole files: what is laid out is read back, and what is read was laid out.
use mathlib.Core.Path.{◌≡◌, refl, sym, ap, ap₂, subst, ◌∙◌}
use Prim.Native.Nat.{ℕ, zero, suc, ◌+◌, ◌-◌, ◌<◌, ◌≤◌}
use mathlib.Core.Bool.{true, not}
use mathlib.Core.List.{List, [], ◌∷◌, ◌++◌, append_assoc}
use native.Mathlib.Omega.{arith}
use lib.ListN.{length, take, drop, length-append, take-append-drop}
use lib.Seq.{drop-append_seam, length-take-le, drop-drop}
use lib.Dec.{leb, eqb}
use borrow.Author.Tests.{leb-true, le-leb, eqb-true, eqb-false, eq-eqb, ne_eqb, not-true}
use Rattle.event.specs.Bytes.{Bytes, bytes_onto, big_endian}
use Rattle.event.specs.Event.{Event}
use Rattle.event.specs.Frame.{no_status}
use Rattle.event.specs.Spelling.{Spelling}
use Rattle.event.specs.Outcome.{ok}
use Rattle.event.specs.Reader.{read_number}
use Rattle.event.proofs.ChoiceLaws.{or_cases, and_both}
use Rattle.event.proofs.OutcomeLaws.{ok_same, and_then_ok, and_then_eq, check_ok, check_eq}
use Rattle.event.proofs.BytesLaws.{bytes_left, bytes_right, length_big_endian, number_read, number_sound}
use Rattle.smf.specs.Division.{Division, LawfulDivision, bits, division_of}
use Rattle.smf.specs.Piece.{Piece, Header, tracks_fit, LawfulEvents, LawfulTracks, LawfulPiece}
use Rattle.smf.specs.Chunk.{header_tag, Chunk, AllPassed}
use Rattle.smf.specs.Spelling.{TrackSpelling, PieceSpelling, PermittedEvents, PermittedTracks}
use Rattle.smf.specs.Layout.{lay_events, lay_chunks, lay_track, lay_tracks, lay_division, lay_header, lay_piece, ShortTracks, HasLayout, LaidOut}
use Rattle.smf.specs.Reader.{read_all, read_chunk, read_track, read_tracks, count_ok, read_header, read_behind, read_piece, file_limit, read_file}
use Rattle.smf.proofs.DivisionLaws.{division_back, division_yes, division_is, bits_back, division_fits}
use Rattle.smf.proofs.TrackLaws.{all_read, events_sound}
use Rattle.smf.proofs.PassedLaws.{chunk_read, chunk_sound, behind_read, BehindLaid, behind_sound}

-- ---- a track

pub track_read_lem : (at : ℕ) (cs : List Chunk) (es : List Event) (ss : List Spelling) (r : List ℕ) → AllPassed cs → LawfulEvents 0 es → PermittedEvents 0 no_status es ss
    → length (lay_events 0 es ss) ≤ 4294967295 → read_track at (lay_chunks cs ++ (lay_track es ss ++ r)) ≡ ok es r
unfolding read_track lay_track
track_read_lem at cs es ss r passed lawful permitted short =
    and_then_eq _ (chunk_read at cs (lay_events 0 es ss) r passed short) ∙ and_then_eq _ (all_read _ 0 no_status es ss lawful permitted)

pub record TrackLaid (l : List ℕ) (es : List Event) (r : List ℕ) : Type 0 where
  pub spelling : TrackSpelling
  pub passed : AllPassed spelling.before
  pub lawful : LawfulEvents 0 es
  pub permitted : PermittedEvents 0 no_status es spelling.events
  pub short : length (lay_events 0 es spelling.events) ≤ 4294967295
  pub bytes : l ≡ lay_chunks spelling.before ++ (lay_track es spelling.events ++ r)
  pub after : Bytes r

pub track_sound : (at : ℕ) (l : List ℕ) (es : List Event) (r : List ℕ) → Bytes l → read_track at l ≡ ok es r → TrackLaid l es r
unfolding read_track read_all lay_track
track_sound at l es r bs e =
    and_then_ok (read_chunk at l) _ es r e (λ body m qc e1.
    and_then_ok (read_all _ 0 no_status body) _ es r e1 (λ fs q qe e2.
    ok_same fs es m r e2 (λ p mr.
    let chunk = chunk_sound at l body m bs qc in
    let laid = events_sound (suc (length body)) _ 0 no_status body fs q chunk.inside qe in
    rw (← p, ← mr)
    (record {
      spelling = record { before = chunk.before; events = laid.spelling };
      passed = chunk.passed;
      lawful = laid.lawful;
      permitted = laid.permitted;
      short = rw (← laid.bytes) chunk.short;
      bytes = rw (← laid.bytes) chunk.bytes;
      after = chunk.after;
    }))))

-- ---- the tracks

-- a track, the chunks before it, and two parts after it
pub track_split : (c t a r : List ℕ) → c ++ (t ++ a) ++ r ≡ c ++ (t ++ (a ++ r))
track_split c t a r = simp append_assoc

pub tracks_read_lem : (at : ℕ) (ts : List (List Event)) (ss : List TrackSpelling) (r : List ℕ) → LawfulTracks ts → PermittedTracks ts ss → ShortTracks ts ss
    → read_tracks (length ts) at (lay_tracks ts ss ++ r) ≡ ok ts r
unfolding read_tracks lay_tracks LawfulTracks PermittedTracks ShortTracks
tracks_read_lem at [] ss r l p h = refl
tracks_read_lem at (t ∷ ts) [] r l p h = absurd p
tracks_read_lem at (t ∷ ts) (s ∷ ss) r l p h =
    rw (track_split (lay_chunks s.before) (lay_track t s.events) (lay_tracks ts ss) r)
    (and_then_eq _ (track_read_lem at s.before t s.events (lay_tracks ts ss ++ r) p.1 l.0 p.0 h.0)
    ∙ and_then_eq _ (tracks_read_lem (at + (length (lay_chunks s.before ++ (lay_track t s.events ++ (lay_tracks ts ss ++ r))) - length (lay_tracks ts ss ++ r))) ts ss r l.1 p.2 h.1))

pub record TracksLaid (n : ℕ) (l : List ℕ) (ts : List (List Event)) (r : List ℕ) : Type 0 where
  pub spelling : List TrackSpelling
  pub lawful : LawfulTracks ts
  pub permitted : PermittedTracks ts spelling
  pub short : ShortTracks ts spelling
  pub count : length ts ≡ n
  pub bytes : l ≡ lay_tracks ts spelling ++ r
  pub after : Bytes r

pub tracks_sound : (n at : ℕ) (l : List ℕ) (ts : List (List Event)) (r : List ℕ) → Bytes l → read_tracks n at l ≡ ok ts r → TracksLaid n l ts r
unfolding read_tracks lay_tracks LawfulTracks PermittedTracks ShortTracks
tracks_sound zero at l ts r bs e =
    ok_same [] ts l r e (λ p q. rw (← p) (record { spelling = []; lawful = tt; permitted = tt; short = tt; count = refl; bytes = q; after = subst Bytes q bs }))
tracks_sound (suc n) at l ts r bs e =
    and_then_ok (read_track at l) _ ts r e (λ t m qt e1.
    and_then_ok (read_tracks n _ m) _ ts r e1 (λ us q qu e2.
    let one = track_sound at l t m bs qt in
    let rest = tracks_sound n _ m us q one.after qu in
    let s = one.spelling in
    ok_same (t ∷ us) ts q r e2 (λ p qr.
    rw (← p, ← qr)
    (record {
      spelling = s ∷ rest.spelling;
      lawful = (one.lawful, rest.lawful);
      permitted = (one.permitted, one.passed, rest.permitted);
      short = (one.short, rest.short);
      count = ap suc rest.count;
      bytes = one.bytes ∙ ap (λ z. lay_chunks s.before ++ (lay_track t s.events ++ z)) rest.bytes ∙ sym (track_split (lay_chunks s.before) (lay_track t s.events) (lay_tracks us rest.spelling) q);
      after = rest.after;
    }))))

-- ---- the header

pub fit_yes : (format n : ℕ) → (format ≡ 0 → n ≡ 1) → tracks_fit format n ≡ true
unfolding tracks_fit
fit_yes zero n s = rw (eq-eqb n 1 (s refl))
fit_yes (suc k) n s = rw (ne_eqb (suc k) 0 (λ e. omega arith))

pub fit_is : (format n : ℕ) → tracks_fit format n ≡ true → format ≡ 0 → n ≡ 1
unfolding tracks_fit
fit_is format n e z = or_cases (not (eqb format 0)) (eqb n 1) e (λ t. absurd (eqb-false format 0 (not-true _ t) z)) (λ t. eqb-true n 1 t)

count_yes : (format n : ℕ) → 1 ≤ n → (format ≡ 0 → n ≡ 1) → count_ok format n ≡ true
unfolding count_ok
count_yes format n h s = rw (le-leb 1 n h, fit_yes format n s)

count_is : (format n : ℕ) → count_ok format n ≡ true → (1 ≤ n) × (format ≡ 0 → n ≡ 1)
unfolding count_ok
count_is format n e = let (a, b) = and_both (leb 1 n) _ e in (leb-true 1 n a, fit_is format n b)

-- what a header must be, apart from its bytes
pub record LawfulHeader (h : Header) : Type 0 where
  pub format : h.format ≤ 2
  pub some : 1 ≤ h.count
  pub few : h.count ≤ 65535
  pub single : h.format ≡ 0 → h.count ≡ 1
  pub division : LawfulDivision h.division

pub header_size : (format count : ℕ) (d : Division) (extra l : List ℕ) → length (lay_header format count d extra l) ≡ 14 + length extra + length l
unfolding lay_header lay_division
header_size format count d extra l = simp (length-append, length_big_endian) (omega arith)

pub header_rest : (format count : ℕ) (d : Division) (extra l : List ℕ) → drop (14 + length extra) (lay_header format count d extra l) ≡ l
unfolding lay_header lay_division big_endian bytes_onto
header_rest format count d extra l = sym (drop-drop (length extra) 14 (lay_header format count d extra l)) ∙ drop-append_seam extra l

header_long : (format count : ℕ) (d : Division) (extra l : List ℕ) → 14 ≤ length (lay_header format count d extra l)
header_long format count d extra l = omega (arith, header_size format count d extra l)

pub header_read : (h : Header) (extra l : List ℕ) → LawfulHeader h → 6 + length extra ≤ 4294967295
    → read_header (lay_header h.format h.count h.division extra l) ≡ ok h l
unfolding read_header lay_header lay_division
header_read h extra l k small =
    let n : ℕ = length extra in
    let size : length (big_endian 2 h.format ++ (big_endian 2 h.count ++ (big_endian 2 (bits h.division) ++ (extra ++ l)))) ≡ 6 + (n + length l) = simp (length-append, length_big_endian) (omega arith) in
    let less : 6 + n - 6 ≡ n = omega arith in
    check_eq 2 0 _ (le-leb 14 _ (header_long h.format h.count h.division extra l))
    ∙ and_then_eq _ (number_read 4 header_tag _ (omega arith)) ∙ check_eq 3 0 _ refl
    ∙ and_then_eq _ (number_read 4 (6 + n) _ (omega arith)) ∙ check_eq 3 4 _ (le-leb 6 (6 + n) (omega arith)) ∙ check_eq 2 0 _ (le-leb (6 + n) _ (omega (arith, size)))
    ∙ and_then_eq _ (number_read 2 h.format _ (omega arith)) ∙ check_eq 3 8 _ (le-leb h.format 2 k.format)
    ∙ and_then_eq _ (number_read 2 h.count _ (omega arith)) ∙ check_eq 3 10 _ (count_yes h.format h.count k.some k.single)
    ∙ and_then_eq _ (number_read 2 (bits h.division) _ (division_fits h.division k.division)) ∙ check_eq 3 12 _ (division_yes h.division k.division)
    ∙ ap₂ (λ d z. ok (record { format = h.format; count = h.count; division = d }) z) (division_back h.division k.division) (ap (λ z. drop z (extra ++ l)) less ∙ drop-append_seam extra l)

pub record HeaderLaid (f : List ℕ) (h : Header) (l : List ℕ) : Type 0 where
  pub extra : List ℕ
  pub lawful : LawfulHeader h
  pub small : 6 + length extra ≤ 4294967295
  pub bytes : f ≡ lay_header h.format h.count h.division extra l
  pub inside : Bytes extra
  pub after : Bytes l

header_bytes : (f l1 l2 l3 l4 l5 x l : List ℕ) (tag size format n d : ℕ)
    → f ≡ big_endian 4 tag ++ l1 → tag ≡ header_tag → l1 ≡ big_endian 4 size ++ l2 → size ≡ 6 + length x → l2 ≡ big_endian 2 format ++ l3 → l3 ≡ big_endian 2 n ++ l4
    → l4 ≡ big_endian 2 d ++ l5 → l5 ≡ x ++ l → bits (division_of d) ≡ d → f ≡ lay_header format n (division_of d) x l
unfolding lay_header lay_division
header_bytes f l1 l2 l3 l4 l5 x l tag size format n d h1 t1 h2 t2 h3 h4 h5 h6 h7 = rw h7 cc

-- three numbers of two bytes
six : (a b c : ℕ) (l2 l3 l4 l5 : List ℕ) → l2 ≡ big_endian 2 a ++ l3 → l3 ≡ big_endian 2 b ++ l4 → l4 ≡ big_endian 2 c ++ l5 → length l2 ≡ 6 + length l5
six a b c l2 l3 l4 l5 h3 h4 h5 = rw (h3, h4, h5) (simp (length-append, length_big_endian) (omega arith))

pub header_sound : (f : List ℕ) (h : Header) (l : List ℕ) → Bytes f → read_header f ≡ ok h l → HeaderLaid f h l
unfolding read_header
header_sound f h r bs e =
    let (c0, e0) = check_ok _ 2 0 _ h r e in
    and_then_ok (read_number 4 f) _ h r e0 (λ tag l1 q1 e1. let (c1, f1) = check_ok _ 3 0 _ h r e1 in let h1 = number_sound 4 f tag l1 bs q1 in
    and_then_ok (read_number 4 l1) _ h r f1 (λ size l2 q2 e2. let (c2, g2) = check_ok _ 3 4 _ h r e2 in let (c6, f2) = check_ok _ 2 0 _ h r g2 in let h2 = number_sound 4 l1 size l2 h1.after q2 in
    and_then_ok (read_number 2 l2) _ h r f2 (λ format l3 q3 e3. let (c3, f3) = check_ok _ 3 8 _ h r e3 in let h3 = number_sound 2 l2 format l3 h2.after q3 in
    and_then_ok (read_number 2 l3) _ h r f3 (λ n l4 q4 e4. let (c4, f4) = check_ok _ 3 10 _ h r e4 in let h4 = number_sound 2 l3 n l4 h3.after q4 in
    and_then_ok (read_number 2 l4) _ h r f4 (λ d l5 q5 e5. let (c5, f5) = check_ok _ 3 12 _ h r e5 in let h5 = number_sound 2 l4 d l5 h4.after q5 in
    let (some, single) = count_is format n c4 in
    let few : n < 65536 = h4.fits in
    let least : 6 ≤ size = leb-true 6 size c2 in
    let fit : size ≤ length l2 = leb-true size (length l2) c6 in
    let big : size < 4294967296 = h2.fits in
    let x : List ℕ = take (size - 6) l5 in
    let s : x ++ drop (size - 6) l5 ≡ l5 = take-append-drop (size - 6) l5 in
    let both : Bytes (x ++ drop (size - 6) l5) = rw s h5.after in
    let long = six format n d l2 l3 l4 l5 h3.bytes h4.bytes h5.bytes in
    let many : length x ≡ size - 6 = length-take-le (size - 6) l5 (omega arith) in
    let sizes : size ≡ 6 + length x = omega arith in
    ok_same _ h (drop (size - 6) l5) r f5 (λ same rest.
    rw (← same, ← rest)
    (record {
      extra = x;
      lawful = record { format = leb-true format 2 c3; some = some; few = omega arith; single = single; division = division_is d c5 };
      small = omega arith;
      bytes = header_bytes f l1 l2 l3 l4 l5 x (drop (size - 6) l5) tag size format n d h1.bytes (eqb-true tag header_tag c1) h2.bytes sizes h3.bytes h4.bytes h5.bytes (sym s) (bits_back d h5.fits);
      inside = bytes_left x (drop (size - 6) l5) both;
      after = bytes_right x (drop (size - 6) l5) both;
    })))))))

-- ---- the whole file

pub piece_read_lem : (p : Piece) (s : PieceSpelling) → HasLayout p s → read_piece (lay_piece p s) ≡ ok p []
unfolding read_piece lay_piece
piece_read_lem p s h =
    let l = h.lawful in
    let k = h.permitted in
    let head : Header = record { format = p.format; count = length p.tracks; division = p.division } in
    let good : LawfulHeader head = record { format = l.format; some = l.some; few = l.few; single = l.single; division = l.division } in
    and_then_eq _ (header_read head s.extra (lay_tracks p.tracks s.tracks ++ lay_chunks s.behind) good k.header)
    ∙ and_then_eq _ (tracks_read_lem _ p.tracks s.tracks (lay_chunks s.behind) l.tracks k.tracks h.short)
    ∙ and_then_eq _ (behind_read _ s.behind k.behind)

-- a lawful header, and as many lawful tracks as it counts
pub piece_lawful : (h : Header) (ts : List (List Event)) → LawfulHeader h → length ts ≡ h.count → LawfulTracks ts
    → LawfulPiece (record { format = h.format; division = h.division; tracks = ts })
piece_lawful h ts k count ls =
    record {
      format = k.format;
      some = omega (arith, k.some);
      few = omega (arith, k.few);
      single = λ z. count ∙ k.single z;
      division = k.division;
      tracks = ls;
    }

pub record PieceLaid (f : List ℕ) (p : Piece) (r : List ℕ) : Type 0 where
  pub laid : LaidOut f p
  pub all : [] ≡ r

piece_laid : (f l m q : List ℕ) (h : Header) (ts : List (List Event)) (cs : List Chunk) → HeaderLaid f h l → TracksLaid h.count l ts m → BehindLaid m cs q
    → LaidOut f (record { format = h.format; division = h.division; tracks = ts })
unfolding lay_piece
piece_laid f l m q h ts cs head laid behind =
    let count : length ts ≡ h.count = laid.count in
    let rest : l ≡ lay_tracks ts laid.spelling ++ lay_chunks cs = laid.bytes ∙ ap (λ z. lay_tracks ts laid.spelling ++ z) behind.bytes in
    record {
      spelling = record { extra = head.extra; tracks = laid.spelling; behind = cs };
      has =
          record {
            lawful = piece_lawful h ts head.lawful count laid.lawful;
            permitted = record { tracks = laid.permitted; extra = head.inside; header = head.small; behind = behind.passed };
            short = laid.short;
          };
      bytes = sym (head.bytes ∙ ap₂ (λ n t. lay_header h.format n h.division head.extra t) (sym count) rest);
    }

pub piece_sound : (f : List ℕ) (p : Piece) (r : List ℕ) → Bytes f → read_piece f ≡ ok p r → PieceLaid f p r
unfolding read_piece
piece_sound f p r bs e =
    and_then_ok (read_header f) _ p r e (λ h l q e1.
    let head = header_sound f h l bs q in
    and_then_ok (read_tracks h.count (length f - length l) l) _ p r e1 (λ ts m q6 e6.
    let laid = tracks_sound h.count _ l ts m head.after q6 in
    and_then_ok (read_behind (length f - length m) m) _ p r e6 (λ cs q q7 e7.
    let behind = behind_sound _ m cs q laid.after q7 in
    ok_same _ p q r e7 (λ same qr.
    rw (← same, ← qr) (record { laid = piece_laid f l m q h ts cs head laid behind; all = behind.all })))))

-- a file that is accepted: it was laid out, and is not too long
pub file_sound : (f : List ℕ) (p : Piece) (r : List ℕ) → Bytes f → read_file f ≡ ok p r → PieceLaid f p r × (length f ≤ file_limit)
unfolding read_file
file_sound f p r bs e = let (c, q) = check_ok _ 1 0 _ p r e in (piece_sound f p r bs q, leb-true (length f) file_limit c)
