-- A track's chunk, a track, and all the tracks, as the code reads them.
use Rattle.event.proofs.PassedLaws.{ok_is, err_is}
use Rattle.smf.proofs.ToldLaws.{same_refusal}
use Rattle.smf.specs.declared.Chunk.{Chunk}
use Rattle.smf.specs.declared.Walked.{Walked}
use Rattle.smf.specs.declared.TrackRead.{TrackRead}
use Rattle.std.specs.Prelude.{Result, Ok, Err}
use Rattle.smf.specs.declared.Chunk.{Chunk}
use Rattle.smf.specs.declared.TrackRead.{TrackRead}
use mathlib.Core.Path.{◌≡◌, refl, sym, ap, ap₂, ◌∙◌}
use Prim.Native.Nat.{ℕ, zero, suc, ◌+◌, ◌-◌, ◌<◌, ◌≤◌}
use mathlib.Core.Bool.{true}
use mathlib.Core.List.{List, ◌∷◌, ◌++◌, append_assoc}
use native.Mathlib.Omega.{arith}
use lib.ListN.{length, take, drop, length-drop, length-append}
use lib.Seq.{take-append_seam, drop-drop}
use lib.Dec.{leb, eqb}
use borrow.Author.Tests.{leb-true, leb-false, le-leb, lt-leb, eq-eqb, ne_eqb}
use Rattle.event.specs.Bytes.{Bytes, big_endian}
use Rattle.event.specs.Choice.{pick}
use Rattle.event.specs.Event.{Event}
use Rattle.event.specs.Frame.{no_status}
use Rattle.event.specs.Outcome.{Outcome, ok, refused, and_then, check, value_or}
use Rattle.event.specs.Reader.{read_number}
use Rattle.event.specs.declared.Time.{Time}
use Rattle.event.proofs.ChoiceLaws.{by_test}
use Rattle.event.proofs.OutcomeLaws.{and_then_same, check_eq}
use Rattle.event.proofs.BytesLaws.{bytes_drop, length_big_endian, size_at}
use Rattle.event.proofs.PlaceLaws.{place, place_back}
use Rattle.smf.specs.Chunk.{track_tag}
use Rattle.smf.specs.Layout.{lay_chunk, lay_chunks, lay_track}
use Rattle.smf.specs.Reader.{read_all, read_head, find_track, read_chunk, read_track, read_tracks}
use Rattle.smf.specs.Padding.{all_padding, track_padding}
use Rattle.smf.specs.Step.{chunk_step, last_time, walk_step, track_step, tracks_step}
use Rattle.smf.proofs.PassedLaws.{head_sound, ChunkLaid, chunk_sound}
use Rattle.smf.proofs.FileLaws.{track_sound}
use Rattle.smf.proofs.RefusalLaws.{head_size, track_size}
use Rattle.smf.proofs.HeaderLaws.{N, number_there}

-- ---- a chunk

abbrev C : List ℕ → ℕ → Result Chunk (ℕ × ℕ)
C s at = chunk_step (length s) (read_chunk at (drop at s))

-- ---- the count of find_track never shows: any that is large enough gives the same

pub find_fuel : (n m at : ℕ) (l : List ℕ) → Bytes l → length l < n → length l < m → find_track n at l ≡ find_track m at l
unfolding find_track
find_fuel zero m at l bs hn hm = absurd (omega arith)
find_fuel (suc n) zero at l bs hn hm = absurd (omega arith)
find_fuel (suc n) (suc m) at l bs hn hm =
    and_then_same (read_head at l) _ _ (λ h r q.
    let laid = head_sound at l h r bs q in
    let size = head_size l h r laid in
    let fewer : length (drop h.size r) < length l = simp length-drop (omega arith) in
    let rest = find_fuel n m (at + 8 + h.size) (drop h.size r) (bytes_drop r h.size laid.after) (omega arith) (omega arith) in
    ap (λ z. check (leb h.size (length r)) 2 at (pick (eqb h.tag track_tag) (ok (take h.size r) (drop h.size r)) z)) rest)

pub chunk_short : (s : List ℕ) (at : ℕ) → length s < at + 8 → Err (2, at) ≡ C s at
unfolding read_chunk find_track read_head check and_then chunk_step
chunk_short s at h =
    let few : length (drop at s) < 8 = simp length-drop (omega arith) in
    rw (lt-leb 8 (length (drop at s)) few)

module _ (s : List ℕ) (at : ℕ) (h : at + 8 ≤ length s) where
  pub head_there : read_head at (drop at s) ≡ ok (record { tag = N s 4 at; size = N s 4 (at + 4) }) (drop (at + 8) s)
  unfolding read_head and_then
  head_there =
      let fit : 8 ≤ length (drop at s) = simp length-drop (omega arith) in
      let e : at + 4 + 4 ≡ at + 8 = omega arith in
      let q0 = number_there s 4 at (omega arith) in
      let q1 : read_number 4 (drop (at + 4) s) ≡ ok (N s 4 (at + 4)) (drop (at + 8) s) = number_there s 4 (at + 4) (omega arith) ∙ ap (λ k. ok (N s 4 (at + 4)) (drop k s)) e in
      check_eq 2 at _ (le-leb 8 (length (drop at s)) fit) ∙ simp (q0, q1)

  module _ (tag : ℕ) (et : tag ≡ N s 4 at) (n : ℕ) (en : n ≡ N s 4 (at + 4)) where
    chunk_chain : read_chunk at (drop at s)
        ≡ check (leb n (length (drop (at + 8) s))) 2 at
        (pick (eqb tag track_tag) (ok (take n (drop (at + 8) s)) (drop n (drop (at + 8) s))) (find_track (length (drop at s)) (at + 8 + n) (drop n (drop (at + 8) s))))
    unfolding read_chunk find_track and_then
    chunk_chain = rw (et, en) (simp head_there)

    pub chunk_long : length s - (at + 8) < n → Err (2, at) ≡ C s at
    unfolding check chunk_step
    chunk_long o =
        let few : length (drop (at + 8) s) < n = simp length-drop o in
        simp (chunk_chain, lt-leb n (length (drop (at + 8) s)) few)

    module _ (o : at + 8 + n ≤ length s) where
      fit : leb n (length (drop (at + 8) s)) ≡ true
      fit = let h : n ≤ length (drop (at + 8) s) = simp length-drop (omega arith) in le-leb n (length (drop (at + 8) s)) h

      pub chunk_fine : tag ≡ track_tag → Ok (record { start = (at + 8); end = (at + 8 + n) }) ≡ C s at
      unfolding check chunk_step pick
      chunk_fine right =
          let back : at + 8 + n - n ≡ at + 8 = omega arith in
          simp (chunk_chain, fit, eq-eqb tag track_tag right, drop-drop n (at + 8) s, place_back s (at + 8 + n) o, size_at s (at + 8) n o, back)

      -- a chunk with another tag: on with the next one
      pub chunk_pass : Bytes s → (tag ≡ track_tag → ⊥) → C s at ≡ C s (at + 8 + n)
      unfolding check chunk_step pick read_chunk
      chunk_pass bs wrong =
          let few : length (drop (at + 8 + n) s) < length (drop at s) = simp length-drop (omega arith) in
          let same = find_fuel (length (drop at s)) (suc (length (drop (at + 8 + n) s))) (at + 8 + n) (drop (at + 8 + n) s) (bytes_drop s (at + 8 + n) bs) few (omega arith) in
          let on : read_chunk at (drop at s) ≡ find_track (suc (length (drop (at + 8 + n) s))) (at + 8 + n) (drop (at + 8 + n) s) = chunk_chain ∙ simp (fit, ne_eqb tag track_tag wrong, drop-drop n (at + 8) s) same in
          ap (chunk_step (length s)) on

pub chunk_bad : (n k p : ℕ) (m : Outcome (List ℕ)) → chunk_step n m ≡ Err (k, p) → m ≡ refused k p
unfolding chunk_step
chunk_bad n k p (ok b r) e = let w : ◌≡◌ {A = ℕ} 0 1 = cc in absurd (omega arith)
chunk_bad n k p (refused j z) e = same_refusal j z k p e

-- the body that lies between two places of the file
pub record BodyAt (s : List ℕ) (at a b : ℕ) : Type 0 where
  pub read : read_chunk at (drop at s) ≡ ok (take (b - a) (drop a s)) (drop b s)
  pub begins : at + 8 ≤ a
  pub start : at + (length (drop at s) - length (drop b s) - length (take (b - a) (drop a s))) ≡ a
  pub order : a ≤ b
  pub inside : b ≤ length s
  pub short : b - a ≤ 4294967295

-- where the body begins, in plain numbers
starts : (at n d c b r a : ℕ) → d ≡ c + 8 + (b + r) → d ≡ n - at → at ≤ n → n - r - b ≡ a → at + (d - r - b) ≡ a
starts at n d c b r a e f h g = let x : d - r - b ≡ c + 8 = omega (arith, e) in let y : n ≡ at + (c + 8 + (b + r)) = omega (arith, e, f, h) in omega (arith, x, y, g)

body_at : (s : List ℕ) (at a b : ℕ) (body r : List ℕ) → read_chunk at (drop at s) ≡ ok body r → ChunkLaid (drop at s) body r → at ≤ length s
    → length s - length r - length body ≡ a → length s - length r ≡ b → BodyAt s at a b
unfolding lay_chunk
body_at s at a b body r come laid h ea eb =
    let cs : List ℕ = lay_chunks laid.before in
    let pair : List ℕ = big_endian 4 track_tag ++ big_endian 4 (length body) in
    let head : List ℕ = cs ++ pair in
    let split : cs ++ (big_endian 4 track_tag ++ (big_endian 4 (length body) ++ body) ++ r) ≡ head ++ (body ++ r) = simp append_assoc in
    let whole : drop at s ≡ head ++ (body ++ r) = laid.bytes ∙ split in
    let two : length pair ≡ 8 = simp (length-append, length_big_endian) in
    let heads : length head ≡ length cs + 8 = length-append cs pair ∙ ap (λ z. length cs + z) two in
    let both : length (body ++ r) ≡ length body + length r = length-append body r in
    let all : length (head ++ (body ++ r)) ≡ length head + length (body ++ r) = length-append head (body ++ r) in
    let dropped = length-drop at s in
    let size : length (drop at s) ≡ length cs + 8 + (length body + length r) = ap length whole ∙ omega arith in
    let rest : drop b s ≡ r = ap (λ k. drop k s) (sym eb) ∙ place s (head ++ body) r at (whole ∙ sym (append_assoc head body r)) in
    let from : a ≡ length s - length (body ++ r) = omega arith in
    let inner : drop a s ≡ body ++ r = ap (λ k. drop k s) from ∙ place s head (body ++ r) at whole in
    let count : b - a ≡ length body = omega arith in
    let got : take (b - a) (drop a s) ≡ body = ap₂ take count inner ∙ take-append_seam body r in
    record {
      read = come ∙ ap₂ ok (sym got) (sym rest);
      begins = omega arith;
      start = rw (got, rest) (starts at (length s) (length (drop at s)) (length cs) (length body) (length r) a size dropped h ea);
      order = omega arith;
      inside = omega arith;
      short = omega (arith, laid.short);
    }

-- a place past the end holds no chunk
chunk_there : (s : List ℕ) (at a b : ℕ) → C s at ≡ Ok (record { start = a; end = b }) → at ≤ length s
chunk_there s at a b e = by_test (leb at (length s)) (λ t. leb-true at (length s) t) (λ t. let h = leb-false at (length s) t in let z : ◌≡◌ {A = Result Chunk (ℕ × ℕ)} (Err (2, at)) (Ok (record { start = a; end = b })) = chunk_short s at (omega arith) ∙ e in let w : ◌≡◌ {A = ℕ} 0 1 = cc in absurd (omega arith))

body_came : (s : List ℕ) (at a b : ℕ) (m : Outcome (List ℕ)) → Bytes s → at ≤ length s → read_chunk at (drop at s) ≡ m → chunk_step (length s) m ≡ Ok (record { start = a; end = b }) → BodyAt s at a b
unfolding chunk_step
body_came s at a b (ok body r) bs h come e =
    let same = ok_is e in
    let ea : length s - length r - length body ≡ a = ap (λ (c : Chunk). c.start) same in
    let eb : length s - length r ≡ b = ap (λ (c : Chunk). c.end) same in
    body_at s at a b body r come (chunk_sound at (drop at s) body r (bytes_drop s at bs) come) h ea eb
body_came s at a b (refused k p) bs h come e = let w : ◌≡◌ {A = ℕ} 0 1 = cc in absurd (omega arith)

pub chunk_body : (s : List ℕ) (at a b : ℕ) → Bytes s → C s at ≡ Ok (record { start = a; end = b }) → BodyAt s at a b
chunk_body s at a b bs e = body_came s at a b _ bs (chunk_there s at a b e) refl e

-- ---- a track

abbrev T : List ℕ → ℕ → Result TrackRead (ℕ × ℕ)
T s at = track_step (length s) (track_padding at (drop at s)) (read_track at (drop at s))

pub track_bad_chunk : (s : List ℕ) (at k p : ℕ) → C s at ≡ Err (k, p) → Err (k, p) ≡ T s at
unfolding read_track and_then track_step
track_bad_chunk s at k p e = rw (chunk_bad (length s) k p _ e)

walk_fault : (n k p x z : ℕ) (m : Outcome (List Event)) (l : List ℕ) → walk_step 0 0 x m ≡ Err (k, p) → Err (k, p) ≡ track_step n z (and_then m (λ es r. ok es l))
unfolding walk_step track_step and_then
walk_fault n k p x y (ok es r) l e = let w : ◌≡◌ {A = ℕ} 0 1 = cc in absurd (omega arith)
walk_fault n k p x y (refused j z) l e = ap Err (sym (err_is e))

walk_whole : (n c x y : ℕ) (t : Time) (m : Outcome (List Event)) (l : List ℕ) → walk_step 0 0 x m ≡ Ok (record { time = t; events = c; padding = y }) → Ok (record { time = t; events = c; next = (n - length l); padding = y }) ≡ track_step n x (and_then m (λ es r. ok es l))
unfolding walk_step track_step and_then
walk_whole n c x y t (ok es r) l e =
    let same = ok_is e in
    let a : record { 0 = last_time 0 es } ≡ t = ap (λ (w : Walked). w.time) same in
    let b : 0 + length es ≡ c = ap (λ (w : Walked). w.events) same in
    let d : x ≡ y = ap (λ (w : Walked). w.padding) same in
    ap₂ (λ u v. Ok (record { time = u; events = v; next = (n - length l); padding = y })) (sym a) (omega arith) ∙ ap (λ z. Ok (record { time = record { 0 = last_time 0 es }; events = length es; next = n - length l; padding = z })) (sym d)
walk_whole n c x y t (refused j z) l e = let w : ◌≡◌ {A = ℕ} 0 1 = cc in absurd (omega arith)

module _ (s : List ℕ) (at a b : ℕ) (bs : Bytes s) (body : C s at ≡ Ok (record { start = a; end = b })) where
  walked : read_track at (drop at s) ≡ and_then (read_all a 0 no_status (take (b - a) (drop a s))) (λ es r. ok es (drop b s))
  unfolding read_track and_then
  walked = let there = chunk_body s at a b bs body in rw (there.read, there.start)

  pub track_fault : (x k p : ℕ) → Err (k, p) ≡ walk_step 0 0 x (read_all a 0 no_status (take (b - a) (drop a s))) → Err (k, p) ≡ T s at
  track_fault x k p e = rw walked (walk_fault (length s) k p x _ _ _ (sym e))

  body_padding : track_padding at (drop at s) ≡ all_padding 0 no_status (take (b - a) (drop a s))
  unfolding track_padding value_or and_then
  body_padding = let there = chunk_body s at a b bs body in rw there.read refl

  pub track_whole : (y : ℕ) (t : Time) (c : ℕ) → Ok (record { time = t; events = c; padding = y }) ≡ walk_step 0 0 (all_padding 0 no_status (take (b - a) (drop a s))) (read_all a 0 no_status (take (b - a) (drop a s))) → Ok (record { time = t; events = c; next = b; padding = y }) ≡ T s at
  track_whole y t c e =
      let there = chunk_body s at a b bs body in
      rw (walked, body_padding) (ap (λ z. Ok (record { time = t; events = c; next = z; padding = y })) (sym (place_back s b there.inside)) ∙ walk_whole (length s) c _ y t _ _ (sym e))

-- ---- the tracks

tracks_cons : (n : ℕ) (t : List Event) (k : Outcome (List (List Event))) → tracks_step n (and_then k (λ ts q. ok (t ∷ ts) q)) ≡ tracks_step n k
unfolding tracks_step and_then
tracks_cons n t (ok ts q) = refl
tracks_cons n t (refused k p) = refl

pub track_bad : (n x k p : ℕ) (m : Outcome (List Event)) → track_step n x m ≡ Err (k, p) → m ≡ refused k p
unfolding track_step
track_bad n x k p (ok es r) e = let w : ◌≡◌ {A = ℕ} 0 1 = cc in absurd (omega arith)
track_bad n x k p (refused j z) e = same_refusal j z k p e

-- the track that the code was given
track_came : {X : Type 0} (s : List ℕ) (at : ℕ) (t : Time) (c q x y : ℕ) (m : Outcome (List Event)) → Bytes s → at ≤ length s → read_track at (drop at s) ≡ m → track_step (length s) x m ≡ Ok (record { time = t; events = c; next = q; padding = y })
    → ((es : List Event) → read_track at (drop at s) ≡ ok es (drop q s) → at ≤ q → q ≤ length s → record { 0 = last_time 0 es } ≡ t → length es ≡ c → X) → X
unfolding track_step
track_came s at t c q x y (ok es r) bs h come e k =
    let laid = track_sound at (drop at s) es r (bytes_drop s at bs) come in
    let front : List ℕ = lay_chunks laid.spelling.before ++ lay_track es laid.spelling.events in
    let back : drop (length s - length r) s ≡ r = place s front r at (laid.bytes ∙ sym (append_assoc (lay_chunks laid.spelling.before) (lay_track es laid.spelling.events) r)) in
    let same = ok_is e in
    let pq : length s - length r ≡ q = ap (λ (w : TrackRead). w.next) same in
    let pt : record { 0 = last_time 0 es } ≡ t = ap (λ (w : TrackRead). w.time) same in
    let pc : length es ≡ c = ap (λ (w : TrackRead). w.events) same in
    let rest : r ≡ drop q s = cc in
    let size = track_size (drop at s) es r laid in
    k es (come ∙ ap (ok es) rest) (omega (arith, length-drop at s)) (omega arith) pt pc
track_came s at t c q x y (refused n z) bs h come e k = let w : ◌≡◌ {A = ℕ} 0 1 = cc in absurd (omega arith)

pub track_found : {X : Type 0} {y : ℕ} (s : List ℕ) (at : ℕ) (t : Time) (c q : ℕ) → Bytes s → at ≤ length s → T s at ≡ Ok (record { time = t; events = c; next = q; padding = y })
    → ((es : List Event) → read_track at (drop at s) ≡ ok es (drop q s) → at ≤ q → q ≤ length s → record { 0 = last_time 0 es } ≡ t → length es ≡ c → X) → X
track_found {X} {y} s at t c q bs h e k = track_came s at t c q _ y _ bs h refl e k

padding_of : (n x c q y : ℕ) (t : Time) (m : Outcome (List Event)) → track_step n x m ≡ Ok (record { time = t; events = c; next = q; padding = y }) → x ≡ y
unfolding track_step
padding_of n x c q y t (ok es r) e = ap (λ (w : TrackRead). w.padding) (ok_is e)
padding_of n x c q y t (refused k p) e = let w : ◌≡◌ {A = ℕ} 0 1 = cc in absurd (omega arith)

-- the sum that came with it
pub track_padding_lem : {t : Time} {c q y : ℕ} (s : List ℕ) (at : ℕ) → T s at ≡ Ok (record { time = t; events = c; next = q; padding = y }) → track_padding at (drop at s) ≡ y
track_padding_lem {t} {c} {q} {y} s at e = padding_of (length s) _ c q y t _ e

abbrev pub Tracks : List ℕ → ℕ → ℕ → Result ℕ (ℕ × ℕ)
Tracks s left at = tracks_step (length s) (read_tracks left at (drop at s))

pub tracks_none : (s : List ℕ) (left at : ℕ) → left ≤ 0 → at ≤ length s → Tracks s left at ≡ Ok at
unfolding read_tracks tracks_step
tracks_none s zero at z h = ap Ok (place_back s at h)
tracks_none s (suc n) at z h = absurd (omega arith)

pub tracks_bad : (s : List ℕ) (left at k p : ℕ) → 0 < left → T s at ≡ Err (k, p) → Tracks s left at ≡ Err (k, p)
unfolding read_tracks tracks_step and_then
tracks_bad s zero at k p z e = absurd (omega arith)
tracks_bad s (suc n) at k p z e = simp (track_bad (length s) _ k p (read_track at (drop at s)) e)

pub tracks_next : {y : ℕ} (s : List ℕ) (left at : ℕ) (t : Time) (c q : ℕ) → 0 < left → Bytes s → at ≤ length s → T s at ≡ Ok (record { time = t; events = c; next = q; padding = y })
    → (Tracks s left at ≡ Tracks s (left - 1) q) × (q ≤ length s)
unfolding read_tracks and_then
tracks_next s zero at t c q z bs h e = absurd (omega arith)
tracks_next s (suc n) at t c q z bs h e =
    track_found s at t c q bs h e (λ es come lo hi pt pc.
    let next : at + (length (drop at s) - length (drop q s)) ≡ q = simp length-drop (omega arith) in
    let one : suc n - 1 ≡ n = omega arith in
    (rw (come, next, one) (tracks_cons (length s) es (read_tracks n q (drop q s))), hi))
