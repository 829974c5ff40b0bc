-- A letter's four pieces: the version vector, the records, the head in front of them, and the CRC behind make the whole letter.
use Rattle.std.proofs.Common.{◌≡◌, ℕ, ◌+◌, ◌*◌, ◌<◌, ◌≤◌, List, [], ◌∷◌, ◌++◌, length, take, drop, Some, None, sym, refl, ap, ◌∙◌, append_assoc, arith, length-append, length-take, take-append-drop}
use Rattle.std.proofs.lemmas.List.{drop-append-le}
use lib.Seq.{paste}
use Rattle.ops.specs.Doc as doc
use Rattle.ops.specs.Doc.{flat}
use Rattle.messages.specs.Bytes.{four}
use Rattle.checksums.specs.Crc.{crc32_of}
use Rattle.messages.specs.Records.{record_bytes}
use Rattle.messages.specs.Letter.{news, versions, vector_bytes, body_of, sealed, letter_of, letter_for, filled, Wrote}
use Rattle.messages.proofs.Fills.{take-filled, fill_more, fill_behind, fill_front, length_vector}
use Rattle.messages.proofs.News.{length-flat}

length_body : (from for : ℕ) (v : ℕ → ℕ) (ops : List doc.Op) → length (body_of from for v ops) ≡ 132 + length ops * 16
unfolding body_of
length_body from for v ops =
    let a = length-append (vector_bytes 32 v) (flat record_bytes ops) in
    let b = length_vector 32 v in
    let c = length-flat ops in
    omega arith

-- the head, the version vector and the records
body_filled : (from for count : ℕ) (v : ℕ → ℕ) (ops : List doc.Op) (out mid last whole : List ℕ) → 4096 ≤ length out → mid ≡ filled (take 4 out ++ vector_bytes 32 v) out →
    count ≡ length ops → last ≡ filled (take 132 mid ++ flat record_bytes ops) mid → whole ≡ filled (1 ∷ from ∷ for ∷ count ∷ []) last → whole ≡ filled (body_of from for v ops) out
unfolding body_of
body_filled from for count v ops out mid last whole h e f g i =
    let vs : List ℕ = vector_bytes 32 v in
    let rs : List ℕ = flat record_bytes ops in
    let a = length-take 4 out in
    let b = length-append (take 4 out) vs in
    let c = length_vector 32 v in
    let p : last ≡ filled ((take 4 out ++ vs) ++ rs) out = fill_behind (take 4 out ++ vs) rs out mid last 132 (omega arith) e g in
    let q : last ≡ filled (take 4 out ++ (vs ++ rs)) out = p ∙ ap (λ (bs : List ℕ). filled bs out) (append_assoc (take 4 out) vs rs) in
    fill_front (1 ∷ from ∷ for ∷ count ∷ []) (vs ++ rs) out last whole 4 refl (omega arith) q i
    ∙ ap (λ (n : ℕ). filled (1 ∷ from ∷ for ∷ n ∷ (vs ++ rs)) out) f

sealed-filled : (bs out whole done : List ℕ) (n : ℕ) → n ≡ length bs → whole ≡ filled bs out → done ≡ paste whole n (four (crc32_of (take n whole))) 4 → done ≡ filled (sealed bs) out
unfolding sealed
sealed-filled bs out whole done n l e f =
    let t : take n whole ≡ bs = ap (take n) e ∙ take-filled bs out n (sym l) in
    f ∙ ap (λ (xs : List ℕ). paste whole n (four (crc32_of xs)) 4) t ∙ ap (λ (xs : List ℕ). paste xs n (four (crc32_of bs)) 4) e ∙ fill_more bs (four (crc32_of bs)) out 4 n l refl

length-sealed : (bs : List ℕ) → length (sealed bs) ≡ length bs + 4
unfolding sealed
length-sealed bs = length-append bs (four (crc32_of bs))

pub wrote_letter : (m out mid last whole done : List ℕ) (from for count n : ℕ) → 4096 ≤ length out → mid ≡ filled (take 4 out ++ vector_bytes 32 (versions m)) out →
    count ≡ length (news m for) → last ≡ filled (take 132 mid ++ flat record_bytes (news m for)) mid → whole ≡ filled (1 ∷ from ∷ for ∷ count ∷ []) last →
    n ≡ 132 + count * 16 → done ≡ paste whole n (four (crc32_of (take n whole))) 4 → Wrote (letter_for m from for) (Some (n + 4)) out done
unfolding Wrote letter_for letter_of
wrote_letter m out mid last whole done from for count n h e f g i j k =
    let bs : List ℕ = body_of from for (versions m) (news m for) in
    let l = length_body from for (versions m) (news m for) in
    let s = length-sealed bs in
    let b : n ≡ length bs = omega arith in
    (h, omega arith, sealed-filled bs out whole done n b (body_filled from for count (versions m) (news m for) out mid last whole h e f g i) k)

pub front_long : (out front : List ℕ) → 4096 ≤ length out → front ≡ take 4096 out → 4096 ≤ length front
front_long out front h e = rw e (omega (arith, length-take 4096 out))

-- a letter that was written into the first 4,096 bytes of a longer buffer
pub wrote_within : (bs out front done : List ℕ) (n : ℕ) → 4096 ≤ length out → front ≡ take 4096 out → n ≤ 4096 → Wrote bs (Some n) front done → Wrote bs (Some n) out (done ++ drop 4096 out)
unfolding Wrote
wrote_within bs out front done n h e k w =
    let l = length-take 4096 out in
    let a : drop (length bs) front ++ drop 4096 out ≡ drop (length bs) out =
    rw e (sym (drop-append-le (length bs) (take 4096 out) (drop 4096 out) (omega (arith, w.1))) ∙ ap (drop (length bs)) (take-append-drop 4096 out)) in
    (h, w.1, ap (λ (xs : List ℕ). xs ++ drop 4096 out) w.2 ∙ append_assoc bs (drop (length bs) front) (drop 4096 out) ∙ ap (λ (xs : List ℕ). bs ++ xs) a)

pub wrote_nothing : (bs out : List ℕ) → length out < 4096 → Wrote bs None out out
unfolding Wrote
wrote_nothing bs out h = (h, refl)
