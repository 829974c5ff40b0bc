-- Bytes written from the start of a buffer on, piece by piece: `filled` grows at its end.
use Rattle.std.proofs.Common.{◌≡◌, ℕ, zero, suc, ◌+◌, ◌-◌, ◌*◌, ◌≤◌, List, ◌++◌, length, take, drop, sym, refl, ap, ◌∙◌, append_assoc, append-nil, add-one, arith, length-append, take-append-drop, length-take, take_all, drop-drop, take_at, drop_at}
use lib.Seq.{paste, drop-append-add}
use borrow.Rule.Slice.PartMut.{put_mid}
use Rattle.std.proofs.lemmas.Slice.{put_mid-paste}
use Rattle.messages.specs.Bytes.{four}
use Rattle.messages.specs.Letter.{vector_bytes, filled}

-- a copy into a part
pub put_part : (at e n : ℕ) (out part bytes now : List ℕ) → part ≡ bytes → bytes ≡ now → n ≡ e - at → n ≡ length now → put_mid at (e - at) out part ≡ paste out at now n
put_part at e n out part bytes now f g h i = put_mid-paste at (e - at) out part now n (f ∙ g) h i

pub length_front : (out : List ℕ) (n : ℕ) → n ≤ length out → length (take n out) ≡ n
length_front out n h = rw length-take (omega arith)

-- behind what is filled, the buffer is as it was
past_filled : (bs out : List ℕ) (n : ℕ) → drop (length bs + n) (filled bs out) ≡ drop (length bs + n) out
past_filled bs out n = drop-append-add bs (drop (length bs) out) n ∙ drop-drop n (length bs) out

pub take-filled : (bs out : List ℕ) (n : ℕ) → length bs ≡ n → take n (filled bs out) ≡ bs
take-filled bs out n e = take_at bs (drop (length bs) out) n e

-- a piece more
pub fill_more : (bs vs out : List ℕ) (n at : ℕ) → at ≡ length bs → n ≡ length vs → paste (filled bs out) at vs n ≡ filled (bs ++ vs) out
fill_more bs vs out n at e f =
    let a : take (length bs) (filled bs out) ≡ bs = take-filled bs out (length bs) refl in
    let b : take (length vs) vs ≡ vs = take_all (length vs) vs (omega arith) in
    let c : drop (length bs + length vs) (filled bs out) ≡ drop (length bs + length vs) out = past_filled bs out (length vs) in
    rw (e, f, a, b, c) (rw length-append)

-- a piece that was written behind what is there
pub fill_behind : (as₁ bs out mid last : List ℕ) (n : ℕ) → length as₁ ≡ n → mid ≡ filled as₁ out → last ≡ filled (take n mid ++ bs) mid → last ≡ filled (as₁ ++ bs) out
fill_behind as₁ bs out mid last n l e f =
    let a : take n mid ≡ as₁ = rw e (take-filled as₁ out n l) in
    let b : drop (length as₁ + length bs) mid ≡ drop (length as₁ + length bs) out = rw e (past_filled as₁ out (length bs)) in
    f ∙ rw (a, length-append, b)

-- and one that was written in front of it
pub fill_front : (hs bs out mid last : List ℕ) (n : ℕ) → length hs ≡ n → n ≤ length out → mid ≡ filled (take n out ++ bs) out → last ≡ filled hs mid → last ≡ filled (hs ++ bs) out
fill_front hs bs out mid last n l h e f =
    let t = length_front out n h in
    let a : drop n ((take n out ++ bs) ++ drop (length (take n out ++ bs)) out) ≡ bs ++ drop (length (take n out ++ bs)) out =
    rw append_assoc (drop_at (take n out) (bs ++ drop (length (take n out ++ bs)) out) n t) in
    let b : length (take n out ++ bs) ≡ length (hs ++ bs) = rw (length-append, length-append) (omega arith) in
    f ∙ ap (λ (k : ℕ). hs ++ drop k mid) l ∙ ap (λ (xs : List ℕ). hs ++ drop n xs) e ∙ ap (λ (xs : List ℕ). hs ++ xs) a
    ∙ ap (λ (k : ℕ). hs ++ (bs ++ drop k out)) b ∙ sym (append_assoc hs bs (drop (length (hs ++ bs)) out))

-- nothing is written yet
pub fill_none : (out : List ℕ) (n : ℕ) → n ≤ length out → out ≡ filled (take n out) out
fill_none out n h = sym (ap (λ (k : ℕ). take n out ++ drop k out) (length_front out n h) ∙ take-append-drop n out)

-- a version vector, one desk further
pub vector_none : (out : List ℕ) (n : ℕ) (v : ℕ → ℕ) → n ≤ length out → out ≡ filled (take n out ++ vector_bytes 0 v) out
unfolding vector_bytes
vector_none out n v h = fill_none out n h ∙ ap (λ (bs : List ℕ). filled bs out) (sym (append-nil (take n out)))

pub length_vector : (d : ℕ) (v : ℕ → ℕ) → length (vector_bytes d v) ≡ d * 4
unfolding vector_bytes
length_vector zero v = refl
length_vector (suc d) v = length-append (vector_bytes d v) (four (v d)) ∙ (rw (length_vector d v) (omega arith))

pub vector_more : (out now : List ℕ) (v : ℕ → ℕ) (d at n : ℕ) → at ≤ length out → now ≡ filled (take at out ++ vector_bytes d v) out → n ≡ v d →
    paste now (at + d * 4) (four n) 4 ≡ filled (take at out ++ vector_bytes (d + 1) v) out
unfolding vector_bytes
vector_more out now v d at n h e f =
    let bs : List ℕ = take at out ++ vector_bytes d v in
    let q : at + d * 4 ≡ length bs = rw (length-append, length_vector d v, length_front out at h) in
    rw (add-one, e, f) (fill_more bs (four (v d)) out 4 (at + d * 4) q refl ∙ ap (λ (xs : List ℕ). filled xs out) (append_assoc (take at out) (vector_bytes d v) (four (v d))))
