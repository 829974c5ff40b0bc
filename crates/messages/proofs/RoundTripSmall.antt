-- All of a letter's numbers are bytes: the version vector's, the records' and the CRC's.
use Rattle.std.proofs.Common.{◌≡◌, ℕ, zero, suc, ◌/◌, ◌%◌, ◌<◌, Bool, true, ltb, List, [], ◌∷◌, ◌++◌, refl, arith}
use Rattle.std.proofs.lemmas.Bool.{and_parts, and_from, lt-ltb}
use Rattle.ops.specs.Doc as doc
use Rattle.ops.specs.Doc.{put_in, struck, under, added, every, flat}
use Rattle.messages.specs.Bytes.{four}
use Rattle.messages.specs.Records.{bytes_of, record_bytes}
use Rattle.messages.specs.Letter.{vector_bytes}

abbrev pub all_bytes : List ℕ → Bool
all_bytes bs = every (λ b. ltb b 256) bs

pub bytes_cons : (b : ℕ) (bs : List ℕ) → b < 256 → all_bytes bs ≡ true → all_bytes (b ∷ bs) ≡ true
unfolding every
bytes_cons b bs h k = and_from (ltb b 256) (all_bytes bs) (lt-ltb b 256 h) k

pub bytes_append : (as₁ bs : List ℕ) → all_bytes as₁ ≡ true → all_bytes bs ≡ true → all_bytes (as₁ ++ bs) ≡ true
unfolding every
bytes_append [] bs h k = k
bytes_append (a ∷ as₁) bs h k =
    let s = and_parts (ltb a 256) (all_bytes as₁) h in
    and_from (ltb a 256) (all_bytes (as₁ ++ bs)) s.0 (bytes_append as₁ bs s.1 k)

pub bytes_four : (n : ℕ) (bs : List ℕ) → all_bytes bs ≡ true → all_bytes (four n ++ bs) ≡ true
bytes_four n bs h =
    bytes_cons (n % 256) _ (omega arith)
    (bytes_cons (n / 256 % 256) _ (omega arith) (bytes_cons (n / 65536 % 256) _ (omega arith) (bytes_cons (n / 16777216 % 256) bs (omega arith) h)))

pub bytes_none : all_bytes [] ≡ true
unfolding every
bytes_none = refl

pub bytes_vector : (k : ℕ) (v : ℕ → ℕ) → all_bytes (vector_bytes k v) ≡ true
unfolding vector_bytes
bytes_vector zero v = bytes_none
bytes_vector (suc k) v = bytes_append (vector_bytes k v) (four (v k)) (bytes_vector k v) (bytes_four (v k) [] bytes_none)

bytes_parts : (n d k a x y : ℕ) → k < 256 → all_bytes (four n ++ (d % 256 ∷ k ∷ a % 256 ∷ 0 ∷ four x ++ four y)) ≡ true
bytes_parts n d k a x y h =
    bytes_four n _
    (bytes_cons (d % 256) _ (omega arith)
    (bytes_cons k _ h (bytes_cons (a % 256) _ (omega arith) (bytes_cons 0 _ (omega arith) (bytes_four x (four y) (bytes_four y [] bytes_none))))))

bytes_kind : (k : doc.Kind) (n d : ℕ) → all_bytes (bytes_of k n d) ≡ true
unfolding bytes_of
bytes_kind (put_in a c) n d = bytes_parts n d 0 a.who a.n c (omega arith)
bytes_kind (struck a) n d = bytes_parts n d 1 a.who a.n 0 (omega arith)
bytes_kind (under k v) n d = bytes_parts n d 2 0 k v (omega arith)
bytes_kind (added k v) n d = bytes_parts n d 3 0 k v (omega arith)

pub bytes_records : (ops : List doc.Op) → all_bytes (flat record_bytes ops) ≡ true
unfolding flat
bytes_records [] = bytes_none
bytes_records (o ∷ os) = bytes_append (record_bytes o) (flat record_bytes os) (bytes_kind o.kind o.name.n o.name.who) (bytes_records os)
