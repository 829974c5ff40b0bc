-- A letter is its head, the version vector, the records and the CRC, one after the other: so each is read again where it was written.
use Rattle.std.proofs.Common.{◌≡◌, ℕ, ◌+◌, ◌-◌, ◌*◌, ◌<◌, ◌≤◌, Bool, true, ◌&&◌, eqb, ltb, List, [], ◌∷◌, ◌++◌, length, take, sym, refl, ap, ◌∙◌, ap₂, append_assoc, arith, length-append, take_at}
use lib.Seq.{take-length}
use Rattle.std.proofs.lemmas.Bool.{and_parts, and_from, eqb-true, eq-eqb}
use Rattle.ops.specs.Doc as doc
use Rattle.ops.specs.Doc.{every, flat}
use Rattle.ops.proofs.Members.{In}
use Rattle.messages.specs.Bytes.{four, byte, number_at}
use Rattle.checksums.specs.Crc.{crc32_of}
use Rattle.messages.specs.Records.{record_bytes, records, are_records, SmallOp}
use Rattle.messages.specs.Letter.{most_records, vector_bytes, body_of, sealed, letter_of, is_sealed, is_letter}
use Rattle.messages.specs.RoundTrip.{RoundTrip, OnlyFor}
use Rattle.checksums.proofs.CrcSize.{crc_small}
use Rattle.messages.proofs.RoundTripBytes.{number-there, length_vector, vector_there}
use Rattle.messages.proofs.RoundTripRecords.{length-records, records-there, are_records-there}
use Rattle.messages.proofs.RoundTripSmall.{bytes_none, bytes_cons, bytes_append, bytes_four, bytes_vector, bytes_records}

-- THE SEAL
length-sealed : (bs : List ℕ) → length (sealed bs) ≡ length bs + 4
unfolding sealed
length-sealed bs = length-append bs (four (crc32_of bs))

sealed-number : (bs : List ℕ) (p : ℕ) → length bs ≡ p → number_at (sealed bs) p ≡ crc32_of bs
unfolding sealed
sealed-number bs p e = number-there bs (crc32_of bs) [] p e (crc_small bs)

sealed-front : (bs : List ℕ) (p : ℕ) → length bs ≡ p → take p (sealed bs) ≡ bs
unfolding sealed
sealed-front bs p e = take_at bs (four (crc32_of bs)) p e

sealed-is_sealed : (bs : List ℕ) → is_sealed (sealed bs) ≡ true
unfolding is_sealed
sealed-is_sealed bs =
    let e : length bs ≡ length (sealed bs) - 4 = omega (arith, length-sealed bs) in
    eq-eqb _ _ (sealed-number bs _ e ∙ ap crc32_of (sym (sealed-front bs _ e)))

-- THE PARTS, ONE AFTER THE OTHER
module _ (from for : ℕ) (v : ℕ → ℕ) (ops : List doc.Op) where
  head : List ℕ
  head = 1 ∷ from ∷ for ∷ length ops ∷ []

  seal : List ℕ
  seal = four (crc32_of (body_of from for v ops))

  body_parts : body_of from for v ops ≡ head ++ (vector_bytes 32 v ++ flat record_bytes ops)
  unfolding body_of head
  body_parts = refl

  letter_parts : letter_of from for v ops ≡ head ++ (vector_bytes 32 v ++ (flat record_bytes ops ++ seal))
  unfolding letter_of sealed seal
  letter_parts = ap (λ (bs : List ℕ). bs ++ four (crc32_of (body_of from for v ops))) body_parts ∙ simp append_assoc

  front : List ℕ
  front = head ++ vector_bytes 32 v

  letter-records : letter_of from for v ops ≡ front ++ (flat record_bytes ops ++ seal)
  unfolding front
  letter-records = letter_parts ∙ sym (append_assoc head (vector_bytes 32 v) (flat record_bytes ops ++ seal))

  length_head : length head ≡ 4
  unfolding head
  length_head = refl

  length_front : length front ≡ 132
  unfolding front
  length_front = length-append head (vector_bytes 32 v) ∙ ap₂ ◌+◌ length_head (length_vector 32 v)

  length_seal : length seal ≡ 4
  unfolding seal
  length_seal = refl

  pub length-letter : length (letter_of from for v ops) ≡ 136 + length ops * 16
  length-letter =
      ap length letter-records ∙ length-append front (flat record_bytes ops ++ seal)
      ∙ ap₂ ◌+◌ length_front (length-append (flat record_bytes ops) seal ∙ ap₂ ◌+◌ (length-records ops) length_seal)
      ∙ omega arith

  byte_0 : byte (letter_of from for v ops) 0 ≡ 1
  unfolding letter_of sealed body_of
  byte_0 = refl

  byte_1 : from < 32 → byte (letter_of from for v ops) 1 ≡ from
  unfolding letter_of sealed body_of
  byte_1 h = omega arith

  byte_2 : for < 32 → byte (letter_of from for v ops) 2 ≡ for
  unfolding letter_of sealed body_of
  byte_2 h = omega arith

  byte_3 : length ops ≤ most_records → byte (letter_of from for v ops) 3 ≡ length ops
  unfolding letter_of sealed body_of
  byte_3 h = omega arith

  entries : ((d : ℕ) → d < 32 → v d < 4294967296) → (d : ℕ) → d < 32 → number_at (letter_of from for v ops) (4 + d * 4) ≡ v d
  entries small d h =
      ap (λ (bs : List ℕ). number_at bs (4 + d * 4)) letter_parts ∙ vector_there 32 v head (flat record_bytes ops ++ seal) 4 d length_head h small

  pub all_bytes-letter : from < 32 → for < 32 → length ops ≤ most_records → every (λ b. ltb b 256) (letter_of from for v ops) ≡ true
  unfolding head seal
  all_bytes-letter hf ht hl =
      ap (every (λ b. ltb b 256)) letter_parts
      ∙ bytes_cons 1 _ (omega arith)
      (bytes_cons from _ (omega arith)
      (bytes_cons for _ (omega arith)
      (bytes_cons (length ops) _ (omega arith)
      (bytes_append (vector_bytes 32 v) _ (bytes_vector 32 v) (bytes_append (flat record_bytes ops) _ (bytes_records ops) (bytes_four _ [] bytes_none))))))

  records-letter : ((o : doc.Op) → In o ops → SmallOp o) → records (length ops) (letter_of from for v ops) ≡ ops
  records-letter small =
      ap (records (length ops)) letter-records ∙ records-there ops front seal length_front small (length ops) (omega arith) ∙ take-length ops

  are_records-letter : ((o : doc.Op) → In o ops → SmallOp o) → are_records (length ops) (letter_of from for v ops) ≡ true
  are_records-letter small =
      ap (are_records (length ops)) letter-records ∙ are_records-there ops front seal length_front small (length ops) (omega arith)

  is_sealed-letter : is_sealed (letter_of from for v ops) ≡ true
  unfolding letter_of
  is_sealed-letter = sealed-is_sealed (body_of from for v ops)

-- what a letter is, over its bytes
is_letter_from : (from for n : ℕ) (bs : List ℕ) → byte bs 3 ≡ n → length bs ≡ 136 + n * 16 → byte bs 0 ≡ 1 → byte bs 1 ≡ from → byte bs 2 ≡ for →
    are_records n bs ≡ true → is_sealed bs ≡ true → is_letter from for bs ≡ true
unfolding is_letter
is_letter_from from for n bs k l v f t r s =
    and_from _ _ (eq-eqb _ _ (l ∙ ap (λ (m : ℕ). 136 + m * 16) (sym k)))
    (and_from _ _ (eq-eqb _ _ v) (and_from _ _ (eq-eqb _ _ f) (and_from _ _ (eq-eqb _ _ t) (and_from _ _ (ap (λ (m : ℕ). are_records m bs) k ∙ r) s))))

letter-names : (from for : ℕ) (bs : List ℕ) → is_letter from for bs ≡ true → (byte bs 1 ≡ from) × (byte bs 2 ≡ for)
unfolding is_letter
letter-names from for bs h =
    let names : Bool = eqb (byte bs 1) from && (eqb (byte bs 2) for && (are_records (byte bs 3) bs && is_sealed bs)) in
    let a = and_parts (eqb (length bs) (136 + byte bs 3 * 16)) (eqb (byte bs 0) 1 && names) h in
    let b = and_parts (eqb (byte bs 0) 1) names a.1 in
    let c = and_parts (eqb (byte bs 1) from) (eqb (byte bs 2) for && (are_records (byte bs 3) bs && is_sealed bs)) b.1 in
    let d = and_parts (eqb (byte bs 2) for) (are_records (byte bs 3) bs && is_sealed bs) c.1 in
    (eqb-true (byte bs 1) from c.0, eqb-true (byte bs 2) for d.0)

pub decoded : RoundTrip
decoded from for v ops hf ht hl hv ho =
    let n = byte_3 from for v ops hl in
    record {
      accepted =
          is_letter_from from for (length ops) _ n (length-letter from for v ops) (byte_0 from for v ops) (byte_1 from for v ops hf) (byte_2 from for v ops ht)
          (are_records-letter from for v ops ho) (is_sealed-letter from for v ops);
      operations = ap (λ (k : ℕ). records k (letter_of from for v ops)) n ∙ records-letter from for v ops ho;
      vector = entries from for v ops hv;
      long = length-letter from for v ops;
      bytes = all_bytes-letter from for v ops hf ht hl;
    }

pub only_for : OnlyFor
only_for from for v ops hf ht hl hv ho from₁ for₁ h =
    let s = letter-names from₁ for₁ (letter_of from for v ops) h in
    (sym s.0 ∙ byte_1 from for v ops hf, sym s.1 ∙ byte_2 from for v ops ht)
