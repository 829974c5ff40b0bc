-- What is encoded is decoded: of any letter that a desk writes, its addressee reads the same operations and the same version vector, and nobody else takes it.
use Rattle.std.specs.Prelude.{◌≡◌, ℕ, ◌+◌, ◌*◌, ◌<◌, ◌≤◌, true, List, length, nat_lt}
use Rattle.ops.specs.Doc as doc
use Rattle.ops.specs.Doc.{every}
use Rattle.ops.proofs.Members.{In}
use Rattle.messages.specs.Bytes.{byte, number_at}
use Rattle.messages.specs.Records.{records, SmallOp}
use Rattle.messages.specs.Letter.{most_records, letter_of, is_letter}

pub record Decoded (from for : ℕ) (v : ℕ → ℕ) (ops : List doc.Op) (bs : List ℕ) : Type 0 where
  pub accepted : is_letter from for bs ≡ true
  pub operations : records (byte bs 3) bs ≡ ops
  pub vector : (d : ℕ) → d < 32 → number_at bs (4 + d * 4) ≡ v d
  pub long : length bs ≡ 136 + length ops * 16
  pub bytes : every (λ b. nat_lt b 256) bs ≡ true

abbrev pub RoundTrip : Type 0
RoundTrip =
    (from for : ℕ) (v : ℕ → ℕ) (ops : List doc.Op) → from < 32 → for < 32 → length ops ≤ most_records → ((d : ℕ) → d < 32 → v d < 4294967296) →
    ((o : doc.Op) → In o ops → SmallOp o) →
    Decoded from for v ops (letter_of from for v ops)

-- the desks that a letter names are the only ones between which it is a letter
abbrev pub OnlyFor : Type 0
OnlyFor =
    (from for : ℕ) (v : ℕ → ℕ) (ops : List doc.Op) → from < 32 → for < 32 → length ops ≤ most_records → ((d : ℕ) → d < 32 → v d < 4294967296) →
    ((o : doc.Op) → In o ops → SmallOp o) →
    (from₁ for₁ : ℕ) → is_letter from₁ for₁ (letter_of from for v ops) ≡ true → (from₁ ≡ from) × (for₁ ≡ for)
