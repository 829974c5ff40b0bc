-- A letter (message) from one desk for another: version, sender, addressee, how many records, the sender's version vector, the records, and a CRC-32 of it all.
use Rattle.std.specs.Prelude.{◌≡◌, ℕ, zero, suc, ◌+◌, ◌-◌, ◌*◌, ◌<◌, ◌≤◌, max, Bool, ◌&&◌, List, [], ◌∷◌, ◌++◌, length, take, drop, Some, None, Option, ◌==◌, nat_lt, slice_set}
use Rattle.ops.specs.Doc as doc
use Rattle.ops.specs.Doc.{pick, flat}
use Rattle.ops.specs.Version.{newer_than}
use Rattle.ops.specs.Layout.{version_cell, heard_cell, low}
use Rattle.ops.specs.Log.{ops_of, appended}
use Rattle.messages.specs.Bytes.{four, byte, number_at}
use Rattle.checksums.specs.Crc.{crc32_of}
use Rattle.messages.specs.Records.{record_bytes, records, are_records}

-- WHAT IS SENT: of the log what the peer isn't known to know, in the log's order, as many as fit
abbrev pub most_records : ℕ
most_records = 247

abbrev pub heard : List ℕ → ℕ → ℕ → ℕ
heard m p d = low m (heard_cell p d)

unfoldable pub news : List ℕ → ℕ → List doc.Op
news m p = take most_records (newer_than (heard m p) (ops_of m))

-- the version vector of the first so many desks, four bytes each
unfoldable pub vector_bytes : ℕ → (ℕ → ℕ) → List ℕ
vector_bytes zero v = []
vector_bytes (suc d) v = vector_bytes d v ++ four (v d)

abbrev pub versions : List ℕ → ℕ → ℕ
versions m d = low m (version_cell d)

unfoldable pub body_of : ℕ → ℕ → (ℕ → ℕ) → List doc.Op → List ℕ
body_of from for v ops = 1 ∷ from ∷ for ∷ length ops ∷ vector_bytes 32 v ++ flat record_bytes ops

unfoldable pub sealed : List ℕ → List ℕ
sealed bs = bs ++ four (crc32_of bs)

unfoldable pub letter_of : ℕ → ℕ → (ℕ → ℕ) → List doc.Op → List ℕ
letter_of from for v ops = sealed (body_of from for v ops)

unfoldable pub letter_for : List ℕ → ℕ → ℕ → List ℕ
letter_for m from for = letter_of from for (versions m) (news m for)

-- bytes from the start, the rest as it was
abbrev pub filled : List ℕ → List ℕ → List ℕ
filled bs out = bs ++ drop (length bs) out

-- what writing a letter answers: nothing, and nothing is written, where there isn't room for 4,096 bytes; else how many bytes were written
unfoldable pub Wrote : List ℕ → Option ℕ → (out out₁ : List ℕ) → Type 0
Wrote bs None out out₁ = (length out < 4096) × (out₁ ≡ out)
Wrote bs (Some n) out out₁ = (4096 ≤ length out) × (n ≡ length bs) × (out₁ ≡ filled bs out)

-- WHAT IS READ: a letter of this version, from this desk and for this one, of the length that it says, of well-formed records, undamaged
unfoldable pub is_sealed : List ℕ → Bool
is_sealed bs = number_at bs (length bs - 4) == crc32_of (take (length bs - 4) bs)

unfoldable pub is_letter : ℕ → ℕ → List ℕ → Bool
is_letter from for bs =
    (length bs == 136 + byte bs 3 * 16)
    && (byte bs 0 == 1 && (byte bs 1 == from && (byte bs 2 == for && (are_records (byte bs 3) bs && is_sealed bs))))

-- what the peer's version vector tells is noted: entries only rise, since letters come late
unfoldable pub noted : ℕ → ℕ → List ℕ → List ℕ → List ℕ
noted zero p bs m = m
noted (suc d) p bs m = slice_set (noted d p bs m) (heard_cell p d) (max (low m (heard_cell p d)) (number_at bs (4 + d * 4)))

-- an operation is taken if it is above all that is known of its desk
unfoldable pub deliver : List ℕ → doc.Op → List ℕ
deliver m o = pick (nat_lt (low m (version_cell o.name.who)) o.name.n) (appended m o) m

unfoldable pub delivered : List ℕ → List doc.Op → List ℕ
delivered m [] = m
delivered m (o ∷ os) = delivered (deliver m o) os

unfoldable pub received : ℕ → List ℕ → List ℕ → List ℕ
received from bs m = delivered (noted 32 from bs m) (records (byte bs 3) bs)
