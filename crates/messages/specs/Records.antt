-- An operation as a record of 16 bytes: its number (4), its desk, its kind, the desk of the operation that it is about, a byte that is 0, and two values (4 each).
use Rattle.std.specs.Prelude.{ℕ, zero, suc, ◌+◌, ◌*◌, ◌%◌, ◌<◌, Bool, true, ◌&&◌, List, [], ◌∷◌, ◌++◌, ◌==◌, nat_lt}
use Rattle.ops.specs.Doc as doc
use Rattle.ops.specs.Doc.{pick, id, put_in, struck, under, added}
use Rattle.messages.specs.Bytes.{four, byte, number_at}

abbrev pub record_of : (n desk kind about x y : ℕ) → List ℕ
record_of n d k a x y = four n ++ (d % 256 ∷ k ∷ a % 256 ∷ 0 ∷ four x ++ four y)

unfoldable pub bytes_of : doc.Kind → ℕ → ℕ → List ℕ
bytes_of (put_in a c) n d = record_of n d 0 a.who a.n c
bytes_of (struck a) n d = record_of n d 1 a.who a.n 0
bytes_of (under k v) n d = record_of n d 2 0 k v
bytes_of (added k v) n d = record_of n d 3 0 k v

abbrev pub record_bytes : doc.Op → List ℕ
record_bytes o = bytes_of o.kind o.name.n o.name.who

-- and back; desks are read modulo 32, and well-formed records have none beyond
unfoldable pub kind_by : (k a x y : ℕ) → doc.Kind
kind_by k a x y = pick (k == 0) (put_in (id x a) y) (pick (k == 1) (struck (id x a)) (pick (k == 2) (under x y) (added x y)))

unfoldable pub op_from : List ℕ → ℕ → doc.Op
op_from bs p =
    record {
      name = id (number_at bs p) (byte bs (p + 4) % 32);
      kind = kind_by (byte bs (p + 5)) (byte bs (p + 6) % 32) (number_at bs (p + 8)) (number_at bs (p + 12));
    }

unfoldable pub is_record : List ℕ → ℕ → Bool
is_record bs p = nat_lt (byte bs (p + 4)) 32 && (nat_lt (byte bs (p + 5)) 4 && nat_lt (byte bs (p + 6)) 32)

-- the first so many records of a message, which begin at byte 132; and whether they are all well formed
unfoldable pub records : ℕ → List ℕ → List doc.Op
records zero bs = []
records (suc k) bs = records k bs ++ op_from bs (132 + k * 16) ∷ []

unfoldable pub are_records : ℕ → List ℕ → Bool
are_records zero bs = true
are_records (suc k) bs = are_records k bs && is_record bs (132 + k * 16)

-- operations that a record can hold: what the code's types hold
abbrev pub SmallKind : doc.Kind → Type 0
SmallKind (put_in a c) = (a.n < 4294967296) × (a.who < 32) × (c < 4294967296)
SmallKind (struck a) = (a.n < 4294967296) × (a.who < 32)
SmallKind (under k v) = (k < 4294967296) × (v < 4294967296)
SmallKind (added k v) = (k < 4294967296) × (v < 4294967296)

abbrev pub SmallOp : doc.Op → Type 0
SmallOp o = (o.name.n < 4294967296) × (o.name.who < 32) × SmallKind o.kind
