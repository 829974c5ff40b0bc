-- Whatever bytes come and whatever stands in a memory, it keeps its length, and its numbers stay below 2^64.
use Rattle.std.proofs.Common.{◌≡◌, ℕ, zero, suc, ◌+◌, ◌*◌, ◌%◌, ◌<◌, ◌≤◌, max, true, false, ltb, List, [], ◌∷◌, length, get_or, refl, ◌∙◌, inl, inr, arith}
use lib.Seq.{sets}
use Rattle.std.proofs.lemmas.Bool.{lt-ltb, and_from}
use Rattle.ops.specs.Doc.{pick, every, Op, Kind, put_in, struck, under, added}
use Rattle.ops.specs.Layout.{length_cell, version_cell, made_cell, heard_cell, slot, low}
use Rattle.ops.specs.Log.{kept, row_of, cells_of, with_op, appended}
use Rattle.ops.proofs.Members.{In}
use Rattle.ops.proofs.Stores.{fits, every_set, every_sets}
use Rattle.ops.proofs.Scans.{kept_few}
use Rattle.messages.specs.Bytes.{byte, number_at}
use Rattle.messages.specs.Records.{records, SmallKind, SmallOp}
use Rattle.messages.specs.Letter.{noted, deliver, delivered, received}
use Rattle.network.proofs.Noting.{noted-length, noted_other}
use Rattle.network.proofs.Taking.{delivered-length, delivered_other}
use Rattle.network.proofs.SmallRecords.{number_small, records_small}

-- AN APPEND
every_none : every fits [] ≡ true
unfolding every
every_none = refl

every_one : (x : ℕ) (xs : List ℕ) → x < 18446744073709551616 → every fits xs ≡ true → every fits (x ∷ xs) ≡ true
unfolding every
every_one x xs a h = and_from (fits x) (every fits xs) (lt-ltb x 18446744073709551616 a) h

wide : (n : ℕ) → n < 4294967296 → n < 18446744073709551616
wide n h = omega arith

every_row : (k : Kind) → SmallKind k → every fits (row_of k) ≡ true
unfolding row_of
every_row (put_in a c) s =
    every_one 0 _ (omega arith) (every_one a.n _ (wide a.n s.0) (every_one a.who _ (let w = s.1 in omega arith) (every_one c [] (wide c s.2) every_none)))
every_row (struck a) s =
    every_one 1 _ (omega arith) (every_one a.n _ (wide a.n s.0) (every_one a.who _ (let w = s.1 in omega arith) (every_one 0 [] (omega arith) every_none)))
every_row (under x y) s = every_one 2 _ (omega arith) (every_one x _ (wide x s.0) (every_one y _ (wide y s.1) (every_one 0 [] (omega arith) every_none)))
every_row (added x y) s = every_one 3 _ (omega arith) (every_one x _ (wide x s.0) (every_one y _ (wide y s.1) (every_one 0 [] (omega arith) every_none)))

every_cells : (o : Op) → SmallOp o → every fits (cells_of o) ≡ true
every_cells o s = every_one o.name.n _ (wide o.name.n s.0) (every_one o.name.who _ (let w = s.1 in omega arith) (every_row o.kind s.2))

low_wide : (n : ℕ) → n % 4294967296 + 1 < 18446744073709551616
low_wide n = omega arith

every-with_op : (m : List ℕ) (k : ℕ) (o : Op) → every fits m ≡ true → SmallOp o → k ≤ 8192 → every fits (with_op m k o) ≡ true
unfolding with_op
every-with_op m k o h s l =
    every_set _ (made_cell o.name.who) (low m (made_cell o.name.who) + 1)
    (every_set _ (version_cell o.name.who) o.name.n
    (every_set (sets m (slot k) (cells_of o)) length_cell (k + 1) (every_sets (cells_of o) m (slot k) h (every_cells o s)) (omega arith)) (wide o.name.n s.0))
    (low_wide (get_or m (made_cell o.name.who) 0))

pub every-appended : (m : List ℕ) (o : Op) → every fits m ≡ true → SmallOp o → every fits (appended m o) ≡ true
unfolding appended
every-appended m o h s =
    elim (ltb (kept m) 8192) as (λ b. every fits (pick b (with_op m (kept m) o) m) ≡ true) [ true ↦ every-with_op m (kept m) o h s (kept_few m) | false ↦ h ]

-- A LETTER
max_wide : (a b : ℕ) → b < 4294967296 → max (a % 4294967296) b < 18446744073709551616
max_wide a b h = omega arith

pub every-noted : (n p : ℕ) (bs m : List ℕ) → every fits m ≡ true → every fits (noted n p bs m) ≡ true
unfolding noted
every-noted zero p bs m h = h
every-noted (suc d) p bs m h =
    every_set (noted d p bs m) (heard_cell p d) (max (low m (heard_cell p d)) (number_at bs (4 + d * 4))) (every-noted d p bs m h)
    (max_wide (get_or m (heard_cell p d) 0) (number_at bs (4 + d * 4)) (number_small bs (4 + d * 4)))

every-deliver : (m : List ℕ) (o : Op) → every fits m ≡ true → SmallOp o → every fits (deliver m o) ≡ true
unfolding deliver
every-deliver m o h s =
    elim (ltb (low m (version_cell o.name.who)) o.name.n) as (λ b. every fits (pick b (appended m o) m) ≡ true) [ true ↦ every-appended m o h s | false ↦ h ]

pub every-delivered : (m : List ℕ) (news : List Op) → every fits m ≡ true → ((o : Op) → In o news → SmallOp o) → every fits (delivered m news) ≡ true
unfolding delivered
every-delivered m [] h s = h
every-delivered m (o ∷ os) h s = every-delivered (deliver m o) os (every-deliver m o h (s o (inl refl))) (λ q i. s q (inr i))

pub received-length : (p : ℕ) (bs m : List ℕ) → length (received p bs m) ≡ length m
unfolding received
received-length p bs m = delivered-length (noted 32 p bs m) (records (byte bs 3) bs) ∙ noted-length 32 p bs m

pub received_other : (p : ℕ) (bs m : List ℕ) (i : ℕ) → i < 3 → get_or (received p bs m) i 0 ≡ get_or m i 0
unfolding received
received_other p bs m i l = delivered_other (noted 32 p bs m) (records (byte bs 3) bs) i l ∙ noted_other 32 p bs m i l

pub every-received : (p : ℕ) (bs m : List ℕ) → every fits m ≡ true → every fits (received p bs m) ≡ true
unfolding received
every-received p bs m h = every-delivered (noted 32 p bs m) (records (byte bs 3) bs) (every-noted 32 p bs m h) (records_small (byte bs 3) bs)
