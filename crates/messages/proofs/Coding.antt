-- An operation's record: the bytes that the code makes of each kind, and the operation that it reads again.
use Rattle.std.proofs.Common.{◌≡◌, ℕ, ◌+◌, ◌%◌, ◌<◌, List, length, get_or, sym, refl, ap, ◌∙◌, arith, ne_eqb}
use Rattle.ops.specs.Doc as doc
use Rattle.ops.specs.Doc.{id, put_in, struck, under, added}
use Rattle.ops.specs.Values.{desk_of, kind_of, op_of}
use Rattle.ops.specs.declared.types.Kind.{Kind}
use Rattle.ops.specs.declared.types.Op.{Op}
use Rattle.messages.specs.Bytes.{byte, number_at}
use Rattle.messages.specs.Records.{bytes_of, record_bytes, kind_by, op_from}

-- a record that is written
pub bytes_by : (o : Op) (kd : Kind) (r : List ℕ) → o.kind ≡ kd → r ≡ bytes_of (kind_of kd) o.id.n (desk_of o.id.desk) → r ≡ record_bytes (op_of o)
bytes_by o kd r e f = f ∙ ap (λ k. bytes_of (kind_of k) o.id.n (desk_of o.id.desk)) (sym e)

pub length_record : (o : doc.Op) → length (record_bytes o) ≡ 16
length_record o = go o.kind
  where
    go : (k : doc.Kind) → length (bytes_of k o.name.n o.name.who) ≡ 16
    go (put_in a c) = unfold bytes_of in refl
    go (struck a) = unfold bytes_of in refl
    go (under k v) = unfold bytes_of in refl
    go (added k v) = unfold bytes_of in refl

-- a record that is read
pub kind_0 : (k a x y : ℕ) → k ≡ 0 → kind_by k a x y ≡ put_in (id x a) y
unfolding kind_by
kind_0 k a x y h = rw h

pub kind_1 : (k a x y : ℕ) → k ≡ 1 → kind_by k a x y ≡ struck (id x a)
unfolding kind_by
kind_1 k a x y h = rw h

pub kind_2 : (k a x y : ℕ) → k ≡ 2 → kind_by k a x y ≡ under x y
unfolding kind_by
kind_2 k a x y h = rw h

pub kind_3 : (k a x y : ℕ) → 2 < k → kind_by k a x y ≡ added x y
unfolding kind_by
kind_3 k a x y h = simp (ne_eqb k 0 (omega arith), ne_eqb k 1 (omega arith), ne_eqb k 2 (omega arith))

pub read_is : (bs : List ℕ) (p n x y : ℕ) (kd : doc.Kind) → n ≡ number_at bs p → x ≡ number_at bs (p + 8) → y ≡ number_at bs (p + 12) →
    kind_by (byte bs (p + 5)) (get_or bs (p + 6) 0 % 32) x y ≡ kd → ◌≡◌ {A = doc.Op} (record { name = id n (get_or bs (p + 4) 0 % 32); kind = kd }) (op_from bs p)
unfolding op_from
read_is bs p n x y kd a b c e =
    let d : get_or bs (p + 4) 0 % 32 ≡ byte bs (p + 4) % 32 = omega arith in
    let t : get_or bs (p + 6) 0 % 32 ≡ byte bs (p + 6) % 32 = omega arith in
    let h : kd ≡ kind_by (byte bs (p + 5)) (byte bs (p + 6) % 32) (number_at bs (p + 8)) (number_at bs (p + 12)) = sym e ∙ (λ i. kind_by (byte bs (p + 5)) (t i) (b i) (c i)) in
    λ i. record { name = id (a i) (d i); kind = h i }
