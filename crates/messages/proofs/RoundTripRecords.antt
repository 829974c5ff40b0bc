-- A record gives its operation again, and each of a row of records does so at its own place.
use Rattle.std.proofs.Common.{◌≡◌, ℕ, zero, suc, ◌+◌, ◌*◌, ◌%◌, ◌<◌, ◌≤◌, true, ltb, List, [], ◌∷◌, ◌++◌, length, get_or, take, drop, sym, refl, ap, ◌∙◌, ap₂, append_assoc, add-zero, add_assoc, arith, length-append, get_or-drop, take-suc, drop_at}
use Rattle.std.proofs.lemmas.Bool.{and_from, lt-ltb}
use Rattle.ops.specs.Doc as doc
use Rattle.ops.specs.Doc.{id, put_in, struck, under, added, flat}
use Rattle.ops.proofs.Members.{In, in_getD}
use Rattle.messages.specs.Records.{bytes_of, record_bytes, kind_by, op_from, is_record, records, are_records, SmallKind, SmallOp}
use Rattle.messages.proofs.RoundTripBytes.{number_back, twice}

desk_back : (w : ℕ) → w < 32 → w % 256 % 256 % 32 ≡ w
desk_back w h = omega arith

kind_first : (k : doc.Kind) (n w : ℕ) (rest : List ℕ) → n < 4294967296 → w < 32 → SmallKind k →
    op_from (bytes_of k n w ++ rest) 0 ≡ record { name = id n w; kind = k }
unfolding op_from bytes_of kind_by
kind_first (put_in a c) n w rest hn hw s =
    rw (desk_back w hw, desk_back a.who s.1) (simp twice (rw (number_back n hn, number_back a.n s.0, number_back c s.2)))
kind_first (struck a) n w rest hn hw s =
    rw (desk_back w hw, desk_back a.who s.1) (simp twice (rw (number_back n hn, number_back a.n s.0)))
kind_first (under k v) n w rest hn hw s =
    rw (desk_back w hw) (simp twice (rw (number_back n hn, number_back k s.0, number_back v s.1)))
kind_first (added k v) n w rest hn hw s =
    rw (desk_back w hw) (simp twice (rw (number_back n hn, number_back k s.0, number_back v s.1)))

op_first : (o : doc.Op) (rest : List ℕ) → SmallOp o → op_from (record_bytes o ++ rest) 0 ≡ o
op_first o rest s = kind_first o.kind o.name.n o.name.who rest s.0 s.1 s.2

desk_small : (w : ℕ) → w < 32 → ltb (w % 256 % 256) 32 ≡ true
desk_small w h = lt-ltb (w % 256 % 256) 32 (omega arith)

kind_is_record : (k : doc.Kind) (n w : ℕ) (rest : List ℕ) → w < 32 → SmallKind k → is_record (bytes_of k n w ++ rest) 0 ≡ true
unfolding is_record bytes_of
kind_is_record (put_in a c) n w rest hw s = rw (desk_small w hw, desk_small a.who s.1)
kind_is_record (struck a) n w rest hw s = rw (desk_small w hw, desk_small a.who s.1)
kind_is_record (under k v) n w rest hw s = rw (desk_small w hw)
kind_is_record (added k v) n w rest hw s = rw (desk_small w hw)

first_is_record : (o : doc.Op) (rest : List ℕ) → SmallOp o → is_record (record_bytes o ++ rest) 0 ≡ true
first_is_record o rest s = kind_is_record o.kind o.name.n o.name.who rest s.1 s.2

-- from a place on
op_from-drop : (bs : List ℕ) (p : ℕ) → op_from bs p ≡ op_from (drop p bs) 0
unfolding op_from
op_from-drop bs p = simp (get_or-drop, add-zero, add_assoc)

is_record-drop : (bs : List ℕ) (p : ℕ) → is_record bs p ≡ is_record (drop p bs) 0
unfolding is_record
is_record-drop bs p = simp get_or-drop

length_kind : (k : doc.Kind) (n w : ℕ) → length (bytes_of k n w) ≡ 16
unfolding bytes_of
length_kind (put_in a c) n w = refl
length_kind (struck a) n w = refl
length_kind (under k v) n w = refl
length_kind (added k v) n w = refl

length_record : (o : doc.Op) → length (record_bytes o) ≡ 16
length_record o = length_kind o.kind o.name.n o.name.who

pub length-records : (ops : List doc.Op) → length (flat record_bytes ops) ≡ length ops * 16
unfolding flat
length-records [] = refl
length-records (o ∷ os) = length-append (record_bytes o) (flat record_bytes os) ∙ ap₂ ◌+◌ (length_record o) (length-records os) ∙ omega arith

-- what stands from the place of a record on: the record, and more
record_at : (ops : List doc.Op) (k : ℕ) (d : doc.Op) (pre rest : List ℕ) (p : ℕ) → k < length ops → length pre ≡ p →
    (more : List ℕ) × (drop (p + k * 16) (pre ++ (flat record_bytes ops ++ rest)) ≡ record_bytes (get_or ops k d) ++ more)
unfolding flat
record_at [] k d pre rest p h e = absurd (omega arith)
record_at (o ∷ os) zero d pre rest p h e = (
  flat record_bytes os ++ rest,
  drop_at pre ((record_bytes o ++ flat record_bytes os) ++ rest) (p + 0 * 16) (omega arith) ∙ append_assoc (record_bytes o) (flat record_bytes os) rest,
)
record_at (o ∷ os) (suc k) d pre rest p h e =
    let l : length (pre ++ record_bytes o) ≡ p + 16 = length-append pre (record_bytes o) ∙ ap₂ ◌+◌ e (length_record o) in
    let r = record_at os k d (pre ++ record_bytes o) rest (p + 16) (omega arith) l in
    let q : p + suc k * 16 ≡ p + 16 + k * 16 = omega arith in
    let s : pre ++ ((record_bytes o ++ flat record_bytes os) ++ rest) ≡ (pre ++ record_bytes o) ++ (flat record_bytes os ++ rest) = simp append_assoc in
    (r.0, ap₂ drop q s ∙ r.1)

module _ (ops : List doc.Op) (pre rest : List ℕ) (e : length pre ≡ 132) (small : (o : doc.Op) → In o ops → SmallOp o) where
  op_at : (k : ℕ) (d : doc.Op) → k < length ops → op_from (pre ++ (flat record_bytes ops ++ rest)) (132 + k * 16) ≡ get_or ops k d
  op_at k d h =
      let r = record_at ops k d pre rest 132 h e in
      op_from-drop (pre ++ (flat record_bytes ops ++ rest)) (132 + k * 16) ∙ ap (λ (bs : List ℕ). op_from bs 0) r.1
      ∙ op_first (get_or ops k d) r.0 (small (get_or ops k d) (in_getD ops k d h))

  is_record_at : (k : ℕ) (d : doc.Op) → k < length ops → is_record (pre ++ (flat record_bytes ops ++ rest)) (132 + k * 16) ≡ true
  is_record_at k d h =
      let r = record_at ops k d pre rest 132 h e in
      is_record-drop (pre ++ (flat record_bytes ops ++ rest)) (132 + k * 16) ∙ ap (λ (bs : List ℕ). is_record bs 0) r.1
      ∙ first_is_record (get_or ops k d) r.0 (small (get_or ops k d) (in_getD ops k d h))

  pub records-there : (k : ℕ) → k ≤ length ops → records k (pre ++ (flat record_bytes ops ++ rest)) ≡ take k ops
  unfolding records
  records-there zero h = refl
  records-there (suc k) h =
      let d : doc.Op = record { name = id 0 0; kind = under 0 0 } in
      ap₂ (λ (os : List doc.Op) (o : doc.Op). os ++ o ∷ []) (records-there k (omega arith)) (op_at k d h) ∙ sym (take-suc ops k d h)

  pub are_records-there : (k : ℕ) → k ≤ length ops → are_records k (pre ++ (flat record_bytes ops ++ rest)) ≡ true
  unfolding are_records
  are_records-there zero h = refl
  are_records-there (suc k) h =
      and_from _ _ (are_records-there k (omega arith)) (is_record_at k (record { name = id 0 0; kind = under 0 0 }) h)
