-- An operation's six cells: what is written there, and the operation that is read again.
use Rattle.std.proofs.Common.{◌≡◌, ℕ, ◌+◌, ◌-◌, ◌%◌, ◌<◌, ◌≤◌, min, true, ltb, List, ◌∷◌, length, set, take, drop, append_assoc, sym, refl, ap, ◌∙◌, arith, le-ltb, lt-ltb, ne_eqb}
use lib.Seq.{sets}
use borrow.Rule.Slice.PartMut.{put_mid}
use Rattle.std.proofs.lemmas.Slice.{put_mid-paste}
use Rattle.std.proofs.lemmas.List.Edits.{paste_all, sets-eq}
use Rattle.std.specs.Prelude.{Result, Ok, Err}
use Rattle.std.specs.Result.{is_ok, result_unwrap_or}
use Rattle.ops.specs.Doc as doc
use Rattle.ops.specs.Doc.{pick, id, put_in, struck, under, added}
use Rattle.ops.specs.declared.types.Op.{Op}
use Rattle.ops.specs.declared.types.Kind.{Kind}
use Rattle.ops.specs.declared.types.Tag.{Tag}
use Rattle.ops.specs.declared.types.Tag.TheVariants.{Insert, Delete, Write, Add}
use Rattle.ops.specs.declared.types.UnknownTag.{UnknownTag}
use Rattle.ops.specs.Values.{desk_of, kind_of, tag_of, ReadsTag, op_of}
use Rattle.ops.specs.Layout.{made_cell, slot, low}
use Rattle.ops.specs.Log.{kind_from, part, op_at, row_of, cells_of, kept, with_op, appended}

pub kind_0 : (t x y z : ℕ) → t ≡ 0 → kind_from t x y z ≡ put_in (id x (y % 32)) z
unfolding kind_from
kind_0 t x y z h = rw h

pub kind_1 : (t x y z : ℕ) → t ≡ 1 → kind_from t x y z ≡ struck (id x (y % 32))
unfolding kind_from
kind_1 t x y z h = rw h

pub kind_2 : (t x y z : ℕ) → t ≡ 2 → kind_from t x y z ≡ under x y
unfolding kind_from
kind_2 t x y z h = rw h

pub kind_3 : (t x y z : ℕ) → 2 < t → kind_from t x y z ≡ added x y
unfolding kind_from
kind_3 t x y z h = simp (ne_eqb t 0 (omega arith), ne_eqb t 1 (omega arith), ne_eqb t 2 (omega arith))

-- a tag that is read, where an unknown one is an Add's
tag_small : (t : Tag) → tag_of t ≤ 3
tag_small Insert = omega arith
tag_small Delete = omega arith
tag_small Write = omega arith
tag_small Add = omega arith

pub tag_read : (n : ℕ) (r : Result Tag UnknownTag) (t : Tag) → ReadsTag n r → t ≡ result_unwrap_or r Add → min n 3 ≡ tag_of t
tag_read n (Ok u) t h e = omega (arith, tag_small u, ap tag_of e)
tag_read n (Err u) t h e = omega (arith, ap tag_of e)

pub tag_known : (n : ℕ) (r : Result Tag UnknownTag) → ReadsTag n r → is_ok r ≡ ltb n 4
tag_known n (Ok u) h = sym (lt-ltb n 4 (omega (arith, tag_small u)))
tag_known n (Err u) h = sym (le-ltb n 4 h)

pub op_is : (m : List ℕ) (k n w t x y z : ℕ) (kd : doc.Kind) → n ≡ part m k 0 → w ≡ part m k 1 → t ≡ part m k 2 → x ≡ part m k 3 → y ≡ part m k 4 → z ≡ part m k 5 →
    kind_from t x y z ≡ kd → ◌≡◌ {A = doc.Op} (record { name = id n (w % 32); kind = kd }) (op_at m k)
unfolding op_at
op_is m k n w t x y z kd a b c d e f g =
    let h : kd ≡ kind_from (part m k 2) (part m k 3) (part m k 4) (part m k 5) = sym g ∙ (λ i. kind_from (c i) (d i) (e i) (f i)) in
    λ i. record { name = id (a i) (b i % 32); kind = h i }

pub length_cells : (o : doc.Op) → length (cells_of o) ≡ 6
length_cells o = go o.kind
  where
    go : (k : doc.Kind) → length (o.name.n ∷ o.name.who ∷ row_of k) ≡ 6
    go (put_in a c) = unfold row_of in refl
    go (struck a) = unfold row_of in refl
    go (under k v) = unfold row_of in refl
    go (added k v) = unfold row_of in refl

-- the array that the code makes of an operation
pub cells_by : (o : Op) (kd : Kind) (row : List ℕ) → o.kind ≡ kd → row ≡ o.id.n ∷ desk_of o.id.desk ∷ row_of (kind_of kd) → row ≡ cells_of (op_of o)
cells_by o kd row e f = f ∙ ap (λ k. o.id.n ∷ desk_of o.id.desk ∷ row_of (kind_of k)) (sym e)

-- an operation's cells, copied into a row of them
pub copied_cells : (m now row vs : List ℕ) (p e : ℕ) → now ≡ row → row ≡ vs → length vs ≡ 6 → e ≡ p + 6 → e ≤ length m → put_mid p (e - p) m now ≡ sets m p vs
copied_cells m now row vs p e f g h k l =
    let n : length vs ≡ e - p = omega arith in
    put_mid-paste p (e - p) m now vs (length vs) (f ∙ g) n refl ∙ paste_all m p vs (length vs) refl
    ∙ sym (append_assoc (take p m) vs (drop (p + length vs) m)) ∙ sym (sets-eq vs m p (omega arith))

-- an append, with room and without
pub append-room : (m m₁ : List ℕ) (o : doc.Op) (k n made : ℕ) → k ≡ kept m → k < 8192 → n ≡ o.name.n → made ≡ low m (made_cell o.name.who) → m₁ ≡ sets m (slot k) (cells_of o) →
    set (set (set m₁ 3 (k + 1)) (32 + o.name.who) n) (64 + o.name.who) (made + 1) ≡ appended m o
unfolding appended with_op
append-room m m₁ o k n made e l a f g =
    let t : ltb (kept m) 8192 ≡ true = lt-ltb (kept m) 8192 (omega arith) in
    rw t (λ i. set (set (set (h i) 3 (e i + 1)) (32 + o.name.who) (a i)) (64 + o.name.who) (f i + 1))
  where
    h : m₁ ≡ sets m (slot (kept m)) (cells_of o)
    h = g ∙ ap (λ j. sets m (slot j) (cells_of o)) e

pub append-full : (m : List ℕ) (o : doc.Op) → 8192 ≤ kept m → m ≡ appended m o
unfolding appended
append-full m o l = sym (ap (λ b. pick b (with_op m (kept m) o) m) (le-ltb (kept m) 8192 l))
