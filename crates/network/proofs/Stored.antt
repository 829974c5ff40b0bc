-- An operation that is stored in a slot is read from it again, so the log after an append is the log and one more.
use Rattle.std.proofs.Common.{◌≡◌, ℕ, ◌+◌, ◌%◌, ◌<◌, ◌≤◌, min, List, [], ◌∷◌, ◌++◌, length, get_or, sym, refl, ap, ◌∙◌, ap₂, inl, arith}
use Rattle.ops.specs.Doc.{id, Op, Kind, put_in, struck, under, added}
use Rattle.ops.specs.Layout.{length_cell, slot}
use Rattle.ops.specs.Log.{kind_from, part, op_at, firsts, kept, ops_of, row_of, with_op}
use Rattle.ops.proofs.Slots.{kind_0, kind_1, kind_2, kind_3, op_is}
use Rattle.ops.proofs.Scans.{firsts_more}
use Rattle.ops.proofs.Frames.{with_op_other, with_op-length, with_op-slot, firsts_same}
use Rattle.messages.specs.Records.{SmallKind, SmallOp}

pub low_small : (n : ℕ) → n < 4294967296 → n % 4294967296 ≡ n
low_small n h = omega arith

desk_small : (w : ℕ) → w < 32 → w % 32 ≡ w
desk_small w h = omega arith

cell_back : (l : List ℕ) (k j v : ℕ) → get_or l (slot k + j) 0 ≡ v → v < 4294967296 → v ≡ part l k j
cell_back l k j v e s = sym (ap (λ n. n % 4294967296) e ∙ low_small v s)

module _ (l : List ℕ) (k n w : ℕ) (hn : n < 4294967296) (hw : w < 32) where
  slot_back : (t x y z : ℕ) (kd : Kind) → t < 4294967296 → x < 4294967296 → y < 4294967296 → z < 4294967296 → kind_from t x y z ≡ kd →
      ((j : ℕ) → j < 6 → get_or l (slot k + j) 0 ≡ get_or (n ∷ w ∷ t ∷ x ∷ y ∷ z ∷ []) j 0) → ◌≡◌ {A = Op} (op_at l k) (record { name = id n w; kind = kd })
  slot_back t x y z kd ht hx hy hz f e =
      sym
      (op_is l k n w t x y z kd (cell_back l k 0 n (e 0 (omega arith)) hn) (cell_back l k 1 w (e 1 (omega arith)) (omega arith)) (cell_back l k 2 t (e 2 (omega arith)) ht)
      (cell_back l k 3 x (e 3 (omega arith)) hx) (cell_back l k 4 y (e 4 (omega arith)) hy) (cell_back l k 5 z (e 5 (omega arith)) hz) f)
      ∙ ap (λ (v : ℕ). record { name = id n v; kind = kd }) (desk_small w hw)

  kind_back : (kd : Kind) → SmallKind kd → ((j : ℕ) → j < 6 → get_or l (slot k + j) 0 ≡ get_or (n ∷ w ∷ row_of kd) j 0) → ◌≡◌ {A = Op} (op_at l k) (record { name = id n w; kind = kd })
  unfolding row_of
  kind_back (put_in a c) s e =
      slot_back 0 a.n a.who c (put_in a c) (omega arith) s.0 (let b = s.1 in omega arith) s.2
      (kind_0 0 a.n a.who c refl ∙ ap (λ (v : ℕ). put_in (id a.n v) c) (desk_small a.who s.1)) e
  kind_back (struck a) s e =
      slot_back 1 a.n a.who 0 (struck a) (omega arith) s.0 (let b = s.1 in omega arith) (omega arith)
      (kind_1 1 a.n a.who 0 refl ∙ ap (λ (v : ℕ). struck (id a.n v)) (desk_small a.who s.1)) e
  kind_back (under x y) s e = slot_back 2 x y 0 (under x y) (omega arith) s.0 s.1 (omega arith) (kind_2 2 x y 0 refl) e
  kind_back (added x y) s e = slot_back 3 x y 0 (added x y) (omega arith) s.0 s.1 (omega arith) (kind_3 3 x y 0 (omega arith)) e

op_back : (m : List ℕ) (k : ℕ) (o : Op) → SmallOp o → slot k + 6 ≤ length m → op_at (with_op m k o) k ≡ o
op_back m k o s l =
    kind_back (with_op m k o) k o.name.n o.name.who s.0 s.1 o.kind s.2 (λ j h. with_op-slot m k o j h s.1 l)

kept-with_op : (m : List ℕ) (k : ℕ) (o : Op) → length_cell < length m → k < 8192 → kept (with_op m k o) ≡ k + 1
unfolding kept
kept-with_op m k o l h = ap (λ n. min n 8192) (with_op-length m k o l) ∙ omega arith

pub ops_of-with_op : (m : List ℕ) (k : ℕ) (o : Op) → SmallOp o → slot k + 6 ≤ length m → k < 8192 → ops_of (with_op m k o) ≡ firsts k m ++ o ∷ []
unfolding ops_of
ops_of-with_op m k o s l h =
    let w = s.1 in
    ap (λ n. firsts n (with_op m k o)) (kept-with_op m k o (omega arith) h) ∙ firsts_more k (with_op m k o)
    ∙ ap₂ (λ os p. os ++ p ∷ []) (firsts_same k m (with_op m k o) (λ i a b. with_op_other m k o i (omega arith) (omega arith) (omega arith) (inl b))) (op_back m k o s l)
