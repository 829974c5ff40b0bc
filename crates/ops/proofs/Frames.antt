-- What an append writes: its slot, the log's length and two entries of its desk. Every other cell is as it was.
use Rattle.std.proofs.Common.{◌≡◌, ℕ, zero, suc, ◌+◌, ◌<◌, ◌≤◌, min, true, false, ltb, ◌≢◌, ◌⊎◌, List, [], ◌∷◌, ◌++◌, length, get_or, set, sym, refl, ap, ◌∙◌, subst, ap₂, inl, arith, length-set, get_or-set_other, get_or-set_same}
use lib.Seq.{sets, length-sets}
use Rattle.std.proofs.lemmas.Bool.{lt-ltb}
use Rattle.ops.specs.Doc as doc
use Rattle.ops.specs.Doc.{pick}
use Rattle.ops.specs.Layout.{length_cell, version_cell, made_cell, slot, low}
use Rattle.ops.specs.Log.{op_at, firsts, kept, ops_of, cells_of, with_op, appended}
use Rattle.ops.proofs.Stores.{sets_other, sets_at}
use Rattle.ops.proofs.Slots.{length_cells}
use Rattle.ops.proofs.Scans.{length-firsts}

module _ (m : List ℕ) (k : ℕ) (o : doc.Op) where
  abbrev stored : List ℕ
  stored = sets m (slot k) (cells_of o)

  pub length-with_op : length (with_op m k o) ≡ length m
  unfolding with_op
  length-with_op = simp (length-set, length-sets)

  pub with_op_other : (i : ℕ) → i ≢ length_cell → i ≢ version_cell o.name.who → i ≢ made_cell o.name.who → (i < slot k) ⊎ (slot k + 6 ≤ i) → get_or (with_op m k o) i 0 ≡ get_or m i 0
  unfolding with_op
  with_op_other i a b c h =
      get_or-set_other _ (made_cell o.name.who) i _ 0 c ∙ get_or-set_other _ (version_cell o.name.who) i _ 0 b ∙ get_or-set_other _ length_cell i _ 0 a
      ∙ sets_other (cells_of o) m (slot k) i (subst (λ (n : ℕ). (i < slot k) ⊎ (slot k + n ≤ i)) (sym (length_cells o)) h)

  pub with_op-length : length_cell < length m → get_or (with_op m k o) length_cell 0 ≡ k + 1
  unfolding with_op
  with_op-length l =
      get_or-set_other _ (made_cell o.name.who) length_cell _ 0 (omega arith) ∙ get_or-set_other _ (version_cell o.name.who) length_cell _ 0 (omega arith)
      ∙ get_or-set_same stored length_cell (k + 1) 0 (simp length-sets l)

  pub with_op-version : version_cell o.name.who < length m → get_or (with_op m k o) (version_cell o.name.who) 0 ≡ o.name.n
  unfolding with_op
  with_op-version l =
      get_or-set_other _ (made_cell o.name.who) (version_cell o.name.who) _ 0 (omega arith)
      ∙ get_or-set_same (set stored length_cell (k + 1)) (version_cell o.name.who) o.name.n 0 (simp (length-set, length-sets) l)

  pub with_op_made : made_cell o.name.who < length m → get_or (with_op m k o) (made_cell o.name.who) 0 ≡ low m (made_cell o.name.who) + 1
  unfolding with_op
  with_op_made l =
      get_or-set_same (set (set stored length_cell (k + 1)) (version_cell o.name.who) o.name.n) (made_cell o.name.who) (low m (made_cell o.name.who) + 1) 0
      (simp (length-set, length-sets) l)

  pub with_op-slot : (j : ℕ) → j < 6 → o.name.who < 32 → slot k + 6 ≤ length m → get_or (with_op m k o) (slot k + j) 0 ≡ get_or (cells_of o) j 0
  unfolding with_op
  with_op-slot j h w l =
      let e = length_cells o in
      get_or-set_other _ (made_cell o.name.who) (slot k + j) _ 0 (omega arith) ∙ get_or-set_other _ (version_cell o.name.who) (slot k + j) _ 0 (omega arith)
      ∙ get_or-set_other _ length_cell (slot k + j) _ 0 (omega arith) ∙ sets_at (cells_of o) m (slot k) j (omega arith) (omega arith)

pub appended-room : (m : List ℕ) (o : doc.Op) → kept m < 8192 → appended m o ≡ with_op m (kept m) o
unfolding appended
appended-room m o l = ap (λ b. pick b (with_op m (kept m) o) m) (lt-ltb (kept m) 8192 l)

-- with room or without
pub append-length : (m : List ℕ) (o : doc.Op) → length (appended m o) ≡ length m
unfolding appended
append-length m o =
    elim (ltb (kept m) 8192) as (λ b. length (pick b (with_op m (kept m) o) m) ≡ length m) [ true ↦ length-with_op m (kept m) o | false ↦ refl ]

pub append_other : (m : List ℕ) (o : doc.Op) (i : ℕ) → i < 3 → get_or (appended m o) i 0 ≡ get_or m i 0
unfolding appended
append_other m o i l =
    elim (ltb (kept m) 8192) as (λ b. get_or (pick b (with_op m (kept m) o) m) i 0 ≡ get_or m i 0)
    [ true ↦ with_op_other m (kept m) o i (omega arith) (omega arith) (omega arith) (inl (omega arith)) | false ↦ refl ]

-- an operation is read from its own slot alone, and a log from the slots and its length
op_at_same : (m l : List ℕ) (k : ℕ) → ((i : ℕ) → slot k ≤ i → i < slot k + 6 → get_or l i 0 ≡ get_or m i 0) → op_at l k ≡ op_at m k
unfolding op_at
op_at_same m l k h =
    rw (
      h (slot k + 0) (omega arith) (omega arith),
      h (slot k + 1) (omega arith) (omega arith),
      h (slot k + 2) (omega arith) (omega arith),
      h (slot k + 3) (omega arith) (omega arith),
      h (slot k + 4) (omega arith) (omega arith),
      h (slot k + 5) (omega arith) (omega arith),
    )

pub firsts_same : (k : ℕ) (m l : List ℕ) → ((i : ℕ) → slot 0 ≤ i → i < slot k → get_or l i 0 ≡ get_or m i 0) → firsts k l ≡ firsts k m
unfolding firsts
firsts_same zero m l h = refl
firsts_same (suc k) m l h =
    ap₂ (λ os o. os ++ o ∷ []) (firsts_same k m l (λ i a b. h i a (omega arith))) (op_at_same m l k (λ i a b. h i (omega arith) (omega arith)))

pub ops_of_same : (m l : List ℕ) → get_or l length_cell 0 ≡ get_or m length_cell 0 → ((i : ℕ) → slot 0 ≤ i → get_or l i 0 ≡ get_or m i 0) → ops_of l ≡ ops_of m
unfolding ops_of kept
ops_of_same m l e h = ap (λ n. firsts (min n 8192) l) e ∙ firsts_same (min (get_or m length_cell 0) 8192) m l (λ i a b. h i a)

pub length-ops_of : (m : List ℕ) → length (ops_of m) ≡ kept m
unfolding ops_of
length-ops_of m = length-firsts (kept m) m
