-- The log in a desk's memory: whatever numbers stand there are read as a list of operations. Appending is all that is ever done to it.
use Rattle.std.specs.Prelude.{ℕ, zero, suc, ◌+◌, ◌%◌, min, max, List, [], ◌∷◌, ◌++◌, set, ◌==◌, nat_lt, slice_index, slice_set}
use Rattle.std.proofs.lemmas.List.Edits.{sets}
use Rattle.ops.specs.Doc as doc
use Rattle.ops.specs.Doc.{pick, id, put_in, struck, under, added}
use Rattle.ops.specs.Layout.{length_cell, version_cell, made_cell, slot, low}

-- the six cells of an operation: number, desk, tag, and up to three values; read again, desks are taken modulo 32
unfoldable pub kind_from : ℕ → ℕ → ℕ → ℕ → doc.Kind
kind_from t x y z = pick (t == 0) (put_in (id x (y % 32)) z) (pick (t == 1) (struck (id x (y % 32))) (pick (t == 2) (under x y) (added x y)))

abbrev pub part : List ℕ → ℕ → ℕ → ℕ
part m k j = low m (slot k + j)

unfoldable pub op_at : List ℕ → ℕ → doc.Op
op_at m k = record { name = id (part m k 0) (part m k 1 % 32); kind = kind_from (part m k 2) (part m k 3) (part m k 4) (part m k 5) }

-- the first so many, and all
unfoldable pub firsts : ℕ → List ℕ → List doc.Op
firsts zero m = []
firsts (suc k) m = firsts k m ++ op_at m k ∷ []

unfoldable pub kept : List ℕ → ℕ
kept m = min (slice_index m length_cell) 8192

unfoldable pub ops_of : List ℕ → List doc.Op
ops_of m = firsts (kept m) m

unfoldable pub row_of : doc.Kind → List ℕ
row_of (put_in a c) = 0 ∷ a.n ∷ a.who ∷ c ∷ []
row_of (struck a) = 1 ∷ a.n ∷ a.who ∷ 0 ∷ []
row_of (under k v) = 2 ∷ k ∷ v ∷ 0 ∷ []
row_of (added k v) = 3 ∷ k ∷ v ∷ 0 ∷ []

abbrev pub cells_of : doc.Op → List ℕ
cells_of o = o.name.n ∷ o.name.who ∷ row_of o.kind

-- one more: its six cells, the log's length, and its desk's entries in the version vector and the counts
unfoldable pub with_op : List ℕ → ℕ → doc.Op → List ℕ
with_op m k o =
    set (slice_set (slice_set (sets m (slot k) (cells_of o)) length_cell (k + 1)) (version_cell o.name.who) o.name.n)
    (made_cell o.name.who) (low m (made_cell o.name.who) + 1)

-- if there's room; else nothing is changed
unfoldable pub appended : List ℕ → doc.Op → List ℕ
appended m o = pick (nat_lt (kept m) 8192) (with_op m (kept m) o) m

-- the highest number in the version vector, of the first so many desks
unfoldable pub highest_up_to : ℕ → List ℕ → ℕ
highest_up_to zero m = 0
highest_up_to (suc d) m = max (highest_up_to d m) (low m (version_cell d))
