-- Version vectors: for each desk the highest number among its operations, and what a log has that a version vector doesn't cover.
use Rattle.std.specs.Prelude.{ℕ, List, [], ◌∷◌, ◌==◌, nat_lt}
use Rattle.ops.specs.Doc.{pick, larger, those, Op}

unfoldable pub version : List Op → ℕ → ℕ
version [] d = 0
version (o ∷ os) d = pick (o.name.who == d) (larger o.name.n (version os d)) (version os d)

-- the operations above a version vector, in the log's order
unfoldable pub newer_than : (ℕ → ℕ) → List Op → List Op
newer_than v ops = those (λ o. nat_lt (v o.name.who) o.name.n) ops
