-- What a row says of a desk.
use Rattle.std.specs.Prelude.{◌≡◌, ℕ, ◌<◌, ◌≤◌, max, List, Option, MatchOption, nat_lt, slice_index, slice_set}
use Rattle.ops.specs.Doc.{pick}

-- the number up to which the deeds of a desk are known; none is known of a desk that there isn't
abbrev pub number_of : List ℕ → ℕ → ℕ
number_of row desk = pick (nat_lt desk 32) (slice_index row desk) 0

-- a row once the deed of a name is known too
abbrev pub with_name : List ℕ → ℕ → ℕ → List ℕ
with_name row number desk = pick (nat_lt desk 32) (slice_set row desk (max (slice_index row desk) number)) row

-- of each of the first desks the higher number of two rows
abbrev pub Joins : List ℕ → List ℕ → List ℕ → ℕ → Type 0
Joins a b r n = (k : ℕ) → k < n → slice_index r k ≡ max (slice_index a k) (slice_index b k)

-- of each of the first desks one row has no more than another
abbrev pub Within : List ℕ → List ℕ → ℕ → Type 0
Within a b n = (k : ℕ) → k < n → slice_index a k ≤ slice_index b k

-- the first desk of which one row has more than another
abbrev pub Above : List ℕ → List ℕ → Option ℕ → Type 0
Above a b r = MatchOption r (Within a b 32) (λ d. (slice_index b d < slice_index a d) × Within a b d)
