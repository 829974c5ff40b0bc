-- A room: 32 desks, each with its machine, and every letter that was ever made between them, as a function of what happened. Assumes nothing: these are
-- definitions.
use Rattle.std.specs.Prelude.{ℕ, zero, suc, ◌+◌, Bool, true, not, ◌&&◌, List, [], ◌++◌, length, ◌==◌, nat_lt, slice_index_or, slice_set}
use Rattle.ops.specs.Doc.{pick, each, Op}
use Rattle.ops.specs.Layout.{version_cell, low}
use Rattle.ops.specs.Log.{kept, ops_of}
use Rattle.desks.specs.Run.{said, letter_to, hears, Ran, runs_on, Two, exchange, Item, at_desk, makes, comes, meet}
use Rattle.desks.specs.Promise.{desks, opened}
use Rattle.desks.specs.Entry.{own}

-- a letter that was made: by whom, for whom, and its bytes
pub record Note : Type 0 where
  pub from : ℕ
  pub for : ℕ
  pub bytes : List ℕ

abbrev pub note : ℕ → ℕ → List ℕ → Note
note i j bs = record { from = i; for = j; bytes = bs }

pub record Room : Type 0 where
  pub memories : List (List ℕ)  -- of desks 0 to 31
  pub notes : List Note  -- all letters, in the order in which they were made

abbrev pub room : List (List ℕ) → List Note → Room
room ms ns = record { memories = ms; notes = ns }

abbrev pub memory_at : Room → ℕ → List ℕ
memory_at r i = slice_index_or r.memories i []

abbrev pub note_at : Room → ℕ → Note
note_at r k = slice_index_or r.notes k (note 0 0 [])

-- what a desk has heard of: the log in its memory
abbrev pub heard : Room → ℕ → List Op
heard r i = ops_of (memory_at r i)

abbrev pub first_room : Room
first_room = room (each (λ i. (opened 3 own i).memory) desks) []

-- how an item went: the room then; 0, done, or the number of a refusal; and what was shown
pub record Moved : Type 0 where
  pub after : Room
  pub end : ℕ
  pub showed : List (List ℕ)

abbrev pub moved : Room → ℕ → List (List ℕ) → Moved
moved r k ss = record { after = r; end = k; showed = ss }

-- one desk's machine has run
abbrev pub with_run : Room → ℕ → Ran → Room
with_run r i x = room (slice_set r.memories i x.memory) r.notes

-- TWO THAT MEET write to and fro until they know the same, which their version vectors tell
unfoldable pub level_up_to : ℕ → List ℕ → List ℕ → Bool
level_up_to zero a b = true
level_up_to (suc d) a b = level_up_to d a b && low a (version_cell d) == low b (version_cell d)

abbrev pub level : List ℕ → List ℕ → Bool
level a b = level_up_to 32 a b

-- one pair of letters
abbrev pub pair : ℕ → ℕ → List ℕ → List ℕ → Two
pair i j a b = exchange 1 3 own i j a b true

-- how many pairs it takes, at most so many
unfoldable pub pairs : ℕ → ℕ → ℕ → List ℕ → List ℕ → ℕ
pairs zero i j a b = 0
pairs (suc n) i j a b = pick (level a b) 0 (suc (pairs n i j (pair i j a b).one (pair i j a b).other))

-- at most as many as there are operations known to the one and to the other, and eight
abbrev pub most_pairs : List ℕ → List ℕ → ℕ
most_pairs a b = 8 + kept a + kept b

abbrev pub meeting : ℕ → ℕ → List ℕ → List ℕ → Two
meeting i j a b = exchange (pairs (most_pairs a b) i j a b) 3 own i j a b true

-- WHAT AN ITEM DOES
-- desks are below 32; one writes to another, and meets another; a letter was made before it comes
unfoldable pub can : Room → Item → Bool
can r (at_desk i c) = nat_lt i 32
can r (makes i j) = (nat_lt i 32 && nat_lt j 32) && not (i == j)
can r (comes k) = nat_lt k (length r.notes)
can r (meet i j) = (nat_lt i 32 && nat_lt j 32) && not (i == j)

unfoldable pub does : Room → Item → Moved
does r (at_desk i c) =
    let x : Ran = runs_on 3 own (memory_at r i) (said c) in
    moved (with_run r i x) x.end x.showed
does r (makes i j) =
    let x : Ran = runs_on 3 own (memory_at r i) (letter_to j) in
    moved (room (with_run r i x).memories (r.notes ++ each (note i j) x.sent)) x.end []
does r (comes k) =
    let n : Note = note_at r k in
    let x : Ran = runs_on 3 own (memory_at r n.for) (hears n.from n.bytes) in
    moved (with_run r n.for x) x.end []
does r (meet i j) =
    let t : Two = meeting i j (memory_at r i) (memory_at r j) in
    moved (room (slice_set (slice_set r.memories i t.one) j t.other) r.notes) (pick t.fair 0 1) []

-- what cannot be is refused with 1, and nothing is changed
unfoldable pub moves : Room → Item → Moved
moves r it = pick (can r it) (does r it) (moved r 1 [])
