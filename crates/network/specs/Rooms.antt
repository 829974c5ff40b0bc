-- What is promised of a room after anything that can happen in it: what each desk shows is the paper's for what it has heard of.
use Rattle.std.specs.Prelude.{◌≡◌, ℕ, suc, ◌+◌, ◌<◌, ◌≤◌, true, false, List, [], ◌∷◌, ◌++◌, length, slice_index_or}
use Rattle.ops.specs.Doc.{pick, or, every, Op, all_in, hangs, show_text, show_key, turn, core}
use Rattle.desks.specs.Run.{Item, at_desk, makes, comes, meet, union_is}
use Rattle.desks.specs.Promise.{good_item}
use Rattle.network.specs.Room.{Room, Moved, moved, memory_at, note_at, heard, first_room, pairs, most_pairs, can, moves}

-- a room, and for each letter what its writer had heard of when it was made
pub record Tale : Type 0 where
  pub room : Room
  pub knew : List (List Op)

-- what the writer knows, if an item makes a letter
unfoldable pub writer_knows : Room → Item → List (List Op)
writer_knows r (at_desk i c) = []
writer_knows r (makes i j) = pick (can r (makes i j)) (heard r i ∷ []) []
writer_knows r (comes k) = []
writer_knows r (meet i j) = []

-- what happened, the latest first
unfoldable pub tale : List Item → Tale
tale [] = record { room = first_room; knew = [] }
tale (it ∷ before) = record { room = (moves (tale before).room it).after; knew = (tale before).knew ++ writer_knows (tale before).room it }

-- THE NEXT ITEM, whatever it is
unfoldable pub RightNext : Tale → Item → Type 0
-- a command that is known does what the paper says of what the desk has heard of; others are refused with 2
RightNext t (at_desk i c) =
    let x : Moved = moves t.room (at_desk i c) in
    (core c ≡ true →
    (x.end ≡ (turn i (heard t.room i) c).reply) × (x.showed ≡ (turn i (heard t.room i) c).shows) × (heard x.after i ≡ (turn i (heard t.room i) c).ops))
    × (core c ≡ false → (x.end ≡ 2) × (x.showed ≡ []) × (x.after ≡ t.room))
-- one letter more, and what is known stays
RightNext t (makes i j) =
    let x : Moved = moves t.room (makes i j) in
    (x.end ≡ 0) × (heard x.after i ≡ heard t.room i) × (length x.after.notes ≡ suc (length t.room.notes))
-- a letter that was made is read: the desk knows what it knew, and of what its writer knew some, and all of it if that was 16 operations or fewer
RightNext t (comes k) =
    let x : Moved = moves t.room (comes k) in
    let i : ℕ = (note_at t.room k).for in
    let wrote : List Op = slice_index_or t.knew k [] in
    k < length t.room.notes →
    (x.end ≡ 0) × (all_in (heard t.room i) (heard x.after i) ≡ true)
    × (every (λ o. or (all_in (o ∷ []) (heard t.room i)) (all_in (o ∷ []) wrote)) (heard x.after i) ≡ true)
    × (length wrote ≤ 16 → all_in wrote (heard x.after i) ≡ true)
-- both know all that either knew, and nothing else, in time
RightNext t (meet i j) =
    let x : Moved = moves t.room (meet i j) in
    (x.end ≡ 0) × (union_is (heard x.after i) (heard t.room i) (heard t.room j) ≡ true) × (union_is (heard x.after j) (heard t.room i) (heard t.room j) ≡ true)
    × (pairs (most_pairs (memory_at t.room i) (memory_at t.room j)) i j (memory_at t.room i) (memory_at t.room j) ≤ 8 + length (heard t.room i) + length (heard t.room j))

-- what two show who are asked the same
abbrev pub ShowSame : Room → ℕ → ℕ → Type 0
ShowSame r i j =
    ((moves r (at_desk i show_text)).showed ≡ (moves r (at_desk j show_text)).showed)
    × ((k : ℕ) → (moves r (at_desk i (show_key k))).showed ≡ (moves r (at_desk j (show_key k))).showed)

pub record RightNow (t : Tale) : Type 0 where
  pub hang : (i : ℕ) → i < 32 → hangs (heard t.room i) ≡ true
  pub next : (it : Item) → good_item it ≡ true → RightNext t it
  -- what cannot be is refused, and changes nothing
  pub refused : (it : Item) → good_item it ≡ false → (1 ≤ (moves t.room it).end) × ((moves t.room it).showed ≡ []) × ((moves t.room it).after ≡ t.room)
  pub unmade : (k : ℕ) → length t.room.notes ≤ k → moves t.room (comes k) ≡ moved t.room 1 []
  -- whoever has heard of the same shows the same
  pub same : (i j : ℕ) → i < 32 → j < 32 → all_in (heard t.room i) (heard t.room j) ≡ true → all_in (heard t.room j) (heard t.room i) ≡ true → ShowSame t.room i j

unfoldable pub RoomsRight : Type 0
RoomsRight = (is : List Item) → RightNow (tale is)
