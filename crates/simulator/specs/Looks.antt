-- A letter of a room, by its number, if there is one.
use Rattle.std.specs.Prelude.{◌≡◌, ℕ, ◌<◌, ◌≤◌, length, Some, None, Option}
use Rattle.std.specs.Borrow.{Bor}
use Rattle.network.specs.Room.{Room, note_at}
use Rattle.simulator.specs.declared.letter.Letter.{Letter}
use Rattle.simulator.specs.Rooms.{note_of}

abbrev pub Found : Room → ℕ → Option (Bor Letter) → Type 0
Found r k None = length r.notes ≤ k
Found r k (Some l) = (k < length r.notes) × (note_of l.now ≡ note_at r k)
