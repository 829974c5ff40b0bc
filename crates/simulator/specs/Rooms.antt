-- A room in memory as a room of the theorem.
use Rattle.std.specs.Prelude.{◌≡◌, ℕ, List, map, vec_items, Vec}
use Rattle.std.specs.declared.alloc.Global.{Global}
use Rattle.desks.specs.Run as run
use Rattle.network.specs.Room as net
use Rattle.network.specs.Rooms.{tale}
use Rattle.replicas.specs.declared.machine.Replica.{Replica}
use Rattle.replicas.specs.Replica.{memory_of}
use Rattle.simulator.specs.declared.letter.Letter.{Letter}

abbrev pub note_of : Letter → net.Note
note_of l = net.note l.from l.to (vec_items l.bytes)

abbrev pub memories : Vec Replica Global → List (List ℕ)
memories desks = map memory_of (vec_items desks)

abbrev pub room_of : Vec Replica Global → Vec Letter Global → net.Room
room_of desks letters = net.room (memories desks) (map note_of (vec_items letters))

-- something happened that led here
abbrev pub Reached : Vec Replica Global → Vec Letter Global → Type 0
Reached desks letters = ∥ ((is : List run.Item) × ((tale is).room ≡ room_of desks letters)) ∥₁
