-- What playing an item does to a room, and what it answers.
use Rattle.std.specs.Prelude.{◌≡◌, ℕ, List, [], ◌∷◌, Ok, Err, Result}
use Rattle.std.specs.Option.{option_to_list}
use Rattle.std.specs.declared.alloc.AllocError.{AllocError}
use Rattle.ops.specs.Doc as doc
use Rattle.desks.specs.Run as run
use Rattle.network.specs.Room as net
use Rattle.network.specs.Room.{moves}
use Rattle.network.specs.Rooms.{tale, RightNow}
use Rattle.replicas.specs.Replica.{command_of}
use Rattle.simulator.specs.Rooms.{room_of}
use Rattle.simulator.specs.Meetings.{meeting_bytes}
use Rattle.simulator.specs.declared.room.Room.{Room}
use Rattle.simulator.specs.declared.room.Command.{Command}
use Rattle.simulator.specs.declared.room.Command.TheVariants.{Do, ShowText, ShowKey}
use Rattle.simulator.specs.declared.room.Item.{Item}
use Rattle.simulator.specs.declared.room.Item.TheVariants.{At, Makes, Comes, Meets}
use Rattle.simulator.specs.declared.room.Answer.{Answer}
use Rattle.simulator.specs.declared.room.Answer.TheVariants.{Done, Key, Met}
use Rattle.desks.specs.Refusals.{number_of}
use Rattle.desks.specs.declared.refusal.Refusal.{Refusal}

abbrev pub view : Room → net.Room
view r = room_of r.desks r.letters

abbrev pub said_by : Command → doc.Command
said_by (Do deed) = command_of deed
said_by ShowText = doc.show_text
said_by (ShowKey key) = doc.show_key key

abbrev pub item_of : Item → run.Item
item_of (At desk command) = run.at_desk desk (said_by command)
item_of (Makes from to) = run.makes from to
item_of (Comes letter) = run.comes letter
item_of (Meets one other) = run.meet one other

-- 0 for what was done, or the number of the refusal
abbrev pub end_of : Result Answer Refusal → ℕ
end_of (Ok a) = 0
end_of (Err k) = number_of k

abbrev pub rows_of : Result Answer Refusal → List (List ℕ)
rows_of (Ok Done) = []
rows_of (Ok (Key k)) = option_to_list k.word ∷ (k.tally ∷ []) ∷ []
rows_of (Ok (Met pairs bytes)) = []
rows_of (Err k) = []

-- an answer with nothing shown
abbrev pub Plain : Result (Unit {0}) Refusal → Result Answer Refusal → Type 0
Plain (Ok v) a = a ≡ Ok Done
Plain (Err k) a = a ≡ Err k

-- how many pairs of letters a meeting takes
unfoldable pub pairs_in : net.Room → run.Item → ℕ
pairs_in r (run.at_desk i c) = 0
pairs_in r (run.makes i j) = 0
pairs_in r (run.comes k) = 0
pairs_in r (run.meet i j) = net.pairs (net.most_pairs (net.memory_at r i) (net.memory_at r j)) i j (net.memory_at r i) (net.memory_at r j)

-- and how many bytes they have together
unfoldable pub bytes_in : net.Room → run.Item → ℕ
bytes_in r (run.at_desk i c) = 0
bytes_in r (run.makes i j) = 0
bytes_in r (run.comes k) = 0
bytes_in r (run.meet i j) = meeting_bytes i j (net.memory_at r i) (net.memory_at r j)

abbrev pub Counts : net.Room → run.Item → Result Answer Refusal → Type 0
Counts r it (Ok Done) = Unit {0}
Counts r it (Ok (Key k)) = Unit {0}
Counts r it (Ok (Met pairs bytes)) = (pairs ≡ pairs_in r it) × (bytes ≡ bytes_in r it)
Counts r it (Err k) = Unit {0}

-- a replica's run, as an answer: no meeting
pub record Answers (x : run.Ran) (a : Result Answer Refusal) (m : List ℕ) : Type 0 where
  pub memory : m ≡ x.memory
  pub end : end_of a ≡ x.end
  pub showed : rows_of a ≡ x.showed
  pub counts : (r : net.Room) (it : run.Item) → Counts r it a

-- one item, exactly
pub record Plays (r : net.Room) (it : run.Item) (a : Result Answer Refusal) (r₁ : net.Room) : Type 0 where
  pub after : r₁ ≡ (moves r it).after
  pub end : end_of a ≡ (moves r it).end
  pub showed : rows_of a ≡ (moves r it).showed
  pub counts : Counts r it a

-- where memory suffices; else nothing is changed
abbrev pub Played : net.Room → run.Item → Result (Result Answer Refusal) AllocError → net.Room → Type 0
Played r it (Ok a) r₁ = Plays r it a r₁
Played r it (Err e) r₁ = r₁ ≡ r

-- there is a tale of how the room came about, and all that is promised holds of it
abbrev pub Rightly : net.Room → Type 0
Rightly r = ∥ ((is : List run.Item) × ((tale is).room ≡ r) × RightNow (tale is)) ∥₁
