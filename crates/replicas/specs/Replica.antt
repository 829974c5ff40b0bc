-- What a replica answers: the run of its machine, which is told one thing and goes on to its end.
use Rattle.std.specs.Prelude.{◌≡◌, ℕ, ◌≤◌, Bool, true, false, List, [], ◌∷◌, length, take, Ok, Err, vec_items, Result, nat_le}
use Rattle.std.specs.Option.{option_to_list}
use Rattle.ops.specs.Doc.{Command, insert, strike, write_under, add_to}
use Rattle.desks.specs.Run.{Event, letter_to, hears, Ran, runs_on}
use Rattle.desks.specs.Promise.{opened}
use Rattle.desks.specs.Entry.{own}
use Rattle.replicas.specs.declared.machine.Replica.{Replica}
use Rattle.replicas.specs.declared.machine.Deed.{Deed}
use Rattle.replicas.specs.declared.machine.Deed.TheVariants.{Insert, Strike, Write, Add}
use Rattle.desks.specs.Refusals.{number_of}
use Rattle.desks.specs.declared.refusal.Refusal.{Refusal}
use Rattle.desks.specs.declared.refusal.Refusal.TheVariants.{Unfit, Malformed}
use Rattle.replicas.specs.declared.fault.Fault.{Fault}
use Rattle.replicas.specs.declared.fault.Fault.TheVariants.{NoMemory, Refused}
use Rattle.replicas.specs.declared.machine.Key.{Key}

abbrev pub memory_of : Replica → List ℕ
memory_of r = vec_items r.memory

abbrev pub run : Replica → Event → Ran
run r ev = runs_on 3 own (memory_of r) ev

-- a deed as the paper's command
abbrev pub command_of : Deed → Command
command_of (Insert place sign) = insert place sign
command_of (Strike place) = strike place
command_of (Write key word) = write_under key word
command_of (Add key amount) = add_to key amount

-- it ended as done, or with the number of a refusal
abbrev pub Ended : {T : Type 0} → Ran → Result T Refusal → Type 0
Ended x (Ok v) = x.end ≡ 0
Ended x (Err k) = (x.end ≡ number_of k) × (1 ≤ number_of k)

-- nothing was shown or sent
pub record Did (x : Ran) (r : Result (Unit {0}) Refusal) (m : List ℕ) : Type 0 where
  pub memory : m ≡ x.memory
  pub ended : Ended x r
  pub none_shown : x.showed ≡ []
  pub none_sent : x.sent ≡ []

-- a key was shown: a row with its word, or none, and one with its tally
abbrev pub key_rows : Result Key Refusal → List (List ℕ)
key_rows (Ok k) = option_to_list k.word ∷ (k.tally ∷ []) ∷ []
key_rows (Err k) = []

pub record Showed (x : Ran) (r : Result Key Refusal) (m : List ℕ) : Type 0 where
  pub memory : m ≡ x.memory
  pub ended : Ended x r
  pub shown : x.showed ≡ key_rows r
  pub none_sent : x.sent ≡ []

-- a letter was made: the first so many of some bytes
abbrev pub letters_in : List ℕ → Result ℕ Refusal → List (List ℕ)
letters_in bytes (Ok n) = take n bytes ∷ []
letters_in bytes (Err k) = []

-- at most 4,096 of them
abbrev pub Short : Result ℕ Refusal → Type 0
Short (Ok n) = n ≤ 4096
Short (Err k) = Unit {0}

pub record Sent (x : Ran) (r : Result ℕ Refusal) (m bytes : List ℕ) : Type 0 where
  pub short : Short r
  pub memory : m ≡ x.memory
  pub ended : Ended x r
  pub none_shown : x.showed ≡ []
  pub sent : x.sent ≡ letters_in bytes r

-- where there is room for 4,096 bytes; else it is refused, and nothing is done
pub record NoPlace (r : Result ℕ Refusal) (m m₁ out out₁ : List ℕ) : Type 0 where
  pub said : r ≡ Err Unfit
  pub memory : m₁ ≡ m
  pub bytes : out₁ ≡ out

abbrev pub WritesIf : Bool → List ℕ → ℕ → Result ℕ Refusal → (m₁ out out₁ : List ℕ) → Type 0
WritesIf true m j r m₁ out out₁ = Sent (runs_on 3 own m (letter_to j)) r m₁ out₁
WritesIf false m j r m₁ out out₁ = NoPlace r m m₁ out out₁

abbrev pub Writes : List ℕ → ℕ → Result ℕ Refusal → (m₁ out out₁ : List ℕ) → Type 0
Writes m j r m₁ out out₁ = WritesIf (nat_le 4096 (length out)) m j r m₁ out out₁

-- a letter of up to 4,096 bytes was read; a longer one is none, and is refused
abbrev pub Reads : Bool → List ℕ → ℕ → List ℕ → Result (Unit {0}) Refusal → List ℕ → Type 0
Reads true m i bs r m₁ = Did (runs_on 3 own m (hears i bs)) r m₁
Reads false m i bs r m₁ = (r ≡ Err Malformed) × (m₁ ≡ m)

abbrev pub Read : List ℕ → ℕ → List ℕ → Result (Unit {0}) Refusal → List ℕ → Type 0
Read m i bs r m₁ = Reads (nat_le (length bs) 4096) m i bs r m₁

-- a new replica: opened as that desk, unless there is none of that number
abbrev pub Opened : ℕ → Result Replica Fault → Type 0
Opened i (Ok r) = ((opened 3 own i).end ≡ 0) × (memory_of r ≡ (opened 3 own i).memory)
Opened i (Err NoMemory) = Unit {0}
Opened i (Err (Refused k)) = ((opened 3 own i).end ≡ number_of k) × (1 ≤ number_of k)
