-- The laws of one replica, with its own memory and one letter at a time, from which follows what is promised of all of them together.
use Rattle.std.proofs.Common.{◌≡◌, ℕ, ◌<◌, ◌≤◌, Bool, true, false, eqb, ltb, List, [], ◌∷◌, ◌++◌, length, take}
use Rattle.ops.specs.Doc.{pick, larger, Op, Command, turn, small_command, hangs, made_by}
use Rattle.ops.specs.Version.{version, newer_than}
use Rattle.ops.proofs.Members.{In}
use Rattle.desks.specs.Run.{Engine, said, letter_to, hears, runs_on, Steady, made_well, read_well, first_letter}
use Rattle.desks.specs.Promise.{opened}

-- an operation goes to the end of a log, unless the log's version vector covers it
unfoldable pub deliver : List Op → Op → List Op
deliver log o = pick (ltb (version log o.name.who) o.name.n) (log ++ o ∷ []) log

unfoldable pub deliver_all : List Op → List Op → List Op
deliver_all log [] = log
deliver_all log (o ∷ os) = deliver_all (deliver log o) os

-- as much as fits into a letter of what a version vector doesn't cover
abbrev pub batch : ℕ → (ℕ → ℕ) → List Op → List Op
batch cap v log = take cap (newer_than v log)

-- what one knows of the others' version vectors, after j told its own; a letter may be late, so entries only rise
unfoldable pub raised : (ℕ → ℕ → ℕ) → ℕ → (ℕ → ℕ) → ℕ → ℕ → ℕ
raised h j v k d = pick (eqb k j) (larger (h k d) (v d)) (h k d)

-- what a machine may count on
pub record Bounded (log : List Op) : Type 0 where
  pub few : length log ≤ 8192
  pub hang : hangs log ≡ true
  pub few_each : (d : ℕ) → made_by d log ≤ 256
  pub small : (o : Op) → In o log → (1 ≤ o.name.n) × (o.name.n ≤ 8192) × (o.name.who < 32)

-- what a desk's memory stands for: its log, and what it has heard of the others' version vectors
abbrev pub Representation : Type 1
Representation = ℕ → List ℕ → List Op → (ℕ → ℕ → ℕ) → Type 0

-- what the bytes of a letter from one desk for another carry: the writer's version vector, and operations
abbrev pub Bearing : Type 1
Bearing = ℕ → ℕ → List ℕ → (ℕ → ℕ) → List Op → Type 0

pub record Lawful (known : Command → Bool) (e : Engine) (cap : ℕ) (Rep : ℕ → List ℕ → List Op → (ℕ → ℕ → ℕ) → Type 0) (Bears : ℕ → ℕ → List ℕ → (ℕ → ℕ) → List Op → Type 0) : Type 0 where
  pub steady : Steady e
  pub large : 16 ≤ cap
  pub opens_well :
      (i : ℕ) → i < 32 → (read_well (opened 3 e i) ≡ true) × Rep i (opened 3 e i).memory [] (λ j d. 0)
  pub says_well :
      (i : ℕ) (m : List ℕ) (log : List Op) (h : ℕ → ℕ → ℕ) (c : Command) → i < 32 → Rep i m log h → Bounded log → small_command c ≡ true → known c ≡ true →
      Bounded (turn i log c).ops →
      ((runs_on 3 e m (said c)).end ≡ (turn i log c).reply) × ((runs_on 3 e m (said c)).showed ≡ (turn i log c).shows) × ((runs_on 3 e m (said c)).sent ≡ [])
      × Rep i (runs_on 3 e m (said c)).memory (turn i log c).ops h
  pub says-no :
      (i : ℕ) (m : List ℕ) (log : List Op) (h : ℕ → ℕ → ℕ) (c : Command) → i < 32 → Rep i m log h → Bounded log → small_command c ≡ true → known c ≡ false →
      ((runs_on 3 e m (said c)).end ≡ 2) × ((runs_on 3 e m (said c)).showed ≡ []) × ((runs_on 3 e m (said c)).sent ≡ [])
      × Rep i (runs_on 3 e m (said c)).memory log h
  pub writes_well :
      (i j : ℕ) (m : List ℕ) (log : List Op) (h : ℕ → ℕ → ℕ) → i < 32 → j < 32 → (i ≡ j → ⊥) → Rep i m log h → Bounded log →
      (made_well (runs_on 3 e m (letter_to j)) ≡ true) × Rep i (runs_on 3 e m (letter_to j)).memory log h
      × Bears i j (first_letter (runs_on 3 e m (letter_to j)).sent) (version log) (batch cap (h j) log)
  pub reads_well :
      (i j : ℕ) (m : List ℕ) (log : List Op) (h : ℕ → ℕ → ℕ) (bytes : List ℕ) (v : ℕ → ℕ) (news : List Op) → i < 32 → j < 32 → (i ≡ j → ⊥) →
      Rep i m log h → Bears j i bytes v news → ((o : Op) → In o news → (1 ≤ o.name.n) × (o.name.n ≤ 8192) × (o.name.who < 32)) →
      Bounded log → Bounded (deliver_all log news) →
      (read_well (runs_on 3 e m (hears j bytes)) ≡ true) × Rep i (runs_on 3 e m (hears j bytes)).memory (deliver_all log news) (raised h j v)
