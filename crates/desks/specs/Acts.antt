-- What an act of the code answers for: the memory after it, and the act of the machine that its answer stands for.
use Rattle.std.specs.Prelude.{◌≡◌, ℕ, ◌≤◌, Bool, true, false, List, [], ◌∷◌, ◌++◌, length, take, drop, Some, None, Ok, Err, Option, Result}
use Rattle.std.specs.Option.{option_to_list}
use Rattle.ops.specs.Doc as doc
use Rattle.ops.specs.Log.{appended}
use Rattle.ops.specs.Values.{held, Holds}
use Rattle.ops.specs.declared.types.Memory.{Memory}
use Rattle.desks.specs.Run.{Act, shows, sends, done, refused, Step}
use Rattle.desks.specs.Machine.{has_room, idle, deed}
use Rattle.desks.specs.declared.refusal.Refusal.{Refusal}
use Rattle.desks.specs.declared.refusal.Refusal.TheVariants.{Unfit, NoRoom}
use Rattle.desks.specs.Refusals.{number_of}

pub record Acts (s : Step) (a : Act) (m m₁ : Memory) : Type 0 where
  pub after : Holds m m₁ s.memory
  pub act : s.act ≡ a

-- nothing is shown or sent
abbrev pub quiet : Result (Unit {0}) Refusal → Act
quiet (Ok v) = done
quiet (Err k) = refused (number_of k)

-- a row with a word is shown, or an empty one
abbrev pub word : Result (Option ℕ) Refusal → Act
word (Ok w) = shows (option_to_list w)
word (Err k) = refused (number_of k)

-- what was still to be shown is, if anything was
abbrev pub rest : Result (Option ℕ) Refusal → Act
rest (Ok None) = done
rest (Ok (Some n)) = shows (n ∷ [])
rest (Err k) = refused (number_of k)

-- the first so many of the lent bytes are sent
abbrev pub posted : List ℕ → Result ℕ Refusal → Act
posted out (Ok n) = sends (take n out)
posted out (Err k) = refused (number_of k)

-- the other bytes stay as they were
abbrev pub Front : Result ℕ Refusal → (out out₁ : List ℕ) → Type 0
Front (Ok n) out out₁ = (n ≤ length out₁) × (out₁ ≡ take n out₁ ++ drop n out)
Front (Err k) out out₁ = out₁ ≡ out

pub record Posts (s : Step) (r : Result ℕ Refusal) (m m₁ : Memory) (out out₁ : List ℕ) : Type 0 where
  pub acts : Acts s (posted out₁ r) m m₁
  pub front : Front r out out₁

pub record Unsent (r : Result ℕ Refusal) (m m₁ : Memory) (out out₁ : List ℕ) : Type 0 where
  pub said : r ≡ Err Unfit
  pub after : Holds m m₁ (held m)
  pub bytes : out₁ ≡ out

-- where there is room for 4,096 bytes; else it is refused, and nothing is changed
abbrev pub PostsIf : Bool → Step → Result ℕ Refusal → (m m₁ : Memory) → (out out₁ : List ℕ) → Type 0
PostsIf true s r m m₁ out out₁ = Posts s r m m₁ out out₁
PostsIf false s r m m₁ out out₁ = Unsent r m m₁ out out₁

-- one operation more, where the desk may do another; else nothing is changed
abbrev pub Performs : ℕ → doc.Kind → Result (Unit {0}) Refusal → (m m₁ : Memory) → Type 0
Performs d k (Ok v) m m₁ = (has_room (held m) d ≡ true) × Holds m m₁ (appended (idle (held m)) (deed (held m) d k))
Performs d k (Err e) m m₁ = (has_room (held m) d ≡ true → ⊥) × (e ≡ NoRoom) × Holds m m₁ (held m)
