-- One step of the machine over the cells that a replica owns, and what it is told that takes only one.
use Rattle.std.specs.Prelude.{◌≡◌, ℕ, Bool, true, false, List, Err, Result}
use Rattle.ops.specs.Doc.{Command, insert, strike, write_under, add_to, show_text, show_key}
use Rattle.desks.specs.Run.{Event, opens, said, letter_to, hears, next, Act, Step}
use Rattle.desks.specs.Acts.{posted, Front}
use Rattle.desks.specs.declared.refusal.Refusal.{Refusal}
use Rattle.desks.specs.declared.refusal.Refusal.TheVariants.{Unfit}
use Rattle.replicas.specs.Replica.{command_of}
use Rattle.replicas.specs.declared.acts.Asked.{Asked}
use Rattle.replicas.specs.declared.acts.Asked.TheVariants.{Open, Do, ShowText, Read}

-- what it is told, as the machine's event
abbrev pub event_of : Asked → Event
event_of (Open desk) = opens desk
event_of (Do deed) = said (command_of deed)
event_of ShowText = said show_text
event_of (Read from letter) = hears from letter.now

pub record Tells (s : Step) (a : Act) (m₁ : List ℕ) : Type 0 where
  pub memory : m₁ ≡ s.memory
  pub act : s.act ≡ a

-- a letter in the lent bytes, where there is room for 4,096; else nothing is changed
pub record Posts (s : Step) (r : Result ℕ Refusal) (m₁ out out₁ : List ℕ) : Type 0 where
  pub tells : Tells s (posted out₁ r) m₁
  pub front : Front r out out₁

pub record Unsent (r : Result ℕ Refusal) (m m₁ out out₁ : List ℕ) : Type 0 where
  pub said : r ≡ Err Unfit
  pub memory : m₁ ≡ m
  pub bytes : out₁ ≡ out

abbrev pub PostsIf : Bool → Step → Result ℕ Refusal → (m m₁ out out₁ : List ℕ) → Type 0
PostsIf true s r m m₁ out out₁ = Posts s r m₁ out out₁
PostsIf false s r m m₁ out out₁ = Unsent r m m₁ out out₁

-- commands of which a machine shows nothing
unfoldable pub shows_nothing : Command → Bool
shows_nothing (insert i c) = true
shows_nothing (strike i) = true
shows_nothing (write_under k v) = true
shows_nothing (add_to k v) = true
shows_nothing show_text = true
shows_nothing (show_key k) = false

unfoldable pub is_quiet : Event → Bool
is_quiet (opens i) = true
is_quiet (said c) = shows_nothing c
is_quiet (letter_to j) = false
is_quiet (hears i bs) = true
is_quiet next = false
