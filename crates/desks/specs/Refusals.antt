-- The refusals by their numbers, and the checks that lead to them.
use Rattle.std.specs.Prelude.{◌≡◌, ℕ, Ok, Err, Result}
use Rattle.desks.specs.declared.refusal.Refusal.{Refusal}
use Rattle.desks.specs.declared.refusal.Refusal.TheVariants.{Unfit, Malformed, Unknown, Closed, NoRoom}

abbrev pub number_of : Refusal → ℕ
number_of Unfit = 0
number_of Malformed = 1
number_of Unknown = 2
number_of Closed = 3
number_of NoRoom = 7

-- a check hands on what stands for `b`, where P holds; else it leaves with this refusal
abbrev pub Passes : {A B : Type 0} → (A → B) → Type 0 → B → Refusal → Result A Refusal → Type 0
Passes f P b k (Ok x) = P × (f x ≡ b)
Passes f P b k (Err e) = (P → ⊥) × (e ≡ k)
