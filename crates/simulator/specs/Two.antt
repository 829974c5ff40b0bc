-- Whether two numbers are two different desks.
use Rattle.std.specs.Prelude.{◌≡◌, ℕ, Bool, true, false, not, ◌&&◌, ◌==◌, nat_lt, Ok, Err, Result}
use Rattle.desks.specs.declared.refusal.Refusal.{Refusal}
use Rattle.desks.specs.declared.refusal.Refusal.TheVariants.{Malformed}
use Rattle.simulator.specs.declared.two.Two.{Two}

abbrev pub are_two : ℕ → ℕ → Bool
are_two i j = (nat_lt i 32 && nat_lt j 32) && not (i == j)

abbrev pub AreTwo : ℕ → ℕ → Result Two Refusal → Type 0
AreTwo i j (Ok t) = (true ≡ are_two i j) × (t.one ≡ i) × (t.other ≡ j)
AreTwo i j (Err k) = (false ≡ are_two i j) × (k ≡ Malformed)
