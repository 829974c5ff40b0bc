-- When the machine refuses what it is told: exactly where its table of refusals has a number, with that number, and then nothing is changed.
use Rattle.std.specs.Prelude.{◌≡◌, ℕ, List, ◌≢◌}
use Rattle.desks.specs.Run.{Event, refused}
use Rattle.desks.specs.Machine.{says, refusal}
use Rattle.desks.specs.Entry.{own}

unfoldable pub Declined : Type 0
Declined =
    (m : List ℕ) (ev : Event) →
    ((refusal m ev ≢ 0) → own.step m ev ≡ says m (refused (refusal m ev)))
    × (refusal m ev ≡ 0 → (k : ℕ) → (own.step m ev).act ≢ refused k)
