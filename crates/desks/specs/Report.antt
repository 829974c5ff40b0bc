-- How a letter that was made, or a refusal, is told.
use Rattle.std.specs.Prelude.{ℕ, Ok, Err, Result}
use Rattle.desks.specs.declared.Told.{Told}
use Rattle.desks.specs.declared.Told.TheVariants.{Sends, No}
use Rattle.desks.specs.declared.refusal.Refusal.{Refusal}
use Rattle.desks.specs.Refusals.{number_of}

abbrev pub sent_of : Result ℕ Refusal → Told
sent_of (Ok n) = Sends n
sent_of (Err k) = No (number_of k)
