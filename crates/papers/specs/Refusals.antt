-- Refusals by their numbers.
use Rattle.std.specs.Prelude.{ℕ}
use Rattle.papers.specs.declared.commands.Refusal.{Refusal}
use Rattle.papers.specs.declared.commands.Refusal.TheVariants.{NoSuchPlace, TooMany, NoNumber}

abbrev pub number_of : Refusal → ℕ
number_of NoSuchPlace = 4
number_of TooMany = 7
number_of NoNumber = 8
