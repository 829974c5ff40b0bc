-- What the words after the program's name mean.
use Rattle.std.specs.Prelude.{ℕ, cond, List, Some, None, codes, Option}
use Rattle.std.specs.Str.{bytes_eq}
use Rattle.plans.specs.declared.options.Setting.{Setting}
use Rattle.plans.specs.declared.options.Setting.TheVariants.{Days, Desks, Deeds, Seed, Lose, Twice, Late}
use Rattle.plans.specs.Settings.{InRange}
use Rattle.plans.specs.declared.asked.Asked.{Asked}
use Rattle.plans.specs.declared.asked.Asked.TheVariants as asked

-- the options by their names
abbrev pub setting_of : List ℕ → Option Setting
setting_of word =
    cond (bytes_eq word (codes "--days")) (Some Days)
    (cond (bytes_eq word (codes "--desks")) (Some Desks)
    (cond (bytes_eq word (codes "--deeds")) (Some Deeds)
    (cond (bytes_eq word (codes "--seed")) (Some Seed)
    (cond (bytes_eq word (codes "--lose")) (Some Lose)
    (cond (bytes_eq word (codes "--twice")) (Some Twice)
    (cond (bytes_eq word (codes "--late")) (Some Late)
    None))))))

-- the words that stand alone
abbrev pub alone : List ℕ → Option Asked
alone word =
    cond (bytes_eq word (codes "--help")) (Some asked.Help)
    (cond (bytes_eq word (codes "--version")) (Some asked.Version)
    (cond (bytes_eq word (codes "--bench")) (Some asked.Bench)
    None))

-- what can be done: days are played only with options in their ranges
abbrev pub Playable : Asked → Type 0
Playable asked.Help = Unit {0}
Playable asked.Version = Unit {0}
Playable asked.Bench = Unit {0}
Playable (asked.Days options) = InRange options
