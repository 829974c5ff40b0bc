-- The options, and what becomes of them when one is given another value.
use Rattle.std.specs.Prelude.{ℕ, ◌≤◌, cond, ◌&&◌, Some, None, Option, nat_le}
use Rattle.plans.specs.declared.options.Options.{Options}
use Rattle.plans.specs.declared.options.Setting.{Setting}
use Rattle.plans.specs.declared.options.Setting.TheVariants.{Days, Desks, Deeds, Seed, Lose, Twice, Late}

abbrev pub standard : Options
standard = record { days = 100; desks = 4; deeds = 40; seed = 1; lose = 20; twice = 10; late = 30 }

-- desks from 2 to 32, and percentages up to 100
abbrev pub set_to : Options → Setting → ℕ → Option Options
set_to o Days v = Some (record { days = v; desks = o.desks; deeds = o.deeds; seed = o.seed; lose = o.lose; twice = o.twice; late = o.late })
set_to o Desks v = cond (nat_le 2 v && nat_le v 32) (Some (record { days = o.days; desks = v; deeds = o.deeds; seed = o.seed; lose = o.lose; twice = o.twice; late = o.late })) None
set_to o Deeds v = Some (record { days = o.days; desks = o.desks; deeds = v; seed = o.seed; lose = o.lose; twice = o.twice; late = o.late })
set_to o Seed v = Some (record { days = o.days; desks = o.desks; deeds = o.deeds; seed = v; lose = o.lose; twice = o.twice; late = o.late })
set_to o Lose v = cond (nat_le v 100) (Some (record { days = o.days; desks = o.desks; deeds = o.deeds; seed = o.seed; lose = v; twice = o.twice; late = o.late })) None
set_to o Twice v = cond (nat_le v 100) (Some (record { days = o.days; desks = o.desks; deeds = o.deeds; seed = o.seed; lose = o.lose; twice = v; late = o.late })) None
set_to o Late v = cond (nat_le v 100) (Some (record { days = o.days; desks = o.desks; deeds = o.deeds; seed = o.seed; lose = o.lose; twice = o.twice; late = v })) None

-- from 2 to 32 desks, and percentages up to 100
abbrev pub InRange : Options → Type 0
InRange o = (2 ≤ o.desks) × (o.desks ≤ 32) × (o.lose ≤ 100) × (o.twice ≤ 100) × (o.late ≤ 100)
