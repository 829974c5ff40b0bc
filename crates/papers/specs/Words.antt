-- The words that deeds write under a key.
use Rattle.std.specs.Prelude.{ℕ, ◌==◌, Some, None, Option}
use Rattle.std.specs.Option.{option_map}
use Rattle.ops.specs.Doc.{pick}
use Rattle.papers.specs.declared.deeds.Name.{Name}
use Rattle.papers.specs.declared.deeds.What.{What}
use Rattle.papers.specs.declared.deeds.What.TheVariants.{Put, Strike, Write, Add}
use Rattle.papers.specs.declared.deeds.Deed.{Deed}

abbrev pub written_under : ℕ → What → Option ℕ
written_under k (Put behind sign) = None
written_under k (Strike target) = None
written_under k (Write at word) = pick (at == k) (Some word) None
written_under k (Add at amount) = None

-- with the name that it is known by
abbrev pub named_word : ℕ → Deed → Option (Name × ℕ)
named_word k d = option_map (λ w. (d.name, w)) (written_under k d.what)
