-- Signs that are lent from a row.
use Rattle.std.proofs.Common.{◌≡◌, None, Some, Option, refl}
use denote.Ref.{Bor}
use Rattle.std.specs.Option.{option_map}
use Rattle.papers.specs.declared.sequence.Sign.{Sign}

-- a name that is read off a lent sign is read off the sign
pub name-now : (r : Option (Bor Sign)) → option_map (λ s. s.now.name) r ≡ option_map (λ s. s.name) (option_map (λ s. s.now) r)
name-now None = refl
name-now (Some s) = refl
