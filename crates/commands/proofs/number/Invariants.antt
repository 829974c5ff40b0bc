use Rattle.std.proofs.Common.{◌≡◌, ◌^◌, ◌<◌, drop}
use Rattle.commands.specs.Numbers.{number_after}
use Rattle.commands.proofs.number.Given as goal

abbrev pub invariant-loop-digit : goal.invariant-loop-digit
invariant-loop-digit l = (l.n < 2 ^ 64) × (number_after l.n (drop l.digit-index l.digits) ≡ number_after 0 l.digits)
