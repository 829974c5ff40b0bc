use Rattle.plans.specs.Settings.{InRange}
use Rattle.plans.proofs.asked.asked_for.Given as goal

abbrev pub invariant-loop-pair : goal.invariant-loop-pair
invariant-loop-pair l = InRange l.options
