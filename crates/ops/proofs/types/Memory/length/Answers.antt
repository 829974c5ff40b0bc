use Rattle.std.proofs.Common.{rules}
use Rattle.ops.specs.Log.{kept}
use Rattle.ops.proofs.types.Memory.length.Goals as goal

pub returns-clause-value : goal.returns-clause-value
unfolding kept
returns-clause-value c = search rules
