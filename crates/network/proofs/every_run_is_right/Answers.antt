use Rattle.std.proofs.Common.{refl}
use Rattle.network.proofs.Own.{whole-core}
use Rattle.network.proofs.every_run_is_right.Goals as goal

pub returns : goal.returns
returns c = (refl, whole-core)
