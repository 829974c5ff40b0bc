use Rattle.std.proofs.Common.{refl}
use Rattle.commands.proofs.Again.{again}
use Rattle.commands.proofs.parses_back.Goals as goal

pub returns : goal.returns
returns c = (refl, again)
