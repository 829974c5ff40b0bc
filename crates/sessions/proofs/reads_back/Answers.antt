use Rattle.std.proofs.Common.{refl}
use Rattle.sessions.proofs.Back.{back}
use Rattle.sessions.proofs.reads_back.Goals as goal

pub returns : goal.returns
returns c = (refl, back)
