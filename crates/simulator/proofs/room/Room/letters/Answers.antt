use Rattle.std.proofs.Common.{◌∙◌}
use Rattle.simulator.proofs.Looking.{noted}
use Rattle.simulator.proofs.room.Room.letters.Goals as goal

pub returns : goal.returns
returns c = c.len.ensures ∙ noted c.args.self.now.letters
