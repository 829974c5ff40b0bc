use Rattle.std.proofs.Common.{ap, ◌∙◌}
use Rattle.ops.specs.Log.{kept}
use Rattle.simulator.proofs.Passing.{memory_there}
use Rattle.simulator.proofs.Playing.{within}
use Rattle.simulator.proofs.room.Room.known.Goals as goal

pub returns : goal.returns
returns c =
    let self = c.args.self.now in
    let near = c.if-desk-ge-DESKS.false in
    (near, c.known.ensures.value ∙ ap kept (memory_there _ _ _ (within self.desks _ self.count near) c.index.ensures))
