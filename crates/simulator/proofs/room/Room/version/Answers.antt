use Rattle.std.proofs.Common.{ltb, ap, ◌∙◌}
use Rattle.ops.specs.Doc.{pick}
use Rattle.ops.specs.Layout.{low, version_cell}
use Rattle.simulator.proofs.Passing.{memory_there}
use Rattle.simulator.proofs.Playing.{within}
use Rattle.simulator.proofs.Looking.{at_near, at_far}
use Rattle.simulator.proofs.room.Room.version.Goals as goal

pub returns-then-desk-ge-DESKS : goal.returns-then-desk-ge-DESKS
returns-then-desk-ge-DESKS c = at_far _ _ c.if-desk-ge-DESKS.true

pub returns : goal.returns
returns c =
    let self = c.args.self.now in
    let near = c.if-desk-ge-DESKS.false in
    let of = c.args.of in
    at_near _ _ _ near
    (c.version.ensures ∙ ap (λ m. pick (ltb of 32) (low m (version_cell of)) 0) (memory_there _ _ _ (within self.desks _ self.count near) c.index.ensures))
