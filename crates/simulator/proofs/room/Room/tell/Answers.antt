use Rattle.simulator.proofs.Playing.{cannot_at, told_at, reached_next, within}
use Rattle.simulator.proofs.room.Room.tell.Goals as goal

pub returns-then-desk-ge-DESKS : goal.returns-then-desk-ge-DESKS
returns-then-desk-ge-DESKS c = cannot_at _ _ _ c.if-desk-ge-DESKS.true

pub invariant_of-self : goal.invariant_of-self
invariant_of-self c =
    let self = c.args.self.now in
    let near = c.if-desk-ge-DESKS.false in
    let p = told_at _ _ _ _ _ _ _ near (within self.desks _ self.count near) c.index_mut.ensures.value c.told.ensures in
    record { count = self.count; reached = reached_next _ _ _ p.after self.reached }

pub returns : goal.returns
returns c =
    let self = c.args.self.now in
    let near = c.if-desk-ge-DESKS.false in
    told_at _ _ _ _ _ _ _ near (within self.desks _ self.count near) c.index_mut.ensures.value c.told.ensures
