use Rattle.ops.specs.Values.{held}
use Rattle.desks.proofs.Acting.{room_left}
use Rattle.desks.proofs.acts.perform.Goals as goal

pub unwrap-requires : goal.unwrap-requires
unwrap-requires c = c.append.ensures.room.1 (room_left (held c.args.memory.now) _ c.in_ok-id.ensures.0)
