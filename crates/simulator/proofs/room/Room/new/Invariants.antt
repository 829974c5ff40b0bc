use Rattle.std.proofs.Common.{◌≡◌, vec_len}
use Rattle.ops.specs.Doc.{each}
use Rattle.desks.specs.Promise.{up_to, opened}
use Rattle.desks.specs.Entry.{own}
use Rattle.simulator.specs.Rooms.{memories}
use Rattle.simulator.proofs.room.Room.new.Given as goal

abbrev pub invariant-loop-desk : goal.invariant-loop-desk
invariant-loop-desk l = (vec_len l.desks ≡ l.desk) × (memories l.desks ≡ each (λ i. (opened 3 own i).memory) (up_to l.desk))
