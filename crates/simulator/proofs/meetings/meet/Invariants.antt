use Rattle.std.proofs.Common.{◌≡◌, vec_len}
use Rattle.simulator.specs.Rooms.{memories}
use Rattle.simulator.proofs.UnderWay.{UnderWay}
use Rattle.simulator.proofs.meetings.meet.Given as goal

abbrev pub invariant-loop-pairs : goal.invariant-loop-pairs
invariant-loop-pairs l =
    (vec_len l.desks ≡ 32)
    × UnderWay (memories l.initial.desks) l.two.one l.two.other l.pairs l.fair l.bytes (memories l.desks)
