use Rattle.desks.proofs.RowNames.{Sofar}
use Rattle.desks.proofs.newest.Given as goal

abbrev pub invariant-loop-i : goal.invariant-loop-i
invariant-loop-i l = Sofar l.names l.best l.i
