use Rattle.std.proofs.Common.{sym}
use Rattle.desks.specs.Run.{said}
use Rattle.replicas.specs.Replica.{command_of}
use Rattle.replicas.proofs.Stepping.{lent_tells}
use Rattle.replicas.proofs.Runs.{did, deed_quiet}
use Rattle.replicas.proofs.machine.Replica.does.Goals as goal

pub returns : goal.returns
returns c = let self = c.args.self.now in did _ _ (said (command_of c.args.deed)) _ (deed_quiet c.args.deed) (lent_tells (said (command_of c.args.deed)) _ (record { long = sym self.memory.ok.0; whole = c.as_mut_slice.ensures.value; kept = c.tell.auto.cells }) c.tell.ensures)
