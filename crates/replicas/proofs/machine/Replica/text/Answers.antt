use Rattle.std.proofs.Common.{sym}
use Rattle.ops.specs.Doc.{show_text}
use Rattle.desks.specs.Run.{said}
use Rattle.replicas.proofs.Stepping.{lent_tells}
use Rattle.replicas.proofs.Runs.{did, text_quiet}
use Rattle.replicas.proofs.machine.Replica.text.Goals as goal

pub returns : goal.returns
returns c = let self = c.args.self.now in did _ _ (said show_text) _ text_quiet (lent_tells (said show_text) _ (record { long = sym self.memory.ok.0; whole = c.as_mut_slice.ensures.value; kept = c.tell.auto.cells }) c.tell.ensures)
