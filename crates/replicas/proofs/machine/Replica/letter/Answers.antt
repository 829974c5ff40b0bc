use Rattle.std.proofs.Common.{sym, ◌∙◌}
use Rattle.desks.specs.Run.{letter_to}
use Rattle.replicas.proofs.Stepping.{lent_posts}
use Rattle.replicas.proofs.Runs.{writes}
use Rattle.replicas.proofs.machine.Replica.letter.Goals as goal

pub returns : goal.returns
returns c = let self = c.args.self.now in writes _ _ _ _ c.args.to (sym self.memory.ok.0 ∙ self.sized) _ _ (lent_posts _ (letter_to c.args.to) _ _ _ (record { long = sym self.memory.ok.0; whole = c.as_mut_slice.ensures.value; kept = c.send.auto.cells }) c.send.ensures)
