use Rattle.std.proofs.Common.{sym}
use Rattle.desks.specs.Run.{hears}
use Rattle.replicas.proofs.Stepping.{lent_tells}
use Rattle.replicas.proofs.Runs.{did, heard_quiet, read_short, read-long}
use Rattle.replicas.proofs.machine.Replica.hear.Goals as goal

pub returns : goal.returns
returns c = let self = c.args.self.now in let ev = hears c.args.from c.args.letter.now in read_short _ _ _ _ _ c.if-letter-gt-MOST_BYTES.false (did _ _ ev _ (heard_quiet _ _) (lent_tells ev _ (record { long = sym self.memory.ok.0; whole = c.as_mut_slice.ensures.value; kept = c.tell.auto.cells }) c.tell.ensures))

pub returns-then-letter-gt-MOST_BYTES : goal.returns-then-letter-gt-MOST_BYTES
returns-then-letter-gt-MOST_BYTES c = read-long _ _ _ c.if-letter-gt-MOST_BYTES.true
