use Rattle.std.proofs.Common.{sym}
use Rattle.desks.specs.Run.{opens}
use Rattle.replicas.proofs.Stepping.{lent_tells}
use Rattle.replicas.proofs.Runs.{did, open_quiet, opened_ok, opened-no, opened_err}
use Rattle.replicas.proofs.machine.Replica.opened.Goals as goal

pub returns-in_err-tell : goal.returns-in_err-tell
returns-in_err-tell c =
    let r = c.in_ok-replica.replica in
    opened_err _ _ _ c.from_residual-in_err-tell.ensures.1 (opened-no _ _ _ _ c.in_ok-replica.ensures (did _ _ (opens c.args.desk) _ (open_quiet _) (lent_tells (opens c.args.desk) _ (record { long = sym r.memory.ok.0; whole = c.as_mut_slice.ensures.value; kept = c.tell.auto.cells }) c.in_err-tell.ensures)))

pub returns : goal.returns
returns c =
    let r = c.in_ok-replica.replica in
    opened_ok _ _ _ c.in_ok-replica.ensures (did _ _ (opens c.args.desk) _ (open_quiet _) (lent_tells (opens c.args.desk) _ (record { long = sym r.memory.ok.0; whole = c.as_mut_slice.ensures.value; kept = c.tell.auto.cells }) c.in_ok-tell.ensures))
