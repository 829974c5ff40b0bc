use Rattle.desks.proofs.Dispatch.{done_ok, done_no}
use Rattle.desks.proofs.report.done.Goals as goal

pub returns-in-Ok : goal.returns-in-Ok
returns-in-Ok c = done_ok _ _ c.in-Ok.is

pub returns-in-Err : goal.returns-in-Err
returns-in-Err c = done_no _ _ _ c.in-Err.is c.no.ensures
