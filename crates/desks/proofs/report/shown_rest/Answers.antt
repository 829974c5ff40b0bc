use Rattle.desks.proofs.Dispatch.{rest_none, rest_some, rest_no}
use Rattle.desks.proofs.report.shown_rest.Goals as goal

pub returns-in-Err : goal.returns-in-Err
returns-in-Err c = rest_no _ _ _ _ c.in-Err.is c.no.ensures

pub returns-in_default : goal.returns-in_default
returns-in_default c = rest_none _ _ _ c.in-Ok.is c.in_default.is

pub returns : goal.returns
returns c = rest_some _ _ _ _ c.requires c.in-Ok.is c.in-Some.is
