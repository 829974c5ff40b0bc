use Rattle.desks.proofs.Dispatch.{word_none, word_some, word_no}
use Rattle.desks.proofs.report.shown_word.Goals as goal

pub returns-in-Err : goal.returns-in-Err
returns-in-Err c = word_no _ _ _ _ c.in-Err.is c.no.ensures

pub returns-in_default : goal.returns-in_default
returns-in_default c = word_none _ _ _ c.in-Ok.is c.in_default.is

pub returns : goal.returns
returns c = word_some _ _ _ _ _ c.requires c.in-Ok.is c.in-Some.is c.from.ensures
