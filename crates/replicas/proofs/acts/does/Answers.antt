use Rattle.ops.specs.Doc.{insert, strike}
use Rattle.desks.specs.Run.{said}
use Rattle.desks.proofs.Refusals.{unknown_insert, unknown_strike}
use Rattle.replicas.proofs.Stepping.{unknown_acts, deed_acts}
use Rattle.replicas.proofs.acts.does.Goals as goal

pub returns-in-Insert : goal.returns-in-Insert
returns-in-Insert c = deed_acts _ _ _ c.in-Insert.is (unknown_acts _ (said (insert c.in-Insert.place c.in-Insert.sign)) _ (unknown_insert _ _ _) c.refusal_of_unknown.ensures)

pub returns-in-Strike : goal.returns-in-Strike
returns-in-Strike c = deed_acts _ _ _ c.in-Strike.is (unknown_acts _ (said (strike c.in-Strike.place)) _ (unknown_strike _ _) c.refusal_of_unknown-in-Strike.ensures)
