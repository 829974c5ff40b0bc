use Rattle.ops.specs.Doc.{show_text}
use Rattle.desks.specs.Run.{said}
use Rattle.desks.proofs.Refusals.{unknown-text}
use Rattle.replicas.proofs.Stepping.{unknown_tells, told_tells}
use Rattle.replicas.proofs.acts.tell.Goals as goal

pub returns-in-ShowText : goal.returns-in-ShowText
returns-in-ShowText c = told_tells _ _ _ c.in-ShowText.is (unknown_tells _ (said show_text) _ (unknown-text _) c.refusal_of_unknown.ensures)
