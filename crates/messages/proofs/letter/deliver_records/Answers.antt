use Rattle.std.proofs.Common.{◌∙◌}
use Rattle.messages.proofs.Deliveries.{delivered_next, delivered_none}
use Rattle.messages.proofs.letter.deliver_records.Goals as goal

pub loop-op-preserved : goal.loop-op-preserved
loop-op-preserved c =
    let h = c.in-Some.ensures in
    (delivered_next _ _ _ _ _ h.steps c.deliver.ensures.after ∙ c.loop-op.invariant.0, c.deliver.ensures.same ∙ c.loop-op.invariant.1)

pub returns : goal.returns
returns c =
    let h = c.in-None.ensures in
    record { after = delivered_none _ _ h.steps.0 ∙ c.loop-op.invariant.0; same = c.loop-op.invariant.1 }
