use Rattle.std.proofs.Common.{refl, ◌∙◌}
use Rattle.messages.specs.Letter.{noted}
use Rattle.messages.proofs.Deliveries.{noted_on}
use Rattle.messages.proofs.letter.note_versions.Goals as goal

pub loop-number-init : goal.loop-number-init
unfolding noted
loop-number-init c = record { after = refl; same = refl }

pub loop-number-preserved : goal.loop-number-preserved
loop-number-preserved c =
    record {
      after = noted_on _ _ _ _ _ _ _ c.loop-number.invariant.after c.version.ensures c.note.ensures.after;
      same = c.note.ensures.same ∙ c.loop-number.invariant.same;
    }
