use Rattle.std.proofs.Common.{◌∙◌, arith}
use Rattle.ops.specs.Values.{held}
use Rattle.messages.specs.Letter.{versions}
use Rattle.messages.proofs.Fills.{vector_none, vector_more}
use Rattle.messages.proofs.letter.write_versions.Goals as goal

pub loop-number-init : goal.loop-number-init
loop-number-init c = vector_none c.args.out.now 4 _ (omega arith)

pub loop-number-preserved : goal.loop-number-preserved
loop-number-preserved c =
    c.put_number.ensures
    ∙ vector_more c.args.out.now _ (versions (held c.args.memory.now)) c.loop-number.number 4 _ (omega arith) c.loop-number.invariant c.version.ensures
