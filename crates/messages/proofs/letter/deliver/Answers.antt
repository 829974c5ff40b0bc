use Rattle.std.proofs.Common.{refl}
use Rattle.ops.specs.Values.{held, op_of}
use Rattle.messages.proofs.Deliveries.{deliver_new, deliver_old}
use Rattle.messages.proofs.letter.deliver.Goals as goal

pub returns-then-version-op : goal.returns-then-version-op
returns-then-version-op c =
    record {
      after = deliver_new (held c.args.memory.now) _ (op_of c.args.op) _ c.version.ensures c.if-version-op.true c.append.ensures.after.after;
      same = c.append.ensures.after.same;
    }

pub returns-else-version-op : goal.returns-else-version-op
returns-else-version-op c =
    record { after = deliver_old (held c.args.memory.now) (op_of c.args.op) _ c.version.ensures c.if-version-op.false; same = refl }
