use Rattle.std.proofs.Common.{refl, ◌∙◌, arith}
use Rattle.ops.specs.Values.{op_of}
use Rattle.ops.proofs.Slots.{append-room, append-full}
use Rattle.ops.proofs.types.Memory.append.Goals as goal

pub returns-then-k-ge-CAPACITY-clause-after : goal.returns-then-k-ge-CAPACITY-clause-after
returns-then-k-ge-CAPACITY-clause-after c = record { after = append-full _ _ (omega arith); same = refl }

pub returns-clause-after : goal.returns-clause-after
returns-clause-after c =
    record {
      after =
          append-room _ _ (op_of c.args.op) _ _ _ c.length-k.ensures.value c.if-k-ge-CAPACITY.false c.from.ensures
          (c.from-2.ensures ∙ c.made-made.ensures) c.store.ensures.after;
      same = c.store.ensures.same;
    }
