use Rattle.std.proofs.Common.{refl, arith}
use Rattle.ops.specs.Values.{op_of}
use Rattle.ops.proofs.Slots.{length_cells, copied_cells}
use Rattle.ops.proofs.types.Memory.store.Goals as goal

pub returns : goal.returns
returns c = record { after = copied_cells _ _ _ _ _ _ c.copy_from_slice.ensures.after c.cells.ensures (length_cells (op_of c.args.op)) (omega arith) (omega arith); same = refl }
