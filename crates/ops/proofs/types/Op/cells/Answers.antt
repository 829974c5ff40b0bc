use Rattle.ops.specs.Log.{row_of}
use Rattle.ops.proofs.Slots.{cells_by}
use Rattle.ops.proofs.types.Op.cells.Goals as goal

pub returns-in-Insert : goal.returns-in-Insert
unfolding row_of
returns-in-Insert c = cells_by c.args.self _ _ c.in-Insert.is (cc)

pub returns-in-Delete : goal.returns-in-Delete
unfolding row_of
returns-in-Delete c = cells_by c.args.self _ _ c.in-Delete.is (cc)

pub returns-in-Write : goal.returns-in-Write
unfolding row_of
returns-in-Write c = cells_by c.args.self _ _ c.in-Write.is (cc)

pub returns-in-Add : goal.returns-in-Add
unfolding row_of
returns-in-Add c = cells_by c.args.self _ _ c.in-Add.is (cc)
