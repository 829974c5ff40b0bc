use Rattle.std.proofs.Common.{refl, ap, arith}
use Rattle.ops.specs.Values.{tag_of}
use Rattle.ops.proofs.Slots.{kind_0, kind_1, kind_2, kind_3, tag_read, op_is}
use Rattle.ops.proofs.types.Memory.operation.Goals as goal

pub returns-in-Insert : goal.returns-in-Insert
returns-in-Insert c =
    let t = tag_read c.field-3.result _ _ c.try_from.ensures (c.unwrap_or.ensures) in
    let e = ap tag_of c.in-Insert.is in
    (omega arith, op_is _ _ _ _ _ _ _ _ _ c.field.ensures c.field-2.ensures c.field-3.ensures c.field-x.ensures c.field-y.ensures c.field-in-Insert.ensures (kind_0 _ _ _ _ (omega arith)))

pub returns-in-Delete : goal.returns-in-Delete
returns-in-Delete c =
    let t = tag_read c.field-3.result _ _ c.try_from.ensures (c.unwrap_or.ensures) in
    let e = ap tag_of c.in-Delete.is in
    (omega arith, op_is _ _ _ _ _ _ _ _ _ c.field.ensures c.field-2.ensures c.field-3.ensures c.field-x.ensures c.field-y.ensures (refl) (kind_1 _ _ _ _ (omega arith)))

pub returns-in-Write : goal.returns-in-Write
returns-in-Write c =
    let t = tag_read c.field-3.result _ _ c.try_from.ensures (c.unwrap_or.ensures) in
    let e = ap tag_of c.in-Write.is in
    (omega arith, op_is _ _ _ _ _ _ _ _ _ c.field.ensures c.field-2.ensures c.field-3.ensures c.field-x.ensures c.field-y.ensures (refl) (kind_2 _ _ _ _ (omega arith)))

pub returns-in-Add : goal.returns-in-Add
returns-in-Add c =
    let t = tag_read c.field-3.result _ _ c.try_from.ensures (c.unwrap_or.ensures) in
    let e = ap tag_of c.in-Add.is in
    (omega arith, op_is _ _ _ _ _ _ _ _ _ c.field.ensures c.field-2.ensures c.field-3.ensures c.field-x.ensures c.field-y.ensures (refl) (kind_3 _ _ _ _ (omega arith)))
