use Rattle.std.proofs.Common.{◌+◌, ap, arith}
use Rattle.ops.specs.Values.{tag_of}
use Rattle.ops.proofs.Slots.{tag_read}
use Rattle.messages.proofs.Coding.{read_is, kind_0, kind_1, kind_2, kind_3}
use Rattle.messages.proofs.records.record_at.Goals as goal

pub returns-in-Insert : goal.returns-in-Insert
returns-in-Insert c =
    let t = tag_read _ _ _ c.try_from.ensures c.unwrap_or.ensures in
    let e = ap tag_of c.in-Insert.is in
    read_is c.args.letter.now c.args.at _ _ _ _ c.number_at.ensures c.number_at-x.ensures c.number_at-y.ensures (kind_0 _ _ _ _ (omega (arith, c.type_inv.letter (c.args.at + 5))))

pub returns-in-Delete : goal.returns-in-Delete
returns-in-Delete c =
    let t = tag_read _ _ _ c.try_from.ensures c.unwrap_or.ensures in
    let e = ap tag_of c.in-Delete.is in
    read_is c.args.letter.now c.args.at _ _ _ _ c.number_at.ensures c.number_at-x.ensures c.number_at-y.ensures (kind_1 _ _ _ _ (omega (arith, c.type_inv.letter (c.args.at + 5))))

pub returns-in-Write : goal.returns-in-Write
returns-in-Write c =
    let t = tag_read _ _ _ c.try_from.ensures c.unwrap_or.ensures in
    let e = ap tag_of c.in-Write.is in
    read_is c.args.letter.now c.args.at _ _ _ _ c.number_at.ensures c.number_at-x.ensures c.number_at-y.ensures (kind_2 _ _ _ _ (omega (arith, c.type_inv.letter (c.args.at + 5))))

pub returns-in-Add : goal.returns-in-Add
returns-in-Add c =
    let t = tag_read _ _ _ c.try_from.ensures c.unwrap_or.ensures in
    let e = ap tag_of c.in-Add.is in
    read_is c.args.letter.now c.args.at _ _ _ _ c.number_at.ensures c.number_at-x.ensures c.number_at-y.ensures (kind_3 _ _ _ _ (omega (arith, c.type_inv.letter (c.args.at + 5))))
