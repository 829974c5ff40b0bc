use Rattle.std.proofs.Common.{◌≡◌, ◌+◌, ◌-◌, sym, arith}
use Rattle.ops.specs.Values.{op_of}
use Rattle.messages.proofs.Coding.{length_record}
use Rattle.messages.proofs.Fills.{put_part}
use Rattle.messages.proofs.records.put_record.Goals as goal

pub returns : goal.returns
returns c =
    let h : 16 ≡ (c.args.at + 16) - c.args.at = omega arith in
    put_part _ _ _ _ _ _ _ c.copy_from_slice.ensures.after c.record_bytes-bytes.ensures h (sym (length_record (op_of c.args.op)))
