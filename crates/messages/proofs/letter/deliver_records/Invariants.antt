use Rattle.std.proofs.Common.{◌≡◌}
use Rattle.ops.specs.Values.{held}
use Rattle.messages.specs.Bytes.{byte}
use Rattle.messages.specs.Records.{records}
use Rattle.messages.specs.Letter.{delivered}
use Rattle.messages.specs.Parsed.{records_left}
use Rattle.messages.proofs.letter.deliver_records.Given as goal

-- what is still to be delivered makes of the memory what all records made of it at the beginning
abbrev pub invariant-loop-op : goal.invariant-loop-op
invariant-loop-op l =
    (delivered (held l.memory) (records_left l.op-iterator) ≡ delivered (held l.initial.memory) (records (byte l.letter.bytes.now 3) l.letter.bytes.now))
    × (l.memory.cells.ghost_name ≡ l.initial.memory.cells.ghost_name)
