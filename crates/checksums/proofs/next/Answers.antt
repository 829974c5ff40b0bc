use Rattle.std.proofs.Common.{arith}
use Rattle.checksums.proofs.CrcByte.{byte_is}
use Rattle.checksums.proofs.next.Goals as goal

pub returns : goal.returns
returns c = byte_is c.args.state c.args.byte c.from.result c.low_bits.result (omega arith) c.from.ensures c.low_bits.ensures
