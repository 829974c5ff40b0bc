-- Unfolded, the computed table is the one that the code writes out.
use Rattle.checksums.specs.Crc.{polynomial, crc_bit, crc_bits}
use Rattle.checksums.proofs.CrcTable.{table, entry_masked}
use Rattle.checksums.proofs.low_bits.Goals as goal

pub returns : goal.returns
unfolding table crc_bits crc_bit polynomial
returns c = entry_masked c.args.x
