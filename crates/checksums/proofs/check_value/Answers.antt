use Rattle.std.proofs.Common.{refl, ◌∙◌}
use Rattle.checksums.specs.Crc.{polynomial, all_ones, crc_bit, crc_bits, crc_byte, crc_bytes, crc32_of, CheckValue}
use Rattle.checksums.proofs.check_value.Goals as goal

check : CheckValue
unfolding polynomial all_ones crc_bit crc_bits crc_byte crc_bytes crc32_of
check = refl

pub returns : goal.returns
returns c = (c.crc32.ensures ∙ check, check)
