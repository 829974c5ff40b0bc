use Rattle.std.proofs.Common.{◌≡◌, fold, rules, ap, ◌∙◌}
use lib.Bits.{bit_xor}
use Rattle.checksums.specs.Crc.{all_ones, crc_byte, crc32_of}
use Rattle.checksums.proofs.CrcFold.{folded}
use Rattle.checksums.proofs.crc32.Goals as goal

pub returns : goal.returns
unfolding all_ones crc32_of
returns c =
    let f : c.fold-state.result ≡ fold crc_byte 4294967295 c.args.bytes.now = search rules in
    ap (λ s. bit_xor s 4294967295) (f ∙ folded 4294967295 c.args.bytes.now)
