-- A byte's step is the eight bit steps of the low bits and a move of the others, since a byte changes no bit above the eight lowest.
use Rattle.std.proofs.Common.{◌≡◌, ℕ, ◌/◌, ◌%◌, ◌<◌, sym, ap, ◌∙◌, arith}
use lib.Bits.{bit_xor, xor_shr, xor_zero_r}
use Rattle.checksums.specs.Crc.{crc_bits, crc_byte}
use Rattle.checksums.proofs.CrcBits.{bits_split}

high_bits : (s b : ℕ) → b < 256 → bit_xor s b / 256 ≡ s / 256
high_bits s b h = let z : b / 256 ≡ 0 = omega arith in xor_shr s b 8 ∙ ap (bit_xor (s / 256)) z ∙ xor_zero_r (s / 256)

byte_split : (s b : ℕ) → b < 256 → bit_xor (crc_bits 8 (bit_xor s b % 256)) (s / 256) ≡ crc_byte s b
unfolding crc_byte
byte_split s b h =
    let m : b % 256 ≡ b = omega arith in
    ap (bit_xor (crc_bits 8 (bit_xor s b % 256))) (sym (high_bits s b h))
    ∙ sym (bits_split 8 (bit_xor s b))
    ∙ ap (λ (y : ℕ). crc_bits 8 (bit_xor s y)) (sym m)

-- in the code's terms: w is the byte widened, and low what the table says
pub byte_is : (s b w low : ℕ) → b < 256 → w ≡ b → low ≡ crc_bits 8 (bit_xor s w % 256) → bit_xor low (s / 256) ≡ crc_byte s b
byte_is s b w low h e l = ap (λ (y : ℕ). bit_xor y (s / 256)) (l ∙ ap (λ (y : ℕ). crc_bits 8 (bit_xor s y % 256)) e) ∙ byte_split s b h
