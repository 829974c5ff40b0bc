-- A CRC fits four bytes: no step of the register leaves 32 bits.
use Rattle.std.proofs.Common.{ℕ, zero, suc, ◌/◌, ◌%◌, ◌<◌, true, false, cond, eqb, List, [], ◌∷◌, arith}
use lib.Bits.{bit_xor, xor_lt}
use Rattle.checksums.specs.Crc.{polynomial, all_ones, crc_bit, crc_bits, crc_byte, crc_bytes, crc32_of}

xor_small : (a b : ℕ) → a < 4294967296 → b < 4294967296 → bit_xor a b < 4294967296
xor_small a b h k = xor_lt 32 a b h k

polynomial_small : polynomial < 4294967296
unfolding polynomial
polynomial_small = omega arith

all_ones_small : all_ones < 4294967296
unfolding all_ones
all_ones_small = omega arith

bit_small : (c : ℕ) → c < 4294967296 → crc_bit c < 4294967296
unfolding crc_bit
bit_small c h =
    let k : c / 2 < 4294967296 = omega arith in
    elim (eqb (c % 2) 1) as (λ t. cond t (bit_xor (c / 2) polynomial) (c / 2) < 4294967296) [ true ↦ xor_small (c / 2) polynomial k polynomial_small | false ↦ k ]

bits_small : (n c : ℕ) → c < 4294967296 → crc_bits n c < 4294967296
unfolding crc_bits
bits_small zero c h = h
bits_small (suc n) c h = bits_small n (crc_bit c) (bit_small c h)

byte_small : (c b : ℕ) → c < 4294967296 → crc_byte c b < 4294967296
unfolding crc_byte
byte_small c b h = let k : b % 256 < 4294967296 = omega arith in bits_small 8 (bit_xor c (b % 256)) (xor_small c (b % 256) h k)

bytes_small : (bs : List ℕ) (c : ℕ) → c < 4294967296 → crc_bytes c bs < 4294967296
unfolding crc_bytes
bytes_small [] c h = h
bytes_small (b ∷ bs) c h = bytes_small bs (crc_byte c b) (byte_small c b h)

pub crc_small : (bs : List ℕ) → crc32_of bs < 4294967296
unfolding crc32_of
crc_small bs = xor_small (crc_bytes all_ones bs) all_ones (bytes_small bs all_ones all_ones_small) all_ones_small
