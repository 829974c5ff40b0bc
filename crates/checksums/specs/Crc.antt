-- CRC-32 (IEEE 802.3), bit by bit: each byte from its lowest bit on, a register of 32 bits that starts as all ones and is turned over at the end.
use Rattle.std.specs.Prelude.{◌≡◌, ℕ, zero, suc, ◌/◌, ◌%◌, cond, List, [], ◌∷◌, ◌==◌, bit_xor}

-- 0xEDB88320: the polynomial, its highest power at the lowest bit
unfoldable pub polynomial : ℕ
polynomial = 3988292384

-- 0xFFFFFFFF
unfoldable pub all_ones : ℕ
all_ones = 4294967295

-- one bit leaves the register; where it was set, the polynomial is taken away
unfoldable pub crc_bit : ℕ → ℕ
crc_bit c = cond (c % 2 == 1) (bit_xor (c / 2) polynomial) (c / 2)

unfoldable pub crc_bits : ℕ → ℕ → ℕ
crc_bits zero c = c
crc_bits (suc n) c = crc_bits n (crc_bit c)

unfoldable pub crc_byte : ℕ → ℕ → ℕ
crc_byte c b = crc_bits 8 (bit_xor c (b % 256))

unfoldable pub crc_bytes : ℕ → List ℕ → ℕ
crc_bytes c [] = c
crc_bytes c (b ∷ bs) = crc_bytes (crc_byte c b) bs

unfoldable pub crc32_of : List ℕ → ℕ
crc32_of bs = bit_xor (crc_bytes all_ones bs) all_ones

-- the value by which implementations of CRC-32 are compared, 0xCBF43926, of the text 123456789
abbrev pub CheckValue : Type 0
CheckValue = crc32_of (49 ∷ 50 ∷ 51 ∷ 52 ∷ 53 ∷ 54 ∷ 55 ∷ 56 ∷ 57 ∷ []) ≡ 3421780262
