-- A table's rule: the table here is as it must be, eight bit steps of each byte, and the checker computes it to compare it with the code's.
use Rattle.std.proofs.Common.{◌≡◌, ℕ, ◌%◌, ◌<◌, List, map, get_or, ap, ◌∙◌, arith}
use lib.Bits.{bit_and, and_mask}
use Rattle.std.specs.List.{range_with_len}
use Rattle.std.proofs.lemmas.List.FromFn.{get_or-map-range_with_len}
use Rattle.checksums.specs.Crc.{crc_bits}

unfoldable pub table : List ℕ
table = map (crc_bits 8) (range_with_len 0 256)

entry_is : (k : ℕ) → k < 256 → get_or table k 0 ≡ crc_bits 8 k
unfolding table
entry_is k h = get_or-map-range_with_len (crc_bits 8) 0 256 k k 0 h (omega arith)

-- the entry for the eight low bits of x
pub entry_masked : (x : ℕ) → get_or table (bit_and x 255) 0 ≡ crc_bits 8 (x % 256)
entry_masked x = ap (λ (k : ℕ). get_or table k 0) (and_mask x 8) ∙ entry_is (x % 256) (omega arith)
