-- Numbers as bytes, the lowest first, and back; and bytes with their CRC-32 behind them.
use Rattle.std.specs.Prelude.{ℕ, zero, suc, ◌+◌, ◌*◌, ◌/◌, ◌%◌, Bool, List, [], ◌∷◌, ◌++◌, take, drop, ◌==◌}
use Rattle.checksums.specs.Crc.{crc32_of}

-- a number in so many bytes
unfoldable pub little : ℕ → ℕ → List ℕ
little zero n = []
little (suc k) n = n % 256 ∷ little k (n / 256)

unfoldable pub value : List ℕ → ℕ
value [] = 0
value (b ∷ bs) = b + 256 * value bs

-- the number in so many bytes at a place
unfoldable pub number_at : (size place : ℕ) → List ℕ → ℕ
number_at k p bs = value (take k (drop p bs))

unfoldable pub sealed : List ℕ → List ℕ
sealed bs = bs ++ little 4 (crc32_of bs)

-- behind the first n bytes stands their CRC
unfoldable pub is_sealed : ℕ → List ℕ → Bool
is_sealed n bs = number_at 4 n bs == crc32_of (take n bs)
