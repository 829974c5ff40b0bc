-- Numbers as bytes, the lowest first, and back. Whatever numbers stand in a list, they are read as bytes: modulo 256.
use Rattle.std.specs.Prelude.{ℕ, ◌+◌, ◌*◌, ◌/◌, ◌%◌, List, [], ◌∷◌, slice_index}

abbrev pub four : ℕ → List ℕ
four n = n % 256 ∷ n / 256 % 256 ∷ n / 65536 % 256 ∷ n / 16777216 % 256 ∷ []

abbrev pub number : ℕ → ℕ → ℕ → ℕ → ℕ
number a b c d = a + b * 256 + c * 65536 + d * 16777216

abbrev pub byte : List ℕ → ℕ → ℕ
byte bs p = slice_index bs p % 256

abbrev pub number_at : List ℕ → ℕ → ℕ
number_at bs p = number (byte bs p) (byte bs (p + 1)) (byte bs (p + 2)) (byte bs (p + 3))
