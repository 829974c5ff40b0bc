-- The register after some bytes is a fold over them.
use Rattle.std.proofs.Common.{◌≡◌, ℕ, List, [], ◌∷◌, refl, fold}
use Rattle.checksums.specs.Crc.{crc_byte, crc_bytes}

pub folded : (c : ℕ) (bs : List ℕ) → fold crc_byte c bs ≡ crc_bytes c bs
unfolding crc_bytes
folded c [] = refl
folded c (b ∷ bs) = folded (crc_byte c b) bs
