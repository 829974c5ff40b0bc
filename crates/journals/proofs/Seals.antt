-- What is sealed is found sealed, whatever stands behind it.
use Rattle.std.proofs.Common.{◌≡◌, ℕ, ◌+◌, true, List, ◌++◌, length, take, sym, ap, ◌∙◌, append_assoc, length-append, take_at}
use Rattle.std.proofs.lemmas.Bool.{eq-eqb}
use Rattle.checksums.specs.Crc.{crc32_of}
use Rattle.checksums.proofs.CrcSize.{crc_small}
use Rattle.journals.specs.Bytes.{little, number_at, sealed, is_sealed}
use Rattle.journals.proofs.LittleEndian.{length-little, number-there}

pub length-sealed : (bs : List ℕ) → length (sealed bs) ≡ length bs + 4
unfolding sealed
length-sealed bs = length-append bs (little 4 (crc32_of bs)) ∙ ap (λ (k : ℕ). length bs + k) (length-little 4 (crc32_of bs))

pub sealed-append : (bs rest : List ℕ) → sealed bs ++ rest ≡ bs ++ (little 4 (crc32_of bs) ++ rest)
unfolding sealed
sealed-append bs rest = append_assoc bs (little 4 (crc32_of bs)) rest

pub sealed-there : (bs rest : List ℕ) (n : ℕ) → length bs ≡ n → is_sealed n (sealed bs ++ rest) ≡ true
unfolding is_sealed
sealed-there bs rest n e =
    let crc : List ℕ = little 4 (crc32_of bs) in
    ap (is_sealed n) (sealed-append bs rest)
    ∙ eq-eqb (number_at 4 n (bs ++ (crc ++ rest))) (crc32_of (take n (bs ++ (crc ++ rest))))
    (number-there bs 4 (crc32_of bs) rest n e (crc_small bs) ∙ ap crc32_of (sym (take_at bs (crc ++ rest) n e)))
