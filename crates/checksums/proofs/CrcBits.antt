-- Bit steps are linear under xor, so eight of them move the high bits down and work on the low eight alone.
use Rattle.std.proofs.Common.{◌≡◌, ℕ, zero, suc, ◌*◌, ◌/◌, ◌%◌, ◌^◌, ◌<◌, cond, eqb, ◌⊎◌, sym, refl, ap, ◌∙◌, ap₂, inl, inr, mod-lt, arith, pow_pos}
use lib.Bits.{bit_xor, xor_shr, xor_mod, xor_assoc, xor_comm, xor_self, xor_zero_r, xor_shifted, shifted_half, shifted_even}
use lib.Pow.{split}
use Rattle.checksums.specs.Crc.{polynomial, crc_bit, crc_bits}

bit_even : (c : ℕ) → c % 2 ≡ 0 → crc_bit c ≡ c / 2
unfolding crc_bit
bit_even c h = ap (λ (d : ℕ). cond (eqb d 1) (bit_xor (c / 2) polynomial) (c / 2)) h

bit_odd : (c : ℕ) → c % 2 ≡ 1 → crc_bit c ≡ bit_xor (c / 2) polynomial
unfolding crc_bit
bit_odd c h = ap (λ (d : ℕ). cond (eqb d 1) (bit_xor (c / 2) polynomial) (c / 2)) h

parity : (c : ℕ) → (c % 2 ≡ 0) ⊎ (c % 2 ≡ 1)
parity c = go (c % 2) (omega arith)
  where
    go : (d : ℕ) → d < 2 → (d ≡ 0) ⊎ (d ≡ 1)
    go zero h = inl refl
    go (suc zero) h = inr refl
    go (suc (suc d)) h = absurd (omega arith)

xor_parity : (a b x y : ℕ) → a % 2 ≡ x → b % 2 ≡ y → bit_xor a b % 2 ≡ bit_xor x y
xor_parity a b x y p q = xor_mod a b 1 ∙ ap₂ bit_xor p q

xor_swap : (a b p : ℕ) → bit_xor (bit_xor a b) p ≡ bit_xor (bit_xor a p) b
xor_swap a b p = xor_assoc a b p ∙ ap (bit_xor a) (xor_comm b p) ∙ sym (xor_assoc a p b)

xor_twice : (a b p : ℕ) → bit_xor a b ≡ bit_xor (bit_xor a p) (bit_xor b p)
xor_twice a b p =
    sym
    (sym (xor_assoc (bit_xor a p) b p) ∙ ap (λ (x : ℕ). bit_xor x p) (xor_swap a p b)
    ∙ xor_assoc (bit_xor a b) p p ∙ ap (bit_xor (bit_xor a b)) (xor_self p) ∙ xor_zero_r (bit_xor a b))

bit_linear : (a b : ℕ) → crc_bit (bit_xor a b) ≡ bit_xor (crc_bit a) (crc_bit b)
bit_linear a b = go (parity a) (parity b)
  where
    go : (a % 2 ≡ 0) ⊎ (a % 2 ≡ 1) → (b % 2 ≡ 0) ⊎ (b % 2 ≡ 1) → crc_bit (bit_xor a b) ≡ bit_xor (crc_bit a) (crc_bit b)
    go (inl p) (inl q) =
        bit_even (bit_xor a b) (xor_parity a b 0 0 p q) ∙ xor_shr a b 1
        ∙ sym (ap₂ bit_xor (bit_even a p) (bit_even b q))
    go (inl p) (inr q) =
        bit_odd (bit_xor a b) (xor_parity a b 0 1 p q) ∙ ap (λ (x : ℕ). bit_xor x polynomial) (xor_shr a b 1) ∙ xor_assoc (a / 2) (b / 2) polynomial
        ∙ sym (ap₂ bit_xor (bit_even a p) (bit_odd b q))
    go (inr p) (inl q) =
        bit_odd (bit_xor a b) (xor_parity a b 1 0 p q) ∙ ap (λ (x : ℕ). bit_xor x polynomial) (xor_shr a b 1) ∙ xor_swap (a / 2) (b / 2) polynomial
        ∙ sym (ap₂ bit_xor (bit_odd a p) (bit_even b q))
    go (inr p) (inr q) =
        bit_even (bit_xor a b) (xor_parity a b 1 1 p q) ∙ xor_shr a b 1 ∙ xor_twice (a / 2) (b / 2) polynomial
        ∙ sym (ap₂ bit_xor (bit_odd a p) (bit_odd b q))

bits_linear : (n a b : ℕ) → crc_bits n (bit_xor a b) ≡ bit_xor (crc_bits n a) (crc_bits n b)
unfolding crc_bits
bits_linear zero a b = refl
bits_linear (suc n) a b = ap (crc_bits n) (bit_linear a b) ∙ bits_linear n (crc_bit a) (crc_bit b)

-- bits above the n lowest only move down
bits_shifted : (n a : ℕ) → crc_bits n (a * 2 ^ n) ≡ a
unfolding crc_bits
bits_shifted zero a = omega arith
bits_shifted (suc n) a = ap (crc_bits n) (bit_even (a * 2 ^ suc n) (shifted_even a n) ∙ shifted_half a n) ∙ bits_shifted n a

pub bits_split : (n x : ℕ) → crc_bits n x ≡ bit_xor (crc_bits n (x % 2 ^ n)) (x / 2 ^ n)
bits_split n x =
    ap (crc_bits n) (sym (xor_shifted (x / 2 ^ n) n (x % 2 ^ n) (mod-lt x (pow_pos n)) ∙ split x n))
    ∙ bits_linear n (x / 2 ^ n * 2 ^ n) (x % 2 ^ n)
    ∙ ap (λ (y : ℕ). bit_xor y (crc_bits n (x % 2 ^ n))) (bits_shifted n (x / 2 ^ n))
    ∙ xor_comm (x / 2 ^ n) (crc_bits n (x % 2 ^ n))
