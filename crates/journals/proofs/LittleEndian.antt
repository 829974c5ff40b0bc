-- A number's bytes give the number again, wherever in a list they stand; and the standard library's bytes of a number are these.
use Rattle.std.proofs.Common.{◌≡◌, ℕ, zero, suc, ◌+◌, ◌*◌, ◌/◌, ◌%◌, ◌^◌, ◌<◌, ◌≤◌, List, [], ◌∷◌, ◌++◌, length, get_or, take, drop, refl, ap, ◌∙◌, pow-suc, div-add-mod', add-one, arith, length-drop, length-take, drop-cons, take-take, take_at, drop_at}
use native.Mathlib.Nat.{div-div-eq-div-mul}
use Rattle.journals.specs.Bytes.{little, value, number_at}

pub length-little : (k n : ℕ) → length (little k n) ≡ k
unfolding little
length-little zero n = refl
length-little (suc k) n = ap suc (length-little k (n / 256))

pub value-little : (k n : ℕ) → n < 256 ^ k → value (little k n) ≡ n
unfolding little value
value-little zero n h = omega arith
value-little (suc k) n h =
    let p = pow-suc 256 k in
    let e : n / 256 < 256 ^ k = omega arith in
    let i = value-little k (n / 256) e in
    let d = div-add-mod' n 256 in
    omega arith

pub number-there : (pre : List ℕ) (k n : ℕ) (rest : List ℕ) (p : ℕ) → length pre ≡ p → n < 256 ^ k → number_at k p (pre ++ (little k n ++ rest)) ≡ n
unfolding number_at
number-there pre k n rest p e h =
    ap (λ (bs : List ℕ). value (take k bs)) (drop_at pre (little k n ++ rest) p e)
    ∙ ap value (take_at (little k n) rest k (length-little k n)) ∙ value-little k n h

-- the bytes that `to_le_bytes` gives
pub two_bytes : (n : ℕ) → n % 256 ∷ n / 256 % 256 ∷ [] ≡ little 2 n
unfolding little
two_bytes n = refl

pub four_bytes : (n : ℕ) → n % 256 ∷ n / 256 % 256 ∷ n / 65536 % 256 ∷ n / 16777216 % 256 ∷ [] ≡ little 4 n
unfolding little
four_bytes n = simp div-div-eq-div-mul

pub eight_bytes : (n : ℕ) →
    n % 256 ∷ n / 256 % 256 ∷ n / 65536 % 256 ∷ n / 16777216 % 256
    ∷ n / 4294967296 % 256 ∷ n / 1099511627776 % 256 ∷ n / 281474976710656 % 256 ∷ n / 72057594037927936 % 256 ∷ []
    ≡ little 8 n
unfolding little
eight_bytes n = simp div-div-eq-div-mul

-- the number that `from_le_bytes` gives, byte by byte
one_more : (k p : ℕ) (bs : List ℕ) → p < length bs → number_at (suc k) p bs ≡ get_or bs p 0 + 256 * number_at k (p + 1) bs
unfolding number_at value
one_more k p bs h = rw (drop-cons bs p 0, add-one)

no_more : (p : ℕ) (bs : List ℕ) → number_at 0 p bs ≡ 0
unfolding number_at value
no_more p bs = refl

-- a word that is copied out of bytes has the number that stands there
word_there : (k p : ℕ) (bs w : List ℕ) → w ≡ take k (drop p bs) → number_at k 0 w ≡ number_at k p bs
unfolding number_at
word_there k p bs w e = ap (λ (v : List ℕ). value (take k v)) e ∙ ap value (take-take k k (drop p bs) (omega arith))

length_word : (k p : ℕ) (bs w : List ℕ) → p + k ≤ length bs → w ≡ take k (drop p bs) → length w ≡ k
length_word k p bs w h e = let d = length-drop p bs in let t = length-take k (drop p bs) in ap length e ∙ omega arith

module _ (bs w : List ℕ) (p r : ℕ) where
  pub two_at : p + 2 ≤ length bs → w ≡ take 2 (drop p bs) → r ≡ get_or w 0 0 + get_or w 1 0 * 256 → r ≡ number_at 2 p bs
  two_at h e f =
      let l = length_word 2 p bs w h e in
      let z = no_more 2 w in
      let a = one_more 1 0 w (omega arith) in
      let b = one_more 0 1 w (omega arith) in
      let t : r ≡ number_at 2 0 w = omega arith in
      t ∙ word_there 2 p bs w e

  pub four_at : p + 4 ≤ length bs → w ≡ take 4 (drop p bs) → r ≡ get_or w 0 0 + get_or w 1 0 * 256 + get_or w 2 0 * 65536 + get_or w 3 0 * 16777216 → r ≡ number_at 4 p bs
  four_at h e f =
      let l = length_word 4 p bs w h e in
      let z = no_more 4 w in
      let a = one_more 3 0 w (omega arith) in
      let b = one_more 2 1 w (omega arith) in
      let c = one_more 1 2 w (omega arith) in
      let d = one_more 0 3 w (omega arith) in
      let t : r ≡ number_at 4 0 w = omega arith in
      t ∙ word_there 4 p bs w e

  pub eight_at : p + 8 ≤ length bs → w ≡ take 8 (drop p bs) →
      r ≡ get_or w 0 0 + get_or w 1 0 * 256 + get_or w 2 0 * 65536 + get_or w 3 0 * 16777216 + get_or w 4 0 * 4294967296 + get_or w 5 0 * 1099511627776
      + get_or w 6 0 * 281474976710656 + get_or w 7 0 * 72057594037927936 →
      r ≡ number_at 8 p bs
  eight_at h e f =
      let l = length_word 8 p bs w h e in
      let z = no_more 8 w in
      let a = one_more 7 0 w (omega arith) in
      let b = one_more 6 1 w (omega arith) in
      let c = one_more 5 2 w (omega arith) in
      let d = one_more 4 3 w (omega arith) in
      let g = one_more 3 4 w (omega arith) in
      let i = one_more 2 5 w (omega arith) in
      let j = one_more 1 6 w (omega arith) in
      let k = one_more 0 7 w (omega arith) in
      let t : r ≡ number_at 8 0 w = omega arith in
      t ∙ word_there 8 p bs w e
