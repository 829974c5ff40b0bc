-- Four bytes give their number again, wherever in a list they stand; and a version vector its entries.
use Rattle.std.proofs.Common.{◌≡◌, ℕ, zero, suc, ◌+◌, ◌*◌, ◌/◌, ◌%◌, ◌<◌, List, ◌++◌, length, drop, sym, refl, ap, ◌∙◌, ap₂, inl, inr, append_assoc, add-zero, div-add-mod', arith, length-append, get_or-drop, drop_at}
use native.Mathlib.Nat.{div-div-eq-div-mul}
use Rattle.std.proofs.lemmas.Bool.{cases_lt}
use Rattle.messages.specs.Bytes.{four, number, number_at}
use Rattle.messages.specs.Letter.{vector_bytes}

four_back : (n a b c r s t : ℕ) → a * 256 + r ≡ n → b * 256 + s ≡ a → c * 256 + t ≡ b → r + s * 256 + t * 65536 + c * 16777216 ≡ n
four_back n a b c r s t e f g = omega arith

pub number_back : (n : ℕ) → n < 4294967296 → number (n % 256) (n / 256 % 256) (n / 65536 % 256) (n / 16777216 % 256) ≡ n
number_back n h =
    let e : n / 256 / 256 ≡ n / 65536 = div-div-eq-div-mul n 256 256 in
    let f : n / 65536 / 256 ≡ n / 16777216 = div-div-eq-div-mul n 65536 256 in
    let g : n / 16777216 % 256 ≡ n / 16777216 = omega arith in
    rw g
    (four_back n (n / 256) (n / 65536) (n / 16777216) _ _ _ (div-add-mod' n 256)
    (rw e at (div-add-mod' (n / 256) 256)) (rw f at (div-add-mod' (n / 65536) 256)))

pub twice : (n : ℕ) → n % 256 % 256 ≡ n % 256
twice n = omega arith

number_at-drop : (bs : List ℕ) (p : ℕ) → number_at bs p ≡ number_at (drop p bs) 0
number_at-drop bs p = simp (get_or-drop, add-zero)

number_first : (n : ℕ) (rest : List ℕ) → n < 4294967296 → number_at (four n ++ rest) 0 ≡ n
number_first n rest h = simp twice (number_back n h)

pub number-there : (pre : List ℕ) (n : ℕ) (rest : List ℕ) (p : ℕ) → length pre ≡ p → n < 4294967296 → number_at (pre ++ (four n ++ rest)) p ≡ n
number-there pre n rest p e h =
    number_at-drop (pre ++ (four n ++ rest)) p ∙ ap (λ (bs : List ℕ). number_at bs 0) (drop_at pre (four n ++ rest) p e) ∙ number_first n rest h

-- the version vector
pub length_vector : (k : ℕ) (v : ℕ → ℕ) → length (vector_bytes k v) ≡ k * 4
unfolding vector_bytes
length_vector zero v = refl
length_vector (suc k) v = length-append (vector_bytes k v) (four (v k)) ∙ ap (λ (n : ℕ). n + 4) (length_vector k v) ∙ omega arith

pub vector_there : (k : ℕ) (v : ℕ → ℕ) (pre rest : List ℕ) (p d : ℕ) → length pre ≡ p → d < k → ((j : ℕ) → j < k → v j < 4294967296) →
    number_at (pre ++ (vector_bytes k v ++ rest)) (p + d * 4) ≡ v d
unfolding vector_bytes
vector_there zero v pre rest p d e h small = absurd (omega arith)
vector_there (suc k) v pre rest p d e h small =
    ap (λ (bs : List ℕ). number_at (pre ++ bs) (p + d * 4)) (append_assoc (vector_bytes k v) (four (v k)) rest)
    ∙ elim (cases_lt d k) [
      | inl l ↦ vector_there k v pre (four (v k) ++ rest) p d e l (λ j i. small j (omega arith))
      | inr g ↦
          let q : d ≡ k = omega arith in
          let l : length (pre ++ vector_bytes k v) ≡ p + d * 4 = rw q (length-append pre (vector_bytes k v) ∙ ap₂ ◌+◌ e (length_vector k v)) in
          ap (λ (bs : List ℕ). number_at bs (p + d * 4)) (sym (append_assoc pre (vector_bytes k v) (four (v k) ++ rest)))
          ∙ number-there (pre ++ vector_bytes k v) (v k) rest (p + d * 4) l (small k (omega arith))
          ∙ ap v (sym q)
    ]
