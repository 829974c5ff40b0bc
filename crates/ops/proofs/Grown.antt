-- A list that grows at its end, one element for each number: how long it is, and what is left of it from a place on.
use Rattle.std.proofs.Common.{◌≡◌, ℕ, zero, suc, ◌+◌, ◌<◌, ◌≤◌, List, [], ◌∷◌, ◌++◌, length, drop, inl, inr, sym, ap, ◌∙◌, arith, length-append, drop_at}
use Rattle.std.proofs.lemmas.Bool.{cases_lt}
use Rattle.std.proofs.lemmas.List.{drop_all, drop-append-le}

module _ {A : Type 0} (f : ℕ → A) (g : ℕ → List A) (none : g zero ≡ []) (more : (n : ℕ) → g (suc n) ≡ g n ++ f n ∷ []) where
  pub length-grown : (n : ℕ) → length (g n) ≡ n
  length-grown zero = rw none (omega arith)
  length-grown (suc n) = let ih = length-grown n in rw more (length-append (g n) (f n ∷ []) ∙ omega arith)

  pub drop-grown : (n k : ℕ) → k < n → drop k (g n) ≡ f k ∷ drop (k + 1) (g n)
  drop-grown zero k h = absurd (omega arith)
  drop-grown (suc n) k h =
      let l = length-grown n in
      rw more
      (elim (cases_lt k n) [
        | inl b ↦
            drop-append-le k (g n) (f n ∷ []) (omega arith) ∙ ap (λ xs. xs ++ f n ∷ []) (drop-grown n k b)
            ∙ ap (λ xs. f k ∷ xs) (sym (drop-append-le (k + 1) (g n) (f n ∷ []) (omega arith)))
        | inr b ↦
            let e : k ≡ n = omega arith in
            rw e (drop_at (g n) (f n ∷ []) n l ∙ ap (λ xs. f n ∷ xs) (sym (drop_all (n + 1) (g n ++ f n ∷ []) (simp length-append (omega arith)))))
      ])

  pub drop-grown_all : (n k : ℕ) → n ≤ k → drop k (g n) ≡ []
  drop-grown_all n k h = drop_all k (g n) (omega (arith, length-grown n))
