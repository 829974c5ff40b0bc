-- What `array::from_fn` makes, where its closure computes a function of the place.
use Rattle.std.proofs.Common.{◌≡◌, ℕ, zero, suc, ◌+◌, ◌<◌, ◌≤◌, List, get_or, sym, ap, ◌∙◌, subst, inl, inr, arith}
use denote.Param.Members.{Mut}
use Rattle.std.specs.Array.{IsFromFnResultFrom}
use Rattle.std.specs.Fn.{Called}
use Rattle.std.proofs.lemmas.Bool.{cases_lt}

pub made_at : {F : Type 0} (g : Mut F (ℕ × Unit {0}) ℕ) (f : F) (h : ℕ → ℕ) → ((i y : ℕ) (q : F) → Called g f (i, tt) y q → (q ≡ f) × (y ≡ h i)) →
    (ys : List ℕ) (i n : ℕ) → IsFromFnResultFrom g f ys i n → (k : ℕ) → i ≤ k → k < i + n → get_or ys k 0 ≡ h k
made_at g f h pure ys i zero each k low high = absurd (omega arith)
made_at {F} g f h pure ys i (suc n) each k low high =
    let q = each.0 in
    let here : (q ≡ f) × (each.1 ≡ h i) = pure i each.1 q each.3 in
    elim (cases_lt i k) [
      | inl more ↦ made_at g f h pure ys (i + 1) n (subst (λ (s : F). IsFromFnResultFrom g s ys (i + 1) n) here.0 each.4) k (omega arith) (omega arith)
      | inr last ↦
          let same : k ≡ i = omega arith in
          ap (λ (j : ℕ). get_or ys j 0) same ∙ each.2.1 0 ∙ here.1 ∙ ap h (sym same)
    ]
