-- How an engine's run goes, by its single steps: for the laws of one replica.
use Rattle.std.proofs.Common.{◌≡◌, ℕ, ◌<◌, ◌≤◌, true, ltb, leb, List, [], ◌∷◌, refl, ap, ◌∙◌}
use Rattle.std.proofs.lemmas.Bool.{and_from, le-leb, lt-ltb}
use Rattle.ops.specs.Doc.{pick, none_of}
use Rattle.desks.specs.Run.{Engine, Event, next, shows, sends, done, refused, ran, a_letter, one_act, runs, runs_on}

module _ (e : Engine) (m : List ℕ) (ev : Event) where
  abbrev m₁ : List ℕ
  m₁ = (e.step m ev).memory

  pub run_done : (e.step m ev).act ≡ done → runs_on 3 e m ev ≡ ran m₁ [] [] 0
  unfolding runs one_act
  run_done p = ap (λ a. one_act (λ m₂ ss₂ ls₂. runs 2 e m₂ next ss₂ ls₂) [] [] m₁ a) p

  pub run_refused : (k : ℕ) → 1 ≤ k → k < 1000 → (e.step m ev).act ≡ refused k → runs_on 3 e m ev ≡ ran m₁ [] [] k
  unfolding runs one_act
  run_refused k a b p =
      ap (λ a. one_act (λ m₂ ss₂ ls₂. runs 2 e m₂ next ss₂ ls₂) [] [] m₁ a) p
      ∙ ap (λ t. ran m₁ [] [] (pick t k 1001)) (and_from (leb 1 k) (ltb k 1000) (le-leb 1 k a) (lt-ltb k 1000 b))

  pub run_sends : (b : List ℕ) → a_letter b ≡ true → (e.step m ev).act ≡ sends b → (e.step m₁ next).act ≡ done → runs_on 3 e m ev ≡ ran (e.step m₁ next).memory [] (b ∷ []) 0
  unfolding runs one_act none_of
  run_sends b t p q =
      ap (λ a. one_act (λ m₂ ss₂ ls₂. runs 2 e m₂ next ss₂ ls₂) [] [] m₁ a) p
      ∙ (ap (λ t. pick t (runs 2 e m₁ next [] (b ∷ [])) (ran m₁ [] [] 1001)) (and_from (a_letter b) true t refl)
      ∙ ap (λ a. one_act (λ m₂ ss₂ ls₂. runs 1 e m₂ next ss₂ ls₂) [] (b ∷ []) (e.step m₁ next).memory a) q)

  pub run_shows_two : (s t : List ℕ) → (e.step m ev).act ≡ shows s → (e.step m₁ next).act ≡ shows t → (e.step (e.step m₁ next).memory next).act ≡ done →
      runs_on 3 e m ev ≡ ran (e.step (e.step m₁ next).memory next).memory (s ∷ t ∷ []) [] 0
  unfolding runs one_act
  run_shows_two s t p q r =
      ap (λ a. one_act (λ m₂ ss₂ ls₂. runs 2 e m₂ next ss₂ ls₂) [] [] m₁ a) p
      ∙ (ap (λ a. one_act (λ m₂ ss₂ ls₂. runs 1 e m₂ next ss₂ ls₂) (s ∷ []) [] (e.step m₁ next).memory a) q
      ∙ ap (λ a. one_act (λ m₂ ss₂ ls₂. runs 0 e m₂ next ss₂ ls₂) (s ∷ t ∷ []) [] (e.step (e.step m₁ next).memory next).memory a) r)
