-- The highest of a row of numbers, as the library's maximum picks it, is the version vector's.
use Rattle.std.proofs.Common.{◌≡◌, ℕ, zero, suc, ◌+◌, ◌<◌, max, List, [], ◌∷◌, Some, None, Option, map, length, refl, ap, ◌∙◌, arith}
use Rattle.std.specs.Option.{option_map, unwrap_or}
use Rattle.std.specs.List.{fold, reduce, range_with_len}
use Rattle.std.proofs.lemmas.List.Sums.{fold_push}
use Rattle.std.proofs.lemmas.List.FromFn.{length-map-range_with_len, map-range_with_len_more}
use Rattle.ops.specs.Layout.{version_cell, low}
use Rattle.ops.specs.Log.{highest_up_to}

-- of numbers there are, 0 picks nothing else
picked : (xs : List ℕ) (r : Option ℕ) → 0 < length xs → option_map (λ x. x) r ≡ reduce max xs → unwrap_or r 0 ≡ fold max 0 xs
picked [] r h e = absurd (omega arith)
picked (x ∷ xs) None h e = cc
picked (x ∷ xs) (Some y) h e =
    let f : y ≡ fold max x xs = cc in
    let g : x ≡ max 0 x = omega arith in
    f ∙ ap (λ a. fold max a xs) g

module _ (m : List ℕ) where
  highest_fold : (n : ℕ) → fold max 0 (map (λ d. low m (version_cell d)) (range_with_len 0 n)) ≡ highest_up_to n m
  unfolding highest_up_to
  highest_fold zero = refl
  highest_fold (suc n) =
      let f : ℕ → ℕ = λ d. low m (version_cell d) in
      let e : suc n ≡ n + 1 = omega arith in
      ap (λ k. fold max 0 (map f (range_with_len 0 k))) e ∙ ap (fold max 0) (map-range_with_len_more f 0 n n (omega arith)) ∙ fold_push max 0 (map f (range_with_len 0 n)) (f n)
      ∙ ap (λ h. max h (f n)) (highest_fold n)

  pub highest_picked : (r : Option ℕ) → option_map (λ x. x) r ≡ reduce max (map (λ d. low m (version_cell d)) (range_with_len 0 32)) → unwrap_or r 0 ≡ highest_up_to 32 m
  highest_picked r e =
      let l = length-map-range_with_len (λ d. low m (version_cell d)) 0 32 in
      picked (map (λ d. low m (version_cell d)) (range_with_len 0 32)) r (omega arith) e ∙ highest_fold 32
