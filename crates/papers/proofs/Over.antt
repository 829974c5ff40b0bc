-- What the plain paper says of operations, of rows of anything that they stand for: its words are those of the library.
use Rattle.std.proofs.Common.{◌≡◌, ℕ, ◌+◌, ◌<◌, max, Bool, true, false, cond, ltb, ◌||◌, List, [], ◌∷◌, map, length, Some, None, Option, sym, refl, ap, ◌∙◌, arith}
use Rattle.std.specs.List.{filter, count_by, sum_by, list_any, reduce, fold, position, position_or_len}
use Rattle.std.specs.Option.{SomeIff, unwrap_or}
use Rattle.std.proofs.lemmas.Bool.Decides.{nat_tests}
use Rattle.std.proofs.lemmas.List.Recursion.{is_count_by, is_sum_by}
use Rattle.ops.specs.Doc as doc
use Rattle.ops.specs.Doc.{pick, or, any, those, added_up, highest, larger}

or_is : (a b : Bool) → or a b ≡ (a || b)
or_is true b = refl
or_is false b = refl

pick_is : {A : Type 0} (t : Bool) (x y : A) → pick t x y ≡ cond t x y
pick_is true x y = refl
pick_is false x y = refl

pub those-filter : {A : Type 0} (p : A → Bool) (xs : List A) → those p xs ≡ filter p xs
unfolding those
those-filter p [] = refl
those-filter p (x ∷ xs) = pick_is (p x) (x ∷ those p xs) (those p xs) ∙ ap (λ ys. cond (p x) (x ∷ ys) ys) (those-filter p xs)

module _ {A : Type 0} (op : A → doc.Op) where
  pub any-map : (p : doc.Op → Bool) (xs : List A) → any p (map op xs) ≡ list_any (λ x. p (op x)) xs
  unfolding any
  any-map p [] = refl
  any-map p (x ∷ xs) = or_is (p (op x)) (any p (map op xs)) ∙ ap (λ b. p (op x) || b) (any-map p xs)

  pub added_up-map : (f : doc.Op → ℕ) (xs : List A) → added_up f (map op xs) ≡ sum_by (λ x. f (op x)) xs
  unfolding added_up
  added_up-map f xs = is_sum_by (λ ys. added_up f (map op ys)) (λ x. f (op x)) refl (λ _ _. refl) xs

  count_go : (t : Bool) (o : doc.Op) (os : List doc.Op) → length (pick t (o ∷ os) os) ≡ cond t (1 + length os) (length os)
  count_go true o os = omega arith
  count_go false o os = refl

  pub count-map : (p : doc.Op → Bool) (xs : List A) → length (those p (map op xs)) ≡ count_by (λ x. p (op x)) xs
  unfolding those
  count-map p xs = is_count_by (λ ys. length (those p (map op ys))) (λ x. p (op x)) refl (λ x ys. count_go (p (op x)) (op x) (those p (map op ys))) xs

most : (m : ℕ) (ns : List ℕ) (x : ℕ) → fold max (max m x) ns ≡ max m (fold max x ns)
most m [] x = refl
most m (n ∷ ns) x = ap (λ k. fold max k ns) (omega arith) ∙ most m ns (max x n)

larger_is : (a b : ℕ) → larger a b ≡ max a b
larger_is a b = grind (arith, nat_tests)

reduce_more : (x : ℕ) (ns : List ℕ) → unwrap_or (reduce max (x ∷ ns)) 0 ≡ max x (unwrap_or (reduce max ns) 0)
reduce_more x [] = omega arith
reduce_more x (n ∷ ns) = most x ns n

pub highest-map : {A : Type 0} (op : A → doc.Op) (xs : List A) → highest (map op xs) ≡ unwrap_or (reduce max (map (λ x. (op x).name.n) xs)) 0
unfolding highest
highest-map op [] = refl
highest-map op (x ∷ xs) = larger_is (op x).name.n (highest (map op xs)) ∙ ap (max (op x).name.n) (highest-map op xs) ∙ sym (reduce_more (op x).name.n (map (λ y. (op y).name.n) xs))

-- what `position` finds, if anything, is how many stand before it
pub SomeIff-position : {A : Type 0} (p : A → Bool) (xs : List A) (r : Option ℕ) → r ≡ position p xs → SomeIff r (position_or_len p xs < length xs) (position_or_len p xs)
SomeIff-position p xs r e = rw e (go (ltb (position_or_len p xs) (length xs)) refl)
  where
    go : (t : Bool) → ltb (position_or_len p xs) (length xs) ≡ t → SomeIff (cond t (Some (position_or_len p xs)) None) (position_or_len p xs < length xs) (position_or_len p xs)
    go true e = (grind (arith, nat_tests), refl)
    go false e = grind (arith, nat_tests)
