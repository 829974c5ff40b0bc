-- Members of lists: what the tests of the plain paper (`every`, `any`, `those`) say in terms of membership.
use Rattle.std.proofs.Common.{◌≡◌, ℕ, zero, suc, ◌<◌, Bool, true, false, ◌⊎◌, List, [], ◌∷◌, ◌++◌, length, get_or, take, sym, refl, ap, ◌∙◌, ap₂, inl, inr, arith}
use Rattle.std.proofs.lemmas.Bool.{and_parts, and_from, both_ways}
use Rattle.ops.specs.Doc.{pick, or, every, any, those, flat}

abbrev pub In : {A : Type 0} → A → List A → Type 0
In x [] = ⊥
In x (y ∷ ys) = (x ≡ y) ⊎ In x ys

abbrev pub Sub : {A : Type 0} → List A → List A → Type 0
Sub {A} xs ys = (y : A) → In y xs → In y ys

pub bool_iff : (a b : Bool) → (a ≡ true → b ≡ true) → (b ≡ true → a ≡ true) → a ≡ b
bool_iff true b f g = sym (f refl)
bool_iff false true f g = g refl
bool_iff false false f g = refl

pub not_true_false : (b : Bool) → (b ≡ true → ⊥) → b ≡ false
not_true_false true f = absurd (f refl)
not_true_false false f = refl

pub or_inl : (a b : Bool) → a ≡ true → or a b ≡ true
or_inl a b h = rw h refl

pub or_inr : (a b : Bool) → b ≡ true → or a b ≡ true
or_inr true b h = refl
or_inr false b h = h

pub or_case : (a b : Bool) → or a b ≡ true → (a ≡ true) ⊎ (b ≡ true)
or_case true b h = inl refl
or_case false b h = inr h

module _ {A : Type 0} where
  pub in_those : (f : A → Bool) (xs : List A) (y : A) → In y xs → f y ≡ true → In y (those f xs)
  unfolding those
  in_those f [] y m h = m
  in_those f (x ∷ xs) y (inl e) h =
      elim (f x) as (λ b. f x ≡ b → In y (pick b (x ∷ those f xs) (those f xs))) [ true ↦ λ q. inl e | false ↦ λ q. absurd (both_ways (f x) q (rw e at h)) ] refl
  in_those f (x ∷ xs) y (inr m) h =
      let r : In y (those f xs) = in_those f xs y m h in
      elim (f x) as (λ b. In y (pick b (x ∷ those f xs) (those f xs))) [ true ↦ inr r | false ↦ r ]

  those_go : (f : A → Bool) (x : A) (xs : List A) (y : A) → (In y (those f xs) → In y xs × (f y ≡ true)) →
      (b : Bool) → f x ≡ b → In y (pick b (x ∷ those f xs) (those f xs)) → In y (x ∷ xs) × (f y ≡ true)
  those_go f x xs y ih true q (inl e) = (inl e, ap f e ∙ q)
  those_go f x xs y ih true q (inr n) = let r = ih n in (inr r.0, r.1)
  those_go f x xs y ih false q n = let r = ih n in (inr r.0, r.1)

  pub those_in : (f : A → Bool) (xs : List A) (y : A) → In y (those f xs) → In y xs × (f y ≡ true)
  unfolding those
  those_in f [] y m = absurd m
  those_in f (x ∷ xs) y m = those_go f x xs y (those_in f xs y) (f x) refl m

  pub those_yes : (f : A → Bool) (x : A) (xs : List A) → f x ≡ true → those f (x ∷ xs) ≡ x ∷ those f xs
  unfolding those
  those_yes f x xs h = ap (λ b. pick b (x ∷ those f xs) (those f xs)) h

  pub those-no : (f : A → Bool) (x : A) (xs : List A) → f x ≡ false → those f (x ∷ xs) ≡ those f xs
  unfolding those
  those-no f x xs h = ap (λ b. pick b (x ∷ those f xs) (those f xs)) h

  pub those-append : (f : A → Bool) (xs ys : List A) → those f (xs ++ ys) ≡ those f xs ++ those f ys
  unfolding those
  those-append f [] ys = refl
  those-append f (x ∷ xs) ys =
      elim (f x) as (λ b. pick b (x ∷ those f (xs ++ ys)) (those f (xs ++ ys)) ≡ pick b (x ∷ those f xs) (those f xs) ++ those f ys)
      [ true ↦ ap (λ t. x ∷ t) (those-append f xs ys) | false ↦ those-append f xs ys ]

  pub those_ext : (f g : A → Bool) (xs : List A) → ((x : A) → In x xs → f x ≡ g x) → those f xs ≡ those g xs
  unfolding those
  those_ext f g [] h = refl
  those_ext f g (x ∷ xs) h = ap₂ (λ b t. pick b (x ∷ t) t) (h x (inl refl)) (those_ext f g xs (λ y m. h y (inr m)))

  pub in_any : (f : A → Bool) (xs : List A) (y : A) → In y xs → f y ≡ true → any f xs ≡ true
  unfolding any
  in_any f [] y m h = absurd m
  in_any f (x ∷ xs) y (inl e) h = or_inl (f x) (any f xs) (rw e at h)
  in_any f (x ∷ xs) y (inr m) h = or_inr (f x) (any f xs) (in_any f xs y m h)

  any_go : (f : A → Bool) (x : A) (xs : List A) → (any f xs ≡ true → (y : A) × In y xs × (f y ≡ true)) → (f x ≡ true) ⊎ (any f xs ≡ true) → (y : A) × In y (x ∷ xs) × (f y ≡ true)
  any_go f x xs ih (inl e) = (x, inl refl, e)
  any_go f x xs ih (inr e) = let r = ih e in (r.0, inr r.1, r.2)

  pub any_in : (f : A → Bool) (xs : List A) → any f xs ≡ true → (y : A) × In y xs × (f y ≡ true)
  unfolding any
  any_in f [] h = absurd (both_ways false refl h)
  any_in f (x ∷ xs) h = any_go f x xs (any_in f xs) (or_case (f x) (any f xs) h)

  pub every_in : (f : A → Bool) (xs : List A) → every f xs ≡ true → (y : A) → In y xs → f y ≡ true
  unfolding every
  every_in f [] h y m = absurd m
  every_in f (x ∷ xs) h y (inl e) = ap f e ∙ (and_parts (f x) (every f xs) h).0
  every_in f (x ∷ xs) h y (inr m) = every_in f xs (and_parts (f x) (every f xs) h).1 y m

  pub in_every : (f : A → Bool) (xs : List A) → ((y : A) → In y xs → f y ≡ true) → every f xs ≡ true
  unfolding every
  in_every f [] h = refl
  in_every f (x ∷ xs) h = and_from (f x) (every f xs) (h x (inl refl)) (in_every f xs (λ y m. h y (inr m)))

  pub any_same : (f : A → Bool) (xs ys : List A) → ((y : A) → In y xs → In y ys) → ((y : A) → In y ys → In y xs) → any f xs ≡ any f ys
  any_same f xs ys h k =
      bool_iff (any f xs) (any f ys) (λ e. let r = any_in f xs e in in_any f ys r.0 (h r.0 r.1) r.2) (λ e. let r = any_in f ys e in in_any f xs r.0 (k r.0 r.1) r.2)

  pub in_left : (xs ys : List A) (y : A) → In y xs → In y (xs ++ ys)
  in_left [] ys y m = absurd m
  in_left (x ∷ xs) ys y (inl e) = inl e
  in_left (x ∷ xs) ys y (inr m) = inr (in_left xs ys y m)

  pub in_right : (xs ys : List A) (y : A) → In y ys → In y (xs ++ ys)
  in_right [] ys y m = m
  in_right (x ∷ xs) ys y m = inr (in_right xs ys y m)

  pub in_append : (xs ys : List A) (y : A) → In y (xs ++ ys) → In y xs ⊎ In y ys
  in_append [] ys y m = inr m
  in_append (x ∷ xs) ys y (inl e) = inl (inl e)
  in_append (x ∷ xs) ys y (inr m) = elim (in_append xs ys y m) [ inl a ↦ inl (inr a) | inr b ↦ inr b ]

  pub in_only : (x y : A) → In y (x ∷ []) → y ≡ x
  in_only x y (inl e) = e
  in_only x y (inr m) = absurd m

  pub in_getD : (xs : List A) (k : ℕ) (d : A) → k < length xs → In (get_or xs k d) xs
  in_getD [] k d h = absurd (omega arith)
  in_getD (x ∷ xs) zero d h = inl refl
  in_getD (x ∷ xs) (suc k) d h = inr (in_getD xs k d (omega arith))

  pub take_in : (n : ℕ) (xs : List A) → Sub (take n xs) xs
  take_in zero xs y m = absurd m
  take_in (suc n) [] y m = absurd m
  take_in (suc n) (x ∷ xs) y (inl e) = inl e
  take_in (suc n) (x ∷ xs) y (inr m) = inr (take_in n xs y m)

module _ {A B : Type 0} (g : A → List B) where
  flat_go : (z : A) (xs : List A) (y : B) → (In y (flat g xs) → (x : A) × In x xs × In y (g x)) → In y (g z) ⊎ In y (flat g xs) → (x : A) × In x (z ∷ xs) × In y (g x)
  flat_go z xs y ih (inl a) = (z, inl refl, a)
  flat_go z xs y ih (inr b) = let r = ih b in (r.0, inr r.1, r.2)

  pub flat_in : (xs : List A) (y : B) → In y (flat g xs) → (x : A) × In x xs × In y (g x)
  unfolding flat
  flat_in [] y m = absurd m
  flat_in (z ∷ xs) y m = flat_go z xs y (flat_in xs y) (in_append (g z) (flat g xs) y m)

pub flat_ext : {A B : Type 0} (f g : A → List B) (xs : List A) → ((x : A) → In x xs → f x ≡ g x) → flat f xs ≡ flat g xs
unfolding flat
flat_ext f g [] h = refl
flat_ext f g (x ∷ xs) h = ap₂ ◌++◌ (h x (inl refl)) (flat_ext f g xs (λ y m. h y (inr m)))

-- one more at the end, which fails the test, changes nothing
module _ {A : Type 0} where
  pub those_last_no : (f : A → Bool) (xs : List A) (y : A) → f y ≡ false → those f (xs ++ y ∷ []) ≡ those f xs
  unfolding those
  those_last_no f [] y h = those-no f y [] h
  those_last_no f (x ∷ xs) y h = ap (λ t. pick (f x) (x ∷ t) t) (those_last_no f xs y h)

  pub any_last_no : (f : A → Bool) (xs : List A) (y : A) → f y ≡ false → any f (xs ++ y ∷ []) ≡ any f xs
  unfolding any
  any_last_no f [] y h = ap (λ b. or b false) h
  any_last_no f (x ∷ xs) y h = ap (or (f x)) (any_last_no f xs y h)
