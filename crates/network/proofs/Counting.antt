-- How many a filter keeps; and that 256 operations of each of 32 desks are 8,192 at most.
use Rattle.std.proofs.Common.{◌≡◌, ℕ, zero, suc, ◌+◌, ◌*◌, ◌<◌, ◌≤◌, Bool, true, false, eqb, ltb, ◌⊎◌, List, [], ◌∷◌, length, refl, ap, inl, inr, ⊎_elim, arith}
use Rattle.std.proofs.lemmas.Bool.{ltb-true, eqb-true, lt-ltb, le-ltb, eq-eqb, cases_lt, both_ways}
use Rattle.ops.specs.Doc.{pick, those, Op, made_by}
use Rattle.ops.proofs.Members.{In, those_yes, those-no}

module _ {A : Type 0} where
  pub those-length : (f : A → Bool) (xs : List A) → length (those f xs) ≤ length xs
  unfolding those
  those-length f [] = omega arith
  those-length f (x ∷ xs) =
      let ih = those-length f xs in
      elim (f x) as (λ b. length (pick b (x ∷ those f xs) (those f xs)) ≤ suc (length xs)) [ true ↦ omega arith | false ↦ omega arith ]

  pub those_none : (f : A → Bool) (xs : List A) → ((o : A) → In o xs → f o ≡ false) → length (those f xs) ≡ 0
  unfolding those
  those_none f [] h = refl
  those_none f (x ∷ xs) h = rw (h x (inl refl)) (those_none f xs (λ o k. h o (inr k)))

  those-all : (f : A → Bool) (xs : List A) → ((o : A) → In o xs → f o ≡ true) → length (those f xs) ≡ length xs
  unfolding those
  those-all f [] h = refl
  those-all f (x ∷ xs) h = rw (h x (inl refl)) (ap suc (those-all f xs (λ o k. h o (inr k))))

  those_split : (f g h : A → Bool) (xs : List A) → ((o : A) → f o ≡ true → (g o ≡ true) ⊎ (h o ≡ true)) → length (those f xs) ≤ length (those g xs) + length (those h xs)
  unfolding those
  those_split f g h [] s = omega arith
  those_split f g h (x ∷ xs) s = go (those_split f g h xs s) (f x) (g x) (h x) (s x)
    where
      go : length (those f xs) ≤ length (those g xs) + length (those h xs) → (a b c : Bool) → (a ≡ true → (b ≡ true) ⊎ (c ≡ true)) →
          length (pick a (x ∷ those f xs) (those f xs)) ≤ length (pick b (x ∷ those g xs) (those g xs)) + length (pick c (x ∷ those h xs) (those h xs))
      go ih true true true k = omega arith
      go ih true true false k = omega arith
      go ih true false true k = omega arith
      go ih true false false k = ⊎_elim (λ z. absurd (both_ways false refl z)) (λ z. absurd (both_ways false refl z)) (k refl)
      go ih false true true k = omega arith
      go ih false true false k = omega arith
      go ih false false true k = omega arith
      go ih false false false k = omega arith

  -- the stricter the test, the fewer pass it
  module _ (f g : A → Bool) where
    pub those_fewer : (xs : List A) → ((o : A) → In o xs → f o ≡ true → g o ≡ true) → length (those f xs) ≤ length (those g xs)
    unfolding those
    those_fewer [] s = omega arith
    those_fewer (x ∷ xs) s = go (f x) (g x) (s x (inl refl)) (those_fewer xs (λ o k. s o (inr k)))
      where
        go : (a b : Bool) → (a ≡ true → b ≡ true) → length (those f xs) ≤ length (those g xs) →
            length (pick a (x ∷ those f xs) (those f xs)) ≤ length (pick b (x ∷ those g xs) (those g xs))
        go true true k l = omega arith
        go true false k l = absurd (both_ways false refl (k refl))
        go false true k l = omega arith
        go false false k l = l

    pub those_less : (xs : List A) → ((o : A) → In o xs → f o ≡ true → g o ≡ true) → (w : A) → In w xs → f w ≡ false → g w ≡ true → length (those f xs) < length (those g xs)
    unfolding those
    those_less [] s w h e t = absurd h
    those_less (x ∷ xs) s w (inl q) e t =
        let l = those_fewer xs (λ o k. s o (inr k)) in
        let a : length (those f (x ∷ xs)) ≡ length (those f xs) = ap length (those-no f x xs (rw q at e)) in
        let b : length (those g (x ∷ xs)) ≡ suc (length (those g xs)) = ap length (those_yes g x xs (rw q at t)) in
        omega arith
    those_less (x ∷ xs) s w (inr h) e t = go (f x) (g x) (s x (inl refl)) (those_less xs (λ o k. s o (inr k)) w h e t)
      where
        go : (a b : Bool) → (a ≡ true → b ≡ true) → length (those f xs) < length (those g xs) →
            length (pick a (x ∷ those f xs) (those f xs)) < length (pick b (x ∷ those g xs) (those g xs))
        go true true k l = omega arith
        go true false k l = absurd (both_ways false refl (k refl))
        go false true k l = omega arith
        go false false k l = l

pub made_by_more : (d : ℕ) (x : Op) (u : List Op) → ((made_by d (x ∷ u) ≡ suc (made_by d u)) × (x.name.who ≡ d)) ⊎ (made_by d (x ∷ u) ≡ made_by d u)
unfolding those
made_by_more d x u = go (eqb x.name.who d) refl
  where
    rest : List Op
    rest = those (λ (o : Op). eqb o.name.who d) u

    go : (b : Bool) → eqb x.name.who d ≡ b → ((length (pick b (x ∷ rest) rest) ≡ suc (length rest)) × (x.name.who ≡ d)) ⊎ (length (pick b (x ∷ rest) rest) ≡ length rest)
    go true e = inl (refl, eqb-true _ _ e)
    go false e = inr refl

desks_below : (u : List Op) (k : ℕ) → ((d : ℕ) → made_by d u ≤ 256) → length (those (λ o. ltb o.name.who k) u) ≤ k * 256
desks_below u zero h = let z = those_none (λ (o : Op). ltb o.name.who 0) u (λ o k. le-ltb o.name.who 0 (omega arith)) in omega arith
desks_below u (suc k) h =
    let ih = desks_below u k h in
    let z = h k in
    let s = those_split (λ (o : Op). ltb o.name.who (suc k)) (λ o. ltb o.name.who k) (λ o. eqb o.name.who k) u
    (λ o e. ⊎_elim (λ l. inl (lt-ltb o.name.who k l)) (λ l. inr (eq-eqb o.name.who k (let q = ltb-true o.name.who (suc k) e in omega arith))) (cases_lt o.name.who k)) in
    omega arith

pub at_most_8192 : (u : List Op) → ((d : ℕ) → made_by d u ≤ 256) → ((o : Op) → In o u → o.name.who < 32) → length u ≤ 8192
at_most_8192 u h w =
    let a = desks_below u 32 h in
    let e = those-all (λ (o : Op). ltb o.name.who 32) u (λ o k. lt-ltb o.name.who 32 (w o k)) in
    omega arith
