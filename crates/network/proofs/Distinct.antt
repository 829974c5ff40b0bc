-- Lists with no operation id twice, and that such a list is no longer than any list that has all of it.
use Rattle.std.proofs.Common.{◌≡◌, ℕ, suc, ◌≤◌, Bool, true, false, not, eqb, ◌⊎◌, List, [], ◌∷◌, ◌++◌, length, sym, refl, ap, ◌∙◌, inl, inr, ⊎_elim, arith}
use Rattle.std.proofs.lemmas.Bool.{and_from, and_parts, not-true, both_ways, not_from_false, eqb-true}
use Rattle.ops.specs.Doc.{pick, those, same_id, Op, has_id, names_once, made_by}
use Rattle.ops.proofs.Members.{In, Sub, not_true_false, in_those, those_in, in_any, any_in, in_append}
use Rattle.ops.proofs.Ids.{same_id_eq, eq_same_id}

abbrev pub Distinct : List Op → Type 0
Distinct [] = Unit {0}
Distinct (o ∷ os) = ((p : Op) → In p os → p.name ≡ o.name → ⊥) × Distinct os

pub distinct_same : (xs : List Op) (p q : Op) → Distinct xs → In p xs → In q xs → p.name ≡ q.name → p ≡ q
distinct_same [] p q h a b e = absurd a
distinct_same (x ∷ xs) p q h (inl a) (inl b) e = a ∙ sym b
distinct_same (x ∷ xs) p q h (inl a) (inr b) e = absurd (h.0 q b (sym e ∙ ap (λ z. z.name) a))
distinct_same (x ∷ xs) p q h (inr a) (inl b) e = absurd (h.0 p a (e ∙ ap (λ z. z.name) b))
distinct_same (x ∷ xs) p q h (inr a) (inr b) e = distinct_same xs p q h.1 a b e

pub distinct_push : (xs : List Op) (o : Op) → Distinct xs → ((p : Op) → In p xs → p.name ≡ o.name → ⊥) → Distinct (xs ++ o ∷ [])
distinct_push [] o h n = ((λ p k e. k), tt)
distinct_push (x ∷ xs) o h n = (
  (λ p k e. ⊎_elim (λ a. h.0 p a e) (⊎_elim (λ a. n x (inl refl) (sym e ∙ ap (λ z. z.name) a)) (λ z. z)) (in_append xs (o ∷ []) p k)),
  distinct_push xs o h.1 (λ p k. n p (inr k)),
)

pub distinct_those : (f : Op → Bool) (xs : List Op) → Distinct xs → Distinct (those f xs)
unfolding those
distinct_those f [] h = tt
distinct_those f (x ∷ xs) h =
    elim (f x) as (λ b. Distinct (pick b (x ∷ those f xs) (those f xs)))
    [ true ↦ ((λ p k e. h.0 p (those_in f xs p k).0 e), distinct_those f xs h.1) | false ↦ distinct_those f xs h.1 ]

-- the paper's test says the same
pub distinct_names : (xs : List Op) → Distinct xs → names_once xs ≡ true
unfolding names_once
distinct_names [] h = refl
distinct_names (x ∷ xs) h =
    and_from (not (has_id xs x.name)) (names_once xs)
    (not_from_false _ (not_true_false _ (λ t. let r = any_in (λ o. same_id o.name x.name) xs t in h.0 r.0 r.1 (same_id_eq _ _ r.2))))
    (distinct_names xs h.1)

pub names_distinct : (xs : List Op) → names_once xs ≡ true → Distinct xs
unfolding names_once
names_distinct [] t = tt
names_distinct (x ∷ xs) t =
    let r = and_parts (not (has_id xs x.name)) (names_once xs) t in (
      (λ p k e. both_ways (has_id xs x.name) (not-true (has_id xs x.name) r.0) (in_any (λ o. same_id o.name x.name) xs p k (eq_same_id p.name x.name e))),
      names_distinct xs r.1,
    )

-- the pigeonhole: take one out of the longer list for each of the shorter
without : {A : Type 0} (x : A) (ys : List A) → In x ys → (zs : List A) × (length ys ≡ suc (length zs)) × ((p : A) → In p ys → (p ≡ x) ⊎ In p zs)
without x [] h = absurd h
without x (y ∷ ys) (inl e) = (ys, refl, (λ p k. ⊎_elim (λ a. inl (a ∙ sym e)) (λ b. inr b) k))
without x (y ∷ ys) (inr h) =
    let r = without x ys h in
    (y ∷ r.0, ap suc r.1, (λ p k. ⊎_elim (λ a. inr (inl a)) (λ b. ⊎_elim (λ c. inl c) (λ c. inr (inr c)) (r.2 p b)) k))

pub distinct_length : (xs ys : List Op) → Distinct xs → Sub xs ys → length xs ≤ length ys
distinct_length [] ys h s = omega arith
distinct_length (x ∷ xs) ys h s =
    let r = without x ys (s x (inl refl)) in
    let ih = distinct_length xs r.0 h.1 (λ p k. ⊎_elim (λ e. absurd (h.0 p k (ap (λ z. z.name) e))) (λ b. b) (r.2 p (s p (inr k)))) in
    omega (arith, r.1)

-- of one desk's operations only those need be there
pub distinct_made_by : (w : ℕ) (xs ys : List Op) → Distinct xs → ((o : Op) → In o xs → o.name.who ≡ w → In o ys) → made_by w xs ≤ made_by w ys
distinct_made_by w xs ys h s =
    let by : Op → Bool = λ o. eqb o.name.who w in
    distinct_length (those by xs) (those by ys) (distinct_those by xs h)
    (λ o k. let r = those_in by xs o k in in_those by ys o (s o r.0 (eqb-true o.name.who w r.1)) r.1)
