-- Newest first: lists of operations with no id twice and the same members are the same list once they are sorted.
use Rattle.std.proofs.Common.{◌≡◌, ℕ, suc, ◌+◌, Bool, true, false, List, [], ◌∷◌, ◌++◌, length, sym, refl, ap, ◌∙◌, subst, ap₂, inl, inr, arith}
use Rattle.ops.specs.Doc.{pick, those, added_up, id_before, Op, put_op, newest_first}
use Rattle.ops.proofs.Members.{In, not_true_false, in_those, those_in}
use Rattle.ops.proofs.Ids.{before_irr, before_asym, before_trans, before_false}
use Rattle.network.proofs.Distinct.{Distinct, distinct_those}

abbrev Sorted : List Op → Type 0
Sorted [] = Unit {0}
Sorted (o ∷ os) = ((p : Op) → In p os → id_before p.name o.name ≡ true) × Sorted os

-- sorting keeps the members
in_put : (o : Op) (ps : List Op) (x : Op) → In x (o ∷ ps) → In x (put_op o ps)
unfolding put_op
in_put o [] x m = m
in_put o (p ∷ ps) x m =
    elim (id_before p.name o.name) as (λ b. In x (pick b (o ∷ p ∷ ps) (p ∷ put_op o ps))) [ true ↦ m | false ↦ later (in_put o ps x) m ]
  where
    later : (In x (o ∷ ps) → In x (put_op o ps)) → In x (o ∷ p ∷ ps) → In x (p ∷ put_op o ps)
    later ih (inl e) = inr (ih (inl e))
    later ih (inr (inl e)) = inl e
    later ih (inr (inr n)) = inr (ih (inr n))

put_in_go : (o p : Op) (ps : List Op) (x : Op) → (In x (put_op o ps) → In x (o ∷ ps)) →
    (b : Bool) → In x (pick b (o ∷ p ∷ ps) (p ∷ put_op o ps)) → In x (o ∷ p ∷ ps)
put_in_go o p ps x ih true m = m
put_in_go o p ps x ih false (inl e) = inr (inl e)
put_in_go o p ps x ih false (inr m) = elim (ih m) [ inl e ↦ inl e | inr n ↦ inr (inr n) ]

put_in_list : (o : Op) (ps : List Op) (x : Op) → In x (put_op o ps) → In x (o ∷ ps)
unfolding put_op
put_in_list o [] x m = m
put_in_list o (p ∷ ps) x m = put_in_go o p ps x (put_in_list o ps x) (id_before p.name o.name) m

in_newest : (os : List Op) (x : Op) → In x os → In x (newest_first os)
unfolding newest_first
in_newest [] x m = m
in_newest (o ∷ os) x (inl e) = in_put o (newest_first os) x (inl e)
in_newest (o ∷ os) x (inr m) = in_put o (newest_first os) x (inr (in_newest os x m))

pub newest_in : (os : List Op) (x : Op) → In x (newest_first os) → In x os
unfolding newest_first
newest_in [] x m = m
newest_in (o ∷ os) x m = elim (put_in_list o (newest_first os) x m) [ inl e ↦ inl e | inr n ↦ inr (newest_in os x n) ]

-- and puts them in order
sorted_go : (o p : Op) (ps : List Op) → Sorted (p ∷ ps) → ((q : Op) → In q (p ∷ ps) → q.name ≡ o.name → ⊥) → Sorted (put_op o ps) →
    (b : Bool) → id_before p.name o.name ≡ b → Sorted (pick b (o ∷ p ∷ ps) (p ∷ put_op o ps))
sorted_go o p ps s a ih true e = (λ q m. newer q m, s)
  where
    newer : (q : Op) → In q (p ∷ ps) → id_before q.name o.name ≡ true
    newer q (inl k) = rw k e
    newer q (inr k) = before_trans q.name p.name o.name (s.0 q k) e
sorted_go o p ps s a ih false e = (λ q m. newer q (put_in_list o ps q m), ih)
  where
    newer : (q : Op) → In q (o ∷ ps) → id_before q.name p.name ≡ true
    newer q (inl k) = rw k (before_false p.name o.name e (a p (inl refl)))
    newer q (inr k) = s.0 q k

sorted_put : (o : Op) (ps : List Op) → Sorted ps → ((q : Op) → In q ps → q.name ≡ o.name → ⊥) → Sorted (put_op o ps)
unfolding put_op
sorted_put o [] s a = (λ p m. absurd m, tt)
sorted_put o (p ∷ ps) s a = sorted_go o p ps s a (sorted_put o ps s.1 (λ q m. a q (inr m))) (id_before p.name o.name) refl

sorted_newest : (os : List Op) → Distinct os → Sorted (newest_first os)
unfolding newest_first
sorted_newest [] h = tt
sorted_newest (o ∷ os) h = sorted_put o (newest_first os) (sorted_newest os h.1) (λ q m. h.0 q (newest_in os q m))

sorted_same : (xs ys : List Op) → Sorted xs → Sorted ys → ((o : Op) → In o xs → In o ys) → ((o : Op) → In o ys → In o xs) → xs ≡ ys
sorted_same [] [] s t h k = refl
sorted_same [] (y ∷ ys) s t h k = absurd (k y (inl refl))
sorted_same (x ∷ xs) [] s t h k = absurd (h x (inl refl))
sorted_same (x ∷ xs) (y ∷ ys) s t h k =
    ap₂ ◌∷◌ first (sorted_same xs ys s.1 t.1 (λ o m. down o m (h o (inr m))) (λ o m. up o m (k o (inr m))))
  where
    first_go : In x (y ∷ ys) → In y (x ∷ xs) → x ≡ y
    first_go (inl e) n = e
    first_go (inr m) (inl e) = sym e
    first_go (inr m) (inr n) = absurd (before_asym x.name y.name (t.0 x m) (s.0 y n))

    first : x ≡ y
    first = first_go (h x (inl refl)) (k y (inl refl))

    down : (o : Op) → In o xs → In o (y ∷ ys) → In o ys
    down o m (inl e) = absurd (before_irr x.name (subst (λ (z : Op). id_before z.name x.name ≡ true) (e ∙ sym first) (s.0 o m)))
    down o m (inr n) = n

    up : (o : Op) → In o ys → In o (x ∷ xs) → In o xs
    up o m (inl e) = absurd (before_irr y.name (subst (λ (z : Op). id_before z.name y.name ≡ true) (e ∙ first) (t.0 o m)))
    up o m (inr n) = n

pub newest_same : (as₁ bs : List Op) → Distinct as₁ → Distinct bs → ((o : Op) → In o as₁ → In o bs) → ((o : Op) → In o bs → In o as₁) →
    newest_first as₁ ≡ newest_first bs
newest_same as₁ bs h k u v =
    sorted_same (newest_first as₁) (newest_first bs) (sorted_newest as₁ h) (sorted_newest bs k)
    (λ o m. in_newest bs o (u o (newest_in as₁ o m))) (λ o m. in_newest as₁ o (v o (newest_in bs o m)))

pub newest_those_same : (f : Op → Bool) (as₁ bs : List Op) → Distinct as₁ → Distinct bs → ((o : Op) → In o as₁ → In o bs) → ((o : Op) → In o bs → In o as₁) →
    newest_first (those f as₁) ≡ newest_first (those f bs)
newest_those_same f as₁ bs h k u v =
    newest_same (those f as₁) (those f bs) (distinct_those f as₁ h) (distinct_those f bs k)
    (λ o m. let r = those_in f as₁ o m in in_those f bs o (u o r.0) r.1)
    (λ o m. let r = those_in f bs o m in in_those f as₁ o (v o r.0) r.1)

-- sorting loses nothing
length_put : (o : Op) (ps : List Op) → length (put_op o ps) ≡ suc (length ps)
unfolding put_op
length_put o [] = refl
length_put o (p ∷ ps) =
    elim (id_before p.name o.name) as (λ b. length (pick b (o ∷ p ∷ ps) (p ∷ put_op o ps)) ≡ suc (suc (length ps)))
    [ true ↦ refl | false ↦ ap suc (length_put o ps) ]

pub length_newest : (os : List Op) → length (newest_first os) ≡ length os
unfolding newest_first
length_newest [] = refl
length_newest (o ∷ os) = length_put o (newest_first os) ∙ ap suc (length_newest os)

sum_put : (f : Op → ℕ) (o : Op) (ps : List Op) → added_up f (put_op o ps) ≡ f o + added_up f ps
unfolding put_op added_up
sum_put f o [] = refl
sum_put f o (p ∷ ps) =
    elim (id_before p.name o.name) as (λ b. added_up f (pick b (o ∷ p ∷ ps) (p ∷ put_op o ps)) ≡ f o + (f p + added_up f ps))
    [ true ↦ refl | false ↦ omega (arith, sum_put f o ps) ]

pub sum_newest : (f : Op → ℕ) (os : List Op) → added_up f (newest_first os) ≡ added_up f os
unfolding newest_first added_up
sum_newest f [] = refl
sum_newest f (o ∷ os) = sum_put f o (newest_first os) ∙ ap (λ t. f o + t) (sum_newest f os)

-- one that is newer than all comes first
pub newest_last : (os : List Op) (o : Op) → ((p : Op) → In p os → id_before p.name o.name ≡ true) → newest_first (os ++ o ∷ []) ≡ o ∷ newest_first os
unfolding newest_first put_op
newest_last [] o new = refl
newest_last (p ∷ os) o new =
    ap (put_op p) (newest_last os o (λ q m. new q (inr m)))
    ∙ ap (λ b. pick b (p ∷ o ∷ newest_first os) (o ∷ put_op p (newest_first os)))
    (not_true_false (id_before o.name p.name) (λ e. before_asym o.name p.name e (new p (inl refl))))
