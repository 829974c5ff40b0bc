-- Causal order: of a list of operations, each one's earlier operations of the same desk, and what it is about, are already there.
use Rattle.std.proofs.Common.{◌≡◌, ℕ, zero, suc, ◌<◌, ◌≤◌, Bool, true, false, ltb, ◌⊎◌, List, [], ◌∷◌, ◌++◌, take, sym, refl, ap, ◌∙◌, subst, inl, inr, ⊎_elim, arith}
use Rattle.std.proofs.lemmas.Bool.{ltb-false}
use Rattle.ops.specs.Doc.{pick, those, Op}
use Rattle.ops.specs.Version.{newer_than}
use Rattle.ops.proofs.Members.{In}
use Rattle.network.proofs.Targets.{About, about-map}

-- among all operations u, what o depends on satisfies P
pub record Deliverable (u : List Op) (P : Op → Type 0) (o : Op) : Type 0 where
  pub here : In o u
  pub before : (p : Op) → In p u → p.name.who ≡ o.name.who → p.name.n < o.name.n → P p
  pub target : About P o.kind

pub deliverable_map : {u : List Op} (P Q : Op → Type 0) (o : Op) → ((q : Op) → P q → Q q) → Deliverable u P o → Deliverable u Q o
deliverable_map P Q o f r = record { here = r.here; before = λ p a b c. f p (r.before p a b c); target = about-map P Q o.kind f r.target }

-- where what satisfies P is there before the list begins
abbrev pub Causal : List Op → (Op → Type 0) → List Op → Type 0
Causal u P [] = Unit {0}
Causal u P (o ∷ os) = Deliverable u P o × Causal u (λ q. P q ⊎ (q ≡ o)) os

pub causal_map : (u : List Op) (P Q : Op → Type 0) (os : List Op) → ((q : Op) → P q → Q q) → Causal u P os → Causal u Q os
causal_map u P Q [] f h = tt
causal_map u P Q (o ∷ os) f h =
    (deliverable_map P Q o f h.0, causal_map u (λ q. P q ⊎ (q ≡ o)) (λ q. Q q ⊎ (q ≡ o)) os (λ q. ⊎_elim (λ a. inl (f q a)) (λ b. inr b)) h.1)

pub causal_at : (u : List Op) (P : Op → Type 0) (os : List Op) (o : Op) → Causal u P os → In o os → Deliverable u (λ q. P q ⊎ In q os) o
causal_at u P [] o h k = absurd k
causal_at u P (x ∷ os) o h (inl e) =
    subst (λ z. Deliverable u (λ q. P q ⊎ In q (x ∷ os)) z) (sym e) (deliverable_map P (λ q. P q ⊎ In q (x ∷ os)) x (λ q a. inl a) h.0)
causal_at u P (x ∷ os) o h (inr k) =
    deliverable_map (λ q. (P q ⊎ (q ≡ x)) ⊎ In q os) (λ q. P q ⊎ In q (x ∷ os)) o (λ q. ⊎_elim (⊎_elim (λ a. inl a) (λ b. inr (inl b))) (λ c. inr (inr c)))
    (causal_at u (λ q. P q ⊎ (q ≡ x)) os o h.1 k)

pub causal_push : (u : List Op) (P : Op → Type 0) (os : List Op) (o : Op) → Causal u P os → Deliverable u (λ q. P q ⊎ In q os) o → Causal u P (os ++ o ∷ [])
causal_push u P [] o h r = (deliverable_map (λ q. P q ⊎ ⊥) P o (λ q. ⊎_elim (λ a. a) (λ z. absurd z)) r, tt)
causal_push u P (x ∷ os) o h r = (
  h.0,
  causal_push u (λ q. P q ⊎ (q ≡ x)) os o h.1
      (deliverable_map (λ q. P q ⊎ In q (x ∷ os)) (λ q. (P q ⊎ (q ≡ x)) ⊎ In q os) o (λ q. ⊎_elim (λ a. inl (inl a)) (⊎_elim (λ b. inl (inr b)) (λ c. inr c))) r),
)

pub causal_take : (u : List Op) (P : Op → Type 0) (n : ℕ) (os : List Op) → Causal u P os → Causal u P (take n os)
causal_take u P zero os h = tt
causal_take u P (suc n) [] h = tt
causal_take u P (suc n) (o ∷ os) h = (h.0, causal_take u (λ q. P q ⊎ (q ≡ o)) n os h.1)

-- what is left out has to be there already
pub causal_newer : (u : List Op) (P Q : Op → Type 0) (v : ℕ → ℕ) (os : List Op) → ((q : Op) → P q → Q q) → ((q : Op) → In q u → q.name.n ≤ v q.name.who → Q q) →
    Causal u P os → Causal u Q (newer_than v os)
unfolding newer_than those
causal_newer u P Q v [] f g k = tt
causal_newer u P Q v (o ∷ os) f g k =
    go (causal_newer u (λ q. P q ⊎ (q ≡ o)) (λ q. Q q ⊎ (q ≡ o)) v os (λ q. ⊎_elim (λ a. inl (f q a)) (λ b. inr b)) (λ q a b. inl (g q a b)) k.1)
    (λ low. causal_newer u (λ q. P q ⊎ (q ≡ o)) Q v os (λ q. ⊎_elim (λ a. f q a) (λ b. subst Q (sym b) (g o k.0.here low))) g k.1)
    (ltb (v o.name.who) o.name.n) refl
  where
    go : Causal u (λ q. Q q ⊎ (q ≡ o)) (newer_than v os) → (o.name.n ≤ v o.name.who → Causal u Q (newer_than v os)) → (b : Bool) → ltb (v o.name.who) o.name.n ≡ b →
        Causal u Q (pick b (o ∷ newer_than v os) (newer_than v os))
    go a b true e = (deliverable_map P Q o f k.0, a)
    go a b false e = b (ltb-false (v o.name.who) o.name.n e)

-- one more operation x is made: it is the latest of its desk, so nothing that was deliverable waits for it
pub causal_more : (u : List Op) (x : Op) (P : Op → Type 0) (os : List Op) → ((q : Op) → In q u → q.name.who ≡ x.name.who → q.name.n < x.name.n) →
    Causal u P os → Causal (x ∷ u) P os
causal_more u x P [] new h = tt
causal_more u x P (o ∷ os) new h = (
  record {
    here = inr h.0.here;
    before =
        λ p k e l. ⊎_elim
        (λ (z : p ≡ x). let y = new o h.0.here (sym e ∙ ap (λ v. v.name.who) z) in let y₁ = ap (λ v. v.name.n) z in absurd (omega arith))
        (λ k₁. h.0.before p k₁ e l) k;
    target = h.0.target;
  },
  causal_more u x (λ q. P q ⊎ (q ≡ o)) os new h.1,
)
