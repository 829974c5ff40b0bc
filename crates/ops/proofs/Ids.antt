-- Operation ids are in a line, and the paper's tests on ids, kinds and operations are equality.
use Rattle.std.proofs.Common.{◌≡◌, ◌<◌, Bool, true, false, ◌&&◌, eqb, ltb, ◌⊎◌, List, sym, refl, ap, ◌∙◌, subst, ap₂, inl, inr, arith}
use Rattle.std.proofs.lemmas.Bool.{ltb-true, eqb-true, lt-ltb, le-ltb, eq-eqb, and_parts, and_from, both_ways, cases_order}
use Rattle.ops.specs.Doc.{pick, every, any, Id, same_id, id_before, Kind, put_in, struck, under, added, Op, same_kind, same_op}
use Rattle.ops.proofs.Members.{In, in_any, any_in, every_in, in_every}

pub id_path : (a b : Id) → a.n ≡ b.n → a.who ≡ b.who → a ≡ b
id_path a b p q = λ i. record { n = p i; who = q i }

pub same_id_eq : (a b : Id) → same_id a b ≡ true → a ≡ b
same_id_eq a b h =
    let r = and_parts (eqb a.n b.n) (eqb a.who b.who) h in
    id_path a b (eqb-true a.n b.n r.0) (eqb-true a.who b.who r.1)

pub eq_same_id : (a b : Id) → a ≡ b → same_id a b ≡ true
eq_same_id a b h = and_from (eqb a.n b.n) (eqb a.who b.who) (eq-eqb a.n b.n (ap (λ (x : Id). x.n) h)) (eq-eqb a.who b.who (ap (λ (x : Id). x.who) h))

abbrev pub Before : Id → Id → Type 0
Before a b = (a.n < b.n) ⊎ ((a.n ≡ b.n) × (a.who < b.who))

pub before_from : (a b : Id) → id_before a b ≡ true → Before a b
before_from a b h = go (ltb a.n b.n) refl h
  where
    go : (t : Bool) → ltb a.n b.n ≡ t → pick t true (eqb a.n b.n && ltb a.who b.who) ≡ true → Before a b
    go true e k = inl (ltb-true a.n b.n e)
    go false e k =
        let r = and_parts (eqb a.n b.n) (ltb a.who b.who) k in
        inr (eqb-true a.n b.n r.0, ltb-true a.who b.who r.1)

pub to_before : (a b : Id) → Before a b → id_before a b ≡ true
to_before a b (inl h) = ap (λ t. pick t true (eqb a.n b.n && ltb a.who b.who)) (lt-ltb a.n b.n h)
to_before a b (inr h) =
    ap (λ t. pick t true (eqb a.n b.n && ltb a.who b.who)) (le-ltb a.n b.n (omega arith))
    ∙ and_from (eqb a.n b.n) (ltb a.who b.who) (eq-eqb a.n b.n h.0) (lt-ltb a.who b.who h.1)

pub Before-not : (a b : Id) → Before a b → Before b a → ⊥
Before-not a b h k = omega arith

pub Before-trans : (a b c : Id) → Before a b → Before b c → Before a c
Before-trans a b c (inl h) (inl k) = inl (omega arith)
Before-trans a b c (inl h) (inr k) = inl (omega arith)
Before-trans a b c (inr h) (inl k) = inl (omega arith)
Before-trans a b c (inr h) (inr k) = inr (omega arith)

pub Before-total : (a b : Id) → (a ≡ b) ⊎ (Before a b ⊎ Before b a)
Before-total a b = go (cases_order a.n b.n) (cases_order a.who b.who)
  where
    go : (a.n ≡ b.n) ⊎ ((a.n < b.n) ⊎ (b.n < a.n)) → (a.who ≡ b.who) ⊎ ((a.who < b.who) ⊎ (b.who < a.who)) → (a ≡ b) ⊎ (Before a b ⊎ Before b a)
    go (inl p) (inl q) = inl (id_path a b p q)
    go (inl p) (inr (inl q)) = inr (inl (inr (p, q)))
    go (inl p) (inr (inr q)) = inr (inr (inr (sym p, q)))
    go (inr (inl p)) w = inr (inl (inl p))
    go (inr (inr p)) w = inr (inr (inl p))

pub before_irr : (a : Id) → id_before a a ≡ true → ⊥
before_irr a h = Before-not a a (before_from a a h) (before_from a a h)

pub before_asym : (a b : Id) → id_before a b ≡ true → id_before b a ≡ true → ⊥
before_asym a b h k = Before-not a b (before_from a b h) (before_from b a k)

pub before_trans : (a b c : Id) → id_before a b ≡ true → id_before b c ≡ true → id_before a c ≡ true
before_trans a b c h k = to_before a c (Before-trans a b c (before_from a b h) (before_from b c k))

pub before_false : (a b : Id) → id_before a b ≡ false → (a ≡ b → ⊥) → id_before b a ≡ true
before_false a b h k = elim (Before-total a b) [ inl e ↦ absurd (k e) | inr (inl e) ↦ absurd (both_ways (id_before a b) h (to_before a b e)) | inr (inr e) ↦ to_before b a e ]

-- deeds
pub same_kind_eq : (a b : Kind) → same_kind a b ≡ true → a ≡ b
unfolding same_kind
same_kind_eq (put_in a c) (put_in b d) h = let r = and_parts (same_id a b) (eqb c d) h in ap₂ put_in (same_id_eq a b r.0) (eqb-true c d r.1)
same_kind_eq (put_in a c) (struck b) h = absurd (both_ways false refl h)
same_kind_eq (put_in a c) (under k v) h = absurd (both_ways false refl h)
same_kind_eq (put_in a c) (added k v) h = absurd (both_ways false refl h)
same_kind_eq (struck a) (put_in b d) h = absurd (both_ways false refl h)
same_kind_eq (struck a) (struck b) h = ap struck (same_id_eq a b h)
same_kind_eq (struck a) (under k v) h = absurd (both_ways false refl h)
same_kind_eq (struck a) (added k v) h = absurd (both_ways false refl h)
same_kind_eq (under k v) (put_in b d) h = absurd (both_ways false refl h)
same_kind_eq (under k v) (struck b) h = absurd (both_ways false refl h)
same_kind_eq (under k v) (under l w) h = let r = and_parts (eqb k l) (eqb v w) h in ap₂ under (eqb-true k l r.0) (eqb-true v w r.1)
same_kind_eq (under k v) (added l w) h = absurd (both_ways false refl h)
same_kind_eq (added k v) (put_in b d) h = absurd (both_ways false refl h)
same_kind_eq (added k v) (struck b) h = absurd (both_ways false refl h)
same_kind_eq (added k v) (under l w) h = absurd (both_ways false refl h)
same_kind_eq (added k v) (added l w) h = let r = and_parts (eqb k l) (eqb v w) h in ap₂ added (eqb-true k l r.0) (eqb-true v w r.1)

pub same_kind_refl : (a : Kind) → same_kind a a ≡ true
unfolding same_kind
same_kind_refl (put_in a c) = and_from (same_id a a) (eqb c c) (eq_same_id a a refl) (eq-eqb c c refl)
same_kind_refl (struck a) = eq_same_id a a refl
same_kind_refl (under k v) = and_from (eqb k k) (eqb v v) (eq-eqb k k refl) (eq-eqb v v refl)
same_kind_refl (added k v) = and_from (eqb k k) (eqb v v) (eq-eqb k k refl) (eq-eqb v v refl)

pub op_path : (a b : Op) → a.name ≡ b.name → a.kind ≡ b.kind → a ≡ b
op_path a b p q = λ i. record { name = p i; kind = q i }

pub same_op_eq : (a b : Op) → same_op a b ≡ true → a ≡ b
same_op_eq a b h =
    let r = and_parts (same_id a.name b.name) (same_kind a.kind b.kind) h in
    op_path a b (same_id_eq a.name b.name r.0) (same_kind_eq a.kind b.kind r.1)

pub same_op_refl : (a : Op) → same_op a a ≡ true
same_op_refl a = and_from (same_id a.name a.name) (same_kind a.kind a.kind) (eq_same_id a.name a.name refl) (same_kind_refl a.kind)

-- has-op is membership
pub has_op_in : (ops : List Op) (o : Op) → any (same_op o) ops ≡ true → In o ops
has_op_in ops o h = let r = any_in (same_op o) ops h in subst (λ (x : Op). In x ops) (sym (same_op_eq o r.0 r.2)) r.1

pub in_has_op : (ops : List Op) (o : Op) → In o ops → any (same_op o) ops ≡ true
in_has_op ops o m = in_any (same_op o) ops o m (same_op_refl o)

pub all_in_in : (as₁ bs : List Op) → every (λ o. any (same_op o) bs) as₁ ≡ true → (o : Op) → In o as₁ → In o bs
all_in_in as₁ bs h o m = has_op_in bs o (every_in (λ o. any (same_op o) bs) as₁ h o m)

pub in_all_in : (as₁ bs : List Op) → ((o : Op) → In o as₁ → In o bs) → every (λ o. any (same_op o) bs) as₁ ≡ true
in_all_in as₁ bs h = in_every (λ o. any (same_op o) bs) as₁ (λ o m. in_has_op bs o (h o m))
