-- What an operation is about is there: the paper's test `about`, as membership.
use Rattle.std.proofs.Common.{◌≡◌, true, ◌&&◌, ◌⊎◌, List, refl, inl, inr}
use Rattle.std.proofs.lemmas.Bool.{and_from, and_parts}
use Rattle.ops.specs.Doc.{Id, begin, same_id, Op, Kind, put_in, struck, under, added, is_sign, has_sign, about}
use Rattle.ops.proofs.Members.{In, or_inl, or_inr, or_case, in_any, any_in}
use Rattle.ops.proofs.Ids.{same_id_eq, eq_same_id}

abbrev pub Target : (Op → Type 0) → Id → Type 0
Target P a = (t : Op) × (t.name ≡ a) × (is_sign t.kind ≡ true) × P t

abbrev pub About : (Op → Type 0) → Kind → Type 0
About P (put_in a c) = (a ≡ begin) ⊎ Target P a
About P (struck a) = Target P a
About P (under k v) = Unit {0}
About P (added k v) = Unit {0}

pub about-map : (P Q : Op → Type 0) (k : Kind) → ((t : Op) → P t → Q t) → About P k → About Q k
about-map P Q (put_in a c) f (inl e) = inl e
about-map P Q (put_in a c) f (inr r) = inr (r.0, r.1, r.2, f r.0 r.3)
about-map P Q (struck a) f r = (r.0, r.1, r.2, f r.0 r.3)
about-map P Q (under k v) f r = tt
about-map P Q (added k v) f r = tt

in_target : (ops : List Op) (a : Id) → Target (λ t. In t ops) a → has_sign ops a ≡ true
in_target ops a r =
    in_any (λ o. same_id o.name a && is_sign o.kind) ops r.0 r.3
    (and_from (same_id r.0.name a) (is_sign r.0.kind) (eq_same_id r.0.name a r.1) r.2)

target_in : (ops : List Op) (a : Id) → has_sign ops a ≡ true → Target (λ t. In t ops) a
target_in ops a h =
    let r = any_in (λ o. same_id o.name a && is_sign o.kind) ops h in
    let q = and_parts (same_id r.0.name a) (is_sign r.0.kind) r.2 in
    (r.0, same_id_eq r.0.name a q.0, q.1, r.1)

pub in_about : (ops : List Op) (k : Kind) → About (λ t. In t ops) k → about ops k ≡ true
unfolding about
in_about ops (put_in a c) (inl e) = or_inl (same_id a begin) (has_sign ops a) (eq_same_id a begin e)
in_about ops (put_in a c) (inr r) = or_inr (same_id a begin) (has_sign ops a) (in_target ops a r)
in_about ops (struck a) r = in_target ops a r
in_about ops (under k v) r = refl
in_about ops (added k v) r = refl

pub about_in : (ops : List Op) (k : Kind) → about ops k ≡ true → About (λ t. In t ops) k
unfolding about
about_in ops (put_in a c) h =
    elim (or_case (same_id a begin) (has_sign ops a) h) [ inl e ↦ inl (same_id_eq a begin e) | inr t ↦ inr (target_in ops a t) ]
about_in ops (struck a) h = target_in ops a h
about_in ops (under k v) h = tt
about_in ops (added k v) h = tt
