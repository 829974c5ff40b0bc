-- The elements of the text are operations of the log, so what a command points at is there.
use Rattle.std.proofs.Common.{◌≡◌, ℕ, zero, suc, ◌-◌, ◌<◌, ◌≤◌, Bool, true, false, not, ◌&&◌, eqb, List, [], ◌∷◌, length, sym, refl, subst, inl, inr, arith}
use Rattle.std.proofs.lemmas.Bool.{and_from, eqb-false}
use Rattle.ops.specs.Doc.{pick, or, those, Id, begin, same_id, Kind, put_in, struck, under, added, Op, newest_first, behind, kind_behind, goes_behind, all_signs, shown_ops, is_struck, is_sign, has_sign, about, nth_op, before_place}
use Rattle.ops.proofs.Members.{In, or_inr, those_in, in_any, flat_in}
use Rattle.ops.proofs.Ids.{eq_same_id}
use Rattle.network.proofs.Newest.{newest_in}

-- the elements that were put right behind one
abbrev pub children : List Op → Id → List Op
children ops p = newest_first (those (goes_behind p) ops)

pub child_in : (ops : List Op) (p : Id) (o : Op) → In o (children ops p) → In o ops × (goes_behind p o ≡ true)
child_in ops p o m = those_in (goes_behind p) ops o (newest_in (those (goes_behind p) ops) o m)

behind-is_sign : (p : Id) (k : Kind) → kind_behind p k ≡ true → is_sign k ≡ true
unfolding kind_behind is_sign
behind-is_sign p (put_in a c) h = refl
behind-is_sign p (struck a) h = h
behind-is_sign p (under k v) h = h
behind-is_sign p (added k v) h = h

element_in : (n : ℕ) (ops : List Op) (p : Id) (o : Op) → In o (behind n ops p) → In o ops × (is_sign o.kind ≡ true)
unfolding behind
element_in zero ops p o m = absurd m
element_in (suc n) ops p o m =
    let r = flat_in (λ c. c ∷ behind n ops c.name) (children ops p) o m in
    let k = child_in ops p r.0 r.1 in
    elim r.2 [
      | inl e ↦ subst (λ (x : Op). In x ops × (is_sign x.kind ≡ true)) (sym e) (k.0, behind-is_sign p r.0.kind k.1)
      | inr i ↦ element_in n ops r.0.name o i
    ]

nth_in : (xs : List Op) (k : ℕ) → k < length xs → (o : Op) × In o xs × (nth_op xs k ≡ o.name)
unfolding nth_op
nth_in [] k h = absurd (omega arith)
nth_in (x ∷ xs) zero h = (x, inl refl, refl)
nth_in (x ∷ xs) (suc k) h = let r = nth_in xs k (omega arith) in (r.0, inr r.1, r.2)

pub element_there : (ops : List Op) (i : ℕ) → i < length (shown_ops ops) → has_sign ops (nth_op (shown_ops ops) i) ≡ true
element_there ops i h =
    let r = nth_in (shown_ops ops) i h in
    let s = element_in (suc (length ops)) ops begin r.0 (those_in (λ o. not (is_struck ops o.name)) (all_signs ops) r.0 r.1).0 in
    let a = nth_op (shown_ops ops) i in
    in_any (λ o. same_id o.name a && is_sign o.kind) ops r.0 s.0
    (and_from (same_id r.0.name a) (is_sign r.0.kind) (eq_same_id r.0.name a (sym r.2)) s.1)

pub place-there : (ops : List Op) (i c : ℕ) → i ≤ length (shown_ops ops) → about ops (put_in (before_place ops i) c) ≡ true
unfolding about
place-there ops i c h = go (eqb i 0) refl
  where
    a : Bool → Id
    a b = pick b begin (nth_op (shown_ops ops) (i - 1))

    go : (b : Bool) → eqb i 0 ≡ b → or (same_id (a b) begin) (has_sign ops (a b)) ≡ true
    go true e = refl
    go false e = let z = eqb-false i 0 e in or_inr (same_id (a false) begin) (has_sign ops (a false)) (element_there ops (i - 1) (omega arith))
