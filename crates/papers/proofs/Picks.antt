-- What `max_by_key` picks, where its closure computes a key, and `better` says which of two has the higher one.
use Rattle.std.proofs.Common.{◌≡◌, List, [], ◌∷◌, None, Some, Option, Ordering, sym, refl, ap, subst, ◌∙◌}
use denote.Param.Members.{Mut}
use denote.Ref.{Bor}
use Rattle.std.specs.declared.cmp.Ordering.TheVariants.{Less, Equal, Greater}
use Rattle.std.specs.Fn.{CalledAt}
use Rattle.std.specs.Iterator.{KeyTurn, PicksMaxByKey}
use Rattle.std.specs.List.{FoldsTo, reduce}
use Rattle.std.specs.Ordering.{max_by_ordering}
use Rattle.std.proofs.lemmas.Iterator.{YieldsList}
use Rattle.std.proofs.lemmas.Iterator.Consumers.{reduce_from_yields_List}

module _ {A K F : Type 0} (g : Mut F (Bor A × Unit {0}) K) (cmp : K → K → Ordering) (key : A → K) (f : F) (pure : (x : A) (k : K) (q : F) → CalledAt g f x k q → (q ≡ f) × (k ≡ key x))
    (better : A → A → A) (is_better : (x y : A) → max_by_ordering (cmp (key x) (key y)) x y ≡ better x y) where
  key-pick : (o : Ordering) (x y : A) → max_by_ordering o (key x) (key y) ≡ key (max_by_ordering o x y)
  key-pick Less x y = refl
  key-pick Equal x y = refl
  key-pick Greater x y = refl

  turns : (p : (F × K) × A) (xs : List A) (q : (F × K) × A) → p.0.0 ≡ f → p.0.1 ≡ key p.1 → FoldsTo {P = (F × K) × A} (KeyTurn max_by_ordering max_by_ordering g cmp) p xs q → FoldsTo (λ x y z. z ≡ better x y) p.1 xs q.1
  turns p [] q a b h = ap (λ s. s.1) h
  turns p (z ∷ xs) q a b h =
      let t = h.1 in
      let c : (h.0.0.0 ≡ f) × (t.0 ≡ key z) = pure z t.0 h.0.0.0 (subst (λ s. CalledAt g s z t.0 h.0.0.0) a t.2) in
      let o : t.1 ≡ cmp (key p.1) (key z) = sym t.3 ∙ ap (λ k. cmp k t.0) b ∙ ap (cmp (key p.1)) c.1 in
      let e : h.0.1 ≡ better p.1 z = t.5 ∙ ap (λ w. max_by_ordering w p.1 z) o ∙ is_better p.1 z in
      let d : h.0.0.1 ≡ key h.0.1 = t.4 ∙ ap (λ k. max_by_ordering t.1 k t.0) b ∙ ap (max_by_ordering t.1 (key p.1)) c.1 ∙ key-pick t.1 p.1 z ∙ ap key (sym t.5) in
      (h.0.1, e, turns h.0 xs q c.0 d h.2)

  pub max_by_key_from_yields_List : {S : Type 0} {steps : S → Option A → S → Type 0} {all : List A} (s : S) (r : Option A) → PicksMaxByKey steps g cmp s f r → YieldsList steps (λ x. x) s all → r ≡ reduce better all
  max_by_key_from_yields_List s None h e = reduce_from_yields_List better s None h e
  max_by_key_from_yields_List s (Some y) h e =
      let c : (h.3 ≡ f) × (h.2 ≡ key h.0) = pure h.0 h.2 h.3 h.6 in
      reduce_from_yields_List better s (Some y) (h.0, h.1, h.5, turns ((h.3, h.2), h.0) h.1 (h.4, y) c.0 c.1 h.7) e
