-- What delivering a batch does to a log: it stays valid, and then has what it had and the batch, and nothing else.
use Rattle.std.proofs.Common.{◌≡◌, Bool, true, false, ltb, ◌⊎◌, List, [], ◌∷◌, ◌++◌, sym, refl, subst, inl, inr, ⊎_elim}
use Rattle.std.proofs.lemmas.Bool.{ltb-true, ltb-false}
use Rattle.ops.specs.Doc.{pick, Op}
use Rattle.ops.specs.Version.{version}
use Rattle.ops.proofs.Members.{In, Sub, in_left, in_right, in_append, in_only}
use Rattle.network.proofs.Laws.{deliver, deliver_all}
use Rattle.network.proofs.Causal.{Deliverable, deliverable_map, Causal}
use Rattle.network.proofs.Logs.{History, Valid, covered, valid_push}

pub record Delivered (u log news log₁ : List Op) : Type 0 where
  pub valid : Valid u log₁
  pub kept : Sub log log₁
  pub got : Sub news log₁
  pub only : (q : Op) → In q log₁ → In q log ⊎ In q news

delivered_one : (u log : List Op) (o : Op) → History u → Valid u log → Deliverable u (λ q. In q log) o → Delivered u log (o ∷ []) (deliver log o)
unfolding deliver
delivered_one u log o a g r = go (ltb (version log o.name.who) o.name.n) refl
  where
    go : (b : Bool) → ltb (version log o.name.who) o.name.n ≡ b → Delivered u log (o ∷ []) (pick b (log ++ o ∷ []) log)
    go true e = record { valid = valid_push o g r (ltb-true _ _ e); kept = in_left log (o ∷ []); got = in_right log (o ∷ []); only = in_append log (o ∷ []) }
    go false e =
        record
        { valid = g; kept = λ q k. k; got = λ q k. subst (λ x. In x log) (sym (in_only o q k)) (covered a g o r.here (ltb-false _ _ e)); only = λ q k. inl k }

pub delivered : (u log : List Op) (P : Op → Type 0) (news : List Op) → History u → Valid u log → ((q : Op) → P q → In q log) → Causal u P news →
    Delivered u log news (deliver_all log news)
unfolding deliver_all
delivered u log P [] a g f h = record { valid = g; kept = λ q k. k; got = λ q k. absurd k; only = λ q k. inl k }
delivered u log P (o ∷ os) a g f h =
    let t = delivered_one u log o a g (deliverable_map P (λ q. In q log) o f h.0) in
    let r = delivered u (deliver log o) (λ q. P q ⊎ (q ≡ o)) os a t.valid (λ q. ⊎_elim (λ k. t.kept q (f q k)) (λ k. t.got q (inl k))) h.1 in
    record {
      valid = r.valid;
      kept = λ q k. r.kept q (t.kept q k);
      got = λ q. ⊎_elim (λ k. r.kept q (t.got q (inl k))) (λ k. r.got q k);
      only = λ q k. ⊎_elim (λ z. ⊎_elim (λ y. inl y) (λ y. inr (inl (in_only o q y))) (t.only q z)) (λ z. inr (inr z)) (r.only q k);
    }
