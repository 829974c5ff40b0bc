-- What a log says does not depend on the order of its operations.
use Rattle.std.proofs.Common.{◌≡◌, ℕ, zero, suc, not, List, ◌∷◌, length, sym, refl, ap, ◌∙◌, ap₂}
use mathlib.Core.Path.{fun_ext}
use Rattle.ops.specs.Doc.{those, each, flat, added_up, Id, begin, Op, behind, goes_behind, all_signs, shown_ops, strikes, sign_of, is_under, first_word, word_at, count_of, count_at}
use Rattle.desks.specs.Promise.{AnyOrder}
use Rattle.ops.proofs.Members.{In, any_same}
use Rattle.ops.proofs.Ids.{all_in_in}
use Rattle.network.proofs.Distinct.{Distinct, names_distinct}
use Rattle.network.proofs.Newest.{newest_same, newest_those_same, length_newest, sum_newest}

module _ (as₁ bs : List Op) (h : Distinct as₁) (k : Distinct bs) (u : (o : Op) → In o as₁ → In o bs) (v : (o : Op) → In o bs → In o as₁) where
  word_order : (i : ℕ) → word_at as₁ i ≡ word_at bs i
  word_order i = ap first_word (newest_those_same (λ o. is_under i o.kind) as₁ bs h k u v)

  count_order : (i : ℕ) → count_at as₁ i ≡ count_at bs i
  count_order i =
      let f : Op → ℕ = λ o. count_of i o.kind in
      sym (sum_newest f as₁) ∙ ap (added_up f) (newest_same as₁ bs h k u v) ∙ sum_newest f bs

  length_order : length as₁ ≡ length bs
  length_order = sym (length_newest as₁) ∙ ap length (newest_same as₁ bs h k u v) ∙ length_newest bs

  behind_order : (n : ℕ) (p : Id) → behind n as₁ p ≡ behind n bs p
  unfolding behind
  behind_order zero p = refl
  behind_order (suc n) p =
      ap₂ (λ f t. flat f t) (fun_ext (λ (o : Op). ap (λ t. o ∷ t) (behind_order n o.name))) (newest_those_same (goes_behind p) as₁ bs h k u v)

  signs_order : all_signs as₁ ≡ all_signs bs
  signs_order = behind_order (suc (length as₁)) begin ∙ ap (λ n. behind (suc n) bs begin) length_order

  pub shown_order : shown_ops as₁ ≡ shown_ops bs
  shown_order = ap₂ (λ f t. those f t) (fun_ext (λ (o : Op). ap not (any_same (λ q. strikes o.name q.kind) as₁ bs u v))) signs_order

pub any_order : AnyOrder
unfolding AnyOrder
any_order as₁ bs i h k u v =
    let a = names_distinct as₁ h in
    let b = names_distinct bs k in
    let c = all_in_in as₁ bs u in
    let d = all_in_in bs as₁ v in
    (ap (each (λ (o : Op). sign_of o.kind)) (shown_order as₁ bs a b c d), word_order as₁ bs a b c d i, count_order as₁ bs a b c d i)
