-- One operation more: under a key stands the newest word, and its count is a sum.
use Rattle.std.proofs.Common.{◌≡◌, ℕ, ◌+◌, Bool, true, false, List, [], ◌∷◌, ◌++◌, sym, ap, ◌∙◌, add_assoc, zero-add, arith}
use Rattle.ops.specs.Doc.{those, added_up, id_before, Op, newest_first, is_under, word_of, first_word, count_of, word_at, count_at}
use Rattle.desks.specs.Promise.{CountsAdded}
use Rattle.ops.proofs.Members.{In, those_in, those_yes, those-append, those_last_no}
use Rattle.network.proofs.Newest.{newest_last}

sum-append : {A : Type 0} (f : A → ℕ) (xs ys : List A) → added_up f (xs ++ ys) ≡ added_up f xs + added_up f ys
unfolding added_up
sum-append f [] ys = sym (zero-add (added_up f ys))
sum-append f (x ∷ xs) ys = ap (λ t. f x + t) (sum-append f xs ys) ∙ sym (add_assoc (f x) (added_up f xs) (added_up f ys))

pub counts_added : CountsAdded
unfolding CountsAdded
counts_added as₁ bs k = sum-append (λ o. count_of k o.kind) as₁ bs

module _ (ops : List Op) (d : Op) (k : ℕ) where
  pub count_last : count_at (ops ++ d ∷ []) k ≡ count_at ops k + count_of k d.kind
  unfolding added_up
  count_last = let e = sum-append (λ (o : Op). count_of k o.kind) ops (d ∷ []) in omega arith

  pub count_other : count_of k d.kind ≡ 0 → count_at (ops ++ d ∷ []) k ≡ count_at ops k
  count_other h = let e = count_last in omega arith

  pub word_last : ((p : Op) → In p ops → id_before p.name d.name ≡ true) → is_under k d.kind ≡ true → word_at (ops ++ d ∷ []) k ≡ word_of d.kind ∷ []
  unfolding first_word those
  word_last new h =
      let f : Op → Bool = λ o. is_under k o.kind in
      ap (λ t. first_word (newest_first t)) (those-append f ops (d ∷ []) ∙ ap (λ t. those f ops ++ t) (those_yes f d [] h))
      ∙ ap first_word (newest_last (those f ops) d (λ p m. new p (those_in f ops p m).0))

  pub word_other : is_under k d.kind ≡ false → word_at (ops ++ d ∷ []) k ≡ word_at ops k
  word_other h = ap (λ t. first_word (newest_first t)) (those_last_no (λ o. is_under k o.kind) ops d h)
