-- The walk over the elements is deep enough, so an operation that is about none of them leaves the text as it was.
use Rattle.std.proofs.Common.{◌≡◌, ℕ, zero, suc, ◌<◌, Bool, true, false, not, List, [], ◌∷◌, ◌++◌, length, refl, ap, ◌∙◌, ap₂, arith, length-append}
use mathlib.Core.Path.{fun_ext}
use Rattle.std.proofs.lemmas.Bool.{both_ways}
use Rattle.ops.specs.Doc.{those, each, flat, Id, begin, id_before, Kind, put_in, struck, under, added, Op, newest_first, behind, kind_behind, goes_behind, all_signs, strikes, sign_of, text, older}
use Rattle.ops.proofs.Members.{In, not_true_false, those_last_no, any_last_no, flat_ext}
use Rattle.ops.proofs.Ids.{same_id_eq, before_irr, before_trans}
use Rattle.network.proofs.Hanging.{Hangs}
use Rattle.network.proofs.Elements.{children, child_in}
use Rattle.network.proofs.Counting.{those-length, those_less}

behind-newer : (p i : Id) (k : Kind) → kind_behind p k ≡ true → older i k ≡ true → id_before p i ≡ true
unfolding kind_behind older
behind-newer p i (put_in a c) h k = rw (same_id_eq a p h) at k
behind-newer p i (struck a) h k = absurd (both_ways false refl h)
behind-newer p i (under j v) h k = absurd (both_ways false refl h)
behind-newer p i (added j v) h k = absurd (both_ways false refl h)

-- how many operations are newer than an id: what stands behind an element is newer, so the walk behind it is no deeper
abbrev newer : Id → Op → Bool
newer i o = id_before i o.name

abbrev room : List Op → Id → ℕ
room ops i = length (those (newer i) ops)

room_less : (ops : List Op) (i : Id) (o : Op) → In o ops → id_before i o.name ≡ true → room ops o.name < room ops i
room_less ops i o m h =
    those_less (newer o.name) (newer i) ops (λ x k e. before_trans i o.name x.name h e) o m
    (not_true_false (id_before o.name o.name) (before_irr o.name)) h

module _ (ops : List Op) (H : Hangs ops) where
  child_room : (p : Id) (o : Op) → In o (children ops p) → room ops o.name < room ops p
  child_room p o m = let r = child_in ops p o m in room_less ops p o r.0 (behind-newer p o.name o.kind r.1 (H.fits o r.0).newer)

  any_depth : (n m : ℕ) (p : Id) → room ops p < n → room ops p < m → behind n ops p ≡ behind m ops p
  unfolding behind
  any_depth zero m p k l = absurd (omega arith)
  any_depth (suc n) zero p k l = absurd (omega arith)
  any_depth (suc n) (suc m) p k l =
      flat_ext (λ o. o ∷ behind n ops o.name) (λ o. o ∷ behind m ops o.name) (children ops p)
      (λ o i. let r = child_room p o i in ap (λ t. o ∷ t) (any_depth n m o.name (omega arith) (omega arith)))

  -- one operation more, which is about no element
  module _ (d : Op) (none : (q : Id) → kind_behind q d.kind ≡ false) where
    behind_last : (n : ℕ) (p : Id) → behind n (ops ++ d ∷ []) p ≡ behind n ops p
    unfolding behind
    behind_last zero p = refl
    behind_last (suc n) p =
        ap₂ (λ f t. flat f (newest_first t)) (fun_ext (λ (o : Op). ap (λ t. o ∷ t) (behind_last n o.name))) (those_last_no (goes_behind p) ops d (none p))

    signs_last : all_signs (ops ++ d ∷ []) ≡ all_signs ops
    signs_last =
        let l = length-append ops (d ∷ []) in
        let r = those-length (newer begin) ops in
        behind_last (suc (length (ops ++ d ∷ []))) begin
        ∙ any_depth (suc (length (ops ++ d ∷ []))) (suc (length ops)) begin (omega arith) (omega arith)

    pub text_last : ((q : Id) → strikes q d.kind ≡ false) → text (ops ++ d ∷ []) ≡ text ops
    text_last kept =
        ap₂ (λ f t. each (λ (o : Op). sign_of o.kind) (those f t))
        (fun_ext (λ (o : Op). ap not (any_last_no (λ q. strikes o.name q.kind) ops d (kept o.name)))) signs_last
