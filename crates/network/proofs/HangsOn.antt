-- What hangs together goes on to: after a turn, and once two logs are put together.
use Rattle.std.proofs.Common.{◌≡◌, ℕ, true, ◌&&◌, List, [], ◌∷◌, ◌++◌, sym, refl, subst, inl, inr, arith}
use Rattle.std.proofs.lemmas.Bool.{and_parts}
use Rattle.ops.specs.Doc.{or, Id, begin, same_id, id_before, Kind, put_in, struck, under, added, Op, has_op, is_sign, has_sign, about, older, deed_by}
use Rattle.desks.specs.Promise.{HangsOn}
use Rattle.ops.proofs.Members.{In, or_case, any_in, every_in, in_left, in_append}
use Rattle.ops.proofs.Ids.{same_id_eq, to_before, before_irr, has_op_in, all_in_in}
use Rattle.network.proofs.Distinct.{names_distinct, distinct_push}
use Rattle.network.proofs.Hanging.{Fits, Hangs, hangs_from, from_hangs, about_more, fits_more}
use Rattle.network.proofs.OneMore.{newer_than-all, turn_leaves}

-- the new operation at the end of a log fits there
module _ (w : ℕ) (ops : List Op) (k : Kind) where
  newer_than_sign : (a : Id) → has_sign ops a ≡ true → id_before a (deed_by w ops k).name ≡ true
  newer_than_sign a h =
      let r = any_in (λ o. same_id o.name a && is_sign o.kind) ops h in
      let e = same_id_eq r.0.name a (and_parts (same_id r.0.name a) (is_sign r.0.kind) r.2).0 in
      subst (λ (x : Id). id_before x (deed_by w ops k).name ≡ true) e (newer_than-all w ops k r.0 r.1)

  newer_than_what : (j : Kind) → about ops j ≡ true → older (deed_by w ops k).name j ≡ true
  unfolding older about
  newer_than_what (put_in a c) h =
      elim (or_case (same_id a begin) (has_sign ops a) h) [
        | inl e ↦ subst (λ (x : Id). id_before x (deed_by w ops k).name ≡ true) (sym (same_id_eq a begin e)) (to_before begin (deed_by w ops k).name (inl (omega arith)))
        | inr e ↦ newer_than_sign a e
      ]
  newer_than_what (struck a) h = newer_than_sign a h
  newer_than_what (under l v) h = refl
  newer_than_what (added l v) h = refl

  new_id : (p : Op) → In p ops → p.name ≡ (deed_by w ops k).name → ⊥
  new_id p m e = before_irr (deed_by w ops k).name (subst (λ (x : Id). id_before x (deed_by w ops k).name ≡ true) e (newer_than-all w ops k p m))

  hangs_last : Hangs ops → about ops k ≡ true → Hangs (ops ++ deed_by w ops k ∷ [])
  hangs_last h a =
      let o : Op = deed_by w ops k in
      let up : (x : Op) → In x ops → In x (ops ++ o ∷ []) = in_left ops (o ∷ []) in
      record {
        distinct = distinct_push ops o h.distinct new_id;
        fits = λ p m. elim (in_append ops (o ∷ []) p m) [
          | inl i ↦ fits_more ops (ops ++ o ∷ []) up p (h.fits p i)
          | inr (inl e) ↦ subst (λ (x : Op). Fits (ops ++ o ∷ []) x) (sym e) (record { numbered = omega arith; known = about_more ops (ops ++ o ∷ []) up k a; newer = newer_than_what k a })
          | inr (inr e) ↦ absurd e
        ];
      }

pub hangs_on : HangsOn
unfolding HangsOn
hangs_on = (
  λ w ops c h. elim (turn_leaves w ops c) [
    | inl e ↦ rw e h
    | inr r ↦ rw r.more (from_hangs (ops ++ deed_by w ops r.what ∷ []) (hangs_last w ops r.what (hangs_from ops h) r.there))
  ],
  λ as₁ bs ops h k g n u v e.
      from_hangs ops (record {
        distinct = names_distinct ops n;
        fits = λ o m.
            elim (or_case (has_op as₁ o) (has_op bs o) (every_in (λ o. or (has_op as₁ o) (has_op bs o)) ops e o m)) [
              | inl i ↦ fits_more as₁ ops (all_in_in as₁ ops u) o ((hangs_from as₁ h).fits o (has_op_in as₁ o i))
              | inr i ↦ fits_more bs ops (all_in_in bs ops v) o ((hangs_from bs k).fits o (has_op_in bs o i))
            ];
      }),
)
