-- Commands do to keys what they say, and leave the other keys and the text as they were.
use Rattle.std.proofs.Common.{◌≡◌, ℕ, ◌+◌, Bool, true, false, ltb, leb, List, [], ◌∷◌, ◌++◌, length, refl, ap, ◌∙◌}
use Rattle.std.proofs.lemmas.Bool.{eq-eqb, ne_eqb}
use Rattle.ops.specs.Doc.{pick, Kind, put_in, struck, under, added, Op, kind_behind, shown_ops, strikes, text, is_under, word_of, count_of, word_at, count_at, nth_op, before_place, made_by, no, yes_with, turn, do_it, deed_by}
use Rattle.network.specs.Said.{Said}
use Rattle.network.proofs.Hanging.{Hangs, hangs_from}
use Rattle.network.proofs.OneMore.{newer_than-all, do_adds}
use Rattle.network.proofs.Depth.{text_last}
use Rattle.network.proofs.Keys.{count_last, count_other, word_last, word_other}

-- an operation that is about no key changes none, and nor does one that is refused
abbrev SameKey : List Op → List Op → ℕ → Type 0
SameKey ops more j = (word_at more j ≡ word_at ops j) × (count_at more j ≡ count_at ops j)

module _ (w : ℕ) (ops : List Op) (k : Kind) (j : ℕ) (word : is_under j k ≡ false) (count : count_of j k ≡ 0) where
  key_done : SameKey ops (do_it w ops k).ops j
  key_done =
      let d : Op = deed_by w ops k in
      elim (leb 256 (made_by w ops)) as (λ b. SameKey ops (pick b (no 7 ops) (yes_with [] (ops ++ d ∷ []))).ops j)
      [ true ↦ (refl, refl) | false ↦ (word_other ops d j word, count_other ops d j count) ]

  key_kept : (b : Bool) → SameKey ops (pick b (do_it w ops k) (no 4 ops)).ops j
  key_kept true = key_done
  key_kept false = (refl, refl)

pub said : Said
unfolding Said turn is_under count_of kind_behind strikes word_of
said w ops k v h m =
    let H : Hangs ops = hangs_from ops h in
    let u : Op = deed_by w ops (under k v) in
    let d : Op = deed_by w ops (added k v) in
    let eu : (do_it w ops (under k v)).ops ≡ ops ++ u ∷ [] = do_adds w ops (under k v) m in
    let ed : (do_it w ops (added k v)).ops ≡ ops ++ d ∷ [] = do_adds w ops (added k v) m in (
      ap (λ t. word_at t k) eu ∙ word_last ops u k (newer_than-all w ops (under k v)) (eq-eqb k k refl),
      ap (λ t. count_at t k) ed ∙ count_last ops d k ∙ ap (λ b. count_at ops k + pick b v 0) (eq-eqb k k refl),
      (λ j n. (
        ap (λ t. word_at t j) eu ∙ word_other ops u j (ne_eqb j k n),
        ap (λ t. count_at t j) ed ∙ count_other ops d j (ap (λ b. pick b v 0) (ne_eqb j k n)),
      )),
      (λ j. (ap (λ t. count_at t j) eu ∙ count_other ops u j refl, ap (λ t. word_at t j) ed ∙ word_other ops d j refl)),
      ap text eu ∙ text_last ops H u (λ q. refl) (λ q. refl),
      ap text ed ∙ text_last ops H d (λ q. refl) (λ q. refl),
      (λ i c j.
          let a = key_kept w ops (put_in (before_place ops i) c) j refl refl (leb i (length (shown_ops ops))) in
          let b = key_kept w ops (struck (nth_op (shown_ops ops) i)) j refl refl (ltb i (length (shown_ops ops))) in
          (a.0, a.1, b.0, b.1)),
      refl,
      refl,
    )
