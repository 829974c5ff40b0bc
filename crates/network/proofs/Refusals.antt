-- A command is refused where there is no such place or the desk has made all the operations that it may, and then does nothing.
use Rattle.std.proofs.Common.{◌≡◌, ℕ, suc, Bool, true, false, not, ltb, leb, List, [], ◌∷◌, ◌++◌, length, refl, ap, ◌∙◌}
use Rattle.std.proofs.lemmas.Bool.{leb-true, leb-false, ltb-true, ltb-false, lt-ltb, le-ltb, le-leb, lt-leb}
use Rattle.ops.specs.Doc.{pick, each, Kind, put_in, struck, under, added, Op, shown_ops, sign_of, text, nth_op, before_place, made_by, Turn, no, yes_with, turn, do_it, deed_by, insert, strike, write_under, add_to, show_text, show_key}
use Rattle.network.specs.Refused.{full, refusal, Refused}

abbrev Replies : ℕ → List Op → Turn → Type 0
Replies r ops t = (t.reply ≡ r) × ((r ≡ 0 → ⊥) → (t.shows ≡ []) × (t.ops ≡ ops))

full_refused : (w : ℕ) (ops : List Op) (k : Kind) → Replies (full w ops) ops (do_it w ops k)
full_refused w ops k =
    elim (leb 256 (made_by w ops)) as (λ b. Replies (pick b 7 0) ops (pick b (no 7 ops) (yes_with [] (ops ++ deed_by w ops k ∷ []))))
    [ true ↦ (refl, λ _. (refl, refl)) | false ↦ (refl, λ z. absurd (z refl)) ]

place_refused : (w : ℕ) (ops : List Op) (k : Kind) (missing there : Bool) → missing ≡ not there →
    Replies (pick missing 4 (full w ops)) ops (pick there (do_it w ops k) (no 4 ops))
place_refused w ops k missing true e = rw e (full_refused w ops k)
place_refused w ops k missing false e = rw e (refl, λ _. (refl, refl))

length-each : {A B : Type 0} (f : A → B) (xs : List A) → length (each f xs) ≡ length xs
unfolding each
length-each f [] = refl
length-each f (x ∷ xs) = ap suc (length-each f xs)

lt_not_le : (m n : ℕ) → ltb m n ≡ not (leb n m)
lt_not_le m n = go (leb n m) refl
  where
    go : (b : Bool) → leb n m ≡ b → ltb m n ≡ not b
    go true e = le-ltb m n (leb-true n m e)
    go false e = lt-ltb m n (leb-false n m e)

le_not_lt : (m n : ℕ) → leb m n ≡ not (ltb n m)
le_not_lt m n = go (ltb n m) refl
  where
    go : (b : Bool) → ltb n m ≡ b → leb m n ≡ not b
    go true e = lt-leb m n (ltb-true n m e)
    go false e = le-leb m n (ltb-false n m e)

pub refused : Refused
unfolding Refused refusal turn
refused w ops (insert i c) =
    place_refused w ops (put_in (before_place ops i) c) (ltb (length (text ops)) i) (leb i (length (shown_ops ops)))
    (ap (λ n. ltb n i) (length-each (λ (o : Op). sign_of o.kind) (shown_ops ops)) ∙ lt_not_le (length (shown_ops ops)) i)
refused w ops (strike i) =
    place_refused w ops (struck (nth_op (shown_ops ops) i)) (leb (length (text ops)) i) (ltb i (length (shown_ops ops)))
    (ap (λ n. leb n i) (length-each (λ (o : Op). sign_of o.kind) (shown_ops ops)) ∙ le_not_lt (length (shown_ops ops)) i)
refused w ops (write_under k v) = full_refused w ops (under k v)
refused w ops (add_to k v) = full_refused w ops (added k v)
refused w ops show_text = (refl, λ z. absurd (z refl))
refused w ops (show_key k) = (refl, λ z. absurd (z refl))
