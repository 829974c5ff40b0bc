-- A turn leaves the log as it was, or puts one operation at its end, whose id is newer than all.
use Rattle.std.proofs.Common.{◌≡◌, ℕ, ◌<◌, ◌≤◌, Bool, true, false, ltb, leb, ◌⊎◌, List, [], ◌∷◌, ◌++◌, length, refl, ap, inl, inr, arith}
use Rattle.std.proofs.lemmas.Bool.{both_ways, ltb-true, ltb-false, leb-true, lt-leb}
use Rattle.ops.specs.Doc.{pick, every, id_before, Kind, put_in, struck, under, added, Op, has_op, shown_ops, highest, nth_op, before_place, made_by, about, no, yes_with, deed_by, do_it, turn, Command, insert, strike, write_under, add_to, show_text, show_key}
use Rattle.desks.specs.Promise.{NewNames}
use Rattle.ops.proofs.Members.{In, in_every, in_append}
use Rattle.ops.proofs.Ids.{to_before, has_op_in, in_has_op}
use Rattle.network.proofs.Elements.{element_there, place-there}

highest_in : (ops : List Op) (o : Op) → In o ops → o.name.n ≤ highest ops
unfolding highest
highest_in [] o m = absurd m
highest_in (x ∷ ops) o m =
    go (ltb x.name.n (highest ops)) refl
    (elim m as (λ q. (o.name.n ≡ x.name.n) ⊎ (o.name.n ≤ highest ops)) [ inl e ↦ inl (ap (λ (y : Op). y.name.n) e) | inr i ↦ inr (highest_in ops o i) ])
  where
    go : (b : Bool) → ltb x.name.n (highest ops) ≡ b → (o.name.n ≡ x.name.n) ⊎ (o.name.n ≤ highest ops) → o.name.n ≤ pick b (highest ops) x.name.n
    go true e w = let l = ltb-true x.name.n (highest ops) e in omega arith
    go false e w = let l = ltb-false x.name.n (highest ops) e in omega arith

pub newer_than-all : (w : ℕ) (ops : List Op) (k : Kind) (p : Op) → In p ops → id_before p.name (deed_by w ops k).name ≡ true
newer_than-all w ops k p m = let l = highest_in ops p m in to_before p.name (deed_by w ops k).name (inl (omega arith))

-- the one operation more, about what is there
pub record OneMore (w : ℕ) (ops after : List Op) : Type 0 where
  pub what : Kind
  pub more : after ≡ ops ++ deed_by w ops what ∷ []
  pub there : about ops what ≡ true

do_leaves : (w : ℕ) (ops : List Op) (k : Kind) → about ops k ≡ true → ((do_it w ops k).ops ≡ ops) ⊎ OneMore w ops (do_it w ops k).ops
do_leaves w ops k h =
    elim (leb 256 (made_by w ops)) as (λ b.
    ((pick b (no 7 ops) (yes_with [] (ops ++ deed_by w ops k ∷ []))).ops ≡ ops) ⊎ OneMore w ops (pick b (no 7 ops) (yes_with [] (ops ++ deed_by w ops k ∷ []))).ops)
    [ true ↦ inl refl | false ↦ inr (record { what = k; more = refl; there = h }) ]

pub do_adds : (w : ℕ) (ops : List Op) (k : Kind) → made_by w ops < 256 → (do_it w ops k).ops ≡ ops ++ deed_by w ops k ∷ []
do_adds w ops k h = ap (λ b. (pick b (no 7 ops) (yes_with [] (ops ++ deed_by w ops k ∷ []))).ops) (lt-leb 256 (made_by w ops) h)

-- where a test decides whether it is done at all
tested : (w : ℕ) (ops : List Op) (k : Kind) (b : Bool) → (b ≡ true → about ops k ≡ true) →
    ((pick b (do_it w ops k) (no 4 ops)).ops ≡ ops) ⊎ OneMore w ops (pick b (do_it w ops k) (no 4 ops)).ops
tested w ops k true h = do_leaves w ops k (h refl)
tested w ops k false h = inl refl

pub turn_leaves : (w : ℕ) (ops : List Op) (c : Command) → ((turn w ops c).ops ≡ ops) ⊎ OneMore w ops (turn w ops c).ops
unfolding turn about
turn_leaves w ops (insert i c) =
    tested w ops (put_in (before_place ops i) c) (leb i (length (shown_ops ops))) (λ e. place-there ops i c (leb-true i (length (shown_ops ops)) e))
turn_leaves w ops (strike i) =
    tested w ops (struck (nth_op (shown_ops ops) i)) (ltb i (length (shown_ops ops))) (λ e. element_there ops i (ltb-true i (length (shown_ops ops)) e))
turn_leaves w ops (write_under k v) = do_leaves w ops (under k v) refl
turn_leaves w ops (add_to k v) = do_leaves w ops (added k v) refl
turn_leaves w ops show_text = inl refl
turn_leaves w ops (show_key k) = inl refl

pub new_names : NewNames
unfolding NewNames
new_names w ops o c h k l = go (turn_leaves w ops c)
  where
    m : In o (turn w ops c).ops
    m = has_op_in (turn w ops c).ops o k

    old : In o ops → ⊥
    old i = both_ways (has_op ops o) l (in_has_op ops o i)

    last : (j : Kind) → In o ops ⊎ In o (deed_by w ops j ∷ []) → (o.name.who ≡ w) × (every (λ p. id_before p.name o.name) ops ≡ true)
    last j (inl i) = absurd (old i)
    last j (inr (inl e)) =
        (ap (λ (x : Op). x.name.who) e, in_every (λ p. id_before p.name o.name) ops (λ p i. rw e (newer_than-all w ops j p i)))
    last j (inr (inr e)) = absurd e

    go : ((turn w ops c).ops ≡ ops) ⊎ OneMore w ops (turn w ops c).ops → (o.name.who ≡ w) × (every (λ p. id_before p.name o.name) ops ≡ true)
    go (inl e) = absurd (old (rw e at m))
    go (inr r) = last r.what (in_append ops (deed_by w ops r.what ∷ []) o (rw r.more at m))
