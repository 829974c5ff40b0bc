-- What a command does is the same whatever the order in which one has heard of things; shown here of words and tallies under keys.
use Rattle.std.proofs.Common.{◌≡◌, ℕ, suc, ◌<◌, ◌≤◌, Bool, true, false, ◌&&◌, leb, ◌⊎◌, List, [], ◌∷◌, ◌++◌, sym, refl, subst, inl, inr, ⊎_elim, arith}
use Rattle.std.proofs.lemmas.Bool.{leb-false, and_parts, both_ways}
use Rattle.ops.specs.Doc.{pick, every, id, Op, Kind, under, added, all_in, names_once, hangs, about, older, made_by, highest, deed_by, Command, insert, strike, write_under, add_to, show_text, show_key, Turn, turn, no, yes_with, do_it, core}
use Rattle.ops.proofs.Members.{Sub}
use Rattle.ops.proofs.Ids.{all_in_in}
use Rattle.desks.specs.Promise.{AnyOrder}
use Rattle.network.proofs.Distinct.{names_distinct, distinct_made_by}
use Rattle.network.proofs.Versions.{highest_above, highest_of}

-- the same operation is made, and may be
pub record Deed (w : ℕ) (ops log : List Op) (c : Command) : Type 0 where
  pub kind : Kind
  pub room : made_by w log < 256
  pub here : (turn w ops c).ops ≡ ops ++ record { name = id (suc (highest log)) w; kind = kind } ∷ []
  pub there : (turn w log c).ops ≡ log ++ record { name = id (suc (highest log)) w; kind = kind } ∷ []
  pub target : about log kind ≡ true
  pub past : older (id (suc (highest log)) w) kind ≡ true

abbrev pub SameTurn : ℕ → List Op → List Op → Command → Type 0
SameTurn w ops log c =
    ((turn w ops c).reply ≡ (turn w log c).reply) × ((turn w ops c).shows ≡ (turn w log c).shows)
    × ((((turn w ops c).ops ≡ ops) × ((turn w log c).ops ≡ log)) ⊎ Deed w ops log c)

pub record Turns (known : Command → Bool) : Type 0 where
  pub turns :
      (w : ℕ) (ops log : List Op) (c : Command) → w < 32 → known c ≡ true → hangs log ≡ true → names_once ops ≡ true → all_in ops log ≡ true → all_in log ops ≡ true →
      SameTurn w ops log c

-- COUNTS AND NUMBERS
same_made_by : (w : ℕ) (xs ys : List Op) → names_once xs ≡ true → names_once ys ≡ true → Sub xs ys → Sub ys xs → made_by w xs ≡ made_by w ys
same_made_by w xs ys a b s t =
    let p = distinct_made_by w xs ys (names_distinct xs a) (λ o k e. s o k) in
    let q = distinct_made_by w ys xs (names_distinct ys b) (λ o k e. t o k) in
    omega arith

highest_mono : (xs ys : List Op) → Sub xs ys → highest xs ≤ highest ys
highest_mono xs ys s = ⊎_elim (λ z. omega arith) (λ r. let k = highest_above ys r.0 (s r.0 r.1) in let r₂ = r.2 in omega arith) (highest_of xs)

same_highest : (xs ys : List Op) → Sub xs ys → Sub ys xs → highest xs ≡ highest ys
same_highest xs ys s t = let p = highest_mono xs ys s in let q = highest_mono ys xs t in omega arith

-- AN OPERATION OF A KIND
abbrev Did : ℕ → List Op → List Op → Kind → Turn → Turn → Type 0
Did w ops log k a b =
    (a.reply ≡ b.reply) × (a.shows ≡ b.shows)
    × (((a.ops ≡ ops) × (b.ops ≡ log)) ⊎ ((made_by w log < 256) × (a.ops ≡ ops ++ deed_by w log k ∷ []) × (b.ops ≡ log ++ deed_by w log k ∷ [])))

did : (w : ℕ) (ops log : List Op) (k : Kind) → made_by w ops ≡ made_by w log → highest ops ≡ highest log → Did w ops log k (do_it w ops k) (do_it w log k)
did w ops log k em eh =
    subst (λ m. Did w ops log k (pick (leb 256 m) (no 7 ops) (yes_with [] (ops ++ deed_by w ops k ∷ []))) (do_it w log k)) (sym em)
    (subst (λ h. Did w ops log k (pick (leb 256 (made_by w log)) (no 7 ops) (yes_with [] (ops ++ record { name = id (suc h) w; kind = k } ∷ []))) (do_it w log k)) (sym eh)
    (go (leb 256 (made_by w log)) refl))
  where
    go : (b : Bool) → leb 256 (made_by w log) ≡ b →
        Did w ops log k (pick b (no 7 ops) (yes_with [] (ops ++ deed_by w log k ∷ []))) (pick b (no 7 log) (yes_with [] (log ++ deed_by w log k ∷ [])))
    go true e = (refl, refl, inl (refl, refl))
    go false e = (refl, refl, inr (leb-false 256 (made_by w log) e, refl, refl))

same_turn : (w : ℕ) (ops log : List Op) (c : Command) (k : Kind) → about log k ≡ true → older (id (suc (highest log)) w) k ≡ true →
    Did w ops log k (turn w ops c) (turn w log c) → SameTurn w ops log c
same_turn w ops log c k target past d =
    (d.0, d.1, ⊎_elim (λ x. inl x) (λ x. inr (record { kind = k; room = x.0; here = x.1; there = x.2; target = target; past = past })) d.2)

-- EACH COMMAND
write_same : (w : ℕ) (ops log : List Op) (k v : ℕ) → made_by w ops ≡ made_by w log → highest ops ≡ highest log → SameTurn w ops log (write_under k v)
unfolding turn about older
write_same w ops log k v em eh = same_turn w ops log (write_under k v) (under k v) refl refl (did w ops log (under k v) em eh)

add_same : (w : ℕ) (ops log : List Op) (k v : ℕ) → made_by w ops ≡ made_by w log → highest ops ≡ highest log → SameTurn w ops log (add_to k v)
unfolding turn about older
add_same w ops log k v em eh = same_turn w ops log (add_to k v) (added k v) refl refl (did w ops log (added k v) em eh)

show_same : (w : ℕ) (ops log : List Op) (k : ℕ) → AnyOrder → names_once ops ≡ true → names_once log ≡ true → all_in ops log ≡ true → all_in log ops ≡ true →
    SameTurn w ops log (show_key k)
unfolding turn AnyOrder
show_same w ops log k any_order a b s t = let r = any_order ops log k a b s t in (refl, (λ i. r.1 i ∷ (r.2 i ∷ []) ∷ []), inl (refl, refl))

pub turns_core : AnyOrder → Turns core
unfolding core
turns_core any_order = record { turns = go }
  where
    names : (log : List Op) → hangs log ≡ true → names_once log ≡ true
    names log h = (and_parts (names_once log) (every (λ o. leb 1 o.name.n && (about log o.kind && older o.name o.kind)) log) h).0

    made : (w : ℕ) (ops log : List Op) → hangs log ≡ true → names_once ops ≡ true → all_in ops log ≡ true → all_in log ops ≡ true → made_by w ops ≡ made_by w log
    made w ops log h a s t = same_made_by w ops log a (names log h) (all_in_in ops log s) (all_in_in log ops t)

    high : (ops log : List Op) → all_in ops log ≡ true → all_in log ops ≡ true → highest ops ≡ highest log
    high ops log s t = same_highest ops log (all_in_in ops log s) (all_in_in log ops t)

    go : (w : ℕ) (ops log : List Op) (c : Command) → w < 32 → core c ≡ true → hangs log ≡ true → names_once ops ≡ true → all_in ops log ≡ true → all_in log ops ≡ true →
        SameTurn w ops log c
    go w ops log (insert i x) hw kn h a s t = absurd (both_ways false refl kn)
    go w ops log (strike i) hw kn h a s t = absurd (both_ways false refl kn)
    go w ops log (write_under k v) hw kn h a s t = write_same w ops log k v (made w ops log h a s t) (high ops log s t)
    go w ops log (add_to k v) hw kn h a s t = add_same w ops log k v (made w ops log h a s t) (high ops log s t)
    go w ops log show_text hw kn h a s t = absurd (both_ways false refl kn)
    go w ops log (show_key k) hw kn h a s t = show_same w ops log k any_order a (names log h) s t
