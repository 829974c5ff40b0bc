-- Two that write to and fro until their version vectors are the same, and as often as it may take, both know all that either knew.
use Rattle.std.proofs.Common.{◌≡◌, ℕ, zero, suc, ◌+◌, ◌<◌, ◌≤◌, Bool, true, false, ◌&&◌, eqb, List, sym, refl, ◌∙◌, subst, ⊎_elim, arith}
use Rattle.std.proofs.lemmas.Bool.{and_parts, and_from, eqb-true, cases_eq}
use Rattle.ops.specs.Doc.{pick, Op}
use Rattle.ops.specs.Version.{version}
use Rattle.ops.specs.Layout.{version_cell, low}
use Rattle.ops.proofs.Members.{In}
use Rattle.messages.specs.Letter.{most_records}
use Rattle.desks.specs.Run.{Letter, Two, exchange}
use Rattle.desks.specs.Entry.{own}
use Rattle.network.specs.Room.{level_up_to, level, pair, pairs}
use Rattle.network.proofs.Versions.{version_above, newer_none}
use Rattle.network.proofs.Invariant.{Replica, Invariant}
use Rattle.network.proofs.Lacks.{lacking}
use Rattle.network.proofs.Meeting.{Together, Knows, went_well, Met, met_after, paired}
use Rattle.network.proofs.OwnRep.{Rep, Bears}
use Rattle.network.proofs.Own.{own_lawful}

pub pairs_few : (n i j : ℕ) (a b : List ℕ) → pairs n i j a b ≤ n
unfolding pairs
pairs_few zero i j a b = omega arith
pairs_few (suc n) i j a b =
    let ih = pairs_few n i j (pair i j a b).one (pair i j a b).other in
    elim (level a b) as (λ t. pick t 0 (suc (pairs n i j (pair i j a b).one (pair i j a b).other)) ≤ suc n) [ true ↦ omega arith | false ↦ omega arith ]

level_at : (n : ℕ) (a b : List ℕ) (d : ℕ) → d < n → level_up_to n a b ≡ true → low a (version_cell d) ≡ low b (version_cell d)
unfolding level_up_to
level_at zero a b d l e = absurd (omega arith)
level_at (suc n) a b d l e =
    let p = and_parts (level_up_to n a b) (eqb (low a (version_cell n)) (low b (version_cell n))) e in
    ⊎_elim (λ z. subst (λ (c : ℕ). low a (version_cell c) ≡ low b (version_cell c)) (sym z) (eqb-true (low a (version_cell n)) (low b (version_cell n)) p.1))
    (λ z. level_at n a b d (omega arith) p.0) (cases_eq d n)

module _ (u : List Op) (ls : List Letter) (i j : ℕ) (w : List Op) (hi : i < 32) (hj : j < 32) (ne : i ≡ j → ⊥) where
  -- desks whose version vectors are the same lack nothing of what they know together
  level_none : (S : ℕ → Replica) → Invariant Rep Bears S u ls → Together i j S w → level (S i).memory (S j).memory ≡ true → (lacking w (S i).log ≡ 0) × (lacking w (S j).log ≡ 0)
  level_none S c h e = (newer_none (version (S i).log) w covers_i, newer_none (version (S j).log) w covers_j)
    where
      same : (d : ℕ) → d < 32 → version (S i).log d ≡ version (S j).log d
      same d l = sym ((c.stands i hi).keeps.version_is d l) ∙ (level_at 32 (S i).memory (S j).memory d l e ∙ (c.stands j hj).keeps.version_is d l)

      covers_i : (o : Op) → In o w → o.name.n ≤ version (S i).log o.name.who
      covers_i o k =
          ⊎_elim (λ x. version_above (S i).log o x)
          (λ x. let y = version_above (S j).log o x in let z = same o.name.who ((c.stands j hj).keeps.small o x).1 in omega arith) (h.cover o k)

      covers_j : (o : Op) → In o w → o.name.n ≤ version (S j).log o.name.who
      covers_j o k =
          ⊎_elim (λ x. let y = version_above (S i).log o x in let z = same o.name.who ((c.stands i hi).keeps.small o x).1 in omega arith)
          (λ x. version_above (S j).log o x) (h.cover o k)

  abbrev Meets : (ℕ → Replica) → Two → Type 0
  Meets S t = Met Rep Bears own most_records u ls i j w S t

  -- they stop here, or go on
  stops : (S : ℕ → Replica) (a b : List ℕ) (ok : Bool) (p : ℕ) → Invariant Rep Bears S u ls → Together i j S w → (S i).memory ≡ a → (S j).memory ≡ b → ok ≡ true →
      (t : Bool) → level a b ≡ t → Meets S (exchange (suc p) 3 own i j a b ok) → Meets S (exchange (pick t 0 (suc p)) 3 own i j a b ok)
  unfolding exchange
  stops S a b ok p c h ea eb eo true e m =
      let z = level_none S c h ((λ k. level (ea k) (eb k)) ∙ e) in
      record { fair = eo; next = S; invariant = c; memory_i = ea; memory_j = eb; together = h; none_i = z.0; none_j = z.1; rest = λ k x y. refl }
  stops S a b ok p c h ea eb eo false e m = m

  levels_knowing : (n : ℕ) (S : ℕ → Replica) (a b : List ℕ) (ok : Bool) → Invariant Rep Bears S u ls → Together i j S w → (S i).memory ≡ a → (S j).memory ≡ b → ok ≡ true → Knows i j S →
      lacking w (S i).log + lacking w (S j).log ≤ n → Meets S (exchange (pairs n i j a b) 3 own i j a b ok)
  unfolding exchange pairs
  levels_knowing zero S a b ok c h ea eb eo exact l =
      record { fair = eo; next = S; invariant = c; memory_i = ea; memory_j = eb; together = h; none_i = omega arith; none_j = omega arith; rest = λ k x y. refl }
  levels_knowing (suc n) S a b ok c h ea eb eo exact l =
      let p = paired Rep Bears own most_records u ls i j w own_lawful hi hj ne S a b c h ea eb in
      let a₁ : List ℕ = (pair i j a b).one in
      let b₁ : List ℕ = (pair i j a b).other in
      let fi = p.fewer_i in
      let fj = p.fewer_j in
      let l₁ : lacking w (p.next i).log + lacking w (p.next j).log ≤ n = ⊎_elim (λ x. ⊎_elim (λ y. omega arith) (λ y. omega arith) (p.falls_j exact)) (λ x. omega arith) p.falls_i in
      stops S a b ok (pairs n i j a₁ b₁) c h ea eb eo (level a b) refl
      (met_after Rep Bears own most_records u ls i j w p
      (levels_knowing n p.next a₁ b₁ (ok && went_well Rep Bears own most_records u ls i j w a b) p.invariant p.together p.memory_i p.memory_j
      (and_from ok (went_well Rep Bears own most_records u ls i j w a b) eo p.fair) p.knows l₁))

  pub levels : (n : ℕ) (S : ℕ → Replica) (a b : List ℕ) → Invariant Rep Bears S u ls → Together i j S w → (S i).memory ≡ a → (S j).memory ≡ b →
      lacking w (S i).log + lacking w (S j).log ≤ n → Meets S (exchange (pairs (suc n) i j a b) 3 own i j a b true)
  unfolding exchange pairs
  levels n S a b c h ea eb l =
      let p = paired Rep Bears own most_records u ls i j w own_lawful hi hj ne S a b c h ea eb in
      let a₁ : List ℕ = (pair i j a b).one in
      let b₁ : List ℕ = (pair i j a b).other in
      let fi = p.fewer_i in
      let fj = p.fewer_j in
      stops S a b true (pairs n i j a₁ b₁) c h ea eb refl (level a b) refl
      (met_after Rep Bears own most_records u ls i j w p
      (levels_knowing n p.next a₁ b₁ (true && went_well Rep Bears own most_records u ls i j w a b) p.invariant p.together p.memory_i p.memory_j
      (and_from true (went_well Rep Bears own most_records u ls i j w a b) refl p.fair) p.knows (omega arith)))
