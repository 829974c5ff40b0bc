-- One replica's log among all operations ever made: it is in causal order, has what its version vector covers, and is never too long.
use Rattle.std.proofs.Common.{◌≡◌, ℕ, ◌<◌, ◌≤◌, true, ◌&&◌, leb, ◌⊎◌, List, [], ◌∷◌, ◌++◌, length, sym, ap, subst, inr, ⊎_elim, arith}
use Rattle.std.proofs.lemmas.Bool.{le-leb, cases_lt, and_from}
use Rattle.ops.specs.Doc.{every, Op, names_once, hangs, about, older, made_by}
use Rattle.ops.specs.Version.{version}
use Rattle.ops.proofs.Members.{In, Sub, in_every}
use Rattle.ops.proofs.Ids.{id_path}
use Rattle.network.proofs.Laws.{Bounded}
use Rattle.network.proofs.Distinct.{Distinct, distinct_same, distinct_push, distinct_names, distinct_length, distinct_made_by}
use Rattle.network.proofs.Counting.{at_most_8192}
use Rattle.network.proofs.Targets.{in_about}
use Rattle.network.proofs.Versions.{version_above, version_of}
use Rattle.network.proofs.Causal.{Deliverable, deliverable_map, Causal, causal_at, causal_push}

-- all operations that were ever made, at any desk
pub record History (u : List Op) : Type 0 where
  pub distinct : Distinct u
  pub each_one : (o : Op) → In o u → (1 ≤ o.name.n) × (o.name.n ≤ length u) × (o.name.who < 32) × (older o.name o.kind ≡ true)
  pub few_each : (d : ℕ) → made_by d u ≤ 256

abbrev pub Nothing : Op → Type 0
Nothing q = ⊥

-- a log of some of them
pub record Valid (u log : List Op) : Type 0 where
  pub distinct : Distinct log
  pub causal : Causal u Nothing log

pub valid_none : (u : List Op) → Valid u []
valid_none u = record { distinct = tt; causal = tt }

valid_at : {u log : List Op} → Valid u log → (o : Op) → In o log → Deliverable u (λ q. In q log) o
valid_at {u} {log} g o h = deliverable_map (λ q. ⊥ ⊎ In q log) (λ q. In q log) o (λ q. ⊎_elim (λ z. absurd z) (λ k. k)) (causal_at u Nothing log o g.causal h)

pub valid_sub : {u log : List Op} → Valid u log → Sub log u
valid_sub g o h = (valid_at g o h).here

-- a version vector says precisely what is known
pub covered : {u log : List Op} → History u → Valid u log → (p : Op) → In p u → p.name.n ≤ version log p.name.who → In p log
covered {u} {log} a g p h l =
    ⊎_elim (λ z. absurd (let y = (a.each_one p h).0 in omega arith))
    (λ r. ⊎_elim (λ (k : p.name.n < r.0.name.n). (valid_at g r.0 r.1).before p h (sym r.2) k)
    (λ k. let e = distinct_same u p r.0 a.distinct h (valid_sub g r.0 r.1) (id_path p.name r.0.name (omega (arith, r.3)) (sym r.2)) in
    subst (λ x. In x log) (sym e) r.1)
    (cases_lt p.name.n r.0.name.n))
    (version_of log p.name.who)

pub valid_push : {u log : List Op} (o : Op) → Valid u log → Deliverable u (λ q. In q log) o → version log o.name.who < o.name.n → Valid u (log ++ o ∷ [])
valid_push {u} {log} o g r l =
    record {
      distinct =
          distinct_push log o g.distinct
          (λ p k e. let y : p.name.n ≤ version log o.name.who = subst (λ w. p.name.n ≤ version log w) (ap (λ z. z.who) e) (version_above log p k) in
          let y₁ = ap (λ z. z.n) e in
          omega arith);
      causal = causal_push u Nothing log o g.causal (deliverable_map (λ q. In q log) (λ q. ⊥ ⊎ In q log) o (λ q k. inr k) r);
    }

pub valid_hangs : {u log : List Op} → History u → Valid u log → hangs log ≡ true
valid_hangs {u} {log} a g =
    and_from (names_once log) (every (λ o. leb 1 o.name.n && (about log o.kind && older o.name o.kind)) log) (distinct_names log g.distinct)
    (in_every (λ o. leb 1 o.name.n && (about log o.kind && older o.name o.kind)) log
    (λ o k.
    let r = valid_at g o k in
    let f = a.each_one o r.here in
    and_from (leb 1 o.name.n) (about log o.kind && older o.name o.kind) (le-leb 1 o.name.n f.0)
    (and_from (about log o.kind) (older o.name o.kind) (in_about log o.kind r.target) f.3)))

pub valid_bounded : {u log : List Op} → History u → Valid u log → Bounded log
valid_bounded {u} {log} a g =
    let l = at_most_8192 u a.few_each (λ o k. (a.each_one o k).2) in
    let k = distinct_length log u g.distinct (valid_sub g) in
    record {
      few = omega arith;
      hang = valid_hangs a g;
      few_each = λ d. let x = a.few_each d in let y = distinct_made_by d log u g.distinct (λ o h e. valid_sub g o h) in omega arith;
      small = λ o h. let f = a.each_one o (valid_sub g o h) in (f.0, (let f₁ = f.1 in omega arith), f.2);
    }
