-- What holds of all replicas and all letters under way, at any time: at the start, when one replica comes to know more, and with one letter more.
use Rattle.std.proofs.Common.{◌≡◌, ℕ, ◌<◌, ◌≤◌, eqb, ◌⊎◌, List, [], ◌∷◌, ◌++◌, length, sym, refl, subst, ⊎_elim, arith}
use Rattle.std.proofs.lemmas.Bool.{eq-eqb, ne_eqb, cases_eq}
use Rattle.ops.specs.Doc.{pick, those, Op}
use Rattle.ops.specs.Version.{version}
use Rattle.ops.proofs.Members.{In, Sub, in_append, in_only}
use Rattle.desks.specs.Run.{Letter}
use Rattle.network.proofs.Laws.{Representation, Bearing}
use Rattle.network.proofs.Versions.{version_mono}
use Rattle.network.proofs.Causal.{Causal}
use Rattle.network.proofs.Logs.{History, Valid, valid_none}

-- a replica's memory, and what it stands for: its log, and what it has heard of the others' version vectors
pub record Replica : Type 0 where
  pub memory : List ℕ
  pub log : List Op
  pub heard : ℕ → ℕ → ℕ

abbrev pub replica : List ℕ → List Op → (ℕ → ℕ → ℕ) → Replica
replica m l h = record { memory = m; log = l; heard = h }

unfoldable pub with_replica : (ℕ → Replica) → ℕ → Replica → ℕ → Replica
with_replica S i s k = pick (eqb k i) s (S k)

pub replica-here : (S : ℕ → Replica) (i : ℕ) (s : Replica) → with_replica S i s i ≡ s
unfolding with_replica
replica-here S i s = rw (eq-eqb i i refl) refl

pub replica-there : (S : ℕ → Replica) (i : ℕ) (s : Replica) (k : ℕ) → (k ≡ i → ⊥) → with_replica S i s k ≡ S k
unfolding with_replica
replica-there S i s k h = rw (ne_eqb k i h) refl

pub each-replica : (P : ℕ → Replica → Type 0) (S : ℕ → Replica) (i : ℕ) (s : Replica) → P i s → ((k : ℕ) → (k ≡ i → ⊥) → P k (S k)) → (k : ℕ) → P k (with_replica S i s k)
each-replica P S i s a b k =
    ⊎_elim (λ e. subst (λ x. P x (with_replica S i s x)) (sym e) (subst (λ y. P i y) (sym (replica-here S i s)) a))
    (λ e. subst (λ y. P k y) (sym (replica-there S i s k e)) (b k e)) (cases_eq k i)

pub logs_grow : (S : ℕ → Replica) (i : ℕ) (s : Replica) → Sub (S i).log s.log → (k : ℕ) → Sub (S k).log (with_replica S i s k).log
logs_grow S i s h = each-replica (λ k t. Sub (S k).log t.log) S i s h (λ k e o a. a)

-- what a version vector covers, of all operations u
abbrev pub Covered : List Op → (ℕ → ℕ) → Op → Type 0
Covered u v q = In q u × (q.name.n ≤ v q.name.who)

-- a letter under way: the version vector that it tells of, the operations in it, and the version vector above which they are.
-- Its addressee knows all that `base` covers, so nothing is missing below the operations that it brings.
pub record Message (Bears : Bearing) (S : ℕ → Replica) (u : List Op) (l : Letter) (v : ℕ → ℕ) (news : List Op) (base : ℕ → ℕ) : Type 0 where
  pub from_desk : l.from < 32
  pub for_desk : l.for < 32
  pub apart : l.for ≡ l.from → ⊥
  pub bears : Bears l.from l.for l.bytes v news
  pub version_low : (d : ℕ) → v d ≤ version (S l.from).log d
  pub base_low : (d : ℕ) → base d ≤ version (S l.for).log d
  pub causal : Causal u (Covered u base) news
  pub known : Sub l.knew u
  pub part : Sub news l.knew
  pub whole : length l.knew ≤ 16 → (o : Op) → In o l.knew → (o.name.n ≤ base o.name.who) ⊎ In o news

abbrev pub Underway : Bearing → (ℕ → Replica) → List Op → Letter → Type 0
Underway Bears S u l = (v : ℕ → ℕ) × (news : List Op) × (base : ℕ → ℕ) × Message Bears S u l v news base

-- u are all operations that were ever made, ls all letters
pub record Invariant (Rep : Representation) (Bears : Bearing) (S : ℕ → Replica) (u : List Op) (ls : List Letter) : Type 0 where
  pub history : History u
  pub valid : (i : ℕ) → i < 32 → Valid u (S i).log
  pub own : (i : ℕ) → i < 32 → (o : Op) → In o u → o.name.who ≡ i → In o (S i).log
  pub stands : (i : ℕ) → i < 32 → Rep i (S i).memory (S i).log (S i).heard
  pub heard_low : (i : ℕ) → i < 32 → (j : ℕ) → j < 32 → (d : ℕ) → (S i).heard j d ≤ version (S j).log d
  pub underway : (l : Letter) → In l ls → Underway Bears S u l

pub message_later : {Bears : Bearing} (S S₁ : ℕ → Replica) {u : List Op} {l : Letter} {v : ℕ → ℕ} {news : List Op} {base : ℕ → ℕ} →
    ((k : ℕ) → Sub (S k).log (S₁ k).log) → Message Bears S u l v news base → Message Bears S₁ u l v news base
message_later S S₁ {l = l} g a =
    record {
      from_desk = a.from_desk;
      for_desk = a.for_desk;
      apart = a.apart;
      bears = a.bears;
      version_low = λ d. let x = a.version_low d in let y = version_mono (S l.from).log (S₁ l.from).log (g l.from) d in omega arith;
      base_low = λ d. let x = a.base_low d in let y = version_mono (S l.for).log (S₁ l.for).log (g l.for) d in omega arith;
      causal = a.causal;
      known = a.known;
      part = a.part;
      whole = a.whole;
    }

pub heard-later : {Rep : Representation} {Bears : Bearing} {S : ℕ → Replica} {u : List Op} {ls : List Letter} → Invariant Rep Bears S u ls → (i : ℕ) (s : Replica) →
    Sub (S i).log s.log → ((j : ℕ) → j < 32 → (d : ℕ) → s.heard j d ≤ version (S j).log d) →
    (k : ℕ) → k < 32 → (j : ℕ) → j < 32 → (d : ℕ) → (with_replica S i s k).heard j d ≤ version (with_replica S i s j).log d
heard-later {S = S} c i s sub low =
    each-replica (λ k t. k < 32 → (j : ℕ) → j < 32 → (d : ℕ) → t.heard j d ≤ version (with_replica S i s j).log d) S i s
    (λ h j hj d. let x = low j hj d in let y = version_mono (S j).log (with_replica S i s j).log (logs_grow S i s sub j) d in omega arith)
    (λ k e h j hj d. let x = c.heard_low k h j hj d in let y = version_mono (S j).log (with_replica S i s j).log (logs_grow S i s sub j) d in omega arith)

-- one replica hears of operations that were made before
pub learns : {Rep : Representation} {Bears : Bearing} {S : ℕ → Replica} {u : List Op} {ls : List Letter} → Invariant Rep Bears S u ls → (i : ℕ) (s : Replica) → i < 32 →
    Valid u s.log → Sub (S i).log s.log → Rep i s.memory s.log s.heard → ((j : ℕ) → j < 32 → (d : ℕ) → s.heard j d ≤ version (S j).log d) →
    Invariant Rep Bears (with_replica S i s) u ls
learns {Rep} {Bears} {S} {u} {ls} c i s hi g sub r low =
    record {
      history = c.history;
      valid = each-replica (λ k t. k < 32 → Valid u t.log) S i s (λ h. g) (λ k e. c.valid k);
      own = each-replica (λ k t. k < 32 → (o : Op) → In o u → o.name.who ≡ k → In o t.log) S i s (λ h o a e. sub o (c.own i hi o a e)) (λ k e. c.own k);
      stands = each-replica (λ k t. k < 32 → Rep k t.memory t.log t.heard) S i s (λ h. r) (λ k e. c.stands k);
      heard_low = heard-later c i s sub low;
      underway = λ l k. let m = c.underway l k in (m.0, m.1, m.2, message_later S (with_replica S i s) (logs_grow S i s sub) m.3);
    }

-- one replica's memory changes, and stands for the same
pub steps : {Rep : Representation} {Bears : Bearing} {S : ℕ → Replica} {u : List Op} {ls : List Letter} → Invariant Rep Bears S u ls → (i : ℕ) (m : List ℕ) → i < 32 →
    Rep i m (S i).log (S i).heard → Invariant Rep Bears (with_replica S i (replica m (S i).log (S i).heard)) u ls
steps {S = S} c i m hi r = learns c i (replica m (S i).log (S i).heard) hi (c.valid i hi) (λ o k. k) r (λ j hj d. c.heard_low i hi j hj d)

-- one letter more
pub posts : {Rep : Representation} {Bears : Bearing} {S : ℕ → Replica} {u : List Op} {ls : List Letter} → Invariant Rep Bears S u ls → (l : Letter) → Underway Bears S u l →
    Invariant Rep Bears S u (ls ++ l ∷ [])
posts {Bears = Bears} {S} {u} {ls} c l m =
    record {
      history = c.history;
      valid = c.valid;
      own = c.own;
      stands = c.stands;
      heard_low = c.heard_low;
      underway = λ l₁ k. ⊎_elim (λ y. c.underway l₁ y) (λ y. subst (λ z. Underway Bears S u z) (sym (in_only l l₁ y)) m) (in_append ls (l ∷ []) l₁ k);
    }

-- AT THE START: nothing was made, and nothing heard
none_made : History []
unfolding those
none_made = record { distinct = tt; each_one = λ o k. absurd k; few_each = λ d. omega arith }

pub begins : {Rep : Representation} {Bears : Bearing} (S : ℕ → Replica) →
    ((i : ℕ) → i < 32 → ((S i).log ≡ []) × ((j d : ℕ) → (S i).heard j d ≡ 0) × Rep i (S i).memory (S i).log (S i).heard) → Invariant Rep Bears S [] []
begins S h =
    record {
      history = none_made;
      valid = λ i hi. subst (λ log. Valid [] log) (sym (h i hi).0) (valid_none []);
      own = λ i hi o k. absurd k;
      stands = λ i hi. (h i hi).2;
      heard_low = λ i hi j hj d. let z = (h i hi).1 j d in omega arith;
      underway = λ l k. absurd k;
    }
