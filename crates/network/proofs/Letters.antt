-- A letter that is written is a message under way, and reading one delivers what is in it.
use Rattle.std.proofs.Common.{◌≡◌, ℕ, ◌<◌, ◌≤◌, Bool, true, false, eqb, ◌⊎◌, List, length, sym, refl, subst, inl, inr, ⊎_elim, arith, take_all}
use Rattle.std.proofs.lemmas.Bool.{eqb-true, eq-eqb, cases_lt}
use Rattle.ops.specs.Doc.{pick, larger, Op, Command}
use Rattle.ops.specs.Version.{version, newer_than}
use Rattle.ops.proofs.Members.{In, Sub, take_in}
use Rattle.desks.specs.Run.{Engine, letter_to, hears, runs_on, made_well, read_well, first_letter, Letter}
use Rattle.network.proofs.Laws.{deliver_all, batch, raised, Representation, Bearing, Lawful}
use Rattle.network.proofs.Distinct.{distinct_length}
use Rattle.network.proofs.Versions.{larger_right, larger_least, in_newer, newer_in, newer-length}
use Rattle.network.proofs.Causal.{causal_take, causal_newer}
use Rattle.network.proofs.Logs.{Nothing, valid_sub, covered, valid_bounded}
use Rattle.network.proofs.Delivery.{Delivered, delivered}
use Rattle.network.proofs.Invariant.{Replica, replica, with_replica, logs_grow, Covered, Message, Invariant, message_later, learns, steps}

-- WRITING
abbrev pub after_writing : Engine → Replica → ℕ → Replica
after_writing e s j = replica (runs_on 3 e s.memory (letter_to j)).memory s.log s.heard

abbrev pub written : Engine → Replica → ℕ → ℕ → List Op → Letter
written e s i j knew = record { from = i; for = j; bytes = first_letter (runs_on 3 e s.memory (letter_to j)).sent; knew = knew }

pub writes : {known : Command → Bool} {e : Engine} {cap : ℕ} {Rep : Representation} {Bears : Bearing} → Lawful known e cap Rep Bears →
    {S : ℕ → Replica} {u : List Op} {ls : List Letter} → Invariant Rep Bears S u ls →
    (i j : ℕ) (knew : List Op) → i < 32 → j < 32 → (i ≡ j → ⊥) → Sub (S i).log knew → Sub knew (S i).log →
    (made_well (runs_on 3 e (S i).memory (letter_to j)) ≡ true) × Invariant Rep Bears (with_replica S i (after_writing e (S i) j)) u ls
    × Message Bears (with_replica S i (after_writing e (S i) j)) u (written e (S i) i j knew) (version (S i).log) (batch cap ((S i).heard j) (S i).log) ((S i).heard j)
writes {e = e} {cap} {Rep} {Bears} L {S} {u} {ls} c i j knew hi hj ne to back =
    (w.0, steps c i s₁.memory hi w.1, message_later S (with_replica S i s₁) (logs_grow S i s₁ (λ o a. a)) message)
  where
    log : List Op
    log = (S i).log

    base : ℕ → ℕ
    base = (S i).heard j

    s₁ : Replica
    s₁ = after_writing e (S i) j

    w : (made_well (runs_on 3 e (S i).memory (letter_to j)) ≡ true) × Rep i s₁.memory log (S i).heard × Bears i j (written e (S i) i j knew).bytes (version log) (batch cap base log)
    w = L.writes_well i j (S i).memory log (S i).heard hi hj ne (c.stands i hi) (valid_bounded c.history (c.valid i hi))

    -- a short log goes whole
    all_of_it : length knew ≤ 16 → (o : Op) → In o log → (o.name.n ≤ base o.name.who) ⊎ In o (batch cap base log)
    all_of_it few o k =
        let big = L.large in
        let a = distinct_length log knew (c.valid i hi).distinct to in
        let b = newer-length base log in
        let t = take_all cap (newer_than base log) (omega arith) in
        ⊎_elim (λ l. inr (rw t (in_newer base log o k l))) (λ l. inl l) (cases_lt (base o.name.who) o.name.n)

    message : Message Bears S u (written e (S i) i j knew) (version log) (batch cap base log) base
    message =
        record {
          from_desk = hi;
          for_desk = hj;
          apart = λ x. ne (sym x);
          bears = w.2;
          version_low = λ d. omega arith;
          base_low = λ d. c.heard_low i hi j hj d;
          causal =
              causal_take u (Covered u base) cap (newer_than base log)
              (causal_newer u Nothing (Covered u base) base log (λ q z. absurd z) (λ q a b. (a, b)) (c.valid i hi).causal);
          known = λ o k. valid_sub (c.valid i hi) o (back o k);
          part = λ o k. to o (newer_in base log o (take_in cap (newer_than base log) o k)).0;
          whole = λ few o k. all_of_it few o (back o k);
        }

-- READING
raised-low : (h : ℕ → ℕ → ℕ) (j : ℕ) (v : ℕ → ℕ) (log : List Op) (k d : ℕ) → h k d ≤ version log d → (k ≡ j → v d ≤ version log d) → raised h j v k d ≤ version log d
unfolding raised
raised-low h j v log k d a b =
    elim (eqb k j) as (λ t. eqb k j ≡ t → pick t (larger (h k d) (v d)) (h k d) ≤ version log d)
    [ true ↦ λ e. larger_least (h k d) (v d) (version log d) a (b (eqb-true k j e)) | false ↦ λ e. a ] refl

-- what one has heard of the writer is exact then, if it was low
pub raised_exact : (h : ℕ → ℕ → ℕ) (j : ℕ) (v : ℕ → ℕ) (d : ℕ) → h j d ≤ v d → raised h j v j d ≡ v d
unfolding raised
raised_exact h j v d a =
    rw (eq-eqb j j refl) (let x = larger_right (h j d) (v d) in let y = larger_least (h j d) (v d) (v d) a (omega arith) in omega arith)

abbrev pub after_reading : Engine → Replica → Letter → (ℕ → ℕ) → List Op → Replica
after_reading e s l v news = replica (runs_on 3 e s.memory (hears l.from l.bytes)).memory (deliver_all s.log news) (raised s.heard l.from v)

pub reads : {known : Command → Bool} {e : Engine} {cap : ℕ} {Rep : Representation} {Bears : Bearing} → Lawful known e cap Rep Bears →
    {S : ℕ → Replica} {u : List Op} {ls : List Letter} → Invariant Rep Bears S u ls →
    (l : Letter) (v : ℕ → ℕ) (news : List Op) (base : ℕ → ℕ) → Message Bears S u l v news base →
    (read_well (runs_on 3 e (S l.for).memory (hears l.from l.bytes)) ≡ true) × Delivered u (S l.for).log news (deliver_all (S l.for).log news)
    × Invariant Rep Bears (with_replica S l.for (after_reading e (S l.for) l v news)) u ls
reads {e = e} L {S} {u} c l v news base a =
    let i : ℕ = l.for in
    let j : ℕ = l.from in
    let hi = a.for_desk in
    let g = c.valid i hi in
    let t = delivered u (S i).log (Covered u base) news c.history g
    (λ q r. covered c.history g q r.0 (let x = a.base_low q.name.who in let y = r.1 in omega arith)) a.causal in
    let after = valid_bounded c.history t.valid in
    let w = L.reads_well i j (S i).memory (S i).log (S i).heard l.bytes v news hi a.from_desk a.apart (c.stands i hi) a.bears
    (λ o k. after.small o (t.got o k)) (valid_bounded c.history g) after in (
      w.0,
      t,
      learns c i (after_reading e (S i) l v news) hi t.valid t.kept w.1
          (λ k hk d. raised-low (S i).heard j v (S k).log k d (c.heard_low i hi k hk d) (λ z. subst (λ x. v d ≤ version (S x).log d) (sym z) (a.version_low d))),
    )

-- of a short log nothing is missing then
pub reads_whole : {Rep : Representation} {Bears : Bearing} {S : ℕ → Replica} {u : List Op} {ls : List Letter} → Invariant Rep Bears S u ls →
    {l : Letter} {v : ℕ → ℕ} {news : List Op} {base : ℕ → ℕ} {log₁ : List Op} → Message Bears S u l v news base → Delivered u (S l.for).log news log₁ →
    length l.knew ≤ 16 → Sub l.knew log₁
reads_whole c {l} a t few o k =
    ⊎_elim (λ y. t.kept o (covered c.history (c.valid l.for a.for_desk) o (a.known o k) (let z = a.base_low o.name.who in omega arith)))
    (λ y. t.got o y) (a.whole few o k)
