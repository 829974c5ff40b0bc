-- Two that meet send letters to and fro until each knows what either did: the first pair makes both version vectors known, and each pair from then on brings something.
use Rattle.std.proofs.Common.{◌≡◌, ℕ, zero, suc, ◌+◌, ◌<◌, ◌≤◌, Bool, true, ◌&&◌, ◌⊎◌, List, sym, refl, ap, ◌∙◌, subst, subst₂, inl, inr, ⊎_elim, arith}
use Rattle.std.proofs.lemmas.Bool.{and_from}
use Rattle.ops.specs.Doc.{Op, Command}
use Rattle.ops.specs.Version.{version, newer_than}
use Rattle.ops.proofs.Members.{In, Sub, take_in}
use Rattle.desks.specs.Run.{Engine, letter_to, hears, Ran, runs_on, made_well, read_well, first_letter, Letter, Two, exchange}
use Rattle.network.proofs.Laws.{deliver_all, batch, Representation, Bearing, Lawful}
use Rattle.network.proofs.Versions.{newer_in}
use Rattle.network.proofs.Delivery.{Delivered}
use Rattle.network.proofs.Invariant.{Replica, with_replica, replica-here, replica-there, Invariant}
use Rattle.network.proofs.Letters.{after_writing, written, writes, raised_exact, after_reading, reads}
use Rattle.network.proofs.Lacks.{lacking, lacking_fewer, lacking_falls}

-- w is what two know together
pub record Together (i j : ℕ) (S : ℕ → Replica) (w : List Op) : Type 0 where
  pub in_i : Sub (S i).log w
  pub in_j : Sub (S j).log w
  pub cover : (o : Op) → In o w → In o (S i).log ⊎ In o (S j).log

together_swap : {i j : ℕ} {S : ℕ → Replica} {w : List Op} → Together i j S w → Together j i S w
together_swap h = record { in_i = h.in_j; in_j = h.in_i; cover = λ o k. ⊎_elim (λ x. inr x) (λ x. inl x) (h.cover o k) }

-- i knows j's version vector
abbrev pub Knows : ℕ → ℕ → (ℕ → Replica) → Type 0
Knows i j S = (d : ℕ) → (S i).heard j d ≡ version (S j).log d

-- a writes to j, and b reads what i wrote
abbrev writing : Engine → List ℕ → ℕ → Ran
writing e a j = runs_on 3 e a (letter_to j)

abbrev reading : Engine → List ℕ → ℕ → Ran → Ran
reading e b i w = runs_on 3 e b (hears i (first_letter w.sent))

module _ (Rep : Representation) (Bears : Bearing) (e : Engine) (cap : ℕ) (u : List Op) (ls : List Letter) where
  -- ONE LETTER, written and read
  record Passed (i j : ℕ) (S : ℕ → Replica) (a b : List ℕ) : Type 0 where
    wrote : made_well (writing e a j) ≡ true
    did_read : read_well (reading e b i (writing e a j)) ≡ true
    next : ℕ → Replica
    invariant : Invariant Rep Bears next u ls
    memory_i : (next i).memory ≡ (writing e a j).memory
    memory_j : (next j).memory ≡ (reading e b i (writing e a j)).memory
    log_i : (next i).log ≡ (S i).log
    got : Delivered u (S j).log (batch cap ((S i).heard j) (S i).log) (next j).log
    knows : (d : ℕ) → (next j).heard i d ≡ version (S i).log d
    rest : (k : ℕ) → (k ≡ i → ⊥) → (k ≡ j → ⊥) → next k ≡ S k

  module _ {known : Command → Bool} (L : Lawful known e cap Rep Bears) where
    passed_at : (i j : ℕ) (S : ℕ → Replica) → i < 32 → j < 32 → (i ≡ j → ⊥) → Invariant Rep Bears S u ls → Passed i j S (S i).memory (S j).memory
    passed_at i j S hi hj ne c =
        let w = writes L c i j (S i).log hi hj ne (λ o k. k) (λ o k. k) in
        let s₁ : Replica = after_writing e (S i) j in
        let S₁ : ℕ → Replica = with_replica S i s₁ in
        let l : Letter = written e (S i) i j (S i).log in
        let news : List Op = batch cap ((S i).heard j) (S i).log in
        let s₂ : Replica = after_reading e (S j) l (version (S i).log) news in
        let S₂ : ℕ → Replica = with_replica S₁ j s₂ in
        let r : (read_well (runs_on 3 e (S j).memory (hears i l.bytes)) ≡ true) × Delivered u (S j).log news (deliver_all (S j).log news) × Invariant Rep Bears S₂ u ls =
        subst (λ s. (read_well (runs_on 3 e s.memory (hears i l.bytes)) ≡ true) × Delivered u s.log news (deliver_all s.log news)
        × Invariant Rep Bears (with_replica S₁ j (after_reading e s l (version (S i).log) news)) u ls)
        (replica-there S i s₁ j (λ z. ne (sym z))) (reads L w.1 l (version (S i).log) news ((S i).heard j) w.2) in
        let at_i : S₂ i ≡ s₁ = replica-there S₁ j s₂ i ne ∙ replica-here S i s₁ in
        let at_j : S₂ j ≡ s₂ = replica-here S₁ j s₂ in
        record {
          wrote = w.0;
          did_read = r.0;
          next = S₂;
          invariant = r.2;
          memory_i = ap (λ s. s.memory) at_i;
          memory_j = ap (λ s. s.memory) at_j;
          log_i = ap (λ s. s.log) at_i;
          got = subst (λ z. Delivered u (S j).log news z) (sym (ap (λ s. s.log) at_j)) r.1;
          knows = λ d. ap (λ (s : Replica). s.heard i d) at_j ∙ raised_exact (S j).heard i (version (S i).log) d (c.heard_low j hj i hi d);
          rest = λ k a b. replica-there S₁ j s₂ k b ∙ replica-there S i s₁ k a;
        }

    passed : (i j : ℕ) (S : ℕ → Replica) (a b : List ℕ) → i < 32 → j < 32 → (i ≡ j → ⊥) → Invariant Rep Bears S u ls → (S i).memory ≡ a → (S j).memory ≡ b → Passed i j S a b
    passed i j S a b hi hj ne c ea eb = subst₂ (λ x y. Passed i j S x y) ea eb (passed_at i j S hi hj ne c)

    passed_together : {i j : ℕ} {S : ℕ → Replica} {w : List Op} {a b : List ℕ} → (p : Passed i j S a b) → Together i j S w → Together i j p.next w
    passed_together {i} {j} {S} p h =
        record {
          in_i = λ o k. h.in_i o (subst (λ z. In o z) p.log_i k);
          in_j =
              λ o k. ⊎_elim (λ x. h.in_j o x) (λ x. h.in_i o (newer_in ((S i).heard j) (S i).log o (take_in cap (newer_than ((S i).heard j) (S i).log) o x)).0) (p.got.only o k);
          cover = λ o k. ⊎_elim (λ x. inl (subst (λ z. In o z) (sym p.log_i) x)) (λ x. inr (p.got.kept o x)) (h.cover o k);
        }

    passed_falls : {i j : ℕ} {S : ℕ → Replica} {w : List Op} {a b : List ℕ} → (p : Passed i j S a b) → Together i j S w → Knows i j S →
        (lacking w (S j).log ≡ 0) ⊎ (lacking w (p.next j).log < lacking w (S j).log)
    passed_falls {i} {j} {S} {w} p h exact = lacking_falls w (S i).log ((S i).heard j) cap L.large exact p.got h.in_i h.cover

  module _ (i j : ℕ) (w : List Op) where
    -- A LETTER AND ITS ANSWER
    abbrev out : List ℕ → Ran
    out a = writing e a j

    abbrev heard : List ℕ → List ℕ → Ran
    heard a b = reading e b i (out a)

    abbrev back : List ℕ → List ℕ → Ran
    back a b = writing e (heard a b).memory i

    abbrev home : List ℕ → List ℕ → Ran
    home a b = reading e (out a).memory j (back a b)

    abbrev pub went_well : List ℕ → List ℕ → Bool
    went_well a b = (made_well (out a) && read_well (heard a b)) && (made_well (back a b) && read_well (home a b))

    pub record Paired (S : ℕ → Replica) (a b : List ℕ) : Type 0 where
      pub fair : went_well a b ≡ true
      pub next : ℕ → Replica
      pub invariant : Invariant Rep Bears next u ls
      pub memory_i : (next i).memory ≡ (home a b).memory
      pub memory_j : (next j).memory ≡ (back a b).memory
      pub together : Together i j next w
      pub knows : Knows i j next
      pub fewer_i : lacking w (next i).log ≤ lacking w (S i).log
      pub fewer_j : lacking w (next j).log ≤ lacking w (S j).log
      pub falls_i : (lacking w (S i).log ≡ 0) ⊎ (lacking w (next i).log < lacking w (S i).log)
      pub falls_j : Knows i j S → (lacking w (S j).log ≡ 0) ⊎ (lacking w (next j).log < lacking w (S j).log)
      pub rest : (k : ℕ) → (k ≡ i → ⊥) → (k ≡ j → ⊥) → next k ≡ S k

    -- ALL OF THEM
    pub record Met (S : ℕ → Replica) (t : Two) : Type 0 where
      pub fair : t.fair ≡ true
      pub next : ℕ → Replica
      pub invariant : Invariant Rep Bears next u ls
      pub memory_i : (next i).memory ≡ t.one
      pub memory_j : (next j).memory ≡ t.other
      pub together : Together i j next w
      pub none_i : lacking w (next i).log ≡ 0
      pub none_j : lacking w (next j).log ≡ 0
      pub rest : (k : ℕ) → (k ≡ i → ⊥) → (k ≡ j → ⊥) → next k ≡ S k

    pub met_after : {S : ℕ → Replica} {a b : List ℕ} {t : Two} → (p : Paired S a b) → Met p.next t → Met S t
    met_after p m =
        record {
          fair = m.fair;
          next = m.next;
          invariant = m.invariant;
          memory_i = m.memory_i;
          memory_j = m.memory_j;
          together = m.together;
          none_i = m.none_i;
          none_j = m.none_j;
          rest = λ k x y. m.rest k x y ∙ p.rest k x y;
        }

    module _ {known : Command → Bool} (L : Lawful known e cap Rep Bears) (hi : i < 32) (hj : j < 32) (ne : i ≡ j → ⊥) where
      pub paired : (S : ℕ → Replica) (a b : List ℕ) → Invariant Rep Bears S u ls → Together i j S w → (S i).memory ≡ a → (S j).memory ≡ b → Paired S a b
      paired S a b c h ea eb =
          let p : Passed i j S a b = passed L i j S a b hi hj ne c ea eb in
          let S₁ : ℕ → Replica = p.next in
          let h₁ : Together j i S₁ w = together_swap (passed_together L p h) in
          let q : Passed j i S₁ (heard a b).memory (out a).memory = passed L j i S₁ (heard a b).memory (out a).memory hj hi (λ z. ne (sym z)) p.invariant p.memory_j p.memory_i in
          let kept-j : (q.next j).log ≡ (S₁ j).log = q.log_i in
          let kept-i : (S₁ i).log ≡ (S i).log = p.log_i in
          record {
            fair =
                and_from (made_well (out a) && read_well (heard a b)) (made_well (back a b) && read_well (home a b))
                (and_from (made_well (out a)) (read_well (heard a b)) p.wrote p.did_read) (and_from (made_well (back a b)) (read_well (home a b)) q.wrote q.did_read);
            next = q.next;
            invariant = q.invariant;
            memory_i = q.memory_j;
            memory_j = q.memory_i;
            together = together_swap (passed_together L q h₁);
            knows = λ d. q.knows d ∙ ap (λ z. version z d) (sym kept-j);
            fewer_i = subst (λ z. lacking w (q.next i).log ≤ lacking w z) kept-i (lacking_fewer w q.got);
            fewer_j = subst (λ z. lacking w z ≤ lacking w (S j).log) (sym kept-j) (lacking_fewer w p.got);
            falls_i =
                subst (λ z. (lacking w z ≡ 0) ⊎ (lacking w (q.next i).log < lacking w z)) kept-i (passed_falls L q h₁ (λ d. p.knows d ∙ ap (λ z. version z d) (sym kept-i)));
            falls_j = λ x. subst (λ z. (lacking w (S j).log ≡ 0) ⊎ (lacking w z < lacking w (S j).log)) (sym kept-j) (passed_falls L p h x);
            rest = λ k x y. q.rest k y x ∙ p.rest k x y;
          }

      met_knowing : (k : ℕ) (S : ℕ → Replica) (a b : List ℕ) (ok : Bool) → Invariant Rep Bears S u ls → Together i j S w → (S i).memory ≡ a → (S j).memory ≡ b → ok ≡ true → Knows i j S →
          lacking w (S i).log + lacking w (S j).log ≤ k → Met S (exchange k 3 e i j a b ok)
      unfolding exchange
      met_knowing zero S a b ok c h ea eb eo exact l =
          record { fair = eo; next = S; invariant = c; memory_i = ea; memory_j = eb; together = h; none_i = omega arith; none_j = omega arith; rest = λ k x y. refl }
      met_knowing (suc k) S a b ok c h ea eb eo exact l =
          let p = paired S a b c h ea eb in
          let fi = p.fewer_i in
          let fj = p.fewer_j in
          let l₁ : lacking w (p.next i).log + lacking w (p.next j).log ≤ k = ⊎_elim (λ x. ⊎_elim (λ y. omega arith) (λ y. omega arith) (p.falls_j exact)) (λ x. omega arith) p.falls_i in
          met_after p
          (met_knowing k p.next (home a b).memory (back a b).memory (ok && went_well a b) p.invariant p.together p.memory_i p.memory_j
          (and_from ok (went_well a b) eo p.fair) p.knows l₁)

      pub met : (k : ℕ) (S : ℕ → Replica) (a b : List ℕ) → Invariant Rep Bears S u ls → Together i j S w → (S i).memory ≡ a → (S j).memory ≡ b →
          lacking w (S i).log + lacking w (S j).log ≤ k → Met S (exchange (suc k) 3 e i j a b true)
      unfolding exchange
      met k S a b c h ea eb l =
          let p = paired S a b c h ea eb in
          let fi = p.fewer_i in
          let fj = p.fewer_j in
          met_after p
          (met_knowing k p.next (home a b).memory (back a b).memory (true && went_well a b) p.invariant p.together p.memory_i p.memory_j
          (and_from true (went_well a b) refl p.fair) p.knows (omega arith))
