-- The machine's letters carry its version vector and what the other isn't known to know, and reading one takes just that.
use Rattle.std.proofs.Common.{◌≡◌, ℕ, suc, ◌<◌, true, List, [], ◌∷◌, get_or, sym, refl, ap, ◌∙◌, subst, ⊎_elim, arith, length-take}
use Rattle.ops.specs.Doc.{none_of, Op}
use Rattle.ops.specs.Version.{version, newer_than}
use Rattle.ops.proofs.Members.{In, take_in}
use Rattle.messages.specs.Letter.{most_records, letter_of, letter_for, is_letter, noted, delivered, received}
use Rattle.messages.specs.RoundTrip.{Decoded}
use Rattle.messages.proofs.RoundTrip.{decoded}
use Rattle.desks.specs.Run.{letter_to, hears, done, Ran, ran, runs_on, made_well, read_well, first_letter}
use Rattle.desks.specs.Machine.{me, says, idle, does, step_own}
use Rattle.desks.specs.Entry.{own}
use Rattle.desks.proofs.Refusals.{hears_by}
use Rattle.desks.proofs.Telling.{accepts}
use Rattle.network.proofs.Laws.{deliver_all, batch, raised, Bounded}
use Rattle.network.proofs.Versions.{version_of, newer_in}
use Rattle.network.proofs.Keeping.{Keeps}
use Rattle.network.proofs.Noting.{keeps_noted}
use Rattle.network.proofs.Taking.{keeps_delivered}
use Rattle.network.proofs.Reading.{keeps_letter}
use Rattle.network.proofs.Fitting.{received_other}
use Rattle.network.proofs.OwnRep.{Rep, Bears, idle_same, is_open-here, me_is}
use Rattle.network.proofs.OwnRuns.{own_done}
use Rattle.network.proofs.OwnWriting.{writes-letter}

pub well_read : (m : List ℕ) → read_well (ran m [] [] 0) ≡ true
unfolding none_of
well_read m = refl

well_made : (m b : List ℕ) → made_well (ran m [] (b ∷ []) 0) ≡ true
unfolding none_of
well_made m b = refl

version_small : (log : List Op) (d : ℕ) → Bounded log → version log d < 4294967296
version_small log d b = ⊎_elim (λ z. omega arith) (λ r. let y = (b.small r.0 r.1).1 in let z = r.3 in omega arith) (version_of log d)

-- what a letter that bears something is
borne : (from for : ℕ) (bs : List ℕ) (v : ℕ → ℕ) (news : List Op) → from < 32 → for < 32 → Bears from for bs v news → Decoded from for v news bs
borne from for bs v news hf ht b = subst (λ x. Decoded from for v news x) (sym b.bytes) (decoded from for v news hf ht b.few (λ d h. b.vector_small d) b.small)

-- WRITING
pub writes-run : (i j : ℕ) (m : List ℕ) (log : List Op) (h : ℕ → ℕ → ℕ) → i < 32 → j < 32 → (i ≡ j → ⊥) → Rep i m log h →
    runs_on 3 own m (letter_to j) ≡ ran m [] (letter_of i j (version log) (batch most_records (h j) log) ∷ []) 0
writes-run i j m log h hi hj ne r =
    writes-letter m j (is_open-here i m log h hi r) r.still (hj, λ z. ne (sym (me_is i m log h hi r) ∙ sym z))
    ∙ ap (λ bs. ran m [] (bs ∷ []) 0) (ap (λ w. letter_for m w j) (me_is i m log h hi r) ∙ keeps_letter i j r.keeps hj)

pub writes_law : (i j : ℕ) (m : List ℕ) (log : List Op) (h : ℕ → ℕ → ℕ) → i < 32 → j < 32 → (i ≡ j → ⊥) → Rep i m log h → Bounded log →
    (made_well (runs_on 3 own m (letter_to j)) ≡ true) × Rep i (runs_on 3 own m (letter_to j)).memory log h
    × Bears i j (first_letter (runs_on 3 own m (letter_to j)).sent) (version log) (batch most_records (h j) log)
unfolding first_letter
writes_law i j m log h hi hj ne r b =
    let news : List Op = batch most_records (h j) log in
    let bs : List ℕ = letter_of i j (version log) news in
    let inside : (o : Op) → In o news → In o log = λ o k. (newer_in (h j) log o (take_in most_records (newer_than (h j) log) o k)).0 in
    let bears : Bears i j bs (version log) news =
    record
    { bytes = refl; few = (let e = length-take most_records (newer_than (h j) log) in omega arith); vector_small = λ d. version_small log d b; small = λ o k. r.keeps.small o (inside o k) } in
    let p = writes-run i j m log h hi hj ne r in (
      ap (λ z. made_well z) p ∙ well_made m bs,
      subst (λ (z : Ran). Rep i z.memory log h) (sym p) r,
      subst (λ (z : Ran). Bears i j (first_letter z.sent) (version log) news) (sym p) bears,
    )

-- READING
pub reads_law : (i j : ℕ) (m : List ℕ) (log : List Op) (h : ℕ → ℕ → ℕ) (bs : List ℕ) (v : ℕ → ℕ) (news : List Op) → i < 32 → j < 32 → (i ≡ j → ⊥) → Rep i m log h → Bears j i bs v news →
    Bounded (deliver_all log news) →
    (read_well (runs_on 3 own m (hears j bs)) ≡ true) × Rep i (runs_on 3 own m (hears j bs)).memory (deliver_all log news) (raised h j v)
unfolding does received
reads_law i j m log h bs v news hi hj ne r c b =
    let d = borne j i bs v news hj hi c in
    let m₁ : List ℕ = noted 32 j bs m in
    let m₂ : List ℕ = delivered m₁ news in
    let k₁ : Keeps m₁ log (raised h j v) = keeps_noted j bs v r.keeps hj d.vector in
    let k₂ : Keeps m₂ (deliver_all log news) (raised h j v) = keeps_delivered news k₁ c.small b.few in
    let same : received j bs m ≡ m₂ = ap (λ os. delivered m₁ os) d.operations in
    let desk₂ : get_or m₂ 0 0 ≡ suc i = ap (λ l. get_or l 0 0) (sym same) ∙ (received_other j bs m 0 (omega arith) ∙ r.desk) in
    let still₂ : get_or m₂ 1 0 ≡ 0 = ap (λ l. get_or l 1 0) (sym same) ∙ (received_other j bs m 1 (omega arith) ∙ r.still) in
    let e : step_own m (hears j bs) ≡ says m₂ done =
    accepts m (hears j bs)
    (hears_by m j (me m) bs true (is_open-here i m log h hi r) refl (hj, λ z. ne (sym (me_is i m log h hi r) ∙ sym z)) (ap (λ w. is_letter j w bs) (me_is i m log h hi r) ∙ d.accepted))
    ∙ (ap (λ l. says (idle l) done) same ∙ ap (λ l. says l done) (idle_same m₂ still₂)) in
    let p : runs_on 3 own m (hears j bs) ≡ ran m₂ [] [] 0 = own_done m m₂ (hears j bs) e in (
      ap (λ z. read_well z) p ∙ well_read m₂,
      subst (λ (z : Ran). Rep i z.memory (deliver_all log news) (raised h j v)) (sym p)
          (record { keeps = k₂; desk = desk₂; still = still₂ }),
    )
