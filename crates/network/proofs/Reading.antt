-- What is read of a memory is read of the log that it keeps: the highest number, the version vector, and what a letter carries.
use Rattle.std.proofs.Common.{◌≡◌, ℕ, zero, suc, ◌<◌, ◌≤◌, max, ltb, List, ◌∷◌, ◌++◌, length, take, sym, refl, ap, ◌∙◌, subst, ap₂, ⊎_elim, arith}
use Rattle.std.proofs.lemmas.Bool.{cases_eq}
use Rattle.ops.specs.Doc.{flat, Op, highest}
use Rattle.ops.specs.Version.{version, newer_than}
use Rattle.ops.specs.Layout.{version_cell, low}
use Rattle.ops.specs.Log.{highest_up_to}
use Rattle.ops.proofs.Members.{In, those_ext}
use Rattle.messages.specs.Bytes.{four}
use Rattle.messages.specs.Records.{record_bytes}
use Rattle.messages.specs.Letter.{heard, news, vector_bytes, versions, body_of, sealed, letter_of, letter_for}
use Rattle.network.proofs.Laws.{batch}
use Rattle.network.proofs.Versions.{version_above, version-highest, highest_of}
use Rattle.network.proofs.Keeping.{Keeps}

-- the highest of a row is the least number that is above all of it
row_below : (n : ℕ) (m : List ℕ) (b : ℕ) → ((d : ℕ) → d < n → low m (version_cell d) ≤ b) → highest_up_to n m ≤ b
unfolding highest_up_to
row_below zero m b h = omega arith
row_below (suc d) m b h = let a = row_below d m b (λ c l. h c (omega arith)) in let e = h d (omega arith) in omega arith

row_above : (n : ℕ) (m : List ℕ) (d : ℕ) → d < n → low m (version_cell d) ≤ highest_up_to n m
unfolding highest_up_to
row_above zero m d l = absurd (omega arith)
row_above (suc c) m d l =
    ⊎_elim (λ (e : d ≡ c). subst (λ (j : ℕ). low m (version_cell j) ≤ max (highest_up_to c m) (low m (version_cell c))) (sym e) (omega arith))
    (λ (e : d ≡ c → ⊥). let a = row_above c m d (omega arith) in omega arith) (cases_eq d c)

pub keeps_highest : {m : List ℕ} {log : List Op} {h : ℕ → ℕ → ℕ} → Keeps m log h → highest_up_to 32 m ≡ highest log
keeps_highest {m} {log} k =
    let a = row_below 32 m (highest log) (λ d l. let e = k.version_is d l in let b = version-highest log d in omega arith) in
    ⊎_elim (λ z. omega arith)
    (λ r. let s = (k.small r.0 r.1).1 in
    let b = version_above log r.0 r.1 in
    let c = k.version_is r.0.name.who s in
    let e = row_above 32 m r.0.name.who s in
    let f = r.2 in
    omega arith)
    (highest_of log)

-- an operation of the log is of a desk below 32, so the rest of a row doesn't matter
newer_same : (v w : ℕ → ℕ) (log : List Op) → ((o : Op) → In o log → v o.name.who ≡ w o.name.who) → newer_than v log ≡ newer_than w log
unfolding newer_than
newer_same v w log h =
    those_ext (λ o. ltb (v o.name.who) o.name.n) (λ o. ltb (w o.name.who) o.name.n) log (λ o i. ap (λ (n : ℕ). ltb n o.name.n) (h o i))

pub keeps_news : {m : List ℕ} {log : List Op} {h : ℕ → ℕ → ℕ} (p : ℕ) → Keeps m log h → p < 32 → news m p ≡ batch 247 (h p) log
unfolding news
keeps_news {m} {log} {h} p k l =
    ap (λ (os : List Op). take 247 os)
    (ap (newer_than (heard m p)) k.log_is ∙ newer_same (heard m p) (h p) log (λ o i. k.heard_is p o.name.who l (k.small o i).1))

vector_same : (n : ℕ) (v w : ℕ → ℕ) → ((d : ℕ) → d < n → v d ≡ w d) → vector_bytes n v ≡ vector_bytes n w
unfolding vector_bytes
vector_same zero v w h = refl
vector_same (suc d) v w h = ap₂ (λ bs n. bs ++ four n) (vector_same d v w (λ c l. h c (omega arith))) (h d (omega arith))

pub keeps_vector : {m : List ℕ} {log : List Op} {h : ℕ → ℕ → ℕ} → Keeps m log h → vector_bytes 32 (versions m) ≡ vector_bytes 32 (version log)
keeps_vector {m} {log} k = vector_same 32 (versions m) (version log) k.version_is

letter_same : (from for : ℕ) (v w : ℕ → ℕ) (os ps : List Op) → vector_bytes 32 v ≡ vector_bytes 32 w → os ≡ ps → letter_of from for v os ≡ letter_of from for w ps
unfolding letter_of body_of
letter_same from for v w os ps e f = ap₂ (λ (bs : List ℕ) (ops : List Op). sealed (1 ∷ from ∷ for ∷ length ops ∷ bs ++ flat record_bytes ops)) e f

pub keeps_letter : {m : List ℕ} {log : List Op} {h : ℕ → ℕ → ℕ} (from p : ℕ) → Keeps m log h → p < 32 → letter_for m from p ≡ letter_of from p (version log) (batch 247 (h p) log)
unfolding letter_for
keeps_letter {m} {log} {h} from p k l = letter_same from p (versions m) (version log) (news m p) (batch 247 (h p) log) (keeps_vector k) (keeps_news p k l)
