-- A log's version vector and its highest number are the bounds of what is in it, and what is newer than a version vector is what it doesn't cover.
use Rattle.std.proofs.Common.{◌≡◌, ℕ, ◌+◌, ◌<◌, ◌≤◌, Bool, true, false, eqb, ltb, ◌⊎◌, List, [], ◌∷◌, ◌++◌, length, sym, refl, ap, ◌∙◌, subst, inl, inr, ⊎_elim, arith, length-append}
use Rattle.std.proofs.lemmas.Bool.{ltb-true, ltb-false, eqb-true, lt-ltb, le-ltb, eq-eqb, cases_lt, cases_Bool}
use Rattle.ops.specs.Doc.{pick, larger, Op, highest}
use Rattle.ops.specs.Version.{version, newer_than}
use Rattle.ops.proofs.Members.{In, Sub, in_those, those_in, those-append}
use Rattle.network.proofs.Counting.{those-length, those_none, those_fewer, those_less}

larger-left : (a b : ℕ) → a ≤ larger a b
larger-left a b = ⊎_elim (λ (e : ltb a b ≡ true). rw e (let l = ltb-true a b e in omega arith)) (λ e. rw e (omega arith)) (cases_Bool (ltb a b))

pub larger_right : (a b : ℕ) → b ≤ larger a b
larger_right a b = ⊎_elim (λ (e : ltb a b ≡ true). rw e (omega arith)) (λ e. rw e (let l = ltb-false a b e in omega arith)) (cases_Bool (ltb a b))

larger_either : (a b : ℕ) → (larger a b ≡ a) ⊎ (larger a b ≡ b)
larger_either a b = ⊎_elim (λ (e : ltb a b ≡ true). inr (rw e refl)) (λ e. inl (rw e refl)) (cases_Bool (ltb a b))

pub larger_least : (a b c : ℕ) → a ≤ c → b ≤ c → larger a b ≤ c
larger_least a b c p q = ⊎_elim (λ e. rw e p) (λ e. rw e q) (larger_either a b)

-- VERSION VECTORS
pub version_above : (log : List Op) (o : Op) → In o log → o.name.n ≤ version log o.name.who
unfolding version
version_above [] o h = absurd h
version_above (x ∷ xs) o (inl e) =
    subst (λ z. o.name.n ≤ pick (eqb z.name.who o.name.who) (larger z.name.n (version xs o.name.who)) (version xs o.name.who)) e
    (rw (eq-eqb o.name.who o.name.who refl) (larger-left o.name.n (version xs o.name.who)))
version_above (x ∷ xs) o (inr h) =
    let ih = version_above xs o h in
    let l = larger_right x.name.n (version xs o.name.who) in
    elim (eqb x.name.who o.name.who) as (λ b. o.name.n ≤ pick b (larger x.name.n (version xs o.name.who)) (version xs o.name.who))
    [ true ↦ omega arith | false ↦ ih ]

abbrev pub Latest : List Op → ℕ → Type 0
Latest log d = (o : Op) × In o log × (o.name.who ≡ d) × (o.name.n ≡ version log d)

pub version_of : (log : List Op) (d : ℕ) → (version log d ≡ 0) ⊎ Latest log d
unfolding version
version_of [] d = inl refl
version_of (x ∷ xs) d = go (version_of xs d) (eqb x.name.who d) refl
  where
    go : (version xs d ≡ 0) ⊎ Latest xs d → (b : Bool) → eqb x.name.who d ≡ b →
        (pick b (larger x.name.n (version xs d)) (version xs d) ≡ 0)
        ⊎ ((o : Op) × In o (x ∷ xs) × (o.name.who ≡ d) × (o.name.n ≡ pick b (larger x.name.n (version xs d)) (version xs d)))
    go ih true e =
        ⊎_elim (λ l. inr (x, inl refl, eqb-true _ _ e, sym l))
        (λ l. ⊎_elim (λ z. inl (l ∙ z)) (λ r. inr (r.0, inr r.1, r.2, r.3 ∙ sym l)) ih)
        (larger_either x.name.n (version xs d))
    go ih false e = ⊎_elim (λ z. inl z) (λ r. inr (r.0, inr r.1, r.2, r.3)) ih

pub version_mono : (a b : List Op) → Sub a b → (d : ℕ) → version a d ≤ version b d
version_mono a b s d =
    ⊎_elim (λ z. omega arith)
    (λ r. let k : r.0.name.n ≤ version b d = subst (λ w. r.0.name.n ≤ version b w) r.2 (version_above b r.0 (s r.0 r.1)) in omega (arith, r.3))
    (version_of a d)

-- THE HIGHEST NUMBER OF ALL
pub highest_above : (log : List Op) (o : Op) → In o log → o.name.n ≤ highest log
unfolding highest
highest_above [] o h = absurd h
highest_above (x ∷ xs) o (inl e) = let l = larger-left x.name.n (highest xs) in let y = ap (λ (z : Op). z.name.n) e in omega arith
highest_above (x ∷ xs) o (inr h) = let ih = highest_above xs o h in let l = larger_right x.name.n (highest xs) in omega arith

pub highest_of : (log : List Op) → (highest log ≡ 0) ⊎ ((o : Op) × In o log × (o.name.n ≡ highest log))
unfolding highest
highest_of [] = inl refl
highest_of (x ∷ xs) =
    ⊎_elim (λ l. inr (x, inl refl, sym l)) (λ l. ⊎_elim (λ z. inl (l ∙ z)) (λ r. inr (r.0, inr r.1, r.2 ∙ sym l)) (highest_of xs))
    (larger_either x.name.n (highest xs))

pub version-highest : (log : List Op) (d : ℕ) → version log d ≤ highest log
version-highest log d = ⊎_elim (λ z. omega arith) (λ r. let k = highest_above log r.0 r.1 in omega (arith, r.3)) (version_of log d)

-- WHAT A VERSION VECTOR DOESN'T COVER
abbrev is_newer : (ℕ → ℕ) → Op → Bool
is_newer v o = ltb (v o.name.who) o.name.n

pub in_newer : (v : ℕ → ℕ) (log : List Op) (o : Op) → In o log → v o.name.who < o.name.n → In o (newer_than v log)
unfolding newer_than
in_newer v log o k l = in_those (is_newer v) log o k (lt-ltb (v o.name.who) o.name.n l)

pub newer_in : (v : ℕ → ℕ) (log : List Op) (o : Op) → In o (newer_than v log) → In o log × (v o.name.who < o.name.n)
unfolding newer_than
newer_in v log o k = let r = those_in (is_newer v) log o k in (r.0, ltb-true (v o.name.who) o.name.n r.1)

pub newer-length : (v : ℕ → ℕ) (log : List Op) → length (newer_than v log) ≤ length log
unfolding newer_than
newer-length v log = those-length (is_newer v) log

pub newer_none : (v : ℕ → ℕ) (log : List Op) → ((o : Op) → In o log → o.name.n ≤ v o.name.who) → length (newer_than v log) ≡ 0
unfolding newer_than
newer_none v log l = those_none (is_newer v) log (λ o k. le-ltb (v o.name.who) o.name.n (l o k))

pub newer-append : (v : ℕ → ℕ) (xs ys : List Op) → length (newer_than v (xs ++ ys)) ≡ length (newer_than v xs) + length (newer_than v ys)
unfolding newer_than
newer-append v xs ys = ap length (those-append (is_newer v) xs ys) ∙ length-append (newer_than v xs) (newer_than v ys)

-- the lower the version vector, the more is newer
is_newer_mono : (v w : ℕ → ℕ) → ((d : ℕ) → w d ≤ v d) → (o : Op) → is_newer v o ≡ true → is_newer w o ≡ true
is_newer_mono v w l o e = lt-ltb (w o.name.who) o.name.n (let x = ltb-true (v o.name.who) o.name.n e in let y = l o.name.who in omega arith)

pub newer_fewer : (v w : ℕ → ℕ) (log : List Op) → ((d : ℕ) → w d ≤ v d) → length (newer_than v log) ≤ length (newer_than w log)
unfolding newer_than
newer_fewer v w log l = those_fewer (is_newer v) (is_newer w) log (λ o k. is_newer_mono v w l o)

pub newer_less : (v w : ℕ → ℕ) (log : List Op) (q : Op) → ((d : ℕ) → w d ≤ v d) → In q log → q.name.n ≤ v q.name.who → w q.name.who < q.name.n →
    length (newer_than v log) < length (newer_than w log)
unfolding newer_than
newer_less v w log q l i a b =
    those_less (is_newer v) (is_newer w) log (λ o k. is_newer_mono v w l o) q i (le-ltb (v q.name.who) q.name.n a) (lt-ltb (w q.name.who) q.name.n b)

in_length : (o : Op) (xs : List Op) → In o xs → 1 ≤ length xs
in_length o [] h = absurd h
in_length o (x ∷ xs) h = omega arith

pub none_newer : (v : ℕ → ℕ) (log : List Op) (o : Op) → length (newer_than v log) ≡ 0 → In o log → o.name.n ≤ v o.name.who
none_newer v log o z k =
    ⊎_elim (λ l. absurd (let a = in_length o (newer_than v log) (in_newer v log o k l) in omega arith)) (λ l. l) (cases_lt (v o.name.who) o.name.n)
