-- A run of stores (`sets`): what stands in it is read again, and the rest is as it was.
use Rattle.std.proofs.Common.{◌≡◌, ℕ, zero, suc, ◌+◌, ◌<◌, ◌≤◌, Bool, true, ltb, ◌⊎◌, List, [], ◌∷◌, length, get_or, set, refl, ap, ◌∙◌, inl, inr, arith, length-set, get_or-set_other, get_or-set_same}
use lib.Seq.{sets}
use Rattle.std.proofs.lemmas.Bool.{and_parts, and_from, lt-ltb, ltb-true}
use Rattle.ops.specs.Doc.{every}

pub sets_other : (vs m : List ℕ) (p i : ℕ) → (i < p) ⊎ (p + length vs ≤ i) → get_or (sets m p vs) i 0 ≡ get_or m i 0
sets_other [] m p i h = refl
sets_other (v ∷ vs) m p i (inl h) = sets_other vs (set m p v) (suc p) i (inl (omega arith)) ∙ get_or-set_other m p i v 0 (omega arith)
sets_other (v ∷ vs) m p i (inr h) = sets_other vs (set m p v) (suc p) i (inr (omega arith)) ∙ get_or-set_other m p i v 0 (omega arith)

pub sets_at : (vs m : List ℕ) (p k : ℕ) → k < length vs → p + length vs ≤ length m → get_or (sets m p vs) (p + k) 0 ≡ get_or vs k 0
sets_at [] m p k h l = absurd (omega arith)
sets_at (v ∷ vs) m p zero h l =
    ap (λ i. get_or (sets (set m p v) (suc p) vs) i 0) (omega arith) ∙ sets_other vs (set m p v) (suc p) p (inl (omega arith)) ∙ get_or-set_same m p v 0 (omega arith)
sets_at (v ∷ vs) m p (suc k) h l =
    let e : p + suc k ≡ suc p + k = omega arith in
    let f = length-set m p v in
    ap (λ i. get_or (sets (set m p v) (suc p) vs) i 0) e ∙ sets_at vs (set m p v) (suc p) k (omega arith) (omega arith)

-- numbers of 64 bits stay so
abbrev pub fits : ℕ → Bool
fits n = ltb n 18446744073709551616

pub every_set : (m : List ℕ) (i v : ℕ) → every fits m ≡ true → v < 18446744073709551616 → every fits (set m i v) ≡ true
unfolding every
every_set [] i v h k = refl
every_set (x ∷ m) zero v h k = and_from (fits v) (every fits m) (lt-ltb _ _ k) (and_parts (fits x) (every fits m) h).1
every_set (x ∷ m) (suc i) v h k = let p = and_parts (fits x) (every fits m) h in and_from (fits x) (every fits (set m i v)) p.0 (every_set m i v p.1 k)

every_parts : (x : ℕ) (xs : List ℕ) → every fits (x ∷ xs) ≡ true → (x < 18446744073709551616) × (every fits xs ≡ true)
unfolding every
every_parts x xs t = let p = and_parts (fits x) (every fits xs) t in (ltb-true _ _ p.0, p.1)

pub every_sets : (vs m : List ℕ) (p : ℕ) → every fits m ≡ true → every fits vs ≡ true → every fits (sets m p vs) ≡ true
every_sets [] m p h k = h
every_sets (v ∷ vs) m p h k = let r = every_parts v vs k in every_sets vs (set m p v) (suc p) (every_set m p v h r.0) r.1
