-- How much a log lacks of some operations: less with each letter from one who knows exactly what the log has.
use Rattle.std.proofs.Common.{◌≡◌, ℕ, zero, suc, ◌<◌, ◌≤◌, ◌⊎◌, List, [], ◌∷◌, ◌++◌, length, take, sym, refl, ap, subst, inl, inr, ⊎_elim, arith}
use Rattle.ops.specs.Doc.{Op}
use Rattle.ops.specs.Version.{version, newer_than}
use Rattle.ops.proofs.Members.{In, Sub, take_in}
use Rattle.network.proofs.Laws.{batch}
use Rattle.network.proofs.Versions.{version_above, version_mono, in_newer, newer_in, newer-length, newer_none, newer-append, newer_fewer, newer_less, none_newer}
use Rattle.network.proofs.Logs.{History, Valid, covered}
use Rattle.network.proofs.Delivery.{Delivered}

abbrev pub lacking : List Op → List Op → ℕ
lacking w log = length (newer_than (version log) w)

pub lacking_fewer : (w : List Op) {u log news log₁ : List Op} → Delivered u log news log₁ → lacking w log₁ ≤ lacking w log
lacking_fewer w {log = log} {log₁ = log₁} t = newer_fewer (version log₁) (version log) w (version_mono log log₁ t.kept)

take_some : {A : Type 0} (n : ℕ) (x : A) (xs : List A) → 1 ≤ n → In x xs → (y : A) × In y (take n xs)
take_some zero x xs l h = absurd (omega arith)
take_some (suc n) x [] l h = absurd h
take_some (suc n) x (y ∷ ys) l h = (y, inl refl)

-- the sender's log s and the receiver's r have w between them, and the sender knows the receiver's version vector
pub lacking_falls : (w s : List Op) (v : ℕ → ℕ) (cap : ℕ) {u r r₁ : List Op} → 16 ≤ cap → ((d : ℕ) → v d ≡ version r d) → Delivered u r (batch cap v s) r₁ → Sub s w →
    ((o : Op) → In o w → In o s ⊎ In o r) → (lacking w r ≡ 0) ⊎ (lacking w r₁ < lacking w r)
lacking_falls w s v cap {u} {r} {r₁} big exact t sub cover = go (newer_than (version r) w) refl
  where
    go : (xs : List Op) → newer_than (version r) w ≡ xs → (lacking w r ≡ 0) ⊎ (lacking w r₁ < lacking w r)
    go [] e = inl (ap length e)
    go (x ∷ xs) e =
        let a = newer_in (version r) w x (subst (λ z. In x z) (sym e) (inl refl)) in
        let a₁ = a.1 in
        let k : In x s = ⊎_elim (λ b. b) (λ b. absurd (let y = version_above r x b in omega arith)) (cover x a.0) in
        let ex = exact x.name.who in
        let f = take_some cap x (newer_than v s) (omega arith) (in_newer v s x k (omega arith)) in
        let y : Op = f.0 in
        let b = newer_in v s y (take_in cap (newer_than v s) y f.1) in
        let b₁ = b.1 in
        let ey = exact y.name.who in
        inr (newer_less (version r₁) (version r) w y (version_mono r r₁ t.kept) (sub y b.0) (version_above r₁ y (t.got y f.1)) (omega arith))

-- of two logs put together, one lacks no more than the other has
pub lacking_right : (s t : List Op) → lacking (s ++ t) s ≤ length t
lacking_right s t =
    let a = newer-append (version s) s t in
    let b = newer_none (version s) s (version_above s) in
    let c = newer-length (version s) t in
    omega arith

pub lacking-left : (s t : List Op) → lacking (s ++ t) t ≤ length s
lacking-left s t =
    let a = newer-append (version t) s t in
    let b = newer_none (version t) t (version_above t) in
    let c = newer-length (version t) s in
    omega arith

pub lacking_none : (w : List Op) {u log : List Op} → History u → Valid u log → Sub w u → lacking w log ≡ 0 → Sub w log
lacking_none w {log = log} a g s z o k = covered a g o (s o k) (none_newer (version log) w o z k)
