-- One more operation at the end of a log: what it does to the version vector and to the counts.
use Rattle.std.proofs.Common.{◌≡◌, ℕ, ◌+◌, ◌<◌, ◌≤◌, eqb, List, [], ◌∷◌, ◌++◌, length, sym, refl, ap, ◌∙◌, subst, inl, ⊎_elim, arith, length-append}
use Rattle.std.proofs.lemmas.Bool.{eq-eqb, ne_eqb}
use Rattle.ops.specs.Doc.{pick, those, Op, made_by}
use Rattle.ops.specs.Version.{version}
use Rattle.ops.proofs.Members.{in_right, in_append, in_only}
use Rattle.ops.proofs.Scans.{those_more}
use Rattle.network.proofs.Versions.{version_above, version_of}

pub version_last : (log : List Op) (o : Op) → version log o.name.who < o.name.n → version (log ++ o ∷ []) o.name.who ≡ o.name.n
version_last log o h =
    let a = version_above (log ++ o ∷ []) o (in_right log (o ∷ []) o (inl refl)) in
    ⊎_elim (λ z. omega arith)
    (λ r. ⊎_elim
    (λ k. let b : r.0.name.n ≤ version log o.name.who = subst (λ (d : ℕ). r.0.name.n ≤ version log d) r.2 (version_above log r.0 k) in absurd (omega (arith, r.3)))
    (λ k. sym r.3 ∙ ap (λ (q : Op). q.name.n) (in_only o r.0 k)) (in_append log (o ∷ []) r.0 r.1))
    (version_of (log ++ o ∷ []) o.name.who)

pub version_last_other : (log : List Op) (o : Op) (d : ℕ) → (o.name.who ≡ d → ⊥) → version (log ++ o ∷ []) d ≡ version log d
unfolding version
version_last_other [] o d h = rw (ne_eqb o.name.who d h)
version_last_other (x ∷ xs) o d h = rw (version_last_other xs o d h)

pub made_last : (log : List Op) (o : Op) → made_by o.name.who (log ++ o ∷ []) ≡ made_by o.name.who log + 1
made_last log o =
    ap length (those_more (λ p. eqb p.name.who o.name.who) log o)
    ∙ ap (λ b. length (those (λ p. eqb p.name.who o.name.who) log ++ pick b (o ∷ []) [])) (eq-eqb o.name.who o.name.who refl)
    ∙ length-append (those (λ p. eqb p.name.who o.name.who) log) (o ∷ [])

pub made_last_other : (log : List Op) (o : Op) (d : ℕ) → (o.name.who ≡ d → ⊥) → made_by d (log ++ o ∷ []) ≡ made_by d log
made_last_other log o d h =
    ap length (those_more (λ p. eqb p.name.who d) log o) ∙ ap (λ b. length (those (λ p. eqb p.name.who d) log ++ pick b (o ∷ []) [])) (ne_eqb o.name.who d h)
    ∙ length-append (those (λ p. eqb p.name.who d) log) [] ∙ omega arith
