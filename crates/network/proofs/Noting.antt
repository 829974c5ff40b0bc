-- Noting a peer's version vector raises the entries that were heard of it, and changes nothing else.
use Rattle.std.proofs.Common.{◌≡◌, ℕ, zero, suc, ◌+◌, ◌*◌, ◌%◌, ◌<◌, ◌≤◌, max, true, eqb, ltb, ◌⊎◌, List, length, get_or, set, sym, refl, ap, ◌∙◌, subst, ap₂, inl, inr, ⊎_elim, arith, length-set, get_or-set_other, get_or-set_same}
use Rattle.std.proofs.lemmas.Bool.{ltb-true, ltb-false, eq-eqb, ne_eqb, cases_eq, cases_order, cases_Bool}
use Rattle.ops.specs.Doc.{pick, larger, Op}
use Rattle.ops.specs.Layout.{length_cell, version_cell, made_cell, heard_cell, low}
use Rattle.ops.proofs.Frames.{ops_of_same}
use Rattle.messages.specs.Bytes.{number_at}
use Rattle.messages.specs.Letter.{noted}
use Rattle.network.proofs.Laws.{raised}
use Rattle.network.proofs.SmallRecords.{number_small}
use Rattle.network.proofs.Keeping.{Keeps, low_same}

pub noted-length : (n p : ℕ) (bs m : List ℕ) → length (noted n p bs m) ≡ length m
unfolding noted
noted-length zero p bs m = refl
noted-length (suc d) p bs m =
    length-set (noted d p bs m) (heard_cell p d) (max (low m (heard_cell p d)) (number_at bs (4 + d * 4))) ∙ noted-length d p bs m

-- cells outside of the peer's row
noted_outside : (n p : ℕ) (bs m : List ℕ) (i : ℕ) → (i < heard_cell p 0) ⊎ (heard_cell p n ≤ i) → get_or (noted n p bs m) i 0 ≡ get_or m i 0
unfolding noted
noted_outside zero p bs m i h = refl
noted_outside (suc d) p bs m i h =
    get_or-set_other (noted d p bs m) (heard_cell p d) i (max (low m (heard_cell p d)) (number_at bs (4 + d * 4))) 0 (omega arith)
    ∙ noted_outside d p bs m i (⊎_elim (λ a. inl a) (λ a. inr (omega arith)) h)

pub noted_other : (n p : ℕ) (bs m : List ℕ) (i : ℕ) → i < 3 → get_or (noted n p bs m) i 0 ≡ get_or m i 0
noted_other n p bs m i l = noted_outside n p bs m i (inl (omega arith))

noted_at : (n p : ℕ) (bs m : List ℕ) (d : ℕ) → d < n → heard_cell p n ≤ length m →
    get_or (noted n p bs m) (heard_cell p d) 0 ≡ max (low m (heard_cell p d)) (number_at bs (4 + d * 4))
unfolding noted
noted_at zero p bs m d l h = absurd (omega arith)
noted_at (suc c) p bs m d l h =
    ⊎_elim
    (λ (e : c ≡ d).
    subst (λ (j : ℕ). get_or (set (noted c p bs m) (heard_cell p c) (max (low m (heard_cell p c)) (number_at bs (4 + c * 4)))) (heard_cell p j) 0 ≡ max (low m (heard_cell p j)) (number_at bs (4 + j * 4))) e
    (get_or-set_same (noted c p bs m) (heard_cell p c) (max (low m (heard_cell p c)) (number_at bs (4 + c * 4))) 0 (let f = noted-length c p bs m in omega arith)))
    (λ (e : c ≡ d → ⊥).
    get_or-set_other (noted c p bs m) (heard_cell p c) (heard_cell p d) (max (low m (heard_cell p c)) (number_at bs (4 + c * 4))) 0 (λ z. e (omega arith))
    ∙ noted_at c p bs m d (omega (arith, l)) (omega arith))
    (cases_eq c d)

larger-max : (a b : ℕ) → max a b ≡ larger a b
larger-max a b =
    ⊎_elim (λ (e : ltb a b ≡ true). rw e (let l = ltb-true a b e in omega arith)) (λ e. rw e (let l = ltb-false a b e in omega arith)) (cases_Bool (ltb a b))

low-max : (a b : ℕ) → b < 4294967296 → max (a % 4294967296) b % 4294967296 ≡ max (a % 4294967296) b
low-max a b h = omega arith

module _ {m : List ℕ} {log : List Op} {h : ℕ → ℕ → ℕ} (p : ℕ) (bs : List ℕ) (v : ℕ → ℕ) (k : Keeps m log h) (l : p < 32) (e : (d : ℕ) → d < 32 → number_at bs (4 + d * 4) ≡ v d) where
  heard-after : (q d : ℕ) → q < 32 → d < 32 → (q ≡ p) ⊎ (q ≡ p → ⊥) → low (noted 32 p bs m) (heard_cell q d) ≡ raised h p v q d
  unfolding raised
  heard-after q d a b (inl z) =
      let r = k.long in
      subst (λ (c : ℕ). low (noted 32 p bs m) (heard_cell c d) ≡ pick (eqb c p) (larger (h c d) (v d)) (h c d)) (sym z)
      (ap (λ n. n % 4294967296) (noted_at 32 p bs m d b (omega arith)) ∙ low-max (get_or m (heard_cell p d) 0) (number_at bs (4 + d * 4)) (number_small bs (4 + d * 4))
      ∙ ap₂ max (k.heard_is p d l b) (e d b) ∙ larger-max (h p d) (v d) ∙ ap (λ t. pick t (larger (h p d) (v d)) (h p d)) (sym (eq-eqb p p refl)))
  heard-after q d a b (inr z) =
      low_same m (noted 32 p bs m) (heard_cell q d) (noted_outside 32 p bs m (heard_cell q d) (outside (cases_order q p)))
      ∙ k.heard_is q d a b ∙ ap (λ t. pick t (larger (h q d) (v d)) (h q d)) (sym (ne_eqb q p z))
    where
      outside : (q ≡ p) ⊎ ((q < p) ⊎ (p < q)) → (heard_cell q d < heard_cell p 0) ⊎ (heard_cell p 32 ≤ heard_cell q d)
      outside (inl c) = absurd (z c)
      outside (inr (inl c)) = inl (omega arith)
      outside (inr (inr c)) = inr (omega arith)

  pub keeps_noted : Keeps (noted 32 p bs m) log (raised h p v)
  keeps_noted =
      record {
        long = noted-length 32 p bs m ∙ k.long;
        log_is =
            ops_of_same m (noted 32 p bs m) (noted_outside 32 p bs m length_cell (inl (omega arith))) (λ i a. noted_outside 32 p bs m i (inr (omega arith)))
            ∙ k.log_is;
        version_is = λ d a. low_same m (noted 32 p bs m) (version_cell d) (noted_outside 32 p bs m (version_cell d) (inl (omega arith))) ∙ k.version_is d a;
        made_is = λ d a. low_same m (noted 32 p bs m) (made_cell d) (noted_outside 32 p bs m (made_cell d) (inl (omega arith))) ∙ k.made_is d a;
        heard_is = λ q d a b. heard-after q d a b (cases_eq q p);
        small = k.small;
      }
