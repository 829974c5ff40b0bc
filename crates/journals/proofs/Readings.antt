-- What is read of bytes, test by test; and an entry that is read takes bytes, of those that there are.
use Rattle.std.proofs.Common.{◌≡◌, ℕ, ◌+◌, ◌-◌, ◌<◌, ◌≤◌, Bool, true, false, cond, ◌&&◌, eqb, leb, List, length, take, drop, Some, None, Option, sym, refl, ◌∙◌, inl, inr, arith}
use Rattle.std.proofs.lemmas.Bool.{eq-eqb, ne_eqb, lt-ltb, le-ltb, leb-true, and_parts, cases_lt, cases_Bool}
use Rattle.journals.specs.Bytes.{number_at, is_sealed}
use Rattle.journals.specs.Book.{Told, told_of, Ending, end, torn, damaged, Reading, entry, ended, length_of, of_length, next_of}

module _ (bs : List ℕ) where
  pub at_end : length bs ≡ 0 → next_of bs ≡ ended end
  unfolding next_of
  at_end h = rw (eq-eqb (length bs) 0 h)

  pub within-lengths : 0 < length bs → length bs < 4 → next_of bs ≡ ended torn
  unfolding next_of
  within-lengths some few = rw (ne_eqb (length bs) 0 (λ e. omega arith), lt-ltb (length bs) 4 few)

  pub past_lengths : 4 ≤ length bs → next_of bs ≡ of_length (length_of bs) bs
  unfolding next_of
  past_lengths h = rw (ne_eqb (length bs) 0 (λ e. omega arith), le-ltb (length bs) 4 h)

  module _ (n : ℕ) where
    pub within-entry : length bs < n + 8 → of_length (Some n) bs ≡ ended torn
    unfolding of_length
    within-entry h = rw (lt-ltb (length bs) (n + 8) h)

    pub not_sealed : n + 8 ≤ length bs → is_sealed (n + 4) bs ≡ false → of_length (Some n) bs ≡ ended damaged
    unfolding of_length
    not_sealed h s = rw (le-ltb (length bs) (n + 8) h, s)

    pub whole : n + 8 ≤ length bs → is_sealed (n + 4) bs ≡ true → of_length (Some n) bs ≡ entry (told_of (take n (drop 4 bs))) (n + 8)
    unfolding of_length
    whole h s = rw (le-ltb (length bs) (n + 8) h, s)

-- there are bodies of the length that is read
pub record Bounds (n : ℕ) : Type 0 where
  pub least : 17 ≤ n
  pub most : n ≤ 4113

pub length_bounds : (bs : List ℕ) (n : ℕ) → Some n ≡ length_of bs → Bounds n
unfolding length_of
length_bounds bs n h = go (eqb (number_at 2 2 bs) (65535 - m) && (leb 17 m && leb m 4113)) refl h
  where
    m : ℕ
    m = number_at 2 0 bs

    go : (t : Bool) → (eqb (number_at 2 2 bs) (65535 - m) && (leb 17 m && leb m 4113)) ≡ t → Some n ≡ cond t (Some m) None → Bounds n
    go true e f =
        let same : n ≡ m = cc in
        let both = and_parts (leb 17 m) (leb m 4113) (and_parts (eqb (number_at 2 2 bs) (65535 - m)) (leb 17 m && leb m 4113) e).1 in
        let low = leb-true 17 m both.0 in
        let high = leb-true m 4113 both.1 in
        record { least = omega arith; most = omega arith }
    go false e f = let z : ◌≡◌ {A = ℕ} 0 1 = cc in absurd (omega arith)

-- what is read takes bytes
no-entry : (x : Ending) (e : Told) (n : ℕ) (r : Reading) → r ≡ ended x → r ≡ entry e n → ⊥
no-entry x e n r p q = let z : ◌≡◌ {A = ℕ} 0 1 = cc in omega arith

same_size : (t e : Told) (m n : ℕ) (r : Reading) → r ≡ entry t m → r ≡ entry e n → m ≡ n
same_size t e m n r p q = cc

pub record Sized (bs : List ℕ) (n : ℕ) : Type 0 where
  pub some : 0 < n
  pub within : n ≤ length bs

module _ (bs : List ℕ) (e : Told) (n : ℕ) where
  sized_by : (o : Option ℕ) → of_length o bs ≡ entry e n → Sized bs n
  unfolding of_length
  sized_by None q = absurd (no-entry damaged e n _ refl q)
  sized_by (Some m) q =
      elim (cases_lt (length bs) (m + 8)) [
        | inl less ↦ absurd (no-entry torn e n _ (within-entry bs m less) q)
        | inr more ↦
            elim (cases_Bool (is_sealed (m + 4) bs)) [
              | inl right ↦ let s = same_size _ e (m + 8) n _ (whole bs m more right) q in record { some = omega arith; within = omega arith }
              | inr wrong ↦ absurd (no-entry damaged e n _ (not_sealed bs m more wrong) q)
            ]
      ]

  pub sized : next_of bs ≡ entry e n → Sized bs n
  sized q =
      elim (cases_lt (length bs) 4) [
        | inr long ↦ sized_by (length_of bs) (sym (past_lengths bs long) ∙ q)
        | inl short ↦
            elim (cases_lt 0 (length bs)) [
              | inl some ↦ absurd (no-entry torn e n _ (within-lengths bs some short) q)
              | inr none ↦ absurd (no-entry end e n _ (at_end bs (omega arith)) q)
            ]
      ]
