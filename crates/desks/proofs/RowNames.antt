-- The newest of ids in a row, one further.
use Rattle.std.proofs.Common.{◌≡◌, ℕ, suc, ◌+◌, ◌-◌, ◌*◌, ◌/◌, ◌%◌, ◌<◌, ◌≤◌, true, false, List, [], ◌∷◌, length, get_or, drop, sym, refl, ap, ◌∙◌, add-zero, add-one, arith, get_or-drop, drop-drop, eq-eqb, ne_eqb}
use Rattle.ops.specs.Doc.{pick, Id, id, id_before}
use Rattle.desks.specs.Entry.{newest_at, newest_of, NewestSays, are_names, name_at}
use Rattle.desks.specs.declared.Reply.TheVariants.{At, None, Refused}

newest_on : (xs : List ℕ) (n p i : ℕ) (b : Id) → i < n → newest_at (n - i) p i b (drop (i * 2) xs) ≡ pick (id_before b (name_at xs i)) (newest_at (n - (i + 1)) i (i + 1) (name_at xs i) (drop ((i + 1) * 2) xs)) (newest_at (n - (i + 1)) p (i + 1) b (drop ((i + 1) * 2) xs))
unfolding newest_at
newest_on xs n p i b h =
    let e : n - i ≡ suc (n - (i + 1)) = omega arith in
    let f : drop 2 (drop (i * 2) xs) ≡ drop ((i + 1) * 2) xs = drop-drop 2 (i * 2) xs ∙ ap (λ k. drop k xs) (omega arith) in
    rw e (simp (f, get_or-drop, add-zero, add-one))

-- the loop's fact
abbrev pub Sofar : List ℕ → ℕ → ℕ → Type 0
Sofar xs p i =
    (newest_at (length xs / 2 - i) p i (name_at xs p) (drop (i * 2) xs) ≡ newest_at (length xs / 2 - 1) 0 1 (name_at xs 0) (drop 2 xs)) × (1 ≤ i) × (p < i)

pub sofar_newer : (xs : List ℕ) (p i : ℕ) → i < length xs / 2 → Sofar xs p i → true ≡ id_before (name_at xs p) (name_at xs i) → Sofar xs i (i + 1)
sofar_newer xs p i h s e = (sym (newest_on xs (length xs / 2) p i (name_at xs p) h ∙ simp (sym e)) ∙ s.0, omega arith, omega arith)

pub sofar_older : (xs : List ℕ) (p i : ℕ) → i < length xs / 2 → Sofar xs p i → false ≡ id_before (name_at xs p) (name_at xs i) → Sofar xs p (i + 1)
sofar_older xs p i h s e = (sym (newest_on xs (length xs / 2) p i (name_at xs p) h ∙ simp (sym e)) ∙ s.0, omega arith, omega arith)

pub sofar_at : (xs : List ℕ) (p q i : ℕ) → q ≡ p → Sofar xs p i → Sofar xs q i
sofar_at xs p q i e s = rw e s

-- the ends
pub odd_names : (xs : List ℕ) → (length xs % 2 ≡ 0 → ⊥) → NewestSays xs (are_names xs) (Refused 1)
unfolding NewestSays
odd_names xs h = rw (ne_eqb _ _ h) refl

pub no_names : (xs : List ℕ) → length xs ≡ 0 → NewestSays xs (are_names xs) None
unfolding NewestSays newest_of
no_names [] h = refl
no_names (x ∷ xs) h = absurd (omega arith)

pub some_names : (xs : List ℕ) (p i : ℕ) → length xs % 2 ≡ 0 → (length xs ≡ 0 → ⊥) → length xs / 2 ≤ i → i ≤ length xs / 2 → Sofar xs p i → NewestSays xs (are_names xs) (At p)
unfolding NewestSays newest_of
some_names [] p i e h j k s = absurd (h refl)
some_names (x ∷ xs) p i e h j k s =
    let z : length (x ∷ xs) / 2 - i ≡ 0 = omega arith in
    let y : length (x ∷ xs) / 2 - 1 ≡ length xs / 2 = omega arith in
    rw (eq-eqb _ _ e) (ap At (last z (rw y at s.0)))
  where
    last : length (x ∷ xs) / 2 - i ≡ 0 → newest_at (length (x ∷ xs) / 2 - i) p i (name_at (x ∷ xs) p) (drop (i * 2) (x ∷ xs)) ≡ newest_at (length xs / 2) 0 1 (name_at (x ∷ xs) 0) (drop 2 (x ∷ xs)) → p ≡ newest_at (length xs / 2) 0 1 (id x (get_or xs 0 0)) (drop 1 xs)
    last z q = unfold newest_at in (rw z at q)
