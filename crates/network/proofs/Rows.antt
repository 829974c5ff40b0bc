-- Desks in a row: the one at a place, one put in another's stead; and a row made of each number below n.
use Rattle.std.proofs.Common.{◌≡◌, ℕ, zero, suc, ◌<◌, List, [], ◌∷◌, ◌++◌, length, get_or, sym, refl, ap, ◌∙◌, inl, inr, ⊎_elim, arith, length-append}
use Rattle.std.proofs.lemmas.List.{get_or_append_left, get_or_push}
use Rattle.std.proofs.lemmas.Bool.{cases_lt}
use Rattle.ops.specs.Doc.{each}
use Rattle.ops.proofs.Members.{In, Sub, in_append, in_only}
use Rattle.desks.specs.Run.{Letter, Desk, no_desk, desk_at, with_desk, letter_at}
use Rattle.desks.specs.Promise.{up_to}

pub desk-here : (ds : List Desk) (i : ℕ) (x : Desk) → i < length ds → desk_at (with_desk ds i x) i ≡ x
unfolding desk_at with_desk
desk-here [] i x h = absurd (omega arith)
desk-here (d ∷ ds) zero x h = refl
desk-here (d ∷ ds) (suc i) x h = desk-here ds i x (omega arith)

pub desk-there : (ds : List Desk) (i : ℕ) (x : Desk) (k : ℕ) → (k ≡ i → ⊥) → desk_at (with_desk ds i x) k ≡ desk_at ds k
unfolding desk_at with_desk
desk-there [] i x k h = refl
desk-there (d ∷ ds) zero x zero h = absurd (h refl)
desk-there (d ∷ ds) zero x (suc k) h = refl
desk-there (d ∷ ds) (suc i) x zero h = refl
desk-there (d ∷ ds) (suc i) x (suc k) h = desk-there ds i x k (λ e. h (ap suc e))

pub desk-length : (ds : List Desk) (i : ℕ) (x : Desk) → length (with_desk ds i x) ≡ length ds
unfolding with_desk
desk-length [] i x = refl
desk-length (d ∷ ds) zero x = refl
desk-length (d ∷ ds) (suc i) x = ap suc (desk-length ds i x)

pub letter_at_in : (ls : List Letter) (k : ℕ) → Sub (letter_at ls k) ls
unfolding letter_at
letter_at_in [] k l h = absurd h
letter_at_in (x ∷ ls) zero l h = inl (in_only x l h)
letter_at_in (x ∷ ls) (suc k) l h = inr (letter_at_in ls k l h)

desk_getD : (ds : List Desk) (k : ℕ) → desk_at ds k ≡ get_or ds k no_desk
unfolding desk_at
desk_getD [] k = refl
desk_getD (d ∷ ds) zero = refl
desk_getD (d ∷ ds) (suc k) = desk_getD ds k

-- THE NUMBERS BELOW n
pub up_to_below : (n i : ℕ) → In i (up_to n) → i < n
unfolding up_to
up_to_below zero i h = absurd h
up_to_below (suc n) i h = ⊎_elim (λ k. let x = up_to_below n i k in omega arith) (λ k. let z = in_only n i k in omega arith) (in_append (up_to n) (n ∷ []) i h)

module _ {A : Type 0} (f : ℕ → A) where
  each_append : (xs : List ℕ) (y : ℕ) → each f (xs ++ y ∷ []) ≡ each f xs ++ f y ∷ []
  unfolding each
  each_append [] y = refl
  each_append (x ∷ xs) y = ap (λ l. f x ∷ l) (each_append xs y)

  each_none : each f (up_to 0) ≡ []
  unfolding up_to each
  each_none = refl

  each_more : (n : ℕ) → each f (up_to (suc n)) ≡ each f (up_to n) ++ f n ∷ []
  unfolding up_to
  each_more n = each_append (up_to n) n

  pub each-length : (n : ℕ) → length (each f (up_to n)) ≡ n
  each-length zero = ap length each_none
  each-length (suc n) = let ih = each-length n in ap length (each_more n) ∙ (length-append (each f (up_to n)) (f n ∷ []) ∙ omega arith)

  pub each_getD : (n k : ℕ) (d : A) → k < n → get_or (each f (up_to n)) k d ≡ f k
  each_getD zero k d h = absurd (omega arith)
  each_getD (suc n) k d h =
      let len = each-length n in
      ap (λ l. get_or l k d) (each_more n)
      ∙ ⊎_elim (λ l. get_or_append_left (each f (up_to n)) (f n ∷ []) d k (omega arith) ∙ each_getD n k d l)
      (λ l. let z : k ≡ n = omega arith in get_or_push (each f (up_to n)) (f n) d k (omega arith) ∙ ap f (sym z)) (cases_lt k n)

pub each_at : (f : ℕ → Desk) (n k : ℕ) → k < n → desk_at (each f (up_to n)) k ≡ f k
each_at f n k h = desk_getD (each f (up_to n)) k ∙ each_getD f n k no_desk h
