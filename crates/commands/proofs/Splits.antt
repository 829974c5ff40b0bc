-- A text that is split at its first space.
use Rattle.std.proofs.Common.{◌≡◌, ℕ, suc, false, eqb, List, [], ◌∷◌, ◌++◌, sym, refl, ap, ◌∙◌, arith}
use Rattle.std.proofs.lemmas.Bool.{cond-false, ne_eqb}
use Rattle.commands.specs.Words.{past_spaces, first_of, rest_of}
use Rattle.commands.specs.Printed.{Lacks}

head : (b : ℕ) (bs : List ℕ) → Lacks 32 (b ∷ bs) → eqb b 32 ≡ false
head b bs h = ne_eqb b 32 (λ e. h 0 (omega arith) e)

tail : (b : ℕ) (bs : List ℕ) → Lacks 32 (b ∷ bs) → Lacks 32 bs
tail b bs h i lt e = h (suc i) (omega arith) e

pub first_whole : (bs : List ℕ) → Lacks 32 bs → first_of bs ≡ bs
unfolding first_of
first_whole [] h = refl
first_whole (b ∷ bs) h = cond-false (eqb b 32) [] _ (head b bs h) ∙ ap (λ (l : List ℕ). b ∷ l) (first_whole bs (tail b bs h))

pub rest_none : (bs : List ℕ) → Lacks 32 bs → rest_of bs ≡ []
unfolding rest_of
rest_none [] h = refl
rest_none (b ∷ bs) h = cond-false (eqb b 32) _ _ (head b bs h) ∙ rest_none bs (tail b bs h)

pub first_split : (xs ys : List ℕ) → Lacks 32 xs → first_of (xs ++ 32 ∷ ys) ≡ xs
unfolding first_of
first_split [] ys h = refl
first_split (b ∷ bs) ys h = cond-false (eqb b 32) [] _ (head b bs h) ∙ ap (λ (l : List ℕ). b ∷ l) (first_split bs ys (tail b bs h))

pub rest_split : (xs ys : List ℕ) → Lacks 32 xs → rest_of (xs ++ 32 ∷ ys) ≡ past_spaces ys
unfolding rest_of
rest_split [] ys h = refl
rest_split (b ∷ bs) ys h = cond-false (eqb b 32) _ _ (head b bs h) ∙ rest_split bs ys (tail b bs h)

pub split_some : (bs xs ys : List ℕ) → bs ≡ xs ++ 32 ∷ ys → Lacks 32 xs → (xs ≡ first_of bs) × (past_spaces ys ≡ rest_of bs)
split_some bs xs ys e h = (sym (ap first_of e ∙ first_split xs ys h), sym (ap rest_of e ∙ rest_split xs ys h))
