-- A byte that a text lacks.
use Rattle.std.proofs.Common.{◌≡◌, ℕ, zero, suc, Bool, true, not, ◌&&◌, eqb, List, [], ◌∷◌, ◌++◌, arith}
use Rattle.std.proofs.lemmas.Bool.{and_parts, not-true, eqb-false}
use Rattle.commands.specs.Printed.{Lacks}

abbrev pub lacks : ℕ → List ℕ → Bool
lacks b [] = true
lacks b (x ∷ xs) = not (eqb x b) && lacks b xs

-- a literal is tried by computing
pub lacks_tested : (b : ℕ) (xs : List ℕ) → lacks b xs ≡ true → Lacks b xs
lacks_tested b [] h i lt e = absurd (omega arith)
lacks_tested b (x ∷ xs) h zero lt e = eqb-false x b (not-true _ (and_parts _ _ h).0) e
lacks_tested b (x ∷ xs) h (suc i) lt e = lacks_tested b xs (and_parts _ _ h).1 i (omega arith) e

lacks-later : (b x : ℕ) (xs : List ℕ) → Lacks b (x ∷ xs) → Lacks b xs
lacks-later b x xs h i lt e = h (suc i) (omega arith) e

pub lacks_both : (b : ℕ) (xs ys : List ℕ) → Lacks b xs → Lacks b ys → Lacks b (xs ++ ys)
lacks_both b [] ys p q i lt e = q i lt e
lacks_both b (x ∷ xs) ys p q zero lt e = p 0 (omega arith) e
lacks_both b (x ∷ xs) ys p q (suc i) lt e = lacks_both b xs ys (lacks-later b x xs p) q i (omega arith) e

pub lacks-behind : (b : ℕ) (word rest : List ℕ) → lacks b word ≡ true → Lacks b rest → Lacks b (word ++ rest)
lacks-behind b word rest t h = lacks_both b word rest (lacks_tested b word t) h
