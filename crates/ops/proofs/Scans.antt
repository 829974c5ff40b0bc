-- A log read from its beginning, one operation further: what the paper's functions on lists make of one more at the end.
use Rattle.std.proofs.Common.{◌≡◌, ℕ, suc, ◌+◌, ◌<◌, ◌≤◌, Bool, true, false, List, [], ◌∷◌, ◌++◌, length, drop, sym, refl, ap, ◌∙◌, add-one, arith}
use Rattle.ops.proofs.Grown.{length-grown, drop-grown, drop-grown_all}
use Rattle.ops.specs.Doc as doc
use Rattle.ops.specs.Doc.{pick, those, added_up}
use Rattle.ops.specs.Log.{op_at, firsts, kept, ops_of}

pub those_more : {A : Type 0} (f : A → Bool) (xs : List A) (o : A) → those f (xs ++ o ∷ []) ≡ those f xs ++ pick (f o) (o ∷ []) []
unfolding those
those_more f [] o = refl
those_more {A} f (x ∷ xs) o = rw (those_more f xs o) (go (f x))
  where
    go : (t : Bool) → pick t (x ∷ (those f xs ++ pick (f o) (o ∷ []) [])) (those f xs ++ pick (f o) (o ∷ []) []) ≡ pick t (x ∷ those f xs) (those f xs) ++ pick (f o) (o ∷ []) []
    go true = refl
    go false = refl

pub firsts_more : (k : ℕ) (m : List ℕ) → firsts (k + 1) m ≡ firsts k m ++ op_at m k ∷ []
unfolding firsts
firsts_more k m = rw add-one

pub firsts_none : (m : List ℕ) → firsts 0 m ≡ []
unfolding firsts
firsts_none m = refl

firsts-next : (m : List ℕ) (k : ℕ) → firsts (suc k) m ≡ firsts k m ++ op_at m k ∷ []
unfolding firsts
firsts-next m k = refl

pub length-firsts : (k : ℕ) (m : List ℕ) → length (firsts k m) ≡ k
length-firsts k m = length-grown (op_at m) (λ n. firsts n m) (firsts_none m) (firsts-next m) k

pub kept_few : (m : List ℕ) → kept m ≤ 8192
unfolding kept
kept_few m = omega arith

-- what is left of a log from a place on
pub left_more : (m : List ℕ) (k : ℕ) (o : doc.Op) → k < kept m → o ≡ op_at m k → drop k (ops_of m) ≡ o ∷ drop (k + 1) (ops_of m)
unfolding ops_of
left_more m k o h e =
    drop-grown (op_at m) (λ n. firsts n m) (firsts_none m) (firsts-next m) (kept m) k h ∙ ap (λ p. p ∷ drop (k + 1) (ops_of m)) (sym e)

pub left_none : (m : List ℕ) (k : ℕ) → kept m ≤ k → drop k (ops_of m) ≡ []
unfolding ops_of
left_none m k h = drop-grown_all (op_at m) (λ n. firsts n m) (firsts_none m) (firsts-next m) (kept m) k h
