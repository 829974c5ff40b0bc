-- A text that has no spaces at its start, or none at its end.
use Rattle.std.proofs.Common.{◌≡◌, ℕ, ◌-◌, ◌<◌, cond, ◌&&◌, eqb, List, [], ◌∷◌, ◌++◌, length, get_or, ap, ◌∙◌, arith, length-append}
use lib.Seq.{get_or_at}
use Rattle.commands.specs.Words.{past_spaces, up_to_spaces}
use Rattle.commands.specs.Printed.{Lacks}
use Rattle.commands.proofs.Spaces.{no_space, kept, no_end}

pub starts : (bs : List ℕ) → (get_or bs 0 0 ≡ 32 → ⊥) → past_spaces bs ≡ bs
starts bs h = no_space bs (λ rest e. h (ap (λ (l : List ℕ). get_or l 0 0) e))

pub starts_word : (xs ys : List ℕ) → 0 < length xs → Lacks 32 xs → past_spaces (xs ++ ys) ≡ xs ++ ys
starts_word [] ys some h = absurd (omega arith)
starts_word (x ∷ xs) ys some h = starts (x ∷ (xs ++ ys)) (h 0 (omega arith))

last_space : (front : List ℕ) → get_or (front ++ 32 ∷ []) (length (front ++ 32 ∷ []) - 1) 0 ≡ 32
last_space front = get_or_at front 32 [] 0 _ (omega (arith, length-append front (32 ∷ [])))

-- a text that is not empty, and has no space at its end
abbrev pub Closed : List ℕ → Type 0
Closed bs = (0 < length bs) × (up_to_spaces bs ≡ bs)

pub closed_last : (bs : List ℕ) → 0 < length bs → (get_or bs (length bs - 1) 0 ≡ 32 → ⊥) → Closed bs
closed_last bs some h = (some, no_end bs (λ front e. h (ap (λ (l : List ℕ). get_or l (length l - 1) 0) e ∙ last_space front)))

pub closed_word : (bs : List ℕ) → 0 < length bs → Lacks 32 bs → Closed bs
closed_word bs some h = closed_last bs some (h (length bs - 1) (omega arith))

pub closed_after : (xs ys : List ℕ) → Closed ys → Closed (xs ++ ys)
unfolding up_to_spaces
closed_after [] ys h = h
closed_after (x ∷ xs) ys h =
    let t = closed_after xs ys h in
    (omega arith, ap (λ (l : List ℕ). cond (eqb x 32 && eqb (length l) 0) [] (x ∷ l)) t.1 ∙ kept x (xs ++ ys) (λ none e. absurd (omega (arith, t.0, ap length none))))

pub closed-behind : (word number gap rest : List ℕ) → Closed rest → Closed (word ++ (number ++ (gap ++ rest)))
closed-behind word number gap rest h = closed_after word _ (closed_after number _ (closed_after gap rest h))
