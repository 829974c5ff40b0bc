-- A text with its spaces peeled off, from the start or from the end.
use Rattle.std.proofs.Common.{◌≡◌, ℕ, ◌-◌, cond, ◌&&◌, eqb, List, [], ◌∷◌, ◌++◌, length, take, drop, IfSome, Some, None, Option, sym, refl, ap, ◌∙◌, arith, lit<, take-append-drop}
use lib.Seq.{drop-length}
use Rattle.std.specs.Str.Pattern.{HasCharAt, FindsCharPrefix, FindsCharSuffix, CutsPrefixes, CutsSuffixes, IsTrimStartMatches, IsTrimEndMatches}
use Rattle.std.proofs.lemmas.Str.Pattern.{drop_at_char}
use Rattle.std.proofs.lemmas.Bool.{cond-false, and_left, and_right, ne_eqb}
use Rattle.std.proofs.lemmas.Str.{encode_ascii}
use Rattle.commands.specs.Words.{past_spaces, up_to_spaces}

one_past : (m : List ℕ) (n : ℕ) → HasCharAt 32 m 0 n → past_spaces m ≡ past_spaces (drop n m)
unfolding past_spaces
one_past m n at = ap past_spaces (drop_at_char 32 m 0 n at (lit< tt))

all_past : (s ns r : List ℕ) → CutsPrefixes (FindsCharPrefix 32) s ns r → past_spaces s ≡ past_spaces r
all_past s [] r h = ap past_spaces (sym h)
all_past s (n ∷ ns) r h = all_past s ns h.0 h.1 ∙ one_past h.0 n h.2 ∙ ap past_spaces (sym h.3)

pub no_space : (r : List ℕ) → ((rest : List ℕ) → r ≡ 32 ∷ rest → ⊥) → past_spaces r ≡ r
unfolding past_spaces
no_space [] h = refl
no_space (b ∷ bs) h = cond-false (eqb b 32) (past_spaces bs) (b ∷ bs) (ne_eqb b 32 (λ e. h bs (ap (λ (x : ℕ). x ∷ bs) e)))

stops : (r : List ℕ) (o : Option ℕ) → FindsCharPrefix 32 r o → IfSome o (λ n. n ≡ 0) → past_spaces r ≡ r
stops r None h u = no_space r (λ rest e. h rest (e ∙ ap (λ (l : List ℕ). l ++ rest) (sym (encode_ascii 32 (lit< tt)))))
stops r (Some n) h e = let w : n ≡ 1 = h.ends in absurd (omega arith)

pub peeled_spaces : (s r : List ℕ) → IsTrimStartMatches (FindsCharPrefix 32) s r → r ≡ past_spaces s
peeled_spaces s r h = sym (all_past s h.0.0 r h.0.1 ∙ stops r h.1.0 h.1.1 h.1.2)

one_more : (r : List ℕ) → up_to_spaces (r ++ 32 ∷ []) ≡ up_to_spaces r
unfolding up_to_spaces
one_more [] = refl
one_more (b ∷ bs) = ap (λ (x : List ℕ). cond (eqb b 32 && eqb (length x) 0) [] (b ∷ x)) (one_more bs)

one_off : (m : List ℕ) (n : ℕ) → HasCharAt 32 m (length m - n) (length m) → up_to_spaces m ≡ up_to_spaces (take (length m - n) m)
one_off m n at =
    let end : drop (length m - n) m ≡ 32 ∷ [] = drop_at_char 32 m (length m - n) (length m) at (lit< tt) ∙ ap (λ (l : List ℕ). 32 ∷ l) (drop-length m) in
    ap up_to_spaces (sym (take-append-drop (length m - n) m) ∙ ap (λ (l : List ℕ). take (length m - n) m ++ l) end) ∙ one_more (take (length m - n) m)

all_off : (s ns r : List ℕ) → CutsSuffixes (FindsCharSuffix 32) s ns r → up_to_spaces s ≡ up_to_spaces r
all_off s [] r h = ap up_to_spaces (sym h)
all_off s (n ∷ ns) r h = all_off s ns h.0 h.1 ∙ one_off h.0 n h.2.1 ∙ ap up_to_spaces (sym h.3)

pub kept : (b : ℕ) (bs : List ℕ) → (bs ≡ [] → b ≡ 32 → ⊥) → cond (eqb b 32 && eqb (length bs) 0) [] (b ∷ bs) ≡ b ∷ bs
kept b [] h = cond-false _ _ _ (and_left (eqb b 32) _ (ne_eqb b 32 (h refl)))
kept b (d ∷ ds) h = cond-false _ _ _ (and_right (eqb b 32) _ (ne_eqb (length (d ∷ ds)) 0 (λ e. absurd (omega arith))))

pub no_end : (r : List ℕ) → ((front : List ℕ) → r ≡ front ++ 32 ∷ [] → ⊥) → up_to_spaces r ≡ r
unfolding up_to_spaces
no_end [] h = refl
no_end (b ∷ bs) h =
    ap (λ (x : List ℕ). cond (eqb b 32 && eqb (length x) 0) [] (b ∷ x)) (no_end bs (λ front e. h (b ∷ front) (ap (λ (l : List ℕ). b ∷ l) e)))
    ∙ kept b bs (λ none e. h [] (ap (λ (x : ℕ). x ∷ bs) e ∙ ap (λ (l : List ℕ). 32 ∷ l) none))

stops_back : (r : List ℕ) (o : Option ℕ) → FindsCharSuffix 32 r o → IfSome o (λ n. n ≡ 0) → up_to_spaces r ≡ r
stops_back r None h u = no_end r (λ front e. h front (e ∙ ap (λ (l : List ℕ). front ++ l) (sym (encode_ascii 32 (lit< tt)))))
stops_back r (Some n) h e = let w : n ≡ 1 = h.0 in absurd (omega arith)

pub peeled_back_spaces : (s r : List ℕ) → IsTrimEndMatches (FindsCharSuffix 32) s r → r ≡ up_to_spaces s
peeled_back_spaces s r h = sym (all_off s h.0.0 r h.0.1 ∙ stops_back r h.1.0 h.1.1 h.1.2)
