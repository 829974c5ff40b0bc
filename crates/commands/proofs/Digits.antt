-- A number that is read digit by digit.
use Rattle.std.proofs.Common.{◌≡◌, ℕ, ◌+◌, ◌-◌, ◌*◌, ◌^◌, ◌<◌, ◌≤◌, true, false, cond, ◌&&◌, ltb, List, [], ◌∷◌, length, get_or, drop, Some, None, sym, refl, ap, ◌∙◌, ⊎_elim, add-one, arith, drop_of_length-le, drop-cons}
use Rattle.std.specs.Char.{is_ascii_digit}
use Rattle.std.proofs.lemmas.Bool.{cond-true, cond-false, and_left, and_right, le-ltb, lt-ltb, cases_lt, cases_Bool}
use Rattle.commands.specs.Numbers.{all_digits, value_after, number_after, number_of}

pub after_digit : (n b : ℕ) (bs : List ℕ) → is_ascii_digit b ≡ true → number_after n (b ∷ bs) ≡ number_after (n * 10 + (b - 48)) bs
unfolding number_after all_digits value_after
after_digit n b bs e = ap (λ t. cond (t && all_digits bs && ltb (value_after (n * 10 + (b - 48)) bs) (2 ^ 64)) (Some (value_after (n * 10 + (b - 48)) bs)) None) e

value_grows : (n : ℕ) (bs : List ℕ) → n ≤ value_after n bs
unfolding value_after
value_grows n [] = omega arith
value_grows n (b ∷ bs) = omega (arith, value_grows (n * 10 + (b - 48)) bs)

pub no_digit : (n b : ℕ) (bs : List ℕ) → is_ascii_digit b ≡ false → number_after n (b ∷ bs) ≡ None
unfolding number_after all_digits
no_digit n b bs e = cond-false _ _ _ (and_left _ _ (and_left (is_ascii_digit b) _ e))

pub no_room : (n b : ℕ) (bs : List ℕ) → 2 ^ 64 ≤ n * 10 + (b - 48) → number_after n (b ∷ bs) ≡ None
unfolding number_after value_after
no_room n b bs h = cond-false _ _ _ (and_right _ _ (le-ltb (value_after (n * 10 + (b - 48)) bs) (2 ^ 64) (omega (arith, value_grows (n * 10 + (b - 48)) bs))))

pub no_more : (n : ℕ) → n < 2 ^ 64 → number_after n [] ≡ Some n
unfolding number_after all_digits value_after
no_more n h = cond-true _ _ _ (lt-ltb n (2 ^ 64) h)

pub some_digits : (bs : List ℕ) → 0 < length bs → number_of bs ≡ number_after 0 bs
unfolding number_of
some_digits [] h = absurd (omega arith)
some_digits (b ∷ bs) h = refl

pub no_digits : (bs : List ℕ) → length bs ≡ 0 → number_of bs ≡ None
unfolding number_of
no_digits [] h = refl
no_digits (b ∷ bs) h = absurd (omega arith)

here : (bs : List ℕ) (i : ℕ) → i < length bs → drop i bs ≡ get_or bs i 0 ∷ drop (i + 1) bs
here bs i lt = rw add-one (drop-cons bs i 0 lt)

abbrev pub Room : ℕ → ℕ → Type 0
Room n b = (is_ascii_digit b ≡ true) × (n * 10 + (b - 48) < 2 ^ 64)

refused : (n b : ℕ) (bs : List ℕ) → (Room n b → ⊥) → number_after n (b ∷ bs) ≡ None
refused n b bs h =
    ⊎_elim
    (λ e. ⊎_elim (λ lt. absurd (h (e, lt))) (λ ge. no_room n b bs ge) (cases_lt (n * 10 + (b - 48)) (2 ^ 64)))
    (λ e. no_digit n b bs e)
    (cases_Bool (is_ascii_digit b))

pub read_on : (bs : List ℕ) (n m i : ℕ) → i < length bs → Room n (get_or bs i 0) × (m ≡ n * 10 + (get_or bs i 0 - 48)) → number_after n (drop i bs) ≡ number_after 0 bs → number_after m (drop (i + 1) bs) ≡ number_after 0 bs
read_on bs n m i lt h inv =
    ap (λ (k : ℕ). number_after k (drop (i + 1) bs)) h.1 ∙ sym (after_digit n (get_or bs i 0) (drop (i + 1) bs) h.0.0)
    ∙ ap (number_after n) (sym (here bs i lt)) ∙ inv

pub read-no_more : (bs : List ℕ) (n i : ℕ) → i < length bs → (Room n (get_or bs i 0) → ⊥) → number_after n (drop i bs) ≡ number_after 0 bs → None ≡ number_of bs
read-no_more bs n i lt h inv =
    sym (some_digits bs (omega arith) ∙ sym inv ∙ ap (number_after n) (here bs i lt) ∙ refused n (get_or bs i 0) (drop (i + 1) bs) h)

pub read_all : (bs : List ℕ) (n i : ℕ) → length bs ≤ i → (length bs ≡ 0 → ⊥) → n < 2 ^ 64 → number_after n (drop i bs) ≡ number_after 0 bs → Some n ≡ number_of bs
read_all bs n i end some fits inv =
    sym (some_digits bs (omega arith) ∙ sym inv ∙ ap (number_after n) (drop_of_length-le bs end) ∙ no_more n fits)
