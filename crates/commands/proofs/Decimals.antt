-- A number as it is printed: a word that is read as the number.
use Rattle.std.proofs.Common.{◌≡◌, ℕ, ◌^◌, ◌<◌, true, List, [], ◌∷◌, ◌++◌, length, Some, None, decimal, Option, Result, sym, refl, ap, ◌∙◌, subst, arith, rules}
use Rattle.std.specs.Int.{IsInRange}
use Rattle.std.proofs.lemmas.Str.Ascii.{IsAscii-cons}
use Rattle.std.proofs.lemmas.Fmt.{decimal_nonempty, digits_decimal, digits_value-decimal, IsAscii-decimal}
use Rattle.std.proofs.lemmas.Str.Parse.{IsNumeralModel, numerals_by_fold, not_in_digits}
use Rattle.std.proofs.lemmas.Bool.{cond-true, and_from, lt-ltb}
use Rattle.std.proofs.lemmas.Str.{chars-IsAscii}
use Rattle.commands.specs.Words.{past_spaces}
use Rattle.commands.specs.Numbers.{all_digits, value_after, number_after, number_of, coded, only, or_else, sign_of}
use Rattle.commands.specs.Lines.{or_fault, a_number, a_sign}
use Rattle.commands.specs.Printed.{Lacks, Number}
use Rattle.commands.specs.declared.Fault.{Fault}
use Rattle.commands.specs.declared.Fault.TheVariants.{NotANumber, NotASign}
use Rattle.commands.proofs.Bytes.{lacks, lacks_tested, lacks_both, lacks-behind}
use Rattle.commands.proofs.Digits.{some_digits}
use Rattle.commands.proofs.Ends.{Closed, closed_word, starts, starts_word}
use Rattle.commands.proofs.Splits.{first_whole, rest_none, first_split, rest_split}

own : IsNumeralModel (λ ds. all_digits ds ≡ true) (value_after 0)
unfolding all_digits value_after
own = numerals_by_fold _ (search rules) value_after (search rules)

pub all-decimal : (n : ℕ) → Number n → all_digits (decimal n) ≡ true
all-decimal n h = digits_decimal own n h

pub decimal-lacks : (b n : ℕ) → (IsInRange 48 57 b → ⊥) → Number n → Lacks b (decimal n)
decimal-lacks b n other h = not_in_digits own (decimal n) b (all-decimal n h) other

pub decimal_word : (n : ℕ) → Number n → Lacks 32 (decimal n)
decimal_word n h = decimal-lacks 32 n (λ r. absurd (omega arith)) h

pub decimal_line : (n : ℕ) → Number n → Lacks 10 (decimal n)
decimal_line n h = decimal-lacks 10 n (λ r. absurd (omega arith)) h

-- a word, a number, and what follows them, with no line feed in any
pub line_behind : (n : ℕ) (word gap rest : List ℕ) → lacks 10 word ≡ true → lacks 10 gap ≡ true → Number n → Lacks 10 rest → Lacks 10 (word ++ (decimal n ++ (gap ++ rest)))
line_behind n word gap rest w g h r = lacks-behind 10 word _ w (lacks_both 10 (decimal n) _ (decimal_line n h) (lacks-behind 10 gap rest g r))

pub decimal-closed : (n : ℕ) → Number n → Closed (decimal n)
decimal-closed n h = closed_word (decimal n) (decimal_nonempty n h) (decimal_word n h)

pub decimal-alone : (n : ℕ) → Number n → past_spaces (decimal n) ≡ decimal n
decimal-alone n h = starts (decimal n) (decimal_word n h 0 (decimal_nonempty n h))

pub decimal_starts : (n : ℕ) (rest : List ℕ) → Number n → past_spaces (decimal n ++ rest) ≡ decimal n ++ rest
decimal_starts n rest h = starts_word (decimal n) rest (decimal_nonempty n h) (decimal_word n h)

pub number-decimal : (n : ℕ) → Number n → number_of (decimal n) ≡ Some n
unfolding number_after
number-decimal n h =
    let v : value_after 0 (decimal n) ≡ n = digits_value-decimal own n h in
    some_digits (decimal n) (decimal_nonempty n h)
    ∙ cond-true _ _ _ (and_from _ _ (all-decimal n h) (lt-ltb _ (2 ^ 64) (subst (λ (k : ℕ). k < 2 ^ 64) (sym v) h)))
    ∙ ap (λ (k : ℕ). Some k) v

two_chars : (c : ℕ) (cs : List ℕ) → 0 < length cs → only (c ∷ cs) ≡ None
unfolding only
two_chars c [] some = absurd (omega arith)
two_chars c (d ∷ cs) some = refl

-- # and a number has two characters or more, so it is not read as a character
pub sign_decimal : (n : ℕ) → Number n → sign_of (35 ∷ decimal n) ≡ Some n
unfolding sign_of or_else coded
sign_decimal n h =
    ap (λ (o : Option ℕ). or_else o (coded (35 ∷ decimal n)))
    (ap only (chars-IsAscii (35 ∷ decimal n) (IsAscii-cons 35 (decimal n) (omega arith) (IsAscii-decimal n h))) ∙ two_chars 35 (decimal n) (decimal_nonempty n h))
    ∙ number-decimal n h

module _ {A : Type 0} (f : ℕ → List ℕ → Result A Fault) where
  taken : (e : Fault) (o : Option ℕ) (n : ℕ) (rest left : List ℕ) → o ≡ Some n → rest ≡ left → or_fault e o (λ k. f k rest) ≡ f n left
  taken e o n rest left p q = ap (λ (x : Option ℕ). or_fault e x (λ k. f k rest)) p ∙ ap (f n) q

  pub number_then : (n : ℕ) (rest : List ℕ) → Number n → a_number (decimal n ++ 32 ∷ rest) f ≡ f n (past_spaces rest)
  number_then n rest h =
      taken NotANumber _ n _ _ (ap number_of (first_split (decimal n) rest (decimal_word n h)) ∙ number-decimal n h) (rest_split (decimal n) rest (decimal_word n h))

  pub number_last : (n : ℕ) → Number n → a_number (decimal n) f ≡ f n []
  number_last n h =
      taken NotANumber _ n _ _ (ap number_of (first_whole (decimal n) (decimal_word n h)) ∙ number-decimal n h) (rest_none (decimal n) (decimal_word n h))

  pub sign_last : (n : ℕ) → Number n → a_sign (35 ∷ decimal n) f ≡ f n []
  sign_last n h =
      let w : Lacks 32 (35 ∷ decimal n) = lacks_both 32 (35 ∷ []) (decimal n) (lacks_tested 32 (35 ∷ []) refl) (decimal_word n h) in
      taken NotASign _ n _ _ (ap sign_of (first_whole (35 ∷ decimal n) w) ∙ sign_decimal n h) (rest_none (35 ∷ decimal n) w)
