-- What is printed behind a word is read again.
use Rattle.std.proofs.Common.{◌≡◌, ℕ, ◌<◌, List, [], ◌∷◌, ◌++◌, length, Ok, decimal, refl, ap, ◌∙◌, arith}
use Rattle.commands.specs.Words.{past_spaces}
use Rattle.commands.specs.Lines.{a_number, a_sign, ended, named, one_number, two_numbers, number_and_sign, number_and_file}
use Rattle.commands.specs.Printed.{Number, Name}
use Rattle.commands.proofs.Decimals.{decimal-alone, decimal_starts, number_then, number_last, sign_last}
use Rattle.commands.proofs.Ends.{starts}

pub reads_one : (n : ℕ) → Number n → one_number (past_spaces (decimal n)) ≡ Ok n
reads_one n h = ap one_number (decimal-alone n h) ∙ number_last ended n h

pub reads_two : (m n : ℕ) → Number m → Number n → two_numbers (past_spaces (decimal m ++ 32 ∷ decimal n)) ≡ Ok (m, n)
reads_two m n p q =
    ap two_numbers (decimal_starts m (32 ∷ decimal n) p) ∙ number_then (λ k rest. a_number rest (λ l. ended (k, l))) m (decimal n) p
    ∙ ap (λ (rest : List ℕ). a_number rest (λ l. ended (m, l))) (decimal-alone n q) ∙ number_last (λ l. ended (m, l)) n q

pub reads_sign : (m n : ℕ) → Number m → Number n → number_and_sign (past_spaces (decimal m ++ 32 ∷ 35 ∷ decimal n)) ≡ Ok (m, n)
reads_sign m n p q =
    ap number_and_sign (decimal_starts m (32 ∷ 35 ∷ decimal n) p) ∙ number_then (λ k rest. a_sign rest (λ l. ended (k, l))) m (35 ∷ decimal n) p
    ∙ ap (λ (rest : List ℕ). a_sign rest (λ l. ended (m, l))) (starts (35 ∷ decimal n) (λ e. absurd (omega arith))) ∙ sign_last (λ l. ended (m, l)) n q

is_named : (n : ℕ) (file : List ℕ) → 0 < length file → named n file ≡ Ok (n, file)
is_named n [] some = absurd (omega arith)
is_named n (b ∷ bs) some = refl

pub reads_file : (n : ℕ) (file : List ℕ) → Number n → Name file → number_and_file (past_spaces (decimal n ++ 32 ∷ file)) ≡ Ok (n, file)
reads_file n file p q =
    ap number_and_file (decimal_starts n (32 ∷ file) p) ∙ number_then named n file p ∙ ap (named n) (starts file q.1.first) ∙ is_named n file q.0
