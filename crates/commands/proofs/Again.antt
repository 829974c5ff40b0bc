-- A command that is printed is one line, and is read again.
use Rattle.std.proofs.Common.{◌≡◌, ℕ, List, Some, Ok, codes, decimal, Result, refl, ap, ◌∙◌, arith}
use Rattle.commands.specs.Words.{past_spaces, up_to_spaces, first_of, rest_of}
use Rattle.commands.specs.Lines.{Said, insert, strike, write, add, show_text, show_key, send, read, with_ok, words_say, line_says}
use Rattle.commands.specs.Printed.{text_of, Lacks, Name, Sayable, ParsesBack}
use Rattle.commands.specs.declared.Fault.{Fault}
use Rattle.commands.proofs.Bytes.{lacks_tested, lacks-behind}
use Rattle.commands.proofs.Decimals.{decimal_line, decimal-closed, line_behind}
use Rattle.commands.proofs.Ends.{Closed, closed_last, closed_after, closed-behind}
use Rattle.commands.proofs.Behind.{reads_one, reads_two, reads_sign, reads_file}

name_closed : (file : List ℕ) → Name file → Closed file
name_closed file h = closed_last file h.0 h.1.last

pub text-closed : (s : Said) → Sayable s → Closed (text_of s)
unfolding up_to_spaces
text-closed (insert place sign) h = closed-behind (codes "i ") (decimal place) (codes " #") _ (decimal-closed sign h.1)
text-closed (strike place) h = closed_after (codes "s ") _ (decimal-closed place h)
text-closed (write key word) h = closed-behind (codes "w ") (decimal key) (codes " ") _ (decimal-closed word h.1)
text-closed (add key amount) h = closed-behind (codes "a ") (decimal key) (codes " ") _ (decimal-closed amount h.1)
text-closed show_text h = (omega arith, refl)
text-closed (show_key key) h = closed_after (codes "k ") _ (decimal-closed key h)
text-closed (send desk file) h = closed-behind (codes "send ") (decimal desk) (codes " ") _ (name_closed file h.1)
text-closed (read desk file) h = closed-behind (codes "read ") (decimal desk) (codes " ") _ (name_closed file h.1)

pub text_starts : (s : Said) → past_spaces (text_of s) ≡ text_of s
unfolding past_spaces
text_starts (insert place sign) = refl
text_starts (strike place) = refl
text_starts (write key word) = refl
text_starts (add key amount) = refl
text_starts show_text = refl
text_starts (show_key key) = refl
text_starts (send desk file) = refl
text_starts (read desk file) = refl

pub text_line : (s : Said) → Sayable s → Lacks 10 (text_of s)
text_line (insert place sign) h = line_behind place (codes "i ") (codes " #") _ refl refl h.0 (decimal_line sign h.1)
text_line (strike place) h = lacks-behind 10 (codes "s ") _ refl (decimal_line place h)
text_line (write key word) h = line_behind key (codes "w ") (codes " ") _ refl refl h.0 (decimal_line word h.1)
text_line (add key amount) h = line_behind key (codes "a ") (codes " ") _ refl refl h.0 (decimal_line amount h.1)
text_line show_text h = lacks_tested 10 (codes "t") refl
text_line (show_key key) h = lacks-behind 10 (codes "k ") _ refl (decimal_line key h)
text_line (send desk file) h = line_behind desk (codes "send ") (codes " ") file refl refl h.0 h.1.1.one_line
text_line (read desk file) h = line_behind desk (codes "read ") (codes " ") file refl refl h.0 h.1.1.one_line

-- what was read of a command's numbers, as the answer of the parser
answer : {A : Type 0} (f : A → Said) (r : Result A Fault) (a : A) → r ≡ Ok a → with_ok Some (with_ok f r) ≡ Ok (Some (f a))
answer f r a e = ap (λ x. with_ok Some (with_ok f x)) e

words_again : (s : Said) → Sayable s → words_say (text_of s) ≡ Ok (Some s)
unfolding first_of rest_of
words_again (insert place sign) h = answer (λ p. insert p.0 p.1) _ _ (reads_sign place sign h.0 h.1)
words_again (strike place) h = answer strike _ _ (reads_one place h)
words_again (write key word) h = answer (λ p. write p.0 p.1) _ _ (reads_two key word h.0 h.1)
words_again (add key amount) h = answer (λ p. add p.0 p.1) _ _ (reads_two key amount h.0 h.1)
words_again show_text h = refl
words_again (show_key key) h = answer show_key _ _ (reads_one key h)
words_again (send desk file) h = answer (λ p. send p.0 p.1) _ _ (reads_file desk file h.0 h.1)
words_again (read desk file) h = answer (λ p. read p.0 p.1) _ _ (reads_file desk file h.0 h.1)

pub line_again : (s : Said) → Sayable s → line_says (text_of s) ≡ Ok (Some s)
line_again s h = ap words_say (ap past_spaces (text-closed s h).1 ∙ text_starts s) ∙ words_again s h

pub again : ParsesBack
again s h = (line_again s h, text_line s h)
