-- A line that is printed is one line, and is read again.
use Rattle.std.proofs.Common.{◌≡◌, ℕ, false, List, [], ◌∷◌, ◌++◌, length, get_or, Ok, codes, decimal, Option, Result, sym, refl, ap, ◌∙◌, arith, length-append}
use lib.ListN.{get_or-append}
use Rattle.std.proofs.lemmas.Fmt.{decimal_nonempty}
use Rattle.std.proofs.lemmas.Bool.{false≢true}
use Rattle.commands.specs.Words.{past_spaces, up_to_spaces, first_of, rest_of}
use Rattle.commands.specs.Numbers.{all_digits}
use Rattle.commands.specs.Lines.{Said, with_ok, or_fault, line_says}
use Rattle.commands.specs.Printed.{text_of, Lacks, Ending, Number, Sayable}
use Rattle.commands.specs.declared.Fault.{Fault}
use Rattle.commands.specs.declared.Fault.TheVariants.{NotACommand}
use Rattle.commands.proofs.Again.{text-closed, text_starts, text_line, line_again}
use Rattle.commands.proofs.Behind.{reads_one, reads_two}
use Rattle.commands.proofs.Bytes.{lacks_tested, lacks-behind}
use Rattle.commands.proofs.Decimals.{all-decimal, decimal-lacks, decimal_word, decimal_line, decimal-closed, decimal-alone, decimal_starts, number-decimal, line_behind, number_then, number_last}
use Rattle.commands.proofs.Ends.{closed_last, closed_after, closed-behind, starts}
use Rattle.commands.proofs.Splits.{first_split, rest_split}
use Rattle.sessions.specs.Session.{Noted, nothing, version, at, meet, expect, number_and_rest, commanded, at_desk, words_note, text_notes}
use Rattle.sessions.specs.Shown.{line_of, Notable, ReadsBack}
use Rattle.sessions.proofs.Notes.{Unlike, not_a_word, some_words}

-- a desk's number is none of the words that begin a line
no_word : (n : ℕ) (w : List ℕ) → Number n → all_digits w ≡ false → Unlike (decimal n) w
no_word n w h letters e = false≢true (sym letters ∙ ap all_digits (sym e) ∙ all-decimal n h)

desk_word : (desk : ℕ) (text : List ℕ) → Number desk → words_note (decimal desk) text ≡ at_desk (decimal desk) text
unfolding all_digits
desk_word desk text h = sym (not_a_word (decimal desk) text (no_word desk (codes "session") h refl) (no_word desk (codes "meet") h refl) (no_word desk (codes "expect") h refl))

desk_command : (desk : ℕ) (s : Said) → Number desk → Sayable s → at_desk (decimal desk) (text_of s) ≡ Ok (at desk s)
desk_command desk s h k =
    ap (λ (o : Option ℕ). or_fault NotACommand o (λ n. commanded n (line_says (text_of s)))) (number-decimal desk h) ∙ ap (commanded desk) (line_again s k)

desk_some : (desk : ℕ) (rest : List ℕ) → Number desk → length (decimal desk ++ rest) ≡ 0 → ⊥
desk_some desk rest h e = absurd (omega (arith, length-append (decimal desk) rest, decimal_nonempty desk h))

desk_plain : (desk : ℕ) (rest : List ℕ) → Number desk → get_or (decimal desk ++ rest) 0 0 ≡ 35 → ⊥
desk_plain desk rest h e =
    decimal-lacks 35 desk (λ r. absurd (omega arith)) h 0 (decimal_nonempty desk h) (sym (get_or-append (decimal desk) rest 0 0 (decimal_nonempty desk h)) ∙ e)

desk_again : (desk : ℕ) (s : Said) → Number desk → Sayable s → text_notes (line_of (at desk s)) ≡ Ok (at desk s)
desk_again desk s h k =
    let text : List ℕ = text_of s in
    sym (some_words (decimal desk ++ 32 ∷ text) (desk_some desk (32 ∷ text) h) (desk_plain desk (32 ∷ text) h))
    ∙ ap (λ (w : List ℕ). words_note w (rest_of (decimal desk ++ 32 ∷ text))) (first_split (decimal desk) text (decimal_word desk h))
    ∙ ap (words_note (decimal desk)) (rest_split (decimal desk) text (decimal_word desk h) ∙ text_starts s)
    ∙ desk_word desk text h ∙ desk_command desk s h k

reads_alone : (n : ℕ) → Number n → number_and_rest (past_spaces (decimal n)) ≡ Ok (n, [])
reads_alone n h = ap number_and_rest (decimal-alone n h) ∙ number_last (λ k rest. Ok (k, rest)) n h

reads_rest : (n : ℕ) (text : List ℕ) → Number n → Ending text → number_and_rest (past_spaces (decimal n ++ 32 ∷ text)) ≡ Ok (n, text)
reads_rest n text h t =
    ap number_and_rest (decimal_starts n (32 ∷ text) h) ∙ number_then (λ k rest. Ok (k, rest)) n text h ∙ ap (λ (l : List ℕ). Ok (n, l)) (starts text t.first)

-- what was read behind a word, as the answer of the parser
answer : {A : Type 0} (f : A → Noted) (r : Result A Fault) (a : A) → r ≡ Ok a → with_ok f r ≡ Ok (f a)
answer f r a e = ap (with_ok f) e

notes_again : (n : Noted) → Notable n → text_notes (line_of n) ≡ Ok n
unfolding first_of rest_of
notes_again nothing h = refl
notes_again (version number) h = answer version _ _ (reads_one number h)
notes_again (at desk s) h = desk_again desk s h.0 h.1
notes_again (meet one other) h = answer (λ p. meet p.0 p.1) _ _ (reads_two one other h.0 h.1)
notes_again (expect desk []) h = answer (λ p. expect p.0 p.1) _ _ (reads_alone desk h.0)
notes_again (expect desk (b ∷ bs)) h = answer (λ p. expect p.0 p.1) _ _ (reads_rest desk (b ∷ bs) h.0 h.1)

line_starts : (n : Noted) → Notable n → past_spaces (line_of n) ≡ line_of n
unfolding past_spaces
line_starts nothing h = refl
line_starts (version number) h = refl
line_starts (at desk s) h = decimal_starts desk (32 ∷ text_of s) h.0
line_starts (meet one other) h = refl
line_starts (expect desk []) h = refl
line_starts (expect desk (b ∷ bs)) h = refl

line_ends : (n : Noted) → Notable n → up_to_spaces (line_of n) ≡ line_of n
unfolding up_to_spaces
line_ends nothing h = refl
line_ends (version number) h = (closed_after (codes "session ") _ (decimal-closed number h)).1
line_ends (at desk s) h = (closed_after (decimal desk) _ (closed_after (codes " ") _ (text-closed s h.1))).1
line_ends (meet one other) h = (closed-behind (codes "meet ") (decimal one) (codes " ") _ (decimal-closed other h.1)).1
line_ends (expect desk []) h = (closed_after (codes "expect ") _ (decimal-closed desk h.0)).1
line_ends (expect desk (b ∷ bs)) h = (closed-behind (codes "expect ") (decimal desk) (codes " ") _ (closed_last (b ∷ bs) (omega arith) h.1.last)).1

line_alone : (n : Noted) → Notable n → Lacks 10 (line_of n)
line_alone nothing h = lacks_tested 10 [] refl
line_alone (version number) h = lacks-behind 10 (codes "session ") _ refl (decimal_line number h)
line_alone (at desk s) h = line_behind desk [] (codes " ") (text_of s) refl refl h.0 (text_line s h.1)
line_alone (meet one other) h = line_behind one (codes "meet ") (codes " ") _ refl refl h.0 (decimal_line other h.1)
line_alone (expect desk []) h = lacks-behind 10 (codes "expect ") _ refl (decimal_line desk h.0)
line_alone (expect desk (b ∷ bs)) h = line_behind desk (codes "expect ") (codes " ") (b ∷ bs) refl refl h.0 h.1.one_line

pub back : ReadsBack
back n h = (ap text_notes (ap past_spaces (line_ends n h) ∙ line_starts n h) ∙ notes_again n h, line_alone n h)
