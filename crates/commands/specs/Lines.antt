-- What a line says: a command, nothing, or what is wrong with it. Assumes nothing: these are definitions.
use Rattle.std.specs.Prelude.{◌≡◌, ℕ, cond, List, [], ◌∷◌, Some, None, Ok, Err, codes, Option, Result}
use Rattle.std.specs.Borrow.{Bor}
use Rattle.std.specs.Str.{bytes_eq}
use Rattle.commands.specs.Words.{past_spaces, up_to_spaces, first_of, rest_of}
use Rattle.commands.specs.Numbers.{number_of, sign_of}
use Rattle.commands.specs.declared.Command.{Command}
use Rattle.commands.specs.declared.Command.TheVariants.{Insert, Strike, Write, Add, ShowText, ShowKey, Send, Read}
use Rattle.commands.specs.declared.Fault.{Fault}
use Rattle.commands.specs.declared.Fault.TheVariants.{NotACommand, NotANumber, NotASign, NoFile, TooManyWords}

-- a command, with a file's name as its bytes
pub data Said : Type 0 where
  insert : ℕ → ℕ → Said
  strike : ℕ → Said
  write : ℕ → ℕ → Said
  add : ℕ → ℕ → Said
  show_text : Said
  show_key : ℕ → Said
  send : ℕ → List ℕ → Said
  read : ℕ → List ℕ → Said

abbrev pub said : Command → Said
said (Insert place sign) = insert place sign
said (Strike place) = strike place
said (Write key word) = write key word
said (Add key amount) = add key amount
said ShowText = show_text
said (ShowKey key) = show_key key
said (Send desk file) = send desk file.now
said (Read desk file) = read desk file.now

-- what is read of a text that is right; else what is wrong
abbrev pub with_ok : {A B : Type 0} → (A → B) → Result A Fault → Result B Fault
with_ok f (Ok a) = Ok (f a)
with_ok f (Err e) = Err e

-- a word is taken off a text as the number that it is, and the rest is left; else there is a fault
abbrev pub Takes : Fault → Option ℕ → List ℕ → Result (ℕ × Bor (List ℕ)) Fault → Type 0
Takes e number rest (Ok x) = (number ≡ Some x.0) × (x.1.now ≡ rest)
Takes e number rest (Err f) = (number ≡ None) × (f ≡ e)

abbrev pub or_fault : {A : Type 0} → Fault → Option ℕ → (ℕ → Result A Fault) → Result A Fault
or_fault e None f = Err e
or_fault e (Some n) f = f n

-- the first word as a number, or as a sign, and then what is left
abbrev pub a_number : {A : Type 0} → List ℕ → (ℕ → List ℕ → Result A Fault) → Result A Fault
a_number text f = or_fault NotANumber (number_of (first_of text)) (λ n. f n (rest_of text))

abbrev pub a_sign : {A : Type 0} → List ℕ → (ℕ → List ℕ → Result A Fault) → Result A Fault
a_sign text f = or_fault NotASign (sign_of (first_of text)) (λ n. f n (rest_of text))

-- no words are left
abbrev pub ended : {A : Type 0} → A → List ℕ → Result A Fault
ended a [] = Ok a
ended a (b ∷ bs) = Err TooManyWords

-- all that is left names a file
abbrev pub named : ℕ → List ℕ → Result (ℕ × List ℕ) Fault
named desk [] = Err NoFile
named desk (b ∷ bs) = Ok (desk, b ∷ bs)

abbrev pub one_number : List ℕ → Result ℕ Fault
one_number text = a_number text ended

abbrev pub two_numbers : List ℕ → Result (ℕ × ℕ) Fault
two_numbers text = a_number text (λ m rest. a_number rest (λ n. ended (m, n)))

abbrev pub number_and_sign : List ℕ → Result (ℕ × ℕ) Fault
number_and_sign text = a_number text (λ m rest. a_sign rest (λ n. ended (m, n)))

abbrev pub number_and_file : List ℕ → Result (ℕ × List ℕ) Fault
number_and_file text = a_number text named

-- the commands, by their first words
abbrev pub command_of : List ℕ → List ℕ → Result Said Fault
command_of word text =
    cond (bytes_eq word (codes "i")) (with_ok (λ p. insert p.0 p.1) (number_and_sign text))
    (cond (bytes_eq word (codes "s")) (with_ok strike (one_number text))
    (cond (bytes_eq word (codes "w")) (with_ok (λ p. write p.0 p.1) (two_numbers text))
    (cond (bytes_eq word (codes "a")) (with_ok (λ p. add p.0 p.1) (two_numbers text))
    (cond (bytes_eq word (codes "t")) (ended show_text text)
    (cond (bytes_eq word (codes "k")) (with_ok show_key (one_number text))
    (cond (bytes_eq word (codes "send")) (with_ok (λ p. send p.0 p.1) (number_and_file text))
    (cond (bytes_eq word (codes "read")) (with_ok (λ p. read p.0 p.1) (number_and_file text))
    (Err NotACommand))))))))

abbrev pub words_say : List ℕ → Result (Option Said) Fault
words_say [] = Ok None
words_say (b ∷ bs) = with_ok Some (command_of (first_of (b ∷ bs)) (rest_of (b ∷ bs)))

-- what a line says; spaces at its ends say nothing
abbrev pub line_says : List ℕ → Result (Option Said) Fault
line_says line = words_say (past_spaces (up_to_spaces line))

-- an answer of the parser, with each file's name as its bytes
abbrev pub if_said : Option Command → Option Said
if_said None = None
if_said (Some command) = Some (said command)
