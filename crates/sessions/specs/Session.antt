-- What a line of a session says: what is noted, or what is wrong with it. Assumes nothing: these are definitions.
use Rattle.std.specs.Prelude.{ℕ, cond, List, [], ◌∷◌, Some, None, Ok, Err, codes, Option, Result, ◌==◌}
use Rattle.std.specs.Str.{bytes_eq}
use Rattle.commands.specs.Words.{past_spaces, up_to_spaces, first_of, rest_of}
use Rattle.commands.specs.Numbers.{number_of}
use Rattle.commands.specs.Lines.{Said, said, with_ok, or_fault, a_number, one_number, two_numbers, line_says}
use Rattle.commands.specs.declared.Fault.{Fault}
use Rattle.commands.specs.declared.Fault.TheVariants.{NotACommand}
use Rattle.sessions.specs.declared.Line.{Line}
use Rattle.sessions.specs.declared.Line.TheVariants.{Nothing, Version, At, Meet, Expect}

-- a line, with each text as its bytes
pub data Noted : Type 0 where
  nothing : Noted
  version : ℕ → Noted
  at : ℕ → Said → Noted
  meet : ℕ → ℕ → Noted
  expect : ℕ → List ℕ → Noted

abbrev pub noted : Line → Noted
noted Nothing = nothing
noted (Version number) = version number
noted (At desk command) = at desk (said command)
noted (Meet one other) = meet one other
noted (Expect desk text) = expect desk text.now

abbrev pub number_and_rest : List ℕ → Result (ℕ × List ℕ) Fault
number_and_rest text = a_number text (λ n rest. Ok (n, rest))

-- a command is asked for, so a text that says nothing won't do
abbrev pub commanded : ℕ → Result (Option Said) Fault → Result Noted Fault
commanded desk (Ok None) = Err NotACommand
commanded desk (Ok (Some s)) = Ok (at desk s)
commanded desk (Err e) = Err e

abbrev pub at_desk : List ℕ → List ℕ → Result Noted Fault
at_desk word text = or_fault NotACommand (number_of word) (λ desk. commanded desk (line_says text))

-- the lines, by their first words
abbrev pub words_note : List ℕ → List ℕ → Result Noted Fault
words_note word text =
    cond (bytes_eq word (codes "session")) (with_ok version (one_number text))
    (cond (bytes_eq word (codes "meet")) (with_ok (λ p. meet p.0 p.1) (two_numbers text))
    (cond (bytes_eq word (codes "expect")) (with_ok (λ p. expect p.0 p.1) (number_and_rest text))
    (at_desk word text)))

-- the character #, whose code is 35, begins a line that says nothing
abbrev pub text_notes : List ℕ → Result Noted Fault
text_notes [] = Ok nothing
text_notes (b ∷ bs) = cond (b == 35) (Ok nothing) (words_note (first_of (b ∷ bs)) (rest_of (b ∷ bs)))

-- what a line says; spaces at its ends say nothing
abbrev pub session_says : List ℕ → Result Noted Fault
session_says line = text_notes (past_spaces (up_to_spaces line))
