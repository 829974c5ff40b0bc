-- What a line says, from its first word and what follows it.
use Rattle.std.proofs.Common.{◌≡◌, ℕ, List, [], ◌∷◌, length, Option, Result, Some, Ok, Err, refl, ap, ◌∙◌}
use Rattle.commands.specs.Words.{past_spaces, up_to_spaces, first_of, rest_of}
use Rattle.commands.specs.Lines.{said, if_said, with_ok, command_of, words_say, line_says}
use Rattle.std.specs.Result.{MatchResult}
use Rattle.commands.specs.declared.Command.{Command}
use Rattle.commands.specs.declared.Fault.{Fault}

pub passed_on : (r : Result Command Fault) (s : Result (Option Command) Fault) → MatchResult r (λ x. s ≡ Ok (Some x)) (λ e. s ≡ Err e) → with_ok if_said s ≡ with_ok Some (with_ok said r)
passed_on (Ok x) s h = ap (with_ok if_said) h
passed_on (Err e) s h = ap (with_ok if_said) h

some_words : (text : List ℕ) → (length text ≡ 0 → ⊥) → with_ok Some (command_of (first_of text) (rest_of text)) ≡ words_say text
some_words [] h = absurd (h refl)
some_words (b ∷ bs) h = refl

pub line_command : (line front text word rest : List ℕ) → front ≡ up_to_spaces line → text ≡ past_spaces front → (length text ≡ 0 → ⊥) → word ≡ first_of text → rest ≡ rest_of text → with_ok Some (command_of word rest) ≡ line_says line
line_command line front text word rest f p some w r =
    ap (λ (x : List ℕ). with_ok Some (command_of x rest)) w ∙ ap (λ (x : List ℕ). with_ok Some (command_of (first_of text) x)) r
    ∙ some_words text some ∙ ap words_say (p ∙ ap past_spaces f)
