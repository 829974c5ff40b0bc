-- A command as the line that says it, and that a line so printed says the command again. Assumes nothing: these are definitions.
use Rattle.std.specs.Prelude.{◌≡◌, ℕ, ◌-◌, ◌^◌, ◌<◌, List, ◌++◌, length, Some, Ok, codes, decimal, ◌≢◌, slice_index, slice_index_or}
use Rattle.commands.specs.Lines.{Said, insert, strike, write, add, show_text, show_key, send, read, line_says}

-- a sign is printed as # and its number
abbrev pub text_of : Said → List ℕ
text_of (insert place sign) = codes "i " ++ (decimal place ++ (codes " #" ++ decimal sign))
text_of (strike place) = codes "s " ++ decimal place
text_of (write key word) = codes "w " ++ (decimal key ++ (codes " " ++ decimal word))
text_of (add key amount) = codes "a " ++ (decimal key ++ (codes " " ++ decimal amount))
text_of show_text = codes "t"
text_of (show_key key) = codes "k " ++ decimal key
text_of (send desk file) = codes "send " ++ (decimal desk ++ (codes " " ++ file))
text_of (read desk file) = codes "read " ++ (decimal desk ++ (codes " " ++ file))

abbrev pub Lacks : ℕ → List ℕ → Type 0
Lacks b bs = (i : ℕ) → i < length bs → slice_index bs i ≢ b

-- a text that can be the rest of a line: no space, which is 32, at its start or its end, and no line feed, which is 10
pub record Ending (text : List ℕ) : Type 0 where
  pub first : slice_index_or text 0 0 ≡ 32 → ⊥
  pub last : slice_index_or text (length text - 1) 0 ≡ 32 → ⊥
  pub one_line : Lacks 10 text

abbrev pub Number : ℕ → Type 0
Number n = n < 2 ^ 64

abbrev pub Name : List ℕ → Type 0
Name file = (0 < length file) × Ending file

-- a command whose numbers are of 64 bits, and whose file's name can be the rest of a line
abbrev pub Sayable : Said → Type 0
Sayable (insert place sign) = Number place × Number sign
Sayable (strike place) = Number place
Sayable (write key word) = Number key × Number word
Sayable (add key amount) = Number key × Number amount
Sayable show_text = Unit {0}
Sayable (show_key key) = Number key
Sayable (send desk file) = Number desk × Name file
Sayable (read desk file) = Number desk × Name file

-- a command's text is one line, which says the command
abbrev pub ParsesBack : Type 0
ParsesBack = (s : Said) → Sayable s → (line_says (text_of s) ≡ Ok (Some s)) × Lacks 10 (text_of s)
