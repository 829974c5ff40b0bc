-- A line as it is printed, and that it says the same again. Assumes nothing: these are definitions.
use Rattle.std.specs.Prelude.{◌≡◌, ℕ, List, [], ◌∷◌, ◌++◌, Ok, codes, decimal}
use Rattle.commands.specs.Printed.{text_of, Lacks, Ending, Number, Sayable}
use Rattle.sessions.specs.Session.{Noted, nothing, version, at, meet, expect, session_says}

abbrev pub line_of : Noted → List ℕ
line_of nothing = []
line_of (version number) = codes "session " ++ decimal number
line_of (at desk s) = decimal desk ++ (codes " " ++ text_of s)
line_of (meet one other) = codes "meet " ++ (decimal one ++ (codes " " ++ decimal other))
line_of (expect desk []) = codes "expect " ++ decimal desk
line_of (expect desk (b ∷ bs)) = codes "expect " ++ (decimal desk ++ (codes " " ++ b ∷ bs))

-- a line whose numbers are of 64 bits, and whose text can be the rest of a line
abbrev pub Notable : Noted → Type 0
Notable nothing = Unit {0}
Notable (version number) = Number number
Notable (at desk s) = Number desk × Sayable s
Notable (meet one other) = Number one × Number other
Notable (expect desk text) = Number desk × Ending text

-- a line's text is one line, which says the same
abbrev pub ReadsBack : Type 0
ReadsBack = (n : Noted) → Notable n → (session_says (line_of n) ≡ Ok n) × Lacks 10 (line_of n)
