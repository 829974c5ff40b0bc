-- What a command makes at a desk, and when it is refused.
use Rattle.std.specs.Prelude.{◌≡◌, ℕ, zero, suc, ◌⊎◌, List, [], ◌∷◌, ◌++◌, Some, None, Ok, Err, Option, Result}
use Rattle.std.specs.List.{slice_get}
use Rattle.std.specs.Option.{option_map}
use Rattle.ops.specs.Doc as doc
use Rattle.ops.specs.Doc.{write_under, add_to, highest, no, yes_with, do_it, turn}
use Rattle.papers.specs.Deeds.{kind_of, op_of}
use Rattle.papers.specs.Papers.{deeds_of}
use Rattle.papers.specs.Signs.{names, row_of}
use Rattle.papers.specs.Refusals.{number_of}
use Rattle.papers.specs.declared.commands.Refusal.{Refusal}
use Rattle.papers.specs.declared.commands.Refusal.TheVariants.{NoSuchPlace, NoNumber}
use Rattle.papers.specs.declared.deeds.Name.{Name}
use Rattle.papers.specs.declared.deeds.What.{What}
use Rattle.papers.specs.declared.deeds.What.TheVariants as what
use Rattle.papers.specs.declared.deeds.Deed.{Deed}
use Rattle.papers.specs.declared.deeds.Command.{Command}
use Rattle.papers.specs.declared.deeds.Command.TheVariants.{Insert, Strike, Write, Add}
use Rattle.papers.specs.declared.paper.Paper.{Paper}

-- the names of the signs that a paper shows, in order
abbrev pub shown_names : Paper → List Name
shown_names p = names (row_of p.signs)

-- what a command comes to where these are shown: a sign goes behind the one before its place
abbrev pub meant : List Name → Command → Option What
meant ns (Insert zero sign) = Some (what.Put None sign)
meant ns (Insert (suc place) sign) = option_map (λ n. what.Put (Some n) sign) (slice_get ns place)
meant ns (Strike place) = option_map (λ n. what.Strike n) (slice_get ns place)
meant ns (Write key word) = Some (what.Write key word)
meant ns (Add key amount) = Some (what.Add key amount)

-- the highest number that there can be
abbrev pub last_number : ℕ
last_number = 18446744073709551615

-- a deed is what the turn adds to what was known, and a refusal is the turn's; or the numbers for names are used up
abbrev pub Makes : doc.Turn → List doc.Op → Result Deed Refusal → Type 0
Makes t ops (Ok d) = t ≡ yes_with [] (ops ++ op_of d ∷ [])
Makes t ops (Err r) = (t ≡ no (number_of r) ops) ⊎ ((r ≡ NoNumber) × (highest ops ≡ last_number))

abbrev pub MadeOf : ℕ → List doc.Op → Option What → Result Deed Refusal → Type 0
MadeOf w ops None r = r ≡ Err NoSuchPlace
MadeOf w ops (Some a) r = Makes (do_it w ops (kind_of a)) ops r

-- under keys, precisely the plain paper's turn; signs by what the paper shows
abbrev pub Answers : ℕ → Paper → Command → Result Deed Refusal → Type 0
Answers w p (Insert place sign) r = MadeOf w (deeds_of p) (meant (shown_names p) (Insert place sign)) r
Answers w p (Strike place) r = MadeOf w (deeds_of p) (meant (shown_names p) (Strike place)) r
Answers w p (Write key word) r = Makes (turn w (deeds_of p) (write_under key word)) (deeds_of p) r
Answers w p (Add key amount) r = Makes (turn w (deeds_of p) (add_to key amount)) (deeds_of p) r
