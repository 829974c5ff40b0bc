-- What is shown, as text.
use Rattle.std.specs.Prelude.{ℕ, cond, List, ◌++◌, map, Some, None, codes, decimal, Option}
use Rattle.std.proofs.Math.Utf8.{encodes, scalar}

-- the word under a key, if there is one, and its tally
abbrev pub key_text : Option ℕ → ℕ → List ℕ
key_text None tally = codes "; " ++ decimal tally
key_text (Some word) tally = decimal word ++ (codes "; " ++ decimal tally)

-- a sign's character; U+FFFD for a sign that is none
abbrev pub character : ℕ → ℕ
character sign = cond (scalar sign) sign 65533

abbrev pub text_of : List ℕ → List ℕ
text_of signs = encodes (map character signs)
