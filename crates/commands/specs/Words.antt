-- The words of a line, over its bytes; 32 is the space. Assumes nothing: these are definitions.
use Rattle.std.specs.Prelude.{ℕ, cond, ◌&&◌, List, [], ◌∷◌, length, ◌==◌}

-- a text without the spaces at its start
unfoldable pub past_spaces : List ℕ → List ℕ
past_spaces [] = []
past_spaces (b ∷ bs) = cond (b == 32) (past_spaces bs) (b ∷ bs)

-- a text without the spaces at its end
unfoldable pub up_to_spaces : List ℕ → List ℕ
up_to_spaces [] = []
up_to_spaces (b ∷ bs) = cond (b == 32 && length (up_to_spaces bs) == 0) [] (b ∷ up_to_spaces bs)

-- its first word: what comes before the first space
unfoldable pub first_of : List ℕ → List ℕ
first_of [] = []
first_of (b ∷ bs) = cond (b == 32) [] (b ∷ first_of bs)

-- what begins with the next word
unfoldable pub rest_of : List ℕ → List ℕ
rest_of [] = []
rest_of (b ∷ bs) = cond (b == 32) (past_spaces bs) (rest_of bs)
