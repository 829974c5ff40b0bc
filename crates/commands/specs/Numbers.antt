-- What number, and what sign, a word is. Assumes nothing: these are definitions.
use Rattle.std.specs.Prelude.{ℕ, ◌+◌, ◌-◌, ◌*◌, ◌^◌, Bool, true, cond, ◌&&◌, List, [], ◌∷◌, Some, None, Option, ◌==◌, nat_lt}
use Rattle.std.specs.Char.{is_ascii_digit}
use Rattle.std.specs.Str.{chars}

unfoldable pub all_digits : List ℕ → Bool
all_digits [] = true
all_digits (b ∷ bs) = is_ascii_digit b && all_digits bs

-- the number that decimal digits write, after those of n
unfoldable pub value_after : ℕ → List ℕ → ℕ
value_after n [] = n
value_after n (b ∷ bs) = value_after (n * 10 + (b - 48)) bs

-- digits that go on after those of n write a number if it is below 2 ^ 64
unfoldable pub number_after : ℕ → List ℕ → Option ℕ
number_after n bs = cond (all_digits bs && nat_lt (value_after n bs) (2 ^ 64)) (Some (value_after n bs)) None

unfoldable pub number_of : List ℕ → Option ℕ
number_of [] = None
number_of (b ∷ bs) = number_after 0 (b ∷ bs)

-- a number after the character #, whose code is 35
unfoldable pub coded : List ℕ → Option ℕ
coded [] = None
coded (b ∷ bs) = cond (b == 35) (number_of bs) None

-- one character alone
unfoldable pub only : List ℕ → Option ℕ
only [] = None
only (c ∷ []) = Some c
only (c ∷ d ∷ cs) = None

unfoldable pub or_else : Option ℕ → Option ℕ → Option ℕ
or_else None o = o
or_else (Some n) o = Some n

-- one character is the sign of its code; any other word is a sign if it gives a code
unfoldable pub sign_of : List ℕ → Option ℕ
sign_of bs = or_else (only (chars bs)) (coded bs)
