-- The generator's states.
use Rattle.std.specs.Prelude.{ℕ, ◌+◌, ◌*◌, ◌%◌, ◌^◌}

abbrev pub next_state : ℕ → ℕ
next_state s = ((s * 6364136223846793005) % 2 ^ 64 + 1442695040888963407) % 2 ^ 64

-- the state that a day begins with
abbrev pub first_state : ℕ → ℕ → ℕ
first_state seed day = next_state (((seed * 6364136223846793005) % 2 ^ 64 + day) % 2 ^ 64)
