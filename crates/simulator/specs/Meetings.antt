-- What the letters of a meeting do to the memories of all desks.
use Rattle.std.specs.Prelude.{◌≡◌, ℕ, zero, suc, ◌+◌, ◌≤◌, Bool, ◌&&◌, List, [], length, slice_index_or, slice_set}
use Rattle.desks.specs.Run.{letter_to, hears, Ran, runs_on, made_well, read_well, first_letter, Two}
use Rattle.desks.specs.Entry.{own}
use Rattle.network.specs.Room.{pair, pairs, most_pairs, meeting}

-- one letter is written and read
abbrev pub writing : List ℕ → ℕ → Ran
writing a j = runs_on 3 own a (letter_to j)

abbrev pub reading : List ℕ → ℕ → Ran → Ran
reading b i w = runs_on 3 own b (hears i (first_letter w.sent))

-- how many bytes it has
abbrev pub bytes_of : Ran → ℕ
bytes_of w = length (first_letter w.sent)

pub record Passed (ms : List (List ℕ)) (i j : ℕ) (well : Bool) (size : ℕ) (ms₁ : List (List ℕ)) : Type 0 where
  pub after :
      ms₁ ≡ slice_set (slice_set ms i (writing (slice_index_or ms i []) j).memory) j (reading (slice_index_or ms j []) i (writing (slice_index_or ms i []) j)).memory
  pub fair : well ≡ (made_well (writing (slice_index_or ms i []) j) && read_well (reading (slice_index_or ms j []) i (writing (slice_index_or ms i []) j)))
  pub long : size ≡ bytes_of (writing (slice_index_or ms i []) j)
  pub short : size ≤ 4096

-- the bytes of a pair of letters, and of so many pairs
abbrev pub pair_bytes : ℕ → ℕ → List ℕ → List ℕ → ℕ
pair_bytes i j a b = bytes_of (writing a j) + bytes_of (writing (reading b i (writing a j)).memory i)

unfoldable pub traffic : ℕ → ℕ → ℕ → List ℕ → List ℕ → ℕ
traffic zero i j a b = 0
traffic (suc k) i j a b = pair_bytes i j a b + traffic k i j (pair i j a b).one (pair i j a b).other

abbrev pub meeting_bytes : ℕ → ℕ → List ℕ → List ℕ → ℕ
meeting_bytes i j a b = traffic (pairs (most_pairs a b) i j a b) i j a b

-- two desks' memories are changed
abbrev pub with_two : List (List ℕ) → ℕ → ℕ → Two → List (List ℕ)
with_two ms i j t = slice_set (slice_set ms i t.one) j t.other

pub record Paired (ms : List (List ℕ)) (i j : ℕ) (well : Bool) (size : ℕ) (ms₁ : List (List ℕ)) : Type 0 where
  pub after : ms₁ ≡ with_two ms i j (pair i j (slice_index_or ms i []) (slice_index_or ms j []))
  pub fair : well ≡ (pair i j (slice_index_or ms i []) (slice_index_or ms j [])).fair
  pub long : size ≡ pair_bytes i j (slice_index_or ms i []) (slice_index_or ms j [])
  pub short : size ≤ 8192

pub record Met (ms : List (List ℕ)) (i j : ℕ) (count : ℕ) (well : Bool) (size : ℕ) (ms₁ : List (List ℕ)) : Type 0 where
  pub after : ms₁ ≡ with_two ms i j (meeting i j (slice_index_or ms i []) (slice_index_or ms j []))
  pub fair : well ≡ (meeting i j (slice_index_or ms i []) (slice_index_or ms j [])).fair
  pub many : count ≡ pairs (most_pairs (slice_index_or ms i []) (slice_index_or ms j [])) i j (slice_index_or ms i []) (slice_index_or ms j [])
  pub long : size ≡ meeting_bytes i j (slice_index_or ms i []) (slice_index_or ms j [])
