-- The layout of a desk's memory, cell by cell. Everything that is kept stands in one lent row of numbers, at these places.
use Rattle.std.specs.Prelude.{ℕ, ◌+◌, ◌*◌, ◌%◌, List, slice_index}

-- 1 + the desk's number, or 0 before it is opened; what is still to be shown; of which key; how many operations are in the log
abbrev pub desk_cell : ℕ
desk_cell = 0

abbrev pub pending_cell : ℕ
pending_cell = 1

abbrev pub key_cell : ℕ
key_cell = 2

abbrev pub length_cell : ℕ
length_cell = 3

-- the version vector: for each desk the highest number of its operations in the log
abbrev pub version_cell : ℕ → ℕ
version_cell d = 32 + d

-- for each desk how many operations of it are in the log
abbrev pub made_cell : ℕ → ℕ
made_cell d = 64 + d

-- for each peer the version vector that its messages told of
abbrev pub heard_cell : ℕ → ℕ → ℕ
heard_cell p d = 96 + p * 32 + d

-- the log: 8,192 places of six cells
abbrev pub slot : ℕ → ℕ
slot k = 1120 + k * 6

abbrev pub memory_size : ℕ
memory_size = 50272

-- whatever number stands in a cell, its low 32 bits are read
abbrev pub low : List ℕ → ℕ → ℕ
low m i = slice_index m i % 4294967296
