-- The statement of each theorem.
use Rattle.std.specs.Prelude.{◌≡◌, ℕ, suc, ◌^◌, ◌<◌, ◌≤◌, ◌⊎◌, List, [], ◌∷◌, ◌++◌, length, take, Ok}
use Rattle.journals.specs.Book.{Told, longest_letter, header_of, opening_of, bytes_of, entry, next_of, end, torn, book_of, and_then, read_all}
use Rattle.journals.specs.declared.Theorem.{Theorem}
use Rattle.journals.specs.declared.Theorem.TheVariants as theorem

-- what can be written: numbers of eight bytes, and a letter that isn't too long
abbrev pub Writable : Told → Type 0
Writable e = (e.a < 2 ^ 64) × (e.b < 2 ^ 64) × (length e.letter ≤ longest_letter)

abbrev pub AllWritable : List Told → Type 0
AllWritable [] = Unit {0}
AllWritable (e ∷ es) = Writable e × AllWritable es

-- a header that was written is read, whatever stands behind it
abbrev pub HeaderReturns : Type 0
HeaderReturns = (desk : ℕ) (rest : List ℕ) → desk < 32 → opening_of (header_of desk ++ rest) ≡ Ok desk

-- an entry that was written is read, with its size, whatever stands behind it
abbrev pub EntryReturns : Type 0
EntryReturns = (e : Told) (rest : List ℕ) → Writable e → next_of (bytes_of e ++ rest) ≡ entry e (length (bytes_of e))

-- reading all is reading the next entry and then all behind it
abbrev pub EntryByEntry : Type 0
EntryByEntry = (bs : List ℕ) → read_all bs ≡ and_then read_all bs (next_of bs)

abbrev pub BookReturns : Type 0
BookReturns = (es : List Told) → AllWritable es → read_all (book_of es) ≡ record { entries = es; ending = end }

-- of a book cut off after n bytes the first entries are read, as many as are whole, and no damage is seen
pub record CutAt (es : List Told) (n : ℕ) : Type 0 where
  pub count : ℕ
  pub read : (read_all (take n (book_of es))).entries ≡ take count es
  pub whole : length (book_of (take count es)) ≤ n
  pub most : count < length es → n < length (book_of (take (suc count) es))
  pub ending :
      (((read_all (take n (book_of es))).ending ≡ end) × (take n (book_of es) ≡ book_of (take count es))) ⊎ ((read_all (take n (book_of es))).ending ≡ torn)

abbrev pub Cut : Type 0
Cut = (es : List Told) (n : ℕ) → AllWritable es → CutAt es n

abbrev pub Statement : Theorem → Type 0
Statement theorem.HeaderReturns = HeaderReturns
Statement theorem.EntryReturns = EntryReturns
Statement theorem.EntryByEntry = EntryByEntry
Statement theorem.BookReturns = BookReturns
Statement theorem.Cut = Cut
