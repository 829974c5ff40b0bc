-- A book: a header, and then entries, one behind the other. What is written, and what is read of any bytes.
use Rattle.std.specs.Prelude.{◌≡◌, ℕ, zero, suc, ◌+◌, ◌-◌, ◌<◌, ◌≤◌, Bool, cond, not, ◌&&◌, List, [], ◌∷◌, ◌++◌, length, take, drop, Some, None, Ok, Err, vec_items, codes, Option, Result, Vec, ◌==◌, nat_le, nat_lt, slice_index}
use Rattle.std.specs.List.{flat_map}
use Rattle.std.specs.Str.{bytes_eq}
use Rattle.std.specs.declared.alloc.Global.{Global}
use Rattle.journals.specs.Bytes.{little, number_at, sealed, is_sealed}
use Rattle.journals.specs.declared.entries.Entry.{Entry}
use Rattle.journals.specs.declared.entries.Fault.{Fault}
use Rattle.journals.specs.declared.entries.Fault.TheVariants.{TooLong, NoMemory}
use Rattle.journals.specs.declared.entries.Flaw.{Flaw}
use Rattle.journals.specs.declared.entries.Flaw.TheVariants as flaw
use Rattle.journals.specs.declared.entries.Next.{Next}
use Rattle.journals.specs.declared.headers.HeaderFault.{HeaderFault}
use Rattle.journals.specs.declared.headers.HeaderFault.TheVariants.{NotABook, OtherVersion, Damaged}

-- THE HEADER: "BOOK", the version, the desk, two bytes that are 0, and the CRC of these
unfoldable pub header_of : ℕ → List ℕ
header_of desk = sealed (66 ∷ 79 ∷ 79 ∷ 75 ∷ 1 ∷ desk ∷ 0 ∷ 0 ∷ [])

-- it has 12 bytes, and begins with "BOOK"
unfoldable pub is_book : List ℕ → Bool
is_book bs = nat_le 12 (length bs) && bytes_eq (take 4 bs) (codes "BOOK")

-- of version 1: it is sealed, the two bytes are 0, and there is such a desk
unfoldable pub is_whole : List ℕ → Bool
is_whole bs = is_sealed 8 bs && (number_at 2 6 bs == 0 && nat_lt (slice_index bs 5) 32)

-- whose book it opens, or why none
unfoldable pub opening_of : List ℕ → Result ℕ HeaderFault
opening_of bs =
    cond (not (is_book bs)) (Err NotABook)
    (cond (not (slice_index bs 4 == 1)) (Err (OtherVersion (slice_index bs 4)))
    (cond (is_whole bs) (Ok (slice_index bs 5)) (Err Damaged)))

-- AN ENTRY: what a desk's machine was told, the letter as its bytes
pub record Told : Type 0 where
  pub kind : ℕ
  pub a : ℕ
  pub b : ℕ
  pub letter : List ℕ

abbrev pub told : Entry → Told
told e = record { kind = e.kind; a = e.a; b = e.b; letter = e.letter.now }

abbrev pub longest_letter : ℕ
longest_letter = 4096

unfoldable pub body_of : Told → List ℕ
body_of e = e.kind ∷ little 8 e.a ++ (little 8 e.b ++ e.letter)

-- a body's length, and its complement: so that a damaged length isn't followed to the next entry
unfoldable pub lengths : ℕ → List ℕ
lengths n = little 2 n ++ little 2 (65535 - n)

abbrev pub unsealed_of : Told → List ℕ
unsealed_of e = lengths (length (body_of e)) ++ body_of e

unfoldable pub bytes_of : Told → List ℕ
bytes_of e = sealed (unsealed_of e)

-- what writing an entry answers
unfoldable pub Writes : Told → Result (Vec ℕ Global) Fault → Type 0
Writes e (Ok bytes) = (length e.letter ≤ longest_letter) × (vec_items bytes ≡ bytes_of e)
Writes e (Err TooLong) = longest_letter < length e.letter
Writes e (Err NoMemory) = length e.letter ≤ longest_letter

-- READING. How it can end: behind an entry; within one, where the bytes end, as after a crash while it was written; or at bytes that are no entry
pub data Ending : Type 0 where
  end : Ending
  torn : Ending
  damaged : Ending

pub data Reading : Type 0 where
  entry : Told → (size : ℕ) → Reading
  ended : Ending → Reading

abbrev pub reading : Result (Option Next) Flaw → Reading
reading (Ok (Some n)) = entry (told n.entry) n.size
reading (Ok None) = ended end
reading (Err flaw.Torn) = ended torn
reading (Err flaw.Damaged) = ended damaged

-- the length of the body, if both lengths say so and there are bodies of that length
unfoldable pub length_of : List ℕ → Option ℕ
length_of bs =
    cond (number_at 2 2 bs == 65535 - number_at 2 0 bs && (nat_le 17 (number_at 2 0 bs) && nat_le (number_at 2 0 bs) 4113)) (Some (number_at 2 0 bs)) None

unfoldable pub told_of : List ℕ → Told
told_of body = record { kind = slice_index body 0; a = number_at 8 1 body; b = number_at 8 9 body; letter = drop 17 body }

unfoldable pub of_length : Option ℕ → List ℕ → Reading
of_length None bs = ended damaged
of_length (Some n) bs =
    cond (nat_lt (length bs) (n + 8)) (ended torn)
    (cond (is_sealed (n + 4) bs) (entry (told_of (take n (drop 4 bs))) (n + 8)) (ended damaged))

unfoldable pub next_of : List ℕ → Reading
next_of bs = cond (length bs == 0) (ended end) (cond (nat_lt (length bs) 4) (ended torn) (of_length (length_of bs) bs))

-- ALL ENTRIES, one behind the other, until reading ends
pub record Read : Type 0 where
  pub entries : List Told
  pub ending : Ending

unfoldable pub book_of : List Told → List ℕ
book_of es = flat_map bytes_of es

unfoldable pub and_then : (List ℕ → Read) → List ℕ → Reading → Read
and_then rest bs (ended x) = record { entries = []; ending = x }
and_then rest bs (entry e size) = record { entries = e ∷ (rest (drop size bs)).entries; ending = (rest (drop size bs)).ending }

-- at most so many: an entry takes bytes, so there are no more entries than bytes
unfoldable pub read : ℕ → List ℕ → Read
read zero bs = record { entries = []; ending = end }
read (suc most) bs = and_then (read most) bs (next_of bs)

abbrev pub read_all : List ℕ → Read
read_all bs = read (length bs) bs
