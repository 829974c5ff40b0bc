-- What is read of a header, test by test; and a header that was written is read again.
use Rattle.std.proofs.Common.{◌≡◌, ℕ, ◌<◌, ◌≤◌, Bool, true, false, leb, List, [], ◌∷◌, ◌++◌, length, get_or, take, codes, Ok, Decides, sym, refl, ap, ◌∙◌, arith, length-append}
use Rattle.std.specs.Str.{bytes_eq}
use Rattle.std.proofs.lemmas.Slice.Eq.{bytes_eq-Decides}
use Rattle.std.proofs.lemmas.Bool.{lt-ltb, le-leb, lt-leb, leb-true, and_parts}
use Rattle.checksums.specs.Crc.{crc32_of}
use Rattle.journals.specs.Bytes.{little, value, number_at, is_sealed}
use Rattle.journals.specs.Book.{header_of, is_book, is_whole, opening_of}
use Rattle.journals.specs.Statements.{HeaderReturns}
use Rattle.journals.proofs.LittleEndian.{length-little}
use Rattle.journals.proofs.Seals.{sealed-append, sealed-there}

front : ℕ → List ℕ
front desk = 66 ∷ 79 ∷ 79 ∷ 75 ∷ 1 ∷ desk ∷ 0 ∷ 0 ∷ []

module _ (bs : List ℕ) where
  -- whether there is a header
  pub too_short : length bs < 12 → leb 12 (length bs) ≡ is_book bs
  unfolding is_book
  too_short h = rw (lt-leb 12 (length bs) h)

  pub book_long : is_book bs ≡ true → 12 ≤ length bs
  unfolding is_book
  book_long h = leb-true 12 (length bs) (and_parts (leb 12 (length bs)) (bytes_eq (take 4 bs) (codes "BOOK")) h).0

  pub titled : (r : Bool) → 12 ≤ length bs → Decides r (codes "BOOK" ≡ take 4 bs) → r ≡ is_book bs
  unfolding is_book
  titled r h d = rw (le-leb 12 (length bs) h) (same r (bytes_eq (take 4 bs) (codes "BOOK")) d (bytes_eq-Decides (take 4 bs) (codes "BOOK")))
    where
      same : (a b : Bool) → Decides a (codes "BOOK" ≡ take 4 bs) → Decides b (take 4 bs ≡ codes "BOOK") → a ≡ b
      same true b p q = sym (q.1 (sym (p.0 refl)))
      same false true p q = p.1 (sym (q.0 refl))
      same false false p q = refl

  -- of whom it is
  pub whole : is_book bs ≡ true → get_or bs 4 0 ≡ 1 → is_whole bs ≡ true → Ok (get_or bs 5 0) ≡ opening_of bs
  unfolding opening_of
  whole book version h = rw (book, version, h)

pub header_returns : HeaderReturns
unfolding header_of is_book is_whole number_at value front
header_returns desk rest h =
    let behind : List ℕ = little 4 (crc32_of (front desk)) ++ rest in
    let l = length-append (little 4 (crc32_of (front desk))) rest in
    let k = length-little 4 (crc32_of (front desk)) in
    let s : header_of desk ++ rest ≡ front desk ++ behind = sealed-append (front desk) rest in
    let seal : is_sealed 8 (front desk ++ behind) ≡ true = ap (is_sealed 8) (sym s) ∙ sealed-there (front desk) rest 8 refl in
    ap opening_of s
    ∙ sym (whole (front desk ++ behind) (rw (le-leb 12 (length (front desk ++ behind)) (omega arith))) refl (rw (seal, lt-ltb desk 32 h)))
