-- The pieces that the code writes make a header, and an entry.
use Rattle.std.proofs.Common.{◌≡◌, ℕ, ◌+◌, ◌-◌, ◌/◌, ◌%◌, ◌<◌, ◌≤◌, List, [], ◌∷◌, ◌++◌, length, take, set, IsErrAnd, Ok, Err, vec_items, Result, Vec, sym, ap, ◌∙◌, append_assoc}
use borrow.Rule.Slice.PartMut.{put_mid}
use Rattle.std.specs.declared.alloc.Global.{Global}
use Rattle.std.proofs.lemmas.List.{append-nil}
use Rattle.std.proofs.lemmas.Result.{err_from_is_err_and}
use Rattle.checksums.specs.Crc.{crc32_of}
use Rattle.journals.specs.Bytes.{little, sealed}
use Rattle.journals.specs.Book.{header_of, Told, longest_letter, body_of, lengths, unsealed_of, bytes_of, Writes}
use Rattle.journals.specs.declared.entries.Fault.{Fault}
use Rattle.journals.specs.declared.entries.Fault.TheVariants.{TooLong, NoMemory}
use Rattle.journals.proofs.LittleEndian.{four_bytes}
use Rattle.journals.proofs.Returns.{length_body}

sealed_by : (bs crc : List ℕ) → crc ≡ little 4 (crc32_of bs) → bs ++ crc ≡ sealed bs
unfolding sealed
sealed_by bs crc e = ap (λ (x : List ℕ). bs ++ x) e

-- a header: the title, the version and the desk are put in front of zeros, and then the CRC over the last four
abbrev fronted : (title : List ℕ) → ℕ → List ℕ
fronted title desk = set (set (title ++ (0 ∷ 0 ∷ 0 ∷ 0 ∷ 0 ∷ 0 ∷ 0 ∷ 0 ∷ [])) 4 1) 5 desk

pub header_is : (desk crc : ℕ) (title tail : List ℕ) → title ≡ 66 ∷ 79 ∷ 79 ∷ 75 ∷ [] → crc ≡ crc32_of (take 8 (fronted title desk)) →
    tail ≡ crc % 256 ∷ crc / 256 % 256 ∷ crc / 65536 % 256 ∷ crc / 16777216 % 256 ∷ [] →
    put_mid 8 4 (fronted title desk) tail ≡ header_of desk
unfolding header_of sealed
header_is desk crc title tail t e f =
    let front : List ℕ = 66 ∷ 79 ∷ 79 ∷ 75 ∷ 1 ∷ desk ∷ 0 ∷ 0 ∷ [] in
    let g : crc ≡ crc32_of front = e ∙ ap (λ (x : List ℕ). crc32_of (take 8 (fronted x desk))) t in
    ap (λ (x : List ℕ). put_mid 8 4 (fronted x desk) tail) t ∙ ap (λ (x : List ℕ). front ++ x) (append-nil tail ∙ f ∙ four_bytes crc ∙ ap (little 4) g)

-- an entry up to its seal, and with it
pub unsealed_is : (e : Told) (n : ℕ) (p q x y out : List ℕ) → n ≡ 17 + length e.letter → p ≡ little 2 n → q ≡ little 2 (65535 - n) →
    x ≡ little 8 e.a → y ≡ little 8 e.b → out ≡ ((((([] ++ p) ++ q) ++ (e.kind ∷ [])) ++ x) ++ y) ++ e.letter →
    out ≡ unsealed_of e
unfolding lengths body_of
unsealed_is e n p q x y out l f g h i j =
    let m : n ≡ length (body_of e) = l ∙ sym (length_body e) in
    j ∙ simp append_assoc (λ k. f k ++ (g k ++ (e.kind ∷ (h k ++ (i k ++ e.letter)))))
    ∙ sym (append_assoc (little 2 n) (little 2 (65535 - n)) (body_of e))
    ∙ ap (λ (k : ℕ). (little 2 k ++ little 2 (65535 - k)) ++ body_of e) m

pub entry_is : (e : Told) (seen tail out : List ℕ) (crc : ℕ) → seen ≡ unsealed_of e → crc ≡ crc32_of seen →
    tail ≡ crc % 256 ∷ crc / 256 % 256 ∷ crc / 65536 % 256 ∷ crc / 16777216 % 256 ∷ [] →
    out ≡ unsealed_of e ++ tail → out ≡ bytes_of e
unfolding bytes_of
entry_is e seen tail out crc f g h i = i ∙ sealed_by (unsealed_of e) tail (h ∙ four_bytes crc ∙ ap (little 4) (g ∙ ap crc32_of f))

-- what writing answers
module _ (e : Told) where
  pub too_long : longest_letter < length e.letter → Writes e (Err TooLong)
  unfolding Writes
  too_long h = h

  pub no_memory : (r : Result (Vec ℕ Global) Fault) → IsErrAnd r (λ f. f ≡ NoMemory) → length e.letter ≤ longest_letter → Writes e r
  unfolding Writes
  no_memory r by h = let p = err_from_is_err_and r by in rw (p.1, p.2) h

  pub written : (bytes : Vec ℕ Global) → length e.letter ≤ longest_letter → vec_items bytes ≡ bytes_of e → Writes e (Ok bytes)
  unfolding Writes
  written bytes h i = (h, i)
