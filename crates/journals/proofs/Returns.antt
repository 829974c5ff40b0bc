-- An entry that was written is read again; one that is cut off is torn.
use Rattle.std.proofs.Common.{◌≡◌, ℕ, suc, ◌+◌, ◌-◌, ◌<◌, ◌≤◌, true, List, [], ◌∷◌, ◌++◌, length, take, drop, Some, Option, sym, refl, ap, ◌∙◌, inl, inr, append_assoc, arith, length-append, length-take, take_at, drop_at}
use lib.Seq.{take-append-add}
use Rattle.std.proofs.lemmas.Bool.{eq-eqb, le-leb, cases_lt}
use Rattle.checksums.specs.Crc.{crc32_of}
use Rattle.journals.specs.Bytes.{little, number_at, is_sealed}
use Rattle.journals.specs.Book.{Told, body_of, lengths, unsealed_of, bytes_of, told_of, length_of, of_length, next_of, entry, ended, torn}
use Rattle.journals.specs.Statements.{Writable}
use Rattle.journals.proofs.LittleEndian.{length-little, number-there}
use Rattle.journals.proofs.Readings.{within-lengths, past_lengths, within-entry, whole}
use Rattle.journals.proofs.Seals.{length-sealed, sealed-append, sealed-there}

-- the body
pub length_body : (e : Told) → length (body_of e) ≡ 17 + length e.letter
unfolding body_of
length_body e =
    let x = length-append (little 8 e.a) (little 8 e.b ++ e.letter) in
    let y = length-append (little 8 e.b) e.letter in
    let p = length-little 8 e.a in
    let q = length-little 8 e.b in
    omega arith

letter_back : (e : Told) → drop 17 (body_of e) ≡ e.letter
unfolding body_of
letter_back e =
    let front : List ℕ = e.kind ∷ little 8 e.a in
    let x = length-append (little 8 e.a) (little 8 e.b) in
    let p = length-little 8 e.a in
    let q = length-little 8 e.b in
    ap (drop 17) (sym (append_assoc front (little 8 e.b) e.letter))
    ∙ drop_at (front ++ little 8 e.b) e.letter 17 (omega arith)

told_back : (e : Told) → Writable e → told_of (body_of e) ≡ e
unfolding told_of body_of
told_back e w =
    let x : number_at 8 1 (body_of e) ≡ e.a = number-there (e.kind ∷ []) 8 e.a (little 8 e.b ++ e.letter) 1 refl w.0 in
    let y : number_at 8 9 (body_of e) ≡ e.b = number-there (e.kind ∷ little 8 e.a) 8 e.b e.letter 9 (ap suc (length-little 8 e.a)) w.1 in
    let z = letter_back e in
    λ i. record { kind = e.kind; a = x i; b = y i; letter = z i }

-- the lengths
length-lengths : (n : ℕ) → length (lengths n) ≡ 4
unfolding lengths
length-lengths n =
    let x = length-append (little 2 n) (little 2 (65535 - n)) in
    let p = length-little 2 n in
    let q = length-little 2 (65535 - n) in
    omega arith

module _ (n : ℕ) (least : 17 ≤ n) (most : n ≤ 4113) (rest : List ℕ) where
  lengths_back : length_of (lengths n ++ rest) ≡ Some n
  unfolding length_of lengths
  lengths_back =
      let bs : List ℕ = (little 2 n ++ little 2 (65535 - n)) ++ rest in
      let s = append_assoc (little 2 n) (little 2 (65535 - n)) rest in
      let x : number_at 2 0 bs ≡ n = ap (number_at 2 0) s ∙ number-there [] 2 n (little 2 (65535 - n) ++ rest) 0 refl (omega arith) in
      let y : number_at 2 2 bs ≡ 65535 - n =
      ap (number_at 2 2) s ∙ number-there (little 2 n) 2 (65535 - n) rest 2 (length-little 2 n) (omega arith) in
      rw (x, y, eq-eqb (65535 - n) (65535 - n) refl, le-leb 17 n least, le-leb n 4113 most)

  pub next_there : next_of (lengths n ++ rest) ≡ of_length (Some n) (lengths n ++ rest)
  next_there =
      let l = length-append (lengths n) rest in
      let k = length-lengths n in
      past_lengths (lengths n ++ rest) (omega arith) ∙ ap (λ (o : Option ℕ). of_length o (lengths n ++ rest)) lengths_back

-- the whole
pub length_bytes : (e : Told) → length (bytes_of e) ≡ length (body_of e) + 8
unfolding bytes_of
length_bytes e =
    let n : ℕ = length (body_of e) in
    let x = length-sealed (lengths n ++ body_of e) in
    let y = length-append (lengths n) (body_of e) in
    let z = length-lengths n in
    omega arith

crc_of : Told → List ℕ
crc_of e = little 4 (crc32_of (unsealed_of e))

parts : (e : Told) (rest : List ℕ) → bytes_of e ++ rest ≡ lengths (length (body_of e)) ++ (body_of e ++ (crc_of e ++ rest))
unfolding bytes_of crc_of
parts e rest =
    let front : List ℕ = lengths (length (body_of e)) in
    sealed-append (front ++ body_of e) rest ∙ append_assoc front (body_of e) (crc_of e ++ rest)

body_there : (e : Told) (rest : List ℕ) → take (length (body_of e)) (drop 4 (bytes_of e ++ rest)) ≡ body_of e
body_there e rest =
    let n : ℕ = length (body_of e) in
    let behind : List ℕ = crc_of e ++ rest in
    ap (λ (bs : List ℕ). take n (drop 4 bs)) (parts e rest)
    ∙ ap (take n) (drop_at (lengths n) (body_of e ++ behind) 4 (length-lengths n))
    ∙ take_at (body_of e) behind n refl

seal_there : (e : Told) (rest : List ℕ) → is_sealed (length (body_of e) + 4) (bytes_of e ++ rest) ≡ true
unfolding bytes_of
seal_there e rest =
    let n : ℕ = length (body_of e) in
    let y = length-append (lengths n) (body_of e) in
    let z = length-lengths n in
    sealed-there (lengths n ++ body_of e) rest (n + 4) (omega arith)

module _ (e : Told) (w : Writable e) (rest : List ℕ) where
  read_on : next_of (bytes_of e ++ rest) ≡ of_length (Some (length (body_of e))) (bytes_of e ++ rest)
  read_on =
      let n : ℕ = length (body_of e) in
      let l = length_body e in
      let letter = w.2 in
      ap next_of (parts e rest) ∙ next_there n (omega arith) (omega arith) (body_of e ++ (crc_of e ++ rest))
      ∙ ap (of_length (Some n)) (sym (parts e rest))

  pub entry_returns : next_of (bytes_of e ++ rest) ≡ entry e (length (bytes_of e))
  entry_returns =
      let n : ℕ = length (body_of e) in
      let bs : List ℕ = bytes_of e ++ rest in
      let l = length-append (bytes_of e) rest in
      let k = length_bytes e in
      read_on ∙ whole bs n (omega arith) (seal_there e rest)
      ∙ ap (λ (t : Told). entry t (n + 8)) (ap told_of (body_there e rest) ∙ told_back e w)
      ∙ ap (entry e) (sym k)

  -- cut off within the lengths, and behind them
  cut_short : (c : ℕ) → 0 < c → c < 4 → c < length (bytes_of e) → next_of (take c (bytes_of e ++ rest)) ≡ ended torn
  cut_short c some few less =
      let l = length-append (bytes_of e) rest in
      let k = length-take c (bytes_of e ++ rest) in
      within-lengths (take c (bytes_of e ++ rest)) (omega arith) (omega arith)

  cut-long : (c : ℕ) → 4 + c < length (bytes_of e) → next_of (take (4 + c) (bytes_of e ++ rest)) ≡ ended torn
  cut-long c less =
      let n : ℕ = length (body_of e) in
      let behind : List ℕ = body_of e ++ (crc_of e ++ rest) in
      let b = length_body e in
      let letter = w.2 in
      let k = length_bytes e in
      let f = length-lengths n in
      let l = length-append (lengths n) (take c behind) in
      let t = length-take c behind in
      let s : take (4 + c) (bytes_of e ++ rest) ≡ lengths n ++ take c behind =
      ap (take (4 + c)) (parts e rest) ∙ ap (λ (m : ℕ). take (m + c) (lengths n ++ behind)) (sym f) ∙ take-append-add (lengths n) behind c in
      ap next_of s ∙ next_there n (omega arith) (omega arith) (take c behind) ∙ within-entry (lengths n ++ take c behind) n (omega arith)

  pub entry_torn : (c : ℕ) → 0 < c → c < length (bytes_of e) → next_of (take c (bytes_of e ++ rest)) ≡ ended torn
  entry_torn c some less =
      elim (cases_lt c 4) [
        | inl few ↦ cut_short c some few less
        | inr four ↦
            let s : 4 + (c - 4) ≡ c = omega arith in
            ap (λ (m : ℕ). next_of (take m (bytes_of e ++ rest))) (sym s) ∙ cut-long (c - 4) (omega arith)
      ]
