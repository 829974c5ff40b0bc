-- Reading all entries: turn by turn; of a whole book, and of one that is cut off.
use Rattle.std.proofs.Common.{◌≡◌, ℕ, zero, suc, ◌+◌, ◌-◌, ◌<◌, ◌≤◌, List, [], ◌∷◌, ◌++◌, length, take, drop, sym, refl, ap, ◌∙◌, subst, inl, inr, arith, length-append, length-drop, length-take, drop_at}
use lib.Seq.{take-append-add}
use Rattle.std.proofs.lemmas.List.{append-nil, nil_from_length}
use Rattle.std.proofs.lemmas.Bool.{cases_lt}
use Rattle.journals.specs.Book.{Told, bytes_of, Ending, end, torn, Reading, entry, ended, next_of, Read, book_of, and_then, read, read_all}
use Rattle.journals.specs.Statements.{Writable, EntryByEntry, BookReturns, CutAt, Cut}
use Rattle.journals.proofs.Readings.{at_end, sized}
use Rattle.journals.proofs.Returns.{entry_returns, entry_torn}

-- as many turns as there are bytes suffice
same_then : (f g : List ℕ → Read) (bs : List ℕ) (r : Reading) → ((e : Told) (n : ℕ) → r ≡ entry e n → f (drop n bs) ≡ g (drop n bs)) → and_then f bs r ≡ and_then g bs r
unfolding and_then
same_then f g bs (ended x) h = refl
same_then f g bs (entry e n) h = let q = h e n refl in λ i. record { entries = e ∷ (q i).entries; ending = (q i).ending }

none_left : (most : ℕ) (bs : List ℕ) → length bs ≤ 0 → read (suc most) bs ≡ record { entries = []; ending = end }
unfolding read and_then
none_left most bs h = rw (at_end bs (omega arith))

enough : (f g : ℕ) (bs : List ℕ) → length bs ≤ f → length bs ≤ g → read f bs ≡ read g bs
unfolding read
enough zero zero bs h k = refl
enough zero (suc g) bs h k = sym (none_left g bs h)
enough (suc f) zero bs h k = none_left f bs k
enough (suc f) (suc g) bs h k =
    same_then (read f) (read g) bs (next_of bs)
    (λ e n q. let s = sized bs e n q in let d = length-drop n bs in enough f g (drop n bs) (omega arith) (omega arith))

one_turn : (most : ℕ) (bs : List ℕ) → read (suc most) bs ≡ and_then (read most) bs (next_of bs)
unfolding read
one_turn most bs = refl

pub entry_by_entry : EntryByEntry
entry_by_entry bs =
    enough (length bs) (suc (length bs)) bs (omega arith) (omega arith) ∙ one_turn (length bs) bs
    ∙ same_then (read (length bs)) read_all bs (next_of bs)
    (λ e n q. let d = length-drop n bs in enough (length bs) (length (drop n bs)) (drop n bs) (omega arith) (omega arith))

pub stops : (bs : List ℕ) (x : Ending) → next_of bs ≡ ended x → read_all bs ≡ record { entries = []; ending = x }
unfolding and_then
stops bs x q = entry_by_entry bs ∙ ap (and_then read_all bs) q

pub goes_on : (bs rest : List ℕ) (e : Told) (n : ℕ) → next_of bs ≡ entry e n → drop n bs ≡ rest →
    read_all bs ≡ record { entries = e ∷ (read_all rest).entries; ending = (read_all rest).ending }
unfolding and_then
goes_on bs rest e n q d =
    entry_by_entry bs ∙ ap (and_then read_all bs) q ∙ (λ i. record { entries = e ∷ (read_all (d i)).entries; ending = (read_all (d i)).ending })

-- one entry in front of others
module _ (e : Told) (rest : List ℕ) where
  pub first : Writable e → read_all (bytes_of e ++ rest) ≡ record { entries = e ∷ (read_all rest).entries; ending = (read_all rest).ending }
  first w = goes_on (bytes_of e ++ rest) rest e (length (bytes_of e)) (entry_returns e w rest) (drop_at (bytes_of e) rest (length (bytes_of e)) refl)

book_more : (e : Told) (es : List Told) → book_of (e ∷ es) ≡ bytes_of e ++ book_of es
unfolding book_of
book_more e es = refl

book_none : book_of [] ≡ []
unfolding book_of
book_none = refl

nothing : read_all [] ≡ record { entries = []; ending = end }
nothing = stops [] end (at_end [] refl)

pub book_returns : BookReturns
book_returns [] w = ap read_all book_none ∙ nothing
book_returns (e ∷ es) w =
    let q = book_returns es w.1 in
    ap read_all (book_more e es) ∙ first e (book_of es) w.0 ∙ (λ i. record { entries = e ∷ (q i).entries; ending = (q i).ending })

-- a book that is cut off: before its first entry, within it, or behind it
cut-nothing : (es : List Told) (n : ℕ) → take n (book_of es) ≡ [] → (0 < length es → n < length (book_of (take 1 es))) → CutAt es n
cut-nothing es n q h =
    let r : read_all (take n (book_of es)) ≡ record { entries = []; ending = end } = ap read_all q ∙ nothing in
    record {
      count = 0;
      read = ap (λ (x : Read). x.entries) r;
      whole = rw book_none (omega arith);
      most = h;
      ending = inl (ap (λ (x : Read). x.ending) r, q ∙ sym book_none);
    }

length_one : (e : Told) (es : List Told) → length (book_of (take 1 (e ∷ es))) ≡ length (bytes_of e)
length_one e es = ap length (book_more e [] ∙ ap (λ (bs : List ℕ). bytes_of e ++ bs) book_none ∙ append-nil (bytes_of e))

cut-within : (e : Told) (es : List Told) (n : ℕ) → Writable e → 0 < n → n < length (bytes_of e) → CutAt (e ∷ es) n
cut-within e es n w some less =
    let r : read_all (take n (book_of (e ∷ es))) ≡ record { entries = []; ending = torn } =
    ap (λ (bs : List ℕ). read_all (take n bs)) (book_more e es) ∙ stops _ torn (entry_torn e w (book_of es) n some less) in
    let l = length_one e es in
    record {
      count = 0;
      read = ap (λ (x : Read). x.entries) r;
      whole = rw book_none (omega arith);
      most = λ h. omega arith;
      ending = inr (ap (λ (x : Read). x.ending) r);
    }

cut-behind : (e : Told) (es : List Told) (n : ℕ) → Writable e → CutAt es n → CutAt (e ∷ es) (length (bytes_of e) + n)
cut-behind e es n w c =
    let k : ℕ = c.count in
    let s : take (length (bytes_of e) + n) (book_of (e ∷ es)) ≡ bytes_of e ++ take n (book_of es) =
    ap (take (length (bytes_of e) + n)) (book_more e es) ∙ take-append-add (bytes_of e) (book_of es) n in
    let r = ap read_all s ∙ first e (take n (book_of es)) w in
    let lengths : (fs : List Told) → length (book_of (e ∷ fs)) ≡ length (bytes_of e) + length (book_of fs) =
    λ fs. ap length (book_more e fs) ∙ length-append (bytes_of e) (book_of fs) in
    record {
      count = suc k;
      read = ap (λ (x : Read). x.entries) r ∙ ap (λ (fs : List Told). e ∷ fs) c.read;
      whole = let l = lengths (take k es) in let h = c.whole in omega arith;
      most = λ h. let l = lengths (take (suc k) es) in let m = c.most (omega arith) in omega arith;
      ending =
          elim c.ending [
            | inl x ↦ inl (ap (λ (x : Read). x.ending) r ∙ x.0, s ∙ ap (λ (bs : List ℕ). bytes_of e ++ bs) x.1 ∙ sym (book_more e (take k es)))
            | inr x ↦ inr (ap (λ (x : Read). x.ending) r ∙ x)
          ];
    }

pub cut : Cut
cut [] n w =
    let l = length-take n (book_of []) in
    let z = ap length book_none in
    cut-nothing [] n (nil_from_length (take n (book_of [])) (omega arith)) (λ h. absurd (omega arith))
cut (e ∷ es) n w =
    elim (cases_lt n (length (bytes_of e))) [
      | inl less ↦
          elim (cases_lt 0 n) [
            | inl some ↦ cut-within e es n w.0 some less
            | inr none ↦ let z : n ≡ 0 = omega arith in let l = length_one e es in cut-nothing (e ∷ es) n (ap (λ (m : ℕ). take m (book_of (e ∷ es))) z) (λ h. omega arith)
          ]
      | inr more ↦
          let s : length (bytes_of e) + (n - length (bytes_of e)) ≡ n = omega arith in
          subst (CutAt (e ∷ es)) s (cut-behind e es (n - length (bytes_of e)) w.0 (cut es (n - length (bytes_of e)) w.1))
    ]
