-- The newest word under a key, kept while a log is gone through, is the first of those in the paper's order.
use Rattle.std.proofs.Common.{◌≡◌, ℕ, Bool, true, false, List, [], ◌∷◌, ◌++◌, sym, refl, ap, ◌∙◌, append-nil, arith}
use Rattle.std.proofs.lemmas.Bool.Decides.{nat_tests}
use Rattle.ops.specs.Doc as doc
use Rattle.ops.specs.Doc.{pick, those, word_at, id_before, put_op, newest_first, first_word, is_under}
use Rattle.ops.proofs.Scans.{those_more}
use Rattle.keys.specs.Newest.{newer, newer_under}

-- ids are in a line
before_chain : (a b c : doc.Id) → id_before a b ≡ true → id_before b c ≡ true → id_before a c ≡ true
before_chain a b c h k = grind (arith, nat_tests)

not_before_chain : (a b c : doc.Id) → id_before a b ≡ false → id_before b c ≡ false → id_before a c ≡ false
not_before_chain a b c h k = grind (arith, nat_tests)

-- the newest is the first of those in order
unfoldable pub head_of : List doc.Op → List doc.Op
head_of [] = []
head_of (o ∷ os) = o ∷ []

unfoldable front : doc.Op → List doc.Op → List doc.Op
front o [] = o ∷ []
front o (p ∷ ps) = pick (id_before p.name o.name) (o ∷ []) (p ∷ [])

head_put : (o : doc.Op) (ps : List doc.Op) → head_of (put_op o ps) ≡ front o (head_of ps)
unfolding head_of front put_op
head_put o [] = refl
head_put o (p ∷ ps) = go (id_before p.name o.name)
  where
    go : (t : Bool) → head_of (pick t (o ∷ p ∷ ps) (p ∷ put_op o ps)) ≡ pick t (o ∷ []) (p ∷ [])
    go true = refl
    go false = refl

front-newer : (x o : doc.Op) (h : List doc.Op) → front x (newer (head_of h) o) ≡ newer (front x (head_of h)) o
unfolding front newer head_of
front-newer x o [] = refl
front-newer x o (p ∷ h) = go (id_before o.name p.name) (id_before p.name x.name) (id_before o.name x.name) refl refl refl
  where
    go : (s t u : Bool) → id_before o.name p.name ≡ s → id_before p.name x.name ≡ t → id_before o.name x.name ≡ u → front x (pick s (p ∷ []) (o ∷ [])) ≡ newer (pick t (x ∷ []) (p ∷ [])) o
    go true true true a b c = simp (b, c)
    go true true false a b c = let z = before_chain o.name p.name x.name a b in cc
    go true false u a b c = simp (a, b)
    go false true u a b c = simp c
    go false false true a b c = let z = not_before_chain o.name p.name x.name a b in cc
    go false false false a b c = simp (a, c)

newest_more : (xs : List doc.Op) (o : doc.Op) → head_of (newest_first (xs ++ o ∷ [])) ≡ newer (head_of (newest_first xs)) o
unfolding newest_first
newest_more [] o = unfold head_of newer put_op in refl
newest_more (x ∷ xs) o =
    head_put x (newest_first (xs ++ o ∷ [])) ∙ ap (front x) (newest_more xs o) ∙ front-newer x o (newest_first xs) ∙ sym (ap (λ h. newer h o) (head_put x (newest_first xs)))

-- the newest under a key
unfoldable pub newest_under : ℕ → List doc.Op → List doc.Op
newest_under k xs = head_of (newest_first (those (λ o. is_under k o.kind) xs))

newest_under_more : (k : ℕ) (xs : List doc.Op) (o : doc.Op) → newest_under k (xs ++ o ∷ []) ≡ newer_under k (newest_under k xs) o
unfolding newest_under newer_under
newest_under_more k xs o = rw (those_more (λ p. is_under k p.kind) xs o) (go (is_under k o.kind))
  where
    go : (t : Bool) → head_of (newest_first (those (λ p. is_under k p.kind) xs ++ pick t (o ∷ []) [])) ≡ pick t (newer (newest_under k xs) o) (newest_under k xs)
    go true = newest_more (those (λ p. is_under k p.kind) xs) o
    go false = ap (λ l. head_of (newest_first l)) (append-nil (those (λ p. is_under k p.kind) xs))

pub word_at_newest : (xs : List doc.Op) (k : ℕ) → word_at xs k ≡ first_word (newest_under k xs)
unfolding newest_under
word_at_newest xs k = go (newest_first (those (λ o. is_under k o.kind) xs))
  where
    go : (l : List doc.Op) → first_word l ≡ first_word (head_of l)
    go [] = unfold head_of in refl
    go (o ∷ os) = unfold head_of first_word in refl

pub newest_none : (k : ℕ) → [] ≡ newest_under k []
unfolding newest_under those newest_first head_of
newest_none k = refl

pub newest_next : (key : ℕ) (os : List doc.Op) (o : doc.Op) (l n : List doc.Op) → l ≡ newest_under key os → n ≡ newer_under key l o → n ≡ newest_under key (os ++ o ∷ [])
newest_next key os o l n e f = rw (newest_under_more key os o, f, e)
