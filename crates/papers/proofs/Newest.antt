-- The newest word under a key: of the words that deeds write there, the one of the newest name.
use Rattle.std.proofs.Common.{◌≡◌, ℕ, Bool, true, false, eqb, List, [], ◌∷◌, map, take, Some, None, Option, sym, refl, ap, ◌∙◌, arith, eq-eqb, ne_eqb}
use Rattle.std.specs.List.{fold, reduce, filter_map, cons_option}
use Rattle.std.specs.Option.{option_map, option_to_list}
use Rattle.std.proofs.lemmas.Bool.Decides.{nat_tests}
use Rattle.ops.specs.Doc as doc
use Rattle.ops.specs.Doc.{pick, those, id_before, is_under, under, put_op, newest_first, first_word, word_of, word_at}
use Rattle.papers.specs.Deeds.{id_of, kind_of, op_of}
use Rattle.papers.specs.Words.{written_under, named_word}
use Rattle.papers.specs.declared.deeds.Name.{Name}
use Rattle.papers.specs.declared.deeds.Deed.{Deed}
use Rattle.papers.specs.declared.deeds.What.{What}
use Rattle.papers.specs.declared.deeds.What.TheVariants.{Put, Strike, Write, Add}

-- of two words the one of the newer name; of the same name, the latter
abbrev pub newer : Name × ℕ → Name × ℕ → Name × ℕ
newer v w = pick (id_before (id_of w.0) (id_of v.0)) v w

abbrev op_under : ℕ → Name × ℕ → doc.Op
op_under k w = record { name = id_of w.0; kind = under k w.1 }

-- the words are those of the operations that write under the key
write_here : (k : ℕ) (n : Name) (at word : ℕ) (t : Bool) → eqb at k ≡ t → (os : List doc.Op) (ws : List (Name × ℕ)) → os ≡ map (op_under k) ws →
    pick (eqb k at) (record { name = id_of n; kind = under at word } ∷ os) os ≡ map (op_under k) (cons_option (option_map (λ w. (n, w)) (pick t (Some word) None)) ws)
write_here k n at word true e os ws h = let i : at ≡ k = grind (arith, nat_tests) in rw (i, eq-eqb k k refl, h) refl
write_here k n at word false e os ws h = let i : at ≡ k → ⊥ = grind (arith, nat_tests) in rw (ne_eqb k at (λ j. i (sym j)), h) refl

written_more : (k : ℕ) (n : Name) (a : What) (os : List doc.Op) (ws : List (Name × ℕ)) → os ≡ map (op_under k) ws →
    pick (is_under k (kind_of a)) (record { name = id_of n; kind = kind_of a } ∷ os) os ≡ map (op_under k) (cons_option (option_map (λ w. (n, w)) (written_under k a)) ws)
unfolding is_under
written_more k n (Put a b) os ws h = h
written_more k n (Strike a) os ws h = h
written_more k n (Write at word) os ws h = write_here k n at word (eqb at k) refl os ws h
written_more k n (Add a b) os ws h = h

written : (k : ℕ) (ds : List Deed) → those (λ o. is_under k o.kind) (map op_of ds) ≡ map (op_under k) (filter_map (named_word k) ds)
unfolding those
written k [] = refl
written k (d ∷ ds) = written_more k d.name d.what _ _ (written k ds)

-- newer is one and the same, however it is bracketed
newer_chain : (a b c : Name × ℕ) → newer (newer a b) c ≡ newer a (newer b c)
newer_chain a b c = go (id_before (id_of b.0) (id_of a.0)) (id_before (id_of c.0) (id_of b.0)) refl refl
  where
    go : (s t : Bool) → id_before (id_of b.0) (id_of a.0) ≡ s → id_before (id_of c.0) (id_of b.0) ≡ t → newer (pick s a b) c ≡ newer a (pick t b c)
    go true true e f = grind (arith, nat_tests)
    go true false e f = refl
    go false true e f = ap (λ t. pick t b c) f ∙ sym (ap (λ t. pick t a b) e)
    go false false e f = grind (arith, nat_tests)

newer-fold : (a b : Name × ℕ) (ws : List (Name × ℕ)) → fold newer (newer a b) ws ≡ newer a (fold newer b ws)
newer-fold a b [] = refl
newer-fold a b (w ∷ ws) = ap (λ v. fold newer v ws) (newer_chain a b w) ∙ newer-fold a (newer b w) ws

-- the first of the newest first is the newest
front_put : (o : doc.Op) (ps : List doc.Op) → take 1 (put_op o ps) ≡ take 1 (put_op o (take 1 ps))
unfolding put_op
front_put o [] = refl
front_put o (p ∷ ps) = go (id_before p.name o.name)
  where
    go : (t : Bool) → take 1 (pick t (o ∷ p ∷ ps) (p ∷ put_op o ps)) ≡ take 1 (pick t (o ∷ p ∷ []) (p ∷ put_op o []))
    go true = refl
    go false = refl

put_newer : (k : ℕ) (v w : Name × ℕ) → take 1 (put_op (op_under k v) (op_under k w ∷ [])) ≡ op_under k (newer v w) ∷ []
unfolding put_op
put_newer k v w = go (id_before (id_of w.0) (id_of v.0))
  where
    go : (t : Bool) → take 1 (pick t (op_under k v ∷ op_under k w ∷ []) (op_under k w ∷ op_under k v ∷ [])) ≡ op_under k (pick t v w) ∷ []
    go true = refl
    go false = refl

front_newest : (k : ℕ) (ws : List (Name × ℕ)) → take 1 (newest_first (map (op_under k) ws)) ≡ option_to_list (option_map (op_under k) (reduce newer ws))
unfolding newest_first
front_newest k [] = refl
front_newest k (v ∷ []) = unfold put_op in refl
front_newest k (v ∷ w ∷ ws) =
    front_put (op_under k v) (newest_first (map (op_under k) (w ∷ ws))) ∙ ap (λ ps. take 1 (put_op (op_under k v) ps)) (front_newest k (w ∷ ws)) ∙ put_newer k v (fold newer w ws)
    ∙ ap (λ u. op_under k u ∷ []) (sym (newer-fold v w ws))

first_of_front : (os : List doc.Op) → first_word os ≡ first_word (take 1 os)
first_of_front [] = refl
first_of_front (o ∷ os) = unfold first_word in refl

word_of-found : (k : ℕ) (w : Option (Name × ℕ)) → option_to_list (option_map (λ v. v.1) w) ≡ first_word (option_to_list (option_map (op_under k) w))
unfolding first_word word_of
word_of-found k None = refl
word_of-found k (Some v) = refl

pub word_is_newest : (k : ℕ) (ds : List Deed) → option_to_list (option_map (λ w. w.1) (reduce newer (filter_map (named_word k) ds))) ≡ word_at (map op_of ds) k
word_is_newest k ds =
    word_of-found k (reduce newer (filter_map (named_word k) ds)) ∙ ap first_word (sym (front_newest k (filter_map (named_word k) ds)))
    ∙ sym (first_of_front (newest_first (map (op_under k) (filter_map (named_word k) ds)))) ∙ ap (λ os. first_word (newest_first os)) (sym (written k ds))
