-- One operation beside a key, case by case: whether its word is the newest so far.
use Rattle.std.proofs.Common.{◌≡◌, ℕ, ◌+◌, Bool, true, false, List, [], ◌∷◌, Some, None, Option, sym, refl, ap, ◌∙◌, eq-eqb, ne_eqb, arith}
use Rattle.std.specs.Option.{MatchOption, IsSomeAnd, option_or, option_to_list}
use Rattle.std.specs.Bool.{then_some}
use Rattle.std.specs.List.{fold, sum_by}
use Rattle.ops.specs.Doc as doc
use Rattle.ops.specs.Doc.{pick, added_up, count_of, count_at, is_under, id_before, word_at, first_word, word_of}
use Rattle.ops.specs.Values.{id_of, kind_of, op_of}
use Rattle.ops.specs.declared.types.Kind.{Kind}
use Rattle.ops.specs.declared.types.Kind.TheVariants.{Insert, Delete, Write, Add}
use Rattle.ops.specs.declared.types.Op.{Op}
use Rattle.keys.specs.Newest.{found_op, newer, newer_under}
use Rattle.keys.specs.declared.found.Found.{Found}
use Rattle.keys.proofs.Newness.{newest_under, word_at_newest}

pub not_under : (o : Op) (best : Option Found) (key : ℕ) → ((x y : ℕ) → o.kind ≡ Write x y → ⊥) → found_op key best ≡ newer_under key (found_op key best) (op_of o)
unfolding newer_under
not_under o best key h = go o.kind h
  where
    go : (kd : Kind) → ((x y : ℕ) → kd ≡ Write x y → ⊥) → found_op key best ≡ pick (is_under key (kind_of kd)) (newer (found_op key best) (op_of o)) (found_op key best)
    go (Insert a b) h = unfold is_under in refl
    go (Delete a) h = unfold is_under in refl
    go (Add a b) h = unfold is_under in refl
    go (Write a b) h = absurd (h a b refl)

pub other_key : (o : Op) (best : Option Found) (key at word : ℕ) → o.kind ≡ Write at word → (at ≡ key → ⊥) → found_op key best ≡ newer_under key (found_op key best) (op_of o)
unfolding newer_under is_under
other_key o best key at word e h = simp (e, ne_eqb key at (λ g. h (sym g)))

-- the newest so far stays if it is newer, and else the operation's own word takes its place
pub newer_stays : (o : Op) (best left : Option Found) (key at word : ℕ) → o.kind ≡ Write at word → at ≡ key →
    MatchOption best (left ≡ None) (λ f. (b : Bool) × (b ≡ id_before (id_of o.id) (id_of f.id)) × (left ≡ then_some b f)) →
    found_op key (option_or left (Some (record { id = o.id; word = word }))) ≡ newer_under key (found_op key best) (op_of o)
unfolding newer_under is_under found_op newer
newer_stays o None left key at word e h l = simp (l, e, h, eq-eqb key key refl)
newer_stays o (Some f) left key at word e h (true, p, l) = simp (l, e, h, eq-eqb key key refl, sym p)
newer_stays o (Some f) left key at word e h (false, p, l) = simp (l, e, h, eq-eqb key key refl, sym p)

-- the sum over a log, as the paper adds it up
added_up_fold : {A : Type 0} (f : A → ℕ) (xs : List A) (n : ℕ) → fold (λ a x. a + f x) n xs ≡ n + added_up f xs
unfolding added_up
added_up_fold f [] n = omega arith
added_up_fold f (x ∷ xs) n = added_up_fold f xs (n + f x) ∙ omega arith

pub sum_by_count : (ops : List doc.Op) (key : ℕ) → sum_by (λ (o : doc.Op). count_of key o.kind) ops ≡ count_at ops key
sum_by_count ops key = added_up_fold (λ (o : doc.Op). count_of key o.kind) ops 0 ∙ omega arith

pub word_is : (ops : List doc.Op) (key : ℕ) (best : Option Found) (word : Option ℕ) → found_op key best ≡ newest_under key ops →
    MatchOption best (word ≡ None) (λ f. IsSomeAnd word (λ w. w ≡ f.word)) → option_to_list word ≡ word_at ops key
unfolding found_op first_word word_of
word_is ops key None word g h = rw h (ap first_word g ∙ sym (word_at_newest ops key))
word_is ops key (Some f) (Some w) g h = rw h (ap first_word g ∙ sym (word_at_newest ops key))
word_is ops key (Some f) None g h = absurd h
