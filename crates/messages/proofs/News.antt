-- What is news in a log, one operation further, until a letter is full.
use Rattle.std.proofs.Common.{◌≡◌, ℕ, ◌+◌, ◌*◌, ◌<◌, ◌≤◌, Bool, cond, get_or, true, false, ltb, List, [], ◌∷◌, ◌++◌, length, take, sym, refl, ap, ◌∙◌, append_assoc, append-nil, arith, length-append, length-take, take_all}
use lib.Seq.{paste}
use Rattle.ops.specs.Doc as doc
use Rattle.ops.specs.Doc.{pick, flat, those}
use Rattle.std.specs.List.{filter}
use Rattle.std.specs.Fn.{CalledAt}
use Rattle.std.specs.Iterator.{YieldsFirstBy}
use Rattle.std.specs.Iterator.Adapters.{filter_source, filter_callee, filter_steps, take_source, take_count, take_steps}
use Rattle.std.specs.declared.iter.Filter.{Filter}
use Rattle.std.specs.declared.iter.Take.{Take}
use Rattle.std.proofs.lemmas.Iterator.{YieldsList, YieldsList-from_take}
use Rattle.std.proofs.lemmas.Iterator.Consumers.{YieldsList-at, YieldsList-from_first, YieldsList-from_filter}
use denote.Param.Members.{Mut}
use denote.Ref.{Bor}
use Rattle.ops.specs.declared.types.Op.{Op}
use Rattle.ops.specs.declared.operations.Operations.{Operations}
use Rattle.ops.specs.Operations.{ops_left}
use Rattle.ops.specs.Values.{op_of}
use Rattle.std.proofs.lemmas.List.{take_more}
use Rattle.ops.specs.Log.{ops_of}
use Rattle.ops.specs.Version.{newer_than}
use Rattle.messages.specs.Records.{record_bytes}
use Rattle.messages.specs.Letter.{most_records, heard, news, filled}
use Rattle.messages.proofs.Coding.{length_record}
use Rattle.messages.proofs.Fills.{length_front, fill_none, fill_more}

abbrev pub is_new : List ℕ → ℕ → doc.Op → Bool
is_new m p o = ltb (heard m p o.name.who) o.name.n

-- a filter is the paper's
filter_those : {A : Type 0} (f : A → Bool) (xs : List A) → filter f xs ≡ those f xs
unfolding those
filter_those f [] = refl
filter_those {A} f (x ∷ xs) = go (f x) (filter_those f xs)
  where
    go : (t : Bool) → filter f xs ≡ those f xs → cond t (x ∷ filter f xs) (filter f xs) ≡ pick t (x ∷ those f xs) (those f xs)
    go true h = ap (λ ys. x ∷ ys) h
    go false h = h

pub filtered_news : (m : List ℕ) (p : ℕ) → take most_records (filter (is_new m p) (ops_of m)) ≡ news m p
unfolding news newer_than
filtered_news m p = ap (take most_records) (filter_those (is_new m p) (ops_of m))

pub news_few : (m : List ℕ) (p count : ℕ) → count ≡ length (news m p) → count ≤ most_records
unfolding news
news_few m p count e = omega (arith, length-take most_records (newer_than (heard m p) (ops_of m)))

-- and what the code's chain over the log gives
pub news_road : {F : Type 0} (g : Mut F (Bor Op × Unit {0}) Bool) (m : List ℕ) (p : ℕ) {f : F} (it : Operations) (u : Filter Operations F) (s : Take (Filter Operations F)) {r : Take (Filter Operations F)} →
    ops_left it ≡ ops_of m → filter_source u ≡ it → filter_callee u ≡ f → take_source s ≡ u → take_count s ≡ most_records → r ≡ s →
    ((x : Op) (b : Bool) (q : F) → CalledAt g f x b q → (q ≡ f) × (b ≡ is_new m p (op_of x))) →
    YieldsList (take_steps (filter_steps (YieldsFirstBy op_of ops_left) g)) op_of r (news m p)
news_road g m p it u s a b c d e h k =
    rw (← (filtered_news m p))
    (YieldsList-at h (YieldsList-from_take most_records (YieldsList-at d (YieldsList-from_filter g (is_new m p) (YieldsList-at b (YieldsList-from_first op_of ops_left (ops_of m) a)) c k)) e))

-- their records
flat_more : (xs : List doc.Op) (o : doc.Op) → flat record_bytes (xs ++ o ∷ []) ≡ flat record_bytes xs ++ record_bytes o
unfolding flat
flat_more [] o = append-nil (record_bytes o)
flat_more (x ∷ xs) o = rw (flat_more xs o, append_assoc)

pub length-flat : (xs : List doc.Op) → length (flat record_bytes xs) ≡ length xs * 16
unfolding flat
length-flat [] = refl
length-flat (x ∷ xs) = rw (length-append, length-flat xs, length_record x) (omega arith)

-- what has been written: behind the bytes in front
abbrev pub Sent : (at : ℕ) (out : List ℕ) (ops : List doc.Op) (now : List ℕ) → Type 0
Sent at out ops now = now ≡ filled (take at out ++ flat record_bytes ops) out

pub sent_none : (at : ℕ) (out : List ℕ) → at ≤ length out → Sent at out [] out
unfolding flat
sent_none at out h = rw append-nil (fill_none out at h)

-- one more of a list that is sent from its beginning
pub sent_one : (at : ℕ) (out now next : List ℕ) (ops : List doc.Op) (k : ℕ) (o : doc.Op) → at ≤ length out → (k < length ops) × (o ≡ get_or ops k o) → Sent at out (take k ops) now →
    next ≡ paste now (at + k * 16) (record_bytes o) 16 → Sent at out (take (k + 1) ops) next
sent_one at out now next ops k o h t s q =
    let xs : List doc.Op = take k ops in
    let bs : List ℕ = take at out ++ flat record_bytes xs in
    let l : length xs ≡ k = omega (arith, length-take k ops) in
    let i : take (k + 1) ops ≡ xs ++ o ∷ [] = take_more ops k o t.0 ∙ ap (λ p. xs ++ p ∷ []) (sym t.1) in
    let a : at + k * 16 ≡ length bs = rw (length-append, length-flat xs, length_front out at h, l) in
    let u : bs ++ record_bytes o ≡ take at out ++ flat record_bytes (xs ++ o ∷ []) = rw (flat_more, append_assoc) in
    rw i (q ∙ rw s (fill_more bs (record_bytes o) out 16 (at + k * 16) a (sym (length_record o))) ∙ ap (λ (ys : List ℕ). filled ys out) u)

pub sent_all : (at : ℕ) (out now : List ℕ) (ops : List doc.Op) (k : ℕ) → k ≡ length ops → Sent at out (take k ops) now → Sent at out ops now
sent_all at out now ops k e s = rw (take_all k ops (omega arith)) at s
