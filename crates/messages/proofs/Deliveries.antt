-- Reading a letter, one entry of the version vector or one record further.
use Rattle.std.proofs.Common.{◌≡◌, ℕ, zero, suc, ◌+◌, ◌*◌, ◌%◌, ◌<◌, ◌≤◌, max, List, [], ◌∷◌, ◌++◌, drop, get_or, set, sym, refl, ap, ◌∙◌, add-one, arith, get_or-set_other, le-ltb, lt-ltb}
use Rattle.ops.specs.Doc as doc
use Rattle.ops.specs.Layout.{version_cell, heard_cell, low}
use Rattle.ops.specs.Log.{appended}
use Rattle.ops.proofs.Grown.{drop-grown, drop-grown_all}
use Rattle.messages.specs.Bytes.{byte, number_at}
use Rattle.messages.specs.Records.{op_from, records}
use Rattle.messages.specs.Letter.{noted, deliver, delivered, received}

pub deliver_new : (m m₁ : List ℕ) (o : doc.Op) (v : ℕ) → v ≡ low m (version_cell o.name.who) → v < o.name.n → m₁ ≡ appended m o → m₁ ≡ deliver m o
unfolding deliver
deliver_new m m₁ o v e f g = rw (lt-ltb _ _ (rw e at f)) g

pub deliver_old : (m : List ℕ) (o : doc.Op) (v : ℕ) → v ≡ low m (version_cell o.name.who) → o.name.n ≤ v → m ≡ deliver m o
unfolding deliver
deliver_old m o v e f = rw (le-ltb _ _ (rw e at f)) refl

-- the next operation of those that are left is delivered, until none is left
pub delivered_next : (m m₁ : List ℕ) (o : doc.Op) (before after : List doc.Op) → before ≡ o ∷ after → m₁ ≡ deliver m o → delivered m₁ after ≡ delivered m before
unfolding delivered
delivered_next m m₁ o before after e f = rw (e, f) refl

pub delivered_none : (m : List ℕ) (os : List doc.Op) → os ≡ [] → m ≡ delivered m os
unfolding delivered
delivered_none m os e = rw e refl

-- what is left of a letter's records from a place on
records-none : (bs : List ℕ) → records zero bs ≡ []
unfolding records
records-none bs = refl

records-next : (bs : List ℕ) (k : ℕ) → records (suc k) bs ≡ records k bs ++ op_from bs (132 + k * 16) ∷ []
unfolding records
records-next bs k = refl

pub left_more : (bs : List ℕ) (n k : ℕ) (o : doc.Op) → k < n → o ≡ op_from bs (132 + k * 16) → drop k (records n bs) ≡ o ∷ drop (k + 1) (records n bs)
left_more bs n k o h e =
    drop-grown (λ j. op_from bs (132 + j * 16)) (λ j. records j bs) (records-none bs) (records-next bs) n k h ∙ ap (λ p. p ∷ drop (k + 1) (records n bs)) (sym e)

pub left_none : (bs : List ℕ) (n k : ℕ) → n ≤ k → drop k (records n bs) ≡ []
left_none bs n k h = drop-grown_all (λ j. op_from bs (132 + j * 16)) (λ j. records j bs) (records-none bs) (records-next bs) n k h

-- entries of other desks are as they were
noted_other : (d e p : ℕ) (bs m : List ℕ) → d ≤ e → get_or (noted d p bs m) (heard_cell p e) 0 ≡ get_or m (heard_cell p e) 0
unfolding noted
noted_other zero e p bs m h = refl
noted_other (suc d) e p bs m h = get_or-set_other (noted d p bs m) (heard_cell p d) (heard_cell p e) _ 0 (omega arith) ∙ noted_other d e p bs m (omega arith)

pub noted_on : (m l l₁ bs : List ℕ) (p d n : ℕ) → l ≡ noted d p bs m → n ≡ number_at bs (4 + d * 4) → l₁ ≡ set l (heard_cell p d) (max (low l (heard_cell p d)) n) → l₁ ≡ noted (d + 1) p bs m
unfolding noted
noted_on m l l₁ bs p d n e f g =
    let q : low l (heard_cell p d) ≡ low m (heard_cell p d) = ap (λ (x : ℕ). x % 4294967296) (ap (λ (x : List ℕ). get_or x (heard_cell p d) 0) e ∙ noted_other d d p bs m (omega arith)) in
    g ∙ rw (add-one, q, e, f)

-- a whole letter
pub received_is : (m l l₁ bs : List ℕ) (p : ℕ) → l ≡ noted 32 p bs m → l₁ ≡ delivered l (records (byte bs 3) bs) → l₁ ≡ received p bs m
unfolding received
received_is m l l₁ bs p e f = f ∙ ap (λ (x : List ℕ). delivered x (records (byte bs 3) bs)) e
