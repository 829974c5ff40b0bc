-- When the machine refuses: its number for each event, by what the checks found.
use Rattle.std.proofs.Common.{◌≡◌, ℕ, ◌<◌, Bool, true, false, not, ◌&&◌, eqb, ltb, List, get_or, sym, refl, ap, ◌∙◌, ap₂, arith}
use Rattle.std.proofs.lemmas.Bool.{ltb-true, eqb-false, ne_eqb, lt-ltb, le-ltb}
use Rattle.ops.specs.Doc.{pick, Command, insert, strike, write_under, add_to, show_text, show_key}
use Rattle.messages.specs.Letter.{is_letter}
use Rattle.desks.specs.Run.{opens, said, letter_to, hears, next}
use Rattle.desks.specs.Machine.{is_open, me, is_peer, is_small, has_room, refusal_said, refusal}

open_is : (m : List ℕ) → 0 < get_or m 0 0 → is_open m ≡ true
open_is m h = lt-ltb 0 (get_or m 0 0) h

shut_is : (m : List ℕ) → (0 < get_or m 0 0 → ⊥) → is_open m ≡ false
shut_is m h = le-ltb 0 (get_or m 0 0) (omega arith)

-- opening
pub opens_no_desk : (m : List ℕ) (a : ℕ) → (a < 32 → ⊥) → refusal m (opens a) ≡ 1
unfolding refusal
opens_no_desk m a h = rw (le-ltb a 32 (omega arith)) refl

pub opens_again : (m : List ℕ) (a : ℕ) → a < 32 → 0 < get_or m 0 0 → refusal m (opens a) ≡ 3
unfolding refusal
opens_again m a h o = rw (lt-ltb a 32 h, lt-ltb 0 (get_or m 0 0) o) refl

pub opens_well : (m : List ℕ) (a : ℕ) → a < 32 → (0 < get_or m 0 0 → ⊥) → refusal m (opens a) ≡ 0
unfolding refusal
opens_well m a h o = rw (lt-ltb a 32 h, le-ltb 0 (get_or m 0 0) (omega arith)) refl

-- a desk that isn't open
pub said-closed : (m : List ℕ) (c : Command) → (0 < get_or m 0 0 → ⊥) → refusal m (said c) ≡ 3
unfolding refusal
said-closed m c o = ap (λ b. pick b (refusal_said m c) 3) (shut_is m o)

pub letter-closed : (m : List ℕ) (a : ℕ) → (0 < get_or m 0 0 → ⊥) → refusal m (letter_to a) ≡ 3
unfolding refusal
letter-closed m a o = ap (λ b. pick b (pick (is_peer m a) 0 1) 3) (shut_is m o)

pub hears-closed : (m : List ℕ) (a : ℕ) (bs : List ℕ) → (0 < get_or m 0 0 → ⊥) → refusal m (hears a bs) ≡ 3
unfolding refusal
hears-closed m a bs o = ap (λ b. pick b (pick (is_peer m a && is_letter a (me m) bs) 0 1) 3) (shut_is m o)

pub next_closed : (m : List ℕ) → (0 < get_or m 0 0 → ⊥) → refusal m next ≡ 3
unfolding refusal
next_closed m o = ap (λ b. pick b 0 3) (shut_is m o)

pub next_well : (m : List ℕ) → 0 < get_or m 0 0 → refusal m next ≡ 0
unfolding refusal
next_well m o = ap (λ b. pick b 0 3) (open_is m o)

-- commands
said_open : (m : List ℕ) (c : Command) → 0 < get_or m 0 0 → refusal m (said c) ≡ refusal_said m c
unfolding refusal
said_open m c o = ap (λ b. pick b (refusal_said m c) 3) (open_is m o)

small_is : (k : ℕ) → k < 4294967296 → is_small k ≡ true
small_is k h = lt-ltb k 4294967296 h

large_is : (k : ℕ) → (k < 4294967296 → ⊥) → is_small k ≡ false
large_is k h = le-ltb k 4294967296 (omega arith)

-- a write or an add of two numbers
abbrev deed_refusal : List ℕ → ℕ → ℕ → ℕ
deed_refusal m k v = pick (is_small k && is_small v) (pick (has_room m (me m)) 0 7) 1

key_large : (m : List ℕ) (k v : ℕ) → (k < 4294967296 → ⊥) → deed_refusal m k v ≡ 1
key_large m k v h = ap (λ b. pick (b && is_small v) (pick (has_room m (me m)) 0 7) 1) (large_is k h)

value_large : (m : List ℕ) (k v : ℕ) → k < 4294967296 → (v < 4294967296 → ⊥) → deed_refusal m k v ≡ 1
value_large m k v h i = ap₂ (λ b c. pick (b && c) (pick (has_room m (me m)) 0 7) 1) (small_is k h) (large_is v i)

both_small : (m : List ℕ) (k v : ℕ) (b : Bool) → k < 4294967296 → v < 4294967296 → has_room m (me m) ≡ b → deed_refusal m k v ≡ pick b 0 7
both_small m k v b h i r = λ j. pick (small_is k h j && small_is v i j) (pick (r j) 0 7) 1

module _ (m : List ℕ) (k v : ℕ) (o : 0 < get_or m 0 0) where
  pub write_key_large : (k < 4294967296 → ⊥) → refusal m (said (write_under k v)) ≡ 1
  unfolding refusal_said
  write_key_large h = said_open m (write_under k v) o ∙ key_large m k v h

  pub write_word_large : k < 4294967296 → (v < 4294967296 → ⊥) → refusal m (said (write_under k v)) ≡ 1
  unfolding refusal_said
  write_word_large h i = said_open m (write_under k v) o ∙ value_large m k v h i

  pub write_small : (b : Bool) → k < 4294967296 → v < 4294967296 → has_room m (me m) ≡ b → refusal m (said (write_under k v)) ≡ pick b 0 7
  unfolding refusal_said
  write_small b h i r = said_open m (write_under k v) o ∙ both_small m k v b h i r

  pub add_key_large : (k < 4294967296 → ⊥) → refusal m (said (add_to k v)) ≡ 1
  unfolding refusal_said
  add_key_large h = said_open m (add_to k v) o ∙ key_large m k v h

  pub add_amount_large : k < 4294967296 → (v < 4294967296 → ⊥) → refusal m (said (add_to k v)) ≡ 1
  unfolding refusal_said
  add_amount_large h i = said_open m (add_to k v) o ∙ value_large m k v h i

  pub add_small : (b : Bool) → k < 4294967296 → v < 4294967296 → has_room m (me m) ≡ b → refusal m (said (add_to k v)) ≡ pick b 0 7
  unfolding refusal_said
  add_small b h i r = said_open m (add_to k v) o ∙ both_small m k v b h i r

pub key_large_shown : (m : List ℕ) (k : ℕ) → 0 < get_or m 0 0 → (k < 4294967296 → ⊥) → refusal m (said (show_key k)) ≡ 1
unfolding refusal_said
key_large_shown m k o h = said_open m (show_key k) o ∙ ap (λ b. pick b 0 1) (large_is k h)

pub key_small_shown : (m : List ℕ) (k : ℕ) → 0 < get_or m 0 0 → k < 4294967296 → refusal m (said (show_key k)) ≡ 0
unfolding refusal_said
key_small_shown m k o h = said_open m (show_key k) o ∙ ap (λ b. pick b 0 1) (small_is k h)

-- what isn't known
pub unknown_insert : (m : List ℕ) (i c : ℕ) → refusal m (said (insert i c)) ≡ pick (is_open m) 2 3
unfolding refusal refusal_said
unknown_insert m i c = refl

pub unknown_strike : (m : List ℕ) (i : ℕ) → refusal m (said (strike i)) ≡ pick (is_open m) 2 3
unfolding refusal refusal_said
unknown_strike m i = refl

pub unknown-text : (m : List ℕ) → refusal m (said show_text) ≡ pick (is_open m) 2 3
unfolding refusal refusal_said
unknown-text m = refl

-- letters
peer_is : (m : List ℕ) (a d : ℕ) → d ≡ me m → (a < 32) × (a ≡ d → ⊥) → is_peer m a ≡ true
peer_is m a d e h = λ j. lt-ltb a 32 h.0 j && not (ne_eqb a (me m) (λ q. h.1 (q ∙ sym e)) j)

no_peer : (m : List ℕ) (a d : ℕ) → d ≡ me m → ((a < 32) × (a ≡ d → ⊥) → ⊥) → is_peer m a ≡ false
no_peer m a d e h = go (ltb a 32) (eqb a (me m)) refl refl
  where
    go : (s t : Bool) → ltb a 32 ≡ s → eqb a (me m) ≡ t → (s && not t) ≡ false
    go true true p q = refl
    go true false p q = absurd (h (ltb-true a 32 p, λ r. eqb-false a (me m) q (r ∙ e)))
    go false t p q = refl

pub letter-no_peer : (m : List ℕ) (a d : ℕ) → 0 < get_or m 0 0 → d ≡ me m → ((a < 32) × (a ≡ d → ⊥) → ⊥) → refusal m (letter_to a) ≡ 1
unfolding refusal
letter-no_peer m a d o e h = λ j. pick (open_is m o j) (pick (no_peer m a d e h j) 0 1) 3

pub letter_well : (m : List ℕ) (a d : ℕ) → 0 < get_or m 0 0 → d ≡ me m → (a < 32) × (a ≡ d → ⊥) → refusal m (letter_to a) ≡ 0
unfolding refusal
letter_well m a d o e h = λ j. pick (open_is m o j) (pick (peer_is m a d e h j) 0 1) 3

pub hears-no_peer : (m : List ℕ) (a d : ℕ) (bs : List ℕ) → 0 < get_or m 0 0 → d ≡ me m → ((a < 32) × (a ≡ d → ⊥) → ⊥) → refusal m (hears a bs) ≡ 1
unfolding refusal
hears-no_peer m a d bs o e h = λ j. pick (open_is m o j) (pick (no_peer m a d e h j && is_letter a (me m) bs) 0 1) 3

pub hears_by : (m : List ℕ) (a d : ℕ) (bs : List ℕ) (b : Bool) → 0 < get_or m 0 0 → d ≡ me m → (a < 32) × (a ≡ d → ⊥) → is_letter a (me m) bs ≡ b → refusal m (hears a bs) ≡ pick b 0 1
unfolding refusal
hears_by m a d bs b o e h l = λ j. pick (open_is m o j) (pick (peer_is m a d e h j && l j) 0 1) 3
