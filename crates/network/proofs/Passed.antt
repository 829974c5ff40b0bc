-- What passed the machine's checks; and no refusal's number is above 7.
use Rattle.std.proofs.Common.{◌≡◌, ℕ, ◌<◌, ◌≤◌, Bool, true, false, ◌&&◌, ltb, List, get_or, refl, arith}
use Rattle.std.proofs.lemmas.Bool.{ltb-true}
use Rattle.ops.specs.Doc.{pick, Command, insert, strike, write_under, add_to, show_text, show_key}
use Rattle.messages.specs.Letter.{is_letter}
use Rattle.desks.specs.Run.{Event, opens, said, letter_to, hears, next}
use Rattle.desks.specs.Machine.{is_open, me, is_peer, is_small, has_room, refusal_said, refusal}

pub opened_passed : (m : List ℕ) (k : ℕ) → pick (is_open m) k 3 ≡ 0 → (0 < get_or m 0 0) × (k ≡ 0)
opened_passed m k e = go (is_open m) refl e
  where
    go : (b : Bool) → is_open m ≡ b → pick b k 3 ≡ 0 → (0 < get_or m 0 0) × (k ≡ 0)
    go true p z = (ltb-true 0 (get_or m 0 0) p, z)
    go false p z = absurd (omega arith)

pub pick_passed : (b : Bool) (n : ℕ) → 1 ≤ n → pick b 0 n ≡ 0 → b ≡ true
pick_passed true n l e = refl
pick_passed false n l e = absurd (omega arith)

-- no refusal's number is above 7
pick_few : (b : Bool) (x y : ℕ) → x ≤ 7 → y ≤ 7 → pick b x y ≤ 7
pick_few true x y f g = f
pick_few false x y f g = g

few_said : (m : List ℕ) (c : Command) → refusal_said m c ≤ 7
unfolding refusal_said
few_said m (insert i c) = omega arith
few_said m (strike i) = omega arith
few_said m (write_under k v) = pick_few (is_small k && is_small v) _ 1 (pick_few (has_room m (me m)) 0 7 (omega arith) (omega arith)) (omega arith)
few_said m (add_to k v) = pick_few (is_small k && is_small v) _ 1 (pick_few (has_room m (me m)) 0 7 (omega arith) (omega arith)) (omega arith)
few_said m show_text = omega arith
few_said m (show_key k) = pick_few (is_small k) 0 1 (omega arith) (omega arith)

pub few_refusals : (m : List ℕ) (ev : Event) → refusal m ev ≤ 7
unfolding refusal
few_refusals m (opens a) = pick_few (ltb a 32) _ 1 (pick_few (is_open m) 3 0 (omega arith) (omega arith)) (omega arith)
few_refusals m (said c) = pick_few (is_open m) _ 3 (few_said m c) (omega arith)
few_refusals m (letter_to a) = pick_few (is_open m) _ 3 (pick_few (is_peer m a) 0 1 (omega arith) (omega arith)) (omega arith)
few_refusals m (hears a bs) = pick_few (is_open m) _ 3 (pick_few (is_peer m a && is_letter a (me m) bs) 0 1 (omega arith) (omega arith)) (omega arith)
few_refusals m next = pick_few (is_open m) 0 3 (omega arith) (omega arith)
