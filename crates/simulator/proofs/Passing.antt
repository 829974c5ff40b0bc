-- One letter between two of many desks, and a letter and its answer: what they do to all memories.
use Rattle.std.proofs.Common.{◌≡◌, ℕ, ◌+◌, ◌<◌, ◌≤◌, Bool, false, ◌&&◌, List, [], map, length, get_or, take, set, is_ok, Ok, Err, vec_items, vec_len, Result, Vec, sym, ap, ◌∙◌, subst, arith, length-set, length-take}
use Rattle.std.proofs.lemmas.List.{get_or-set_same, get_or-set_other, set-set, set_comm, map-set, get_or-map, length-map}
use Rattle.std.proofs.lemmas.Bool.{le-leb}
use Rattle.std.specs.declared.alloc.Global.{Global}
use Rattle.ops.specs.Log.{kept}
use Rattle.desks.specs.Run.{letter_to, hears, Ran, runs_on, made_well, read_well, first_letter, exchange}
use Rattle.desks.specs.Entry.{own}
use Rattle.network.specs.Room.{level}
use Rattle.replicas.specs.declared.machine.Replica.{Replica}
use Rattle.desks.specs.Refusals.{number_of}
use Rattle.desks.specs.declared.refusal.Refusal.{Refusal}
use Rattle.replicas.specs.Replica.{memory_of, Did, Sent, WritesIf, Writes, Reads, Read}
use Rattle.simulator.specs.Rooms.{memories}
use Rattle.simulator.specs.Meetings.{writing, reading, bytes_of, Passed, Paired}
use Rattle.simulator.proofs.Wells.{made_ok, made_no, read_is}

-- as many memories as desks
pub counted : (desks : Vec Replica Global) (i : ℕ) → i < vec_len desks → i < length (memories desks)
counted desks i h = let e = desks.ok.0 in let f = length-map (vec_items desks) memory_of in omega arith

-- what is promised of a letter and of reading it, where there is room and the letter is short
pub wrote : (m : List ℕ) (j : ℕ) (r : Result ℕ Refusal) (l out out₁ : List ℕ) → 4096 ≤ length out → Writes m j r l out out₁ → Sent (runs_on 3 own m (letter_to j)) r l out₁
wrote m j r l out out₁ long h = subst (λ b. WritesIf b m j r l out out₁) (le-leb 4096 (length out) long) h

pub was_read : (m : List ℕ) (i : ℕ) (bs : List ℕ) (r : Result (Unit {0}) Refusal) (l : List ℕ) → length bs ≤ 4096 → Read m i bs r l → Did (runs_on 3 own m (hears i bs)) r l
was_read m i bs r l short h = subst (λ b. Reads b m i bs r l) (le-leb (length bs) 4096 short) h

pub memory_there : (xs : List Replica) (i : ℕ) (r : Replica) → i < length xs → r ≡ get_or xs i r → memory_of r ≡ get_or (map memory_of xs) i []
memory_there xs i r h e = ap memory_of e ∙ sym (get_or-map memory_of xs i r [] h)

module _ (xs : List Replica) (i j : ℕ) (hi : i < length xs) (hj : j < length xs) (ne : i ≡ j → ⊥) (r l r₂ h : Replica) (er : r ≡ get_or xs i r) (er₂ : r₂ ≡ get_or (set xs i l) j r₂) where
  abbrev ms : List (List ℕ)
  ms = map memory_of xs

  abbrev a : List ℕ
  a = get_or ms i []

  abbrev b : List ℕ
  b = get_or ms j []

  at_i : memory_of r ≡ a
  at_i = memory_there xs i r hi er

  at_j : memory_of r₂ ≡ b
  at_j = memory_there xs j r₂ hj (er₂ ∙ get_or-set_other xs i j l r₂ (λ z. ne (sym z)))

  changed : map memory_of (set (set xs i l) j h) ≡ set (set ms i (memory_of l)) j (memory_of h)
  changed = map-set memory_of (set xs i l) j h ∙ ap (λ ys. set ys j (memory_of h)) (map-set memory_of xs i l)

  pub passed_ok : (n : ℕ) (mail mail₁ : List ℕ) (x : Result (Unit {0}) Refusal) (bs : List ℕ) (well : Bool) → 4096 ≤ length mail → length mail₁ ≡ length mail → bs ≡ take n mail₁ → well ≡ is_ok x → Writes (memory_of r) j (Ok n) (memory_of l) mail mail₁ →
      Read (memory_of r₂) i bs x (memory_of h) → Passed ms i j well n (map memory_of (set (set xs i l) j h))
  unfolding first_letter
  passed_ok n mail mail₁ x bs well room same eb ew w d =
      let s : Sent (writing a j) (Ok n) (memory_of l) mail₁ = subst (λ m. Sent (runs_on 3 own m (letter_to j)) (Ok n) (memory_of l) mail₁) at_i (wrote (memory_of r) j (Ok n) (memory_of l) mail mail₁ room w) in
      let letter : bs ≡ first_letter (writing a j).sent = eb ∙ sym (ap first_letter s.sent) in
      let few : length bs ≤ 4096 = let f = ap length eb in let g = length-take n mail₁ in let k = s.short in omega arith in
      let t : Did (reading b i (writing a j)) x (memory_of h) =
      subst (λ m. Did (runs_on 3 own m (hears i (first_letter (writing a j).sent))) x (memory_of h)) at_j
      (subst (λ c. Did (runs_on 3 own (memory_of r₂) (hears i c)) x (memory_of h)) letter (was_read (memory_of r₂) i bs x (memory_of h) few d)) in
      record {
        after = changed ∙ (λ k. set (set ms i (s.memory k)) j (t.memory k));
        fair = ew ∙ (read_is (reading b i (writing a j)) x t.ended t.none_shown t.none_sent ∙ sym (ap (λ c. c && read_well (reading b i (writing a j))) (made_ok (writing a j) (take n mail₁) s.ended s.none_shown s.sent)));
        long = sym (ap (λ c. length (first_letter c)) s.sent ∙ (let k = s.short in let g = length-take n mail₁ in let q = same in omega arith));
        short = s.short;
      }

  pub passed_no : (k : Refusal) (mail mail₁ : List ℕ) (x : Result (Unit {0}) Refusal) → 4096 ≤ length mail → Writes (memory_of r) j (Err k) (memory_of l) mail mail₁ →
      Did (runs_on 3 own (memory_of r₂) (hears i [])) x (memory_of h) → Passed ms i j false 0 (map memory_of (set (set xs i l) j h))
  unfolding first_letter
  passed_no k mail mail₁ x room w d =
      let s : Sent (writing a j) (Err k) (memory_of l) mail₁ = subst (λ m. Sent (runs_on 3 own m (letter_to j)) (Err k) (memory_of l) mail₁) at_i (wrote (memory_of r) j (Err k) (memory_of l) mail mail₁ room w) in
      let t : Did (reading b i (writing a j)) x (memory_of h) =
      subst (λ m. Did (runs_on 3 own m (hears i (first_letter (writing a j).sent))) x (memory_of h)) at_j
      (subst (λ c. Did (runs_on 3 own (memory_of r₂) (hears i c)) x (memory_of h)) (sym (ap first_letter s.sent)) d) in
      record {
        after = changed ∙ (λ z. set (set ms i (s.memory z)) j (t.memory z));
        fair = sym (ap (λ c. c && read_well (reading b i (writing a j))) (made_no (writing a j) (number_of k) s.ended.0 s.ended.1));
        long = sym (ap (λ c. length (first_letter c)) s.sent);
        short = omega arith;
      }

-- from and to by what they are
pub turned : (ms ms₁ : List (List ℕ)) (i j k l : ℕ) (well : Bool) (n : ℕ) → k ≡ j → l ≡ i → Passed ms k l well n ms₁ → Passed ms j i well n ms₁
turned ms ms₁ i j k l well n e f h = subst (λ x. Passed ms j x well n ms₁) f (subst (λ x. Passed ms x l well n ms₁) e h)

-- A LETTER AND ITS ANSWER
pub paired : (ms ms₁ ms₂ : List (List ℕ)) (i j : ℕ) (t u : Bool) (n k : ℕ) → i < length ms → j < length ms → (i ≡ j → ⊥) → Passed ms i j t n ms₁ → Passed ms₁ j i u k ms₂ → Paired ms i j (t && u) (n + k) ms₂
unfolding exchange
paired ms ms₁ ms₂ i j t u n k hi hj ne p q =
    let a : List ℕ = get_or ms i [] in
    let b : List ℕ = get_or ms j [] in
    let w : Ran = writing a j in
    let r : Ran = reading b i w in
    let one : get_or ms₁ i [] ≡ w.memory = ap (λ l. get_or l i []) p.after ∙ (get_or-set_other (set ms i w.memory) j i r.memory [] ne ∙ get_or-set_same ms i w.memory [] hi) in
    let other : get_or ms₁ j [] ≡ r.memory = ap (λ l. get_or l j []) p.after ∙ get_or-set_same (set ms i w.memory) j r.memory [] (let e = length-set ms i w.memory in omega arith) in
    let v : Ran = writing r.memory i in
    let s : Ran = reading w.memory j v in
    let after₂ : ms₂ ≡ set (set ms₁ j v.memory) i s.memory =
    q.after ∙ (λ k. set (set ms₁ j (writing (other k) i).memory) i (reading (one k) j (writing (other k) i)).memory) in
    let fair₂ : u ≡ (made_well v && read_well s) = q.fair ∙ (λ k. made_well (writing (other k) i) && read_well (reading (one k) j (writing (other k) i))) in
    record {
      after =
          after₂ ∙ (ap (λ l. set (set l j v.memory) i s.memory) p.after
          ∙ (ap (λ l. set l i s.memory) (set-set (set ms i w.memory) j r.memory v.memory)
          ∙ (ap (λ l. set l i s.memory) (set_comm ms i j w.memory v.memory ne)
          ∙ (set-set (set ms j v.memory) i w.memory s.memory ∙ set_comm ms j i v.memory s.memory (λ z. ne (sym z))))));
      fair = λ z. p.fair z && fair₂ z;
      long = λ z. p.long z + (q.long ∙ ap (λ m. bytes_of (writing m i)) other) z;
      short = let x = p.short in let y = q.short in omega arith;
    }

-- what is read of two desks, by their places
pub known-there : (desks : Vec Replica Global) (i n : ℕ) (r : Replica) → i < vec_len desks → r ≡ get_or (vec_items desks) i r → n ≡ kept (memory_of r) → n ≡ kept (get_or (memories desks) i [])
known-there desks i n r h e k = k ∙ ap kept (memory_there (vec_items desks) i r (let f = desks.ok.0 in omega arith) e)

pub level-there : (desks : Vec Replica Global) (i j : ℕ) (b : Bool) (r s : Replica) → i < vec_len desks → j < vec_len desks → r ≡ get_or (vec_items desks) i r → s ≡ get_or (vec_items desks) j s → b ≡ level (memory_of r) (memory_of s) →
    b ≡ level (get_or (memories desks) i []) (get_or (memories desks) j [])
level-there desks i j b r s hi hj er es e =
    let f = desks.ok.0 in
    let p = memory_there (vec_items desks) i r (omega arith) er in
    let q = memory_there (vec_items desks) j s (omega arith) es in
    e ∙ (λ k. level (p k) (q k))
