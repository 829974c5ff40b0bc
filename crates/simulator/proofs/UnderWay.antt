-- A meeting under way: what is still to come leads to where the whole meeting leads.
use Rattle.std.proofs.Common.{◌≡◌, ℕ, suc, ◌+◌, ◌-◌, ◌*◌, ◌<◌, ◌≤◌, Bool, true, false, ◌&&◌, List, [], length, get_or, set, sym, refl, ap, ◌∙◌, arith, length-set}
use Rattle.std.proofs.lemmas.List.{get_or-set_same, get_or-set_other, set-set, set_comm, set-get_or}
use Rattle.ops.specs.Doc.{pick}
use Rattle.desks.specs.Run.{Two, exchange}
use Rattle.desks.specs.Entry.{own}
use Rattle.network.specs.Room.{level, pair, pairs, most_pairs, meeting}
use Rattle.simulator.specs.Meetings.{pair_bytes, traffic, meeting_bytes, with_two, Paired, Met}

abbrev most : List (List ℕ) → ℕ → ℕ → ℕ
most ms i j = most_pairs (get_or ms i []) (get_or ms j [])

abbrev whole : List (List ℕ) → ℕ → ℕ → Two
whole ms i j = meeting i j (get_or ms i []) (get_or ms j [])

abbrev to_come : ℕ → ℕ → ℕ → List (List ℕ) → ℕ
to_come n i j ms₁ = pairs n i j (get_or ms₁ i []) (get_or ms₁ j [])

abbrev bytes_to_come : ℕ → ℕ → ℕ → List (List ℕ) → ℕ
bytes_to_come n i j ms₁ = traffic (to_come n i j ms₁) i j (get_or ms₁ i []) (get_or ms₁ j [])

-- p pairs are behind them, of so many bytes, and the memories are ms₁ now
pub record UnderWay (ms : List (List ℕ)) (i j p : ℕ) (fair : Bool) (size : ℕ) (ms₁ : List (List ℕ)) : Type 0 where
  pub others : ms₁ ≡ set (set ms i (get_or ms₁ i [])) j (get_or ms₁ j [])
  pub leads : whole ms i j ≡ exchange (to_come (most ms i j - p) i j ms₁) 3 own i j (get_or ms₁ i []) (get_or ms₁ j []) fair
  pub many : pairs (most ms i j) i j (get_or ms i []) (get_or ms j []) ≡ p + to_come (most ms i j - p) i j ms₁
  pub long : meeting_bytes i j (get_or ms i []) (get_or ms j []) ≡ size + bytes_to_come (most ms i j - p) i j ms₁
  pub short : size ≤ 8192 * p

pub sets_out : (ms : List (List ℕ)) (i j : ℕ) → UnderWay ms i j 0 true 0 ms
sets_out ms i j =
    let e : most ms i j - 0 ≡ most ms i j = omega arith in
    record {
      others = sym (ap (λ l. set l j (get_or ms j [])) (set-get_or ms i []) ∙ set-get_or ms j []);
      leads = ap (λ n. exchange (to_come n i j ms) 3 own i j (get_or ms i []) (get_or ms j []) true) (sym e);
      many = ap (λ n. to_come n i j ms) (sym e) ∙ omega arith;
      long = ap (λ n. bytes_to_come n i j ms) (sym e) ∙ omega arith;
      short = omega arith;
    }

-- where the two are level nothing is to come; else a pair, and then less
none_to_come : (n i j : ℕ) (a b : List ℕ) → level a b ≡ true → pairs (suc n) i j a b ≡ 0
unfolding pairs
none_to_come n i j a b e = ap (λ t. pick t 0 (suc (pairs n i j (pair i j a b).one (pair i j a b).other))) e

one_to_come : (n i j : ℕ) (a b : List ℕ) → level a b ≡ false → pairs (suc n) i j a b ≡ suc (pairs n i j (pair i j a b).one (pair i j a b).other)
unfolding pairs
one_to_come n i j a b e = ap (λ t. pick t 0 (suc (pairs n i j (pair i j a b).one (pair i j a b).other))) e

nothing_more : (i j : ℕ) (a b : List ℕ) (ok : Bool) → exchange 0 3 own i j a b ok ≡ record { one = a; other = b; fair = ok }
unfolding exchange
nothing_more i j a b ok = refl

one_more : (k i j : ℕ) (a b : List ℕ) (ok : Bool) → exchange (suc k) 3 own i j a b ok ≡ exchange k 3 own i j (pair i j a b).one (pair i j a b).other (ok && (pair i j a b).fair)
unfolding exchange
one_more k i j a b ok = refl

no-traffic : (i j : ℕ) (a b : List ℕ) → traffic 0 i j a b ≡ 0
unfolding traffic
no-traffic i j a b = refl

more_traffic : (k i j : ℕ) (a b : List ℕ) → traffic (suc k) i j a b ≡ pair_bytes i j a b + traffic k i j (pair i j a b).one (pair i j a b).other
unfolding traffic
more_traffic k i j a b = refl

-- THE END
ends : (ms ms₁ : List (List ℕ)) (i j p : ℕ) (fair : Bool) (size : ℕ) → UnderWay ms i j p fair size ms₁ → to_come (most ms i j - p) i j ms₁ ≡ 0 → Met ms i j p fair size ms₁
ends ms ms₁ i j p fair size u z =
    let t : whole ms i j ≡ record { one = get_or ms₁ i []; other = get_or ms₁ j []; fair = fair } =
    u.leads ∙ (ap (λ n. exchange n 3 own i j (get_or ms₁ i []) (get_or ms₁ j []) fair) z ∙ nothing_more i j (get_or ms₁ i []) (get_or ms₁ j []) fair) in
    record { after = u.others ∙ (λ k. with_two ms i j (sym t k)); fair = λ k. (sym t k).fair; many = sym (u.many ∙ omega (arith, z)); long = sym (u.long ∙ (ap (λ n. size + traffic n i j (get_or ms₁ i []) (get_or ms₁ j [])) z ∙ (ap (λ n. size + n) (no-traffic i j (get_or ms₁ i []) (get_or ms₁ j [])) ∙ omega arith))) }

pub ends_level : (ms ms₁ : List (List ℕ)) (i j p : ℕ) (fair : Bool) (size : ℕ) → UnderWay ms i j p fair size ms₁ → p < most ms i j → true ≡ level (get_or ms₁ i []) (get_or ms₁ j []) → Met ms i j p fair size ms₁
ends_level ms ms₁ i j p fair size u l e =
    let m : most ms i j - p ≡ suc (most ms i j - (p + 1)) = omega arith in
    ends ms ms₁ i j p fair size u (ap (λ n. to_come n i j ms₁) m ∙ none_to_come (most ms i j - (p + 1)) i j (get_or ms₁ i []) (get_or ms₁ j []) (sym e))

pub ends_all : (ms ms₁ : List (List ℕ)) (i j p : ℕ) (fair : Bool) (size : ℕ) → UnderWay ms i j p fair size ms₁ → p ≡ most ms i j → Met ms i j p fair size ms₁
unfolding pairs
ends_all ms ms₁ i j p fair size u e =
    let m : most ms i j - p ≡ 0 = omega arith in
    ends ms ms₁ i j p fair size u (ap (λ n. to_come n i j ms₁) m)

-- A PAIR MORE
pub goes_on : (ms ms₁ ms₂ : List (List ℕ)) (i j p : ℕ) (fair well : Bool) (size n : ℕ) → i < length ms₁ → j < length ms₁ → (i ≡ j → ⊥) → UnderWay ms i j p fair size ms₁ → p < most ms i j →
    false ≡ level (get_or ms₁ i []) (get_or ms₁ j []) → Paired ms₁ i j well n ms₂ → UnderWay ms i j (p + 1) (fair && well) (size + n) ms₂
goes_on ms ms₁ ms₂ i j p fair well size new hi hj ne u l e q =
    let a : List ℕ = get_or ms₁ i [] in
    let b : List ℕ = get_or ms₁ j [] in
    let t : Two = pair i j a b in
    let n : ℕ = most ms i j - (p + 1) in
    let m : most ms i j - p ≡ suc n = omega arith in
    let one : get_or ms₂ i [] ≡ t.one = ap (λ y. get_or y i []) q.after ∙ (get_or-set_other (set ms₁ i t.one) j i t.other [] ne ∙ get_or-set_same ms₁ i t.one [] hi) in
    let other : get_or ms₂ j [] ≡ t.other = ap (λ y. get_or y j []) q.after ∙ get_or-set_same (set ms₁ i t.one) j t.other [] (let y = length-set ms₁ i t.one in omega arith) in
    let left : to_come (most ms i j - p) i j ms₁ ≡ suc (to_come n i j ms₂) =
    ap (λ k. to_come k i j ms₁) m ∙ (one_to_come n i j a b (sym e) ∙ (λ k. suc (pairs n i j (sym one k) (sym other k)))) in
    record {
      others =
          q.after ∙ (λ k. set (set ms₁ i (sym one k)) j (sym other k))
          ∙ (ap (λ y. set (set y i (get_or ms₂ i [])) j (get_or ms₂ j [])) u.others
          ∙ ap (λ y. set y j (get_or ms₂ j []))
          (set_comm (set ms i a) j i b (get_or ms₂ i []) (λ z. ne (sym z)) ∙ ap (λ y. set y j b) (set-set ms i a (get_or ms₂ i [])))
          ∙ set-set (set ms i (get_or ms₂ i [])) j b (get_or ms₂ j []));
      leads =
          u.leads ∙ (ap (λ k. exchange k 3 own i j a b fair) left
          ∙ (one_more (to_come n i j ms₂) i j a b fair ∙ (λ k. exchange (to_come n i j ms₂) 3 own i j (sym one k) (sym other k) (fair && sym q.fair k))));
      many = u.many ∙ (ap (λ k. p + k) left ∙ omega arith);
      long =
          u.long ∙ (ap (λ k. size + traffic k i j a b) left
          ∙ (ap (λ k. size + k) (more_traffic (to_come n i j ms₂) i j a b ∙ (λ k. sym q.long k + traffic (to_come n i j ms₂) i j (sym one k) (sym other k))) ∙ omega arith));
      short = let x = u.short in let y = q.short in omega arith;
    }
