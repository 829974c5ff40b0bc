-- How a machine runs on from its first act, whatever stands in its memory.
use Rattle.std.proofs.Common.{◌≡◌, ℕ, zero, suc, ◌<◌, ◌≤◌, Bool, true, false, ltb, leb, ◌⊎◌, List, [], ◌∷◌, length, get_or, take, replicate, Some, None, Ok, Err, Option, Result, sym, refl, ap, ◌∙◌, subst, inl, inr, ⊎_elim, arith, get_or-set_other, get_or-set_same}
use Rattle.std.proofs.lemmas.Bool.{ltb-true, leb-true, le-leb, lt-leb, and_parts, both_ways}
use Rattle.std.specs.Option.{MatchOption, IsSomeAnd, option_to_list, unwrap_or}
use Rattle.std.specs.Result.{IsErrAnd}
use Rattle.ops.specs.Doc.{pick, insert, strike, write_under, add_to, show_text, show_key, word_at, count_at}
use Rattle.ops.specs.Layout.{memory_size}
use Rattle.ops.specs.Log.{ops_of}
use Rattle.messages.specs.Letter.{letter_for}
use Rattle.desks.specs.Run.{Event, opens, said, letter_to, hears, next, Act, shows, sends, done, refused, Step, Ran, ran, a_letter, runs_on}
use Rattle.desks.specs.Machine.{blank, me, is_peer, is_small, idle, says, does_said, does, refusal_said, refusal, step_own}
use Rattle.desks.specs.Promise.{opened}
use Rattle.desks.specs.Entry.{own}
use Rattle.desks.specs.Refusals.{number_of}
use Rattle.desks.specs.Acts.{quiet, word, rest}
use Rattle.desks.specs.declared.refusal.Refusal.{Refusal}
use Rattle.desks.specs.declared.refusal.Refusal.TheVariants.{Malformed}
use Rattle.desks.proofs.Telling.{accepts, refuses}
use Rattle.network.proofs.OwnRep.{nothing_left}
use Rattle.network.proofs.OwnRuns.{own_refused, own_sends}
use Rattle.network.proofs.Runs.{run_done}
use Rattle.network.proofs.OwnWriting.{letter-fits}
use Rattle.network.proofs.Passed.{few_refusals, opened_passed, pick_passed}
use Rattle.network.proofs.OwnShowing.{m₁, m₂, shows_word, shows_tally, shows_both}
use Rattle.replicas.specs.Steps.{Tells, Posts, PostsIf, shows_nothing, is_quiet}
use Rattle.replicas.specs.declared.machine.Replica.{Replica}
use Rattle.replicas.specs.declared.machine.Key.{Key}
use Rattle.replicas.specs.declared.fault.Fault.{Fault}
use Rattle.replicas.specs.declared.fault.Fault.TheVariants.{Refused}
use Rattle.replicas.specs.declared.machine.Deed.{Deed}
use Rattle.replicas.specs.declared.machine.Deed.TheVariants.{Insert, Strike, Write, Add}
use Rattle.std.proofs.lemmas.List.{length-take-le}
use Rattle.replicas.specs.Replica.{command_of, Did, Showed, Sent, WritesIf, Reads, Read, Opened}

own_is : (m : List ℕ) (ev : Event) → own.step m ev ≡ step_own m ev
unfolding own
own_is m ev = refl

-- REFUSED: the memory is as it was, and the run ends with the number
pub record Refusing (m : List ℕ) (ev : Event) (k : ℕ) : Type 0 where
  pub run : runs_on 3 own m ev ≡ ran m [] [] k
  pub number : 1 ≤ k
  pub same : (own.step m ev).memory ≡ m

refusing : (m : List ℕ) (ev : Event) (k : ℕ) → refusal m ev ≡ suc k → Refusing m ev (suc k)
refusing m ev k e =
    let f = few_refusals m ev in
    record {
      run = own_refused m ev (suc k) (omega arith) (omega arith) (refuses m ev k e);
      number = omega arith;
      same = ap (λ (s : Step). s.memory) (own_is m ev ∙ refuses m ev k e);
    }

refused_act : (m : List ℕ) (ev : Event) (k : ℕ) → refusal m ev ≡ suc k → (own.step m ev).act ≡ refused (suc k)
refused_act m ev k e = ap (λ (s : Step). s.act) (own_is m ev ∙ refuses m ev k e)

accepted_step : (m : List ℕ) (ev : Event) → refusal m ev ≡ 0 → own.step m ev ≡ does m ev
accepted_step m ev e = own_is m ev ∙ accepts m ev e

-- either it is refused, or it does what it was told
either : (m : List ℕ) (ev : Event) → ((k : ℕ) × ((own.step m ev).act ≡ refused k) × Refusing m ev k) ⊎ (refusal m ev ≡ 0)
either m ev = go (refusal m ev) refl
  where
    go : (n : ℕ) → refusal m ev ≡ n → ((k : ℕ) × ((own.step m ev).act ≡ refused k) × Refusing m ev k) ⊎ (refusal m ev ≡ 0)
    go zero e = inr e
    go (suc k) e = inl (suc k, refused_act m ev k e, refusing m ev k e)

abbrev is_no : Act → ℕ
is_no (shows s) = 0
is_no (sends b) = 0
is_no done = 0
is_no (refused k) = suc k

-- what only refuses where it is refused
never_no : (m : List ℕ) (ev : Event) (k : ℕ) → is_no (does m ev).act ≡ 0 → (own.step m ev).act ≡ refused k → Refusing m ev k
never_no m ev k quiet e =
    ⊎_elim (λ r. let z : suc r.0 ≡ suc k = ap is_no (sym r.1 ∙ e) in subst (Refusing m ev) (omega arith) r.2)
    (λ z. let y : ◌≡◌ {A = ℕ} 0 (suc k) = sym quiet ∙ ap is_no (sym (ap (λ (s : Step). s.act) (accepted_step m ev z)) ∙ e) in absurd (omega arith)) (either m ev)

-- WHAT IS DONE AT ONCE
does_quietly : (m : List ℕ) (ev : Event) → is_quiet ev ≡ true → (does m ev).act ≡ done
unfolding is_quiet shows_nothing does does_said
does_quietly m (opens i) q = refl
does_quietly m (said (insert i c)) q = refl
does_quietly m (said (strike i)) q = refl
does_quietly m (said (write_under k v)) q = refl
does_quietly m (said (add_to k v)) q = refl
does_quietly m (said show_text) q = refl
does_quietly m (said (show_key k)) q = absurd (both_ways false refl q)
does_quietly m (letter_to j) q = absurd (both_ways false refl q)
does_quietly m (hears i bs) q = refl
does_quietly m next q = absurd (both_ways false refl q)

did_no : (m l : List ℕ) (ev : Event) (k : Refusal) → l ≡ (step_own m ev).memory → Refusing m ev (number_of k) → Did (runs_on 3 own m ev) (Err k) l
did_no m l ev k e r =
    let p = r.run in
    record {
      memory = e ∙ (sym (ap (λ (s : Step). s.memory) (own_is m ev)) ∙ (r.same ∙ sym (ap (λ (x : Ran). x.memory) p)));
      ended = (ap (λ (x : Ran). x.end) p, r.number);
      none_shown = ap (λ (x : Ran). x.showed) p;
      none_sent = ap (λ (x : Ran). x.sent) p;
    }

did_ok : (m l : List ℕ) (ev : Event) → l ≡ (step_own m ev).memory → (step_own m ev).act ≡ done → Did (runs_on 3 own m ev) (Ok tt) l
did_ok m l ev e d =
    let p = run_done own m ev (ap (λ (s : Step). s.act) (own_is m ev) ∙ d) in
    record {
      memory = e ∙ (sym (ap (λ (s : Step). s.memory) (own_is m ev)) ∙ sym (ap (λ (x : Ran). x.memory) p));
      ended = ap (λ (x : Ran). x.end) p;
      none_shown = ap (λ (x : Ran). x.showed) p;
      none_sent = ap (λ (x : Ran). x.sent) p;
    }

pub did : (m l : List ℕ) (ev : Event) (r : Result (Unit {0}) Refusal) → is_quiet ev ≡ true → Tells (step_own m ev) (quiet r) l → Did (runs_on 3 own m ev) r l
did m l ev (Ok v) q t = did_ok m l ev t.memory t.act
did m l ev (Err k) q t = did_no m l ev k t.memory (never_no m ev (number_of k) (ap is_no (does_quietly m ev q)) (ap (λ (s : Step). s.act) (own_is m ev) ∙ t.act))

-- deeds are quiet
pub deed_quiet : (d : Deed) → is_quiet (said (command_of d)) ≡ true
unfolding is_quiet shows_nothing
deed_quiet (Insert place sign) = refl
deed_quiet (Strike place) = refl
deed_quiet (Write key word) = refl
deed_quiet (Add key amount) = refl

pub text_quiet : is_quiet (said show_text) ≡ true
unfolding is_quiet shows_nothing
text_quiet = refl

pub heard_quiet : (i : ℕ) (bs : List ℕ) → is_quiet (hears i bs) ≡ true
unfolding is_quiet
heard_quiet i bs = refl

pub open_quiet : (i : ℕ) → is_quiet (opens i) ≡ true
unfolding is_quiet
open_quiet i = refl

-- A LETTER IS MADE
module _ (m l out out₁ : List ℕ) (j : ℕ) (long : length m ≡ memory_size) where
  abbrev letter : List ℕ
  letter = letter_for m (me m) j

  sends_it : refusal m (letter_to j) ≡ 0 → step_own m (letter_to j) ≡ says (idle m) (sends letter)
  unfolding does
  sends_it z = accepts m (letter_to j) z

  passed : refusal m (letter_to j) ≡ 0 → (0 < get_or m 0 0) × (a_letter letter ≡ true)
  unfolding refusal
  passed z =
      let p = opened_passed m (pick (is_peer m j) 0 1) z in
      let peer = pick_passed (is_peer m j) 1 (omega arith) p.1 in
      (p.0, letter-fits m (me m) j (omega arith) (ltb-true j 32 (and_parts (ltb j 32) _ peer).0))

  letter-run : refusal m (letter_to j) ≡ 0 → runs_on 3 own m (letter_to j) ≡ ran (idle m) [] (letter ∷ []) 0
  letter-run z =
      let p = passed z in
      let o = p.0 in
      let same = get_or-set_other m 1 0 0 0 (omega arith) in
      own_sends m (idle m) (idle m) letter (letter_to j) p.1 (sends_it z) (nothing_left (idle m) (omega arith) (get_or-set_same m 1 0 0 (omega arith)))

  no-refusal : is_no (does m (letter_to j)).act ≡ 0
  unfolding does
  no-refusal = refl

  sends_inj : {a b : List ℕ} → sends a ≡ sends b → a ≡ b
  sends_inj e = cc

  wrote : (r : Result ℕ Refusal) → Posts (step_own m (letter_to j)) r l out out₁ → Sent (runs_on 3 own m (letter_to j)) r l out₁
  wrote (Err k) t =
      let d = did_no m l (letter_to j) k t.tells.memory (never_no m (letter_to j) (number_of k) no-refusal (ap (λ (s : Step). s.act) (own_is m (letter_to j)) ∙ t.tells.act)) in
      record { short = tt; memory = d.memory; ended = d.ended; none_shown = d.none_shown; sent = d.none_sent }
  wrote (Ok n) t =
      ⊎_elim
      (λ x. let z : suc x.0 ≡ 0 = ap is_no (sym x.1 ∙ (ap (λ (s : Step). s.act) (own_is m (letter_to j)) ∙ t.tells.act)) in absurd (omega arith))
      (λ z.
      let same : letter ≡ take n out₁ = sends_inj (sym (ap (λ (s : Step). s.act) (sends_it z)) ∙ t.tells.act) in
      let size : length letter ≡ n = ap length same ∙ length-take-le n out₁ t.front.0 in
      let q = letter-run z in
      let few = leb-true (length letter) 4096 (and_parts (leb (length letter) 4096) _ (passed z).1).0 in
      record {
        short = omega arith;
        memory = t.tells.memory ∙ (ap (λ (s : Step). s.memory) (sends_it z) ∙ sym (ap (λ (x : Ran). x.memory) q));
        ended = ap (λ (x : Ran). x.end) q;
        none_shown = ap (λ (x : Ran). x.showed) q;
        sent = ap (λ (x : Ran). x.sent) q ∙ ap (λ b. b ∷ []) same;
      }) (either m (letter_to j))

  pub writes : (b : Bool) (r : Result ℕ Refusal) → PostsIf b (step_own m (letter_to j)) r m l out out₁ → WritesIf b m j r l out out₁
  writes true r t = wrote r t
  writes false r t = record { said = t.said; memory = t.memory; bytes = t.bytes }

-- A KEY IS SHOWN
rest_shown : (r : Result (Option ℕ) Refusal) (x : ℕ) → rest r ≡ shows (x ∷ []) → r ≡ Ok (Some x)
rest_shown (Ok None) x e = cc
rest_shown (Ok (Some n)) x e = cc
rest_shown (Err k) x e = cc

shown_row : {a b : List ℕ} → shows a ≡ shows b → a ≡ b
shown_row e = cc

module _ (m l₁ l₂ : List ℕ) (k : ℕ) where
  pub key_no : (n : Refusal) → Tells (step_own m (said (show_key k))) (word (Err n)) l₁ → Showed (runs_on 3 own m (said (show_key k))) (Err n) l₁
  unfolding does does_said
  key_no n h =
      let d = did_no m l₁ (said (show_key k)) n h.memory (never_no m (said (show_key k)) (number_of n) refl (ap (λ (s : Step). s.act) (own_is m (said (show_key k))) ∙ h.act)) in
      record { memory = d.memory; ended = d.ended; shown = d.none_shown; none_sent = d.none_sent }

  -- the word, and then the tally: the one that goes on is shown, whatever it is
  pub record Both (w : Option ℕ) (r : Result (Option ℕ) Refusal) : Type 0 where
    pub tally : ℕ
    pub is : r ≡ Ok (Some tally)
    pub shown : Showed (runs_on 3 own m (said (show_key k))) (Ok (record { word = w; tally = tally })) l₂

  pub key_shown : (w : Option ℕ) (r : Result (Option ℕ) Refusal) → length m ≡ memory_size → Tells (step_own m (said (show_key k))) (word (Ok w)) l₁ → Tells (step_own l₁ next) (rest r) l₂ → Both w r
  unfolding refusal refusal_said
  key_shown w r long h n =
      ⊎_elim (λ x. let z : suc x.0 ≡ 0 = ap is_no (sym x.1 ∙ (ap (λ (s : Step). s.act) (own_is m (said (show_key k))) ∙ h.act)) in absurd (omega arith))
      (λ z.
      let p = opened_passed m (pick (is_small k) 0 1) z in
      let small = ltb-true k 4294967296 (pick_passed (is_small k) 1 (omega arith) p.1) in
      let far : 2 < length m = omega arith in
      let shows_w : step_own m (said (show_key k)) ≡ says (m₁ m k p.0 far small) (shows (word_at (ops_of m) k)) = shows_word m k p.0 far small in
      let there : l₁ ≡ m₁ m k p.0 far small = h.memory ∙ ap (λ (s : Step). s.memory) shows_w in
      let tally : step_own l₁ next ≡ says (m₂ m k p.0 far small) (shows (count_at (ops_of m) k ∷ [])) =
      ap (λ l. step_own l next) there ∙ shows_tally m k p.0 far small in
      let both = shows_both m k p.0 far small in
      let row : word_at (ops_of m) k ≡ option_to_list w = shown_row (sym (ap (λ (s : Step). s.act) shows_w) ∙ h.act) in
      record {
        tally = count_at (ops_of m) k;
        is = rest_shown r (count_at (ops_of m) k) (sym n.act ∙ ap (λ (s : Step). s.act) tally);
        shown = record {
          memory = n.memory ∙ (ap (λ (s : Step). s.memory) tally ∙ sym (ap (λ (y : Ran). y.memory) both));
          ended = ap (λ (y : Ran). y.end) both;
          shown = ap (λ (y : Ran). y.showed) both ∙ (λ i. row i ∷ (count_at (ops_of m) k ∷ []) ∷ []);
          none_sent = ap (λ (y : Ran). y.sent) both;
        };
      }) (either m (said (show_key k)))

-- the number that the map of a word hands on
pub mapped : (o r : Option ℕ) → MatchOption o (r ≡ None) (λ x. IsSomeAnd r (λ y. y ≡ x)) → r ≡ o
mapped None r h = h
mapped (Some x) None h = absurd h
mapped (Some x) (Some y) h = ap Some h

-- what a `?` hands on
pub showed_err : (x : Ran) (r : Result Key Refusal) (e : Refusal) (l : List ℕ) → IsErrAnd r (λ y. y ≡ e) → Showed x (Err e) l → Showed x r l
showed_err x (Ok v) e l h s = absurd h
showed_err x (Err y) e l h s = subst (λ z. Showed x (Err z) l) (sym h) s

pub opened_err : (i : ℕ) (r : Result Replica Fault) (e : Refusal) → IsErrAnd r (λ f. f ≡ Refused e) → ((opened 3 own i).end ≡ number_of e) × (1 ≤ number_of e) → Opened i r
opened_err i (Ok v) e h s = absurd h
opened_err i (Err f) e h s = subst (λ g. Opened i (Err g)) (sym h) s

pub no_rest : (m l₁ l₂ : List ℕ) (k : ℕ) (w : Option ℕ) (e : Refusal) → Both m l₁ l₂ k w (Err e) → ⊥
no_rest m l₁ l₂ k w e b = let i = b.is in cc

pub both_shown : (m l₁ l₂ : List ℕ) (k : ℕ) (w w₁ o : Option ℕ) (x : ℕ) → Both m l₁ l₂ k w (Ok o) → w₁ ≡ w → x ≡ unwrap_or o 0 → Showed (runs_on 3 own m (said (show_key k))) (Ok (record { word = w₁; tally = x })) l₂
both_shown m l₁ l₂ k w w₁ o x b e f =
    let i : o ≡ Some b.tally = ok_inj b.is in
    let j : x ≡ b.tally = f ∙ ap (λ p. unwrap_or p 0) i in
    subst (λ (v : Option ℕ). Showed (runs_on 3 own m (said (show_key k))) (Ok (record { word = v; tally = x })) l₂) (sym e)
    (subst (λ (n : ℕ). Showed (runs_on 3 own m (said (show_key k))) (Ok (record { word = w; tally = n })) l₂) (sym j) b.shown)
  where
    ok_inj : {a c : Option ℕ} → ◌≡◌ {A = Result (Option ℕ) Refusal} (Ok a) (Ok c) → a ≡ c
    ok_inj q = cc

-- a letter that isn't too long
pub read_short : (m : List ℕ) (i : ℕ) (bs : List ℕ) (r : Result (Unit {0}) Refusal) (l : List ℕ) → length bs ≤ 4096 → Did (runs_on 3 own m (hears i bs)) r l → Read m i bs r l
read_short m i bs r l short h = subst (λ b. Reads b m i bs r l) (sym (le-leb (length bs) 4096 short)) h

pub read-long : (m : List ℕ) (i : ℕ) (bs : List ℕ) → 4096 < length bs → Read m i bs (Err Malformed) m
read-long m i bs far = subst (λ b. Reads b m i bs (Err Malformed) m) (sym (lt-leb (length bs) 4096 far)) (refl, refl)

-- a memory of zeros is the machine's own at the start
pub is_start : (m : List ℕ) → m ≡ replicate memory_size 0 → m ≡ own.start
unfolding own blank
is_start m e = e

pub opened_ok : (i : ℕ) (m l : List ℕ) → m ≡ own.start → Did (runs_on 3 own m (opens i)) (Ok tt) l → ((opened 3 own i).end ≡ 0) × (l ≡ (opened 3 own i).memory)
opened_ok i m l e h = (ap (λ x. (runs_on 3 own x (opens i)).end) (sym e) ∙ h.ended, h.memory ∙ ap (λ x. (runs_on 3 own x (opens i)).memory) e)

pub opened-no : (i : ℕ) (k : Refusal) (m l : List ℕ) → m ≡ own.start → Did (runs_on 3 own m (opens i)) (Err k) l → ((opened 3 own i).end ≡ number_of k) × (1 ≤ number_of k)
opened-no i k m l e h = (ap (λ x. (runs_on 3 own x (opens i)).end) (sym e) ∙ h.ended.0, h.ended.1)
