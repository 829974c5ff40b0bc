-- The machine's answers to commands are the paper's, for the log that its memory stands for.
use Rattle.std.proofs.Common.{◌≡◌, ℕ, suc, ◌<◌, ◌≤◌, Bool, true, false, ◌&&◌, ltb, leb, List, [], ◌∷◌, ◌++◌, length, get_or, set, sym, refl, ap, ◌∙◌, subst, ⊎_elim, arith, length-append, get_or-set_other}
use Rattle.std.proofs.lemmas.Bool.{ltb-true, ltb-false, leb-true, leb-false, lt-ltb, and_parts, both_ways}
use Rattle.ops.specs.Doc.{pick, id, Op, Kind, under, added, Command, insert, strike, write_under, add_to, show_text, show_key, Turn, turn, do_it, deed_by, no, yes_with, small_command, core, word_at, count_at, made_by, highest}
use Rattle.ops.specs.Layout.{made_cell, low}
use Rattle.ops.specs.Log.{kept, appended, highest_up_to}
use Rattle.ops.proofs.Frames.{append_other}
use Rattle.messages.specs.Records.{SmallKind}
use Rattle.desks.specs.Run.{said, done, Ran, ran, runs_on}
use Rattle.desks.specs.Machine.{is_open, me, has_room, says, idle, deed, does_said, does, refusal}
use Rattle.desks.specs.Entry.{own}
use Rattle.desks.proofs.Refusals.{write_key_large, write_word_large, write_small, add_key_large, add_amount_large, add_small, key_large_shown, unknown_insert, unknown_strike, unknown-text}
use Rattle.desks.proofs.Telling.{accepts, refuses}
use Rattle.desks.proofs.Acting.{room-there, no_room_made, no_room_false}
use Rattle.network.proofs.Laws.{Bounded}
use Rattle.network.proofs.Versions.{version-highest, highest_of}
use Rattle.network.proofs.Keeping.{kept_is, keeps_set}
use Rattle.network.proofs.Appending.{keeps_append}
use Rattle.network.proofs.Reading.{keeps_highest}
use Rattle.network.proofs.OwnRep.{Rep, is_open-here, me_is, idle_same}
use Rattle.network.proofs.OwnRuns.{own_done, own_refused}
use Rattle.network.proofs.OwnShowing.{shows_key}

abbrev Says : ℕ → List ℕ → List Op → (ℕ → ℕ → ℕ) → Command → Type 0
Says i m log h c =
    ((runs_on 3 own m (said c)).end ≡ (turn i log c).reply) × ((runs_on 3 own m (said c)).showed ≡ (turn i log c).shows) × ((runs_on 3 own m (said c)).sent ≡ [])
    × Rep i (runs_on 3 own m (said c)).memory (turn i log c).ops h

-- a run that is known, beside a turn that is
says_by : (i : ℕ) (m : List ℕ) (log : List Op) (h : ℕ → ℕ → ℕ) (c : Command) (l : List ℕ) (k : ℕ) (ss : List (List ℕ)) (ops : List Op) →
    runs_on 3 own m (said c) ≡ ran l ss [] k → turn i log c ≡ record { reply = k; shows = ss; ops = ops } → Rep i l ops h → Says i m log h c
says_by i m log h c l k ss ops p q r = (
  ap (λ (z : Ran). z.end) p ∙ sym (ap (λ (t : Turn). t.reply) q),
  ap (λ (z : Ran). z.showed) p ∙ sym (ap (λ (t : Turn). t.shows) q),
  ap (λ (z : Ran). z.sent) p,
  subst (λ (z : Ran). Rep i z.memory (turn i log c).ops h) (sym p) (subst (λ x. Rep i l x h) (sym (ap (λ (t : Turn). t.ops) q)) r),
)

-- A DEED
highest_few : (log : List Op) → Bounded log → highest log ≤ 8192
highest_few log b = ⊎_elim (λ z. omega arith) (λ r. let s = (b.small r.0 r.1).1 in let e = r.2 in omega arith) (highest_of log)

module _ (i : ℕ) (m : List ℕ) (log : List Op) (h : ℕ → ℕ → ℕ) (hi : i < 32) (r : Rep i m log h) (b : Bounded log) where
  high_is : highest_up_to 32 m ≡ highest log
  high_is = keeps_highest r.keeps

  room : made_by i log < 256 → length log < 8192 → has_room m (me m) ≡ true
  room few short =
      let e = high_is in let g = highest_few log b in
      room-there m (me m) (made_by i log) (length log) (highest log) (sym (ap (λ d. low m (made_cell d)) (me_is i m log h hi r) ∙ r.keeps.made_is i hi)) (sym (kept_is r.keeps)) (sym high_is) few short (omega arith)

  no_room : 256 ≤ made_by i log → has_room m (me m) ≡ false
  no_room many =
      (no_room_false m (me m)
      (no_room_made m (me m) (made_by i log) (kept m) (highest_up_to 32 m) (sym (ap (λ d. low m (made_cell d)) (me_is i m log h hi r) ∙ r.keeps.made_is i hi)) refl refl many))

  -- the operation that the machine makes is the paper's
  made : (k : Kind) → appended (idle m) (deed m (me m) k) ≡ appended m (deed_by i log k)
  made k =
      let e = idle_same m r.still in let f = high_is in let g = me_is i m log h hi r in
      λ j. appended (e j) (record { name = id (suc (f j)) (g j); kind = k })

  after : (k : Kind) → SmallKind k → length log < 8192 → Rep i (appended m (deed_by i log k)) (log ++ deed_by i log k ∷ []) h
  after k small short =
      let v = version-highest log i in let g = highest_few log b in
      record {
        keeps = keeps_append (deed_by i log k) r.keeps (omega arith, hi, small) short (omega arith);
        desk = append_other m (deed_by i log k) 0 (omega arith) ∙ r.desk;
        still = append_other m (deed_by i log k) 1 (omega arith) ∙ r.still;
      }

  -- a command that makes an operation of a kind
  deed_law : (c : Command) (k : Kind) → SmallKind k → turn i log c ≡ do_it i log k → does m (said c) ≡ says (appended (idle m) (deed m (me m) k)) done →
      ((t : Bool) → has_room m (me m) ≡ t → refusal m (said c) ≡ pick t 0 7) → Bounded (turn i log c).ops → Says i m log h c
  deed_law c k small et ed er bt = go (leb 256 (made_by i log)) refl
    where
      go : (t : Bool) → leb 256 (made_by i log) ≡ t → Says i m log h c
      go true e =
          says_by i m log h c m 7 [] log (own_refused m (said c) 7 (omega arith) (omega arith) (refuses m (said c) 6 (er false (no_room (leb-true 256 (made_by i log) e)))))
          (et ∙ ap (λ t. pick t (no 7 log) (yes_with [] (log ++ deed_by i log k ∷ []))) e) r
      go false e =
          let q : turn i log c ≡ yes_with [] (log ++ deed_by i log k ∷ []) = et ∙ ap (λ t. pick t (no 7 log) (yes_with [] (log ++ deed_by i log k ∷ []))) e in
          let f = subst (λ ops. length ops ≤ 8192) (ap (λ (t : Turn). t.ops) q) bt.few in
          let n = length-append log (deed_by i log k ∷ []) in
          let short : length log < 8192 = omega arith in
          says_by i m log h c (appended m (deed_by i log k)) 0 [] (log ++ deed_by i log k ∷ [])
          (own_done m (appended m (deed_by i log k)) (said c) (accepts m (said c) (er true (room (leb-false 256 (made_by i log) e) short)) ∙ (ed ∙ ap (λ l. says l done) (made k)))) q (after k small short)

  -- A KEY SHOWN
  key_law : (k : ℕ) → k < 4294967296 → Says i m log h (show_key k)
  unfolding turn
  key_law k small =
      let e = r.keeps.long in
      let f = r.keeps.log_is in
      says_by i m log h (show_key k) (set m 2 k) 0 (word_at log k ∷ (count_at log k ∷ []) ∷ []) log
      (shows_key m k (is_open-here i m log h hi r) (omega arith) small r.still ∙ (λ j. ran (set m 2 k) (word_at (f j) k ∷ (count_at (f j) k ∷ []) ∷ []) [] 0)) refl
      (record { keeps = keeps_set 2 k r.keeps (omega arith); desk = get_or-set_other m 2 0 k 0 (omega arith) ∙ r.desk; still = get_or-set_other m 2 1 k 0 (omega arith) ∙ r.still })

pub says_law : (i : ℕ) (m : List ℕ) (log : List Op) (h : ℕ → ℕ → ℕ) (c : Command) → i < 32 → Rep i m log h → Bounded log → small_command c ≡ true → core c ≡ true → Bounded (turn i log c).ops → Says i m log h c
unfolding core small_command turn does does_said
says_law i m log h (insert p x) hi r b sm kn bt = absurd (both_ways false refl kn)
says_law i m log h (strike p) hi r b sm kn bt = absurd (both_ways false refl kn)
says_law i m log h (write_under k v) hi r b sm kn bt =
    let q = and_parts (ltb k 4294967296) (ltb v 4294967296) sm in
    let hk = ltb-true k 4294967296 q.0 in
    let hv = ltb-true v 4294967296 q.1 in
    deed_law i m log h hi r b (write_under k v) (under k v) (hk, hv) refl refl (λ t e. write_small m k v (is_open-here i m log h hi r) t hk hv e) bt
says_law i m log h (add_to k v) hi r b sm kn bt =
    let q = and_parts (ltb k 4294967296) (ltb v 4294967296) sm in
    let hk = ltb-true k 4294967296 q.0 in
    let hv = ltb-true v 4294967296 q.1 in
    deed_law i m log h hi r b (add_to k v) (added k v) (hk, hv) refl refl (λ t e. add_small m k v (is_open-here i m log h hi r) t hk hv e) bt
says_law i m log h show_text hi r b sm kn bt = absurd (both_ways false refl kn)
says_law i m log h (show_key k) hi r b sm kn bt = key_law i m log h hi r b k (ltb-true k 4294967296 sm)

-- WHAT ISN'T KNOWN is refused with 2, and the memory stays
refused_by : (i : ℕ) (m : List ℕ) (log : List Op) (h : ℕ → ℕ → ℕ) (c : Command) → i < 32 → Rep i m log h → refusal m (said c) ≡ pick (is_open m) 2 3 → runs_on 3 own m (said c) ≡ ran m [] [] 2
refused_by i m log h c hi r e =
    own_refused m (said c) 2 (omega arith) (omega arith) (refuses m (said c) 1 (e ∙ ap (λ t. pick t 2 3) (lt-ltb 0 (get_or m 0 0) (is_open-here i m log h hi r))))

pub unknown-run : (i : ℕ) (m : List ℕ) (log : List Op) (h : ℕ → ℕ → ℕ) (c : Command) → i < 32 → Rep i m log h → core c ≡ false → runs_on 3 own m (said c) ≡ ran m [] [] 2
unfolding core
unknown-run i m log h (insert p x) hi r kn = refused_by i m log h (insert p x) hi r (unknown_insert m p x)
unknown-run i m log h (strike p) hi r kn = refused_by i m log h (strike p) hi r (unknown_strike m p)
unknown-run i m log h (write_under k v) hi r kn = absurd (both_ways true kn refl)
unknown-run i m log h (add_to k v) hi r kn = absurd (both_ways true kn refl)
unknown-run i m log h show_text hi r kn = refused_by i m log h show_text hi r (unknown-text m)
unknown-run i m log h (show_key k) hi r kn = absurd (both_ways true kn refl)

pub says-no_law : (i : ℕ) (m : List ℕ) (log : List Op) (h : ℕ → ℕ → ℕ) (c : Command) → i < 32 → Rep i m log h → core c ≡ false →
    ((runs_on 3 own m (said c)).end ≡ 2) × ((runs_on 3 own m (said c)).showed ≡ []) × ((runs_on 3 own m (said c)).sent ≡ []) × Rep i (runs_on 3 own m (said c)).memory log h
says-no_law i m log h c hi r kn =
    let p = unknown-run i m log h c hi r kn in
    (ap (λ (z : Ran). z.end) p, ap (λ (z : Ran). z.showed) p, ap (λ (z : Ran). z.sent) p, subst (λ (z : Ran). Rep i z.memory log h) (sym p) r)

-- AND WHAT IS TOO LARGE with 1, or with 2 where it isn't known
module _ (i : ℕ) (m : List ℕ) (log : List Op) (h : ℕ → ℕ → ℕ) (hi : i < 32) (r : Rep i m log h) where
  abbrev Refuses : Command → Type 0
  Refuses c = (k : ℕ) × (1 ≤ k) × (runs_on 3 own m (said c) ≡ ran m [] [] k)

  malformed_by : (c : Command) → refusal m (said c) ≡ 1 → Refuses c
  malformed_by c e = (1, omega arith, own_refused m (said c) 1 (omega arith) (omega arith) (refuses m (said c) 0 e))

  is_large : (k : ℕ) → ltb k 4294967296 ≡ false → k < 4294967296 → ⊥
  is_large k e l = let g = ltb-false k 4294967296 e in omega arith

  -- of two numbers, the first or the second
  one_large : (c : Command) (k v : ℕ) → (ltb k 4294967296 && ltb v 4294967296) ≡ false → ((k < 4294967296 → ⊥) → refusal m (said c) ≡ 1) →
      (k < 4294967296 → (v < 4294967296 → ⊥) → refusal m (said c) ≡ 1) → Refuses c
  one_large c k v e first second = go (ltb k 4294967296) refl e
    where
      go : (t : Bool) → ltb k 4294967296 ≡ t → (t && ltb v 4294967296) ≡ false → Refuses c
      go true p q = malformed_by c (second (ltb-true k 4294967296 p) (is_large v q))
      go false p q = malformed_by c (first (is_large k p))

  pub large_run : (c : Command) → small_command c ≡ false → Refuses c
  unfolding small_command core
  large_run (insert p x) e = (2, omega arith, unknown-run i m log h (insert p x) hi r refl)
  large_run (strike p) e = (2, omega arith, unknown-run i m log h (strike p) hi r refl)
  large_run (write_under k v) e =
      let o = is_open-here i m log h hi r in
      one_large (write_under k v) k v e (λ a. write_key_large m k v o a) (λ a b. write_word_large m k v o a b)
  large_run (add_to k v) e =
      let o = is_open-here i m log h hi r in
      one_large (add_to k v) k v e (λ a. add_key_large m k v o a) (λ a b. add_amount_large m k v o a b)
  large_run show_text e = absurd (both_ways true e refl)
  large_run (show_key k) e = malformed_by (show_key k) (key_large_shown m k (is_open-here i m log h hi r) (is_large k e))
