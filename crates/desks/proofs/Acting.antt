-- What the machine does when it doesn't refuse, as the code does it: the memory after, and what is told.
use Rattle.std.proofs.Common.{◌≡◌, ℕ, suc, ◌+◌, ◌<◌, ◌≤◌, Bool, true, false, ◌&&◌, ltb, leb, List, [], ◌∷◌, ◌++◌, length, min, get_or, take, drop, set, Ok, Err, Option, Result, sym, refl, ap, ◌∙◌, subst, ap₂, arith, length-append, get_or-set_other}
use Rattle.std.proofs.lemmas.List.{take_at}
use Rattle.std.specs.Option.{option_to_list}
use Rattle.std.proofs.lemmas.Bool.{eq-eqb, ne_eqb, lt-ltb, le-leb, lt-leb, ltb-true, and_parts, and_from}
use Rattle.ops.specs.Doc as doc
use Rattle.ops.specs.Doc.{pick, id, under, added, write_under, add_to, show_key, word_at, count_at}
use Rattle.ops.specs.Layout.{made_cell, key_cell, low}
use Rattle.ops.specs.Log.{kept, ops_of, appended, highest_up_to}
use Rattle.ops.specs.Values.{held, Holds}
use Rattle.ops.specs.declared.types.Memory.{Memory}
use Rattle.messages.specs.Letter.{letter_for, is_letter, received}
use Rattle.desks.specs.Run.{opens, said, letter_to, hears, next, shows, sends, done, refused, Step}
use Rattle.desks.specs.Machine.{is_small, me, has_room, says, idle, deed, does_said, goes_on, does, step_own}
use Rattle.desks.specs.Acts.{Acts, quiet, Posts, PostsIf, Performs}
use Rattle.desks.specs.Refusals.{number_of}
use Rattle.desks.specs.declared.refusal.Refusal.{Refusal}
use Rattle.desks.specs.declared.refusal.Refusal.TheVariants.{Unfit, Malformed, NoRoom}
use Rattle.desks.proofs.Refusals.{opens_well, write_small, add_small, key_small_shown, next_well, letter_well, hears_by}
use Rattle.desks.proofs.Telling.{refusing, acting}

pub opened : (m m₁ : Memory) (a n : ℕ) → a < 32 → (0 < get_or (held m) 0 0 → ⊥) → n ≡ a → Holds m m₁ (set (idle (held m)) 0 (n + 1)) → Acts (step_own (held m) (opens a)) done m m₁
unfolding does
opened m m₁ a n h o e k =
    acting m m₁ (opens a) (set (idle (held m)) 0 (n + 1)) done (opens_well (held m) a h o) (ap (λ v. says (set (idle (held m)) 0 v) done) (omega arith)) k

-- ROOM for one more operation
module _ (m : List ℕ) (d made len high : ℕ) (e : made ≡ low m (made_cell d)) (f : len ≡ kept m) (g : high ≡ highest_up_to 32 m) where
  room_parts : has_room m d ≡ true → (made < 256) × (len < 8192) × (high + 1 < 4294967296)
  unfolding has_room
  room_parts t =
      let p = and_parts (ltb (low m (made_cell d)) 256) (ltb (kept m) 8192 && is_small (suc (highest_up_to 32 m))) t in
      let q = and_parts (ltb (kept m) 8192) (is_small (suc (highest_up_to 32 m))) p.1 in
      let a = ltb-true _ _ p.0 in
      let b = ltb-true _ _ q.0 in
      let c = ltb-true _ _ q.1 in
      (omega arith, omega arith, omega arith)

  pub room-there : made < 256 → len < 8192 → high + 1 < 4294967296 → has_room m d ≡ true
  unfolding has_room
  room-there a b c =
      and_from (ltb (low m (made_cell d)) 256) (ltb (kept m) 8192 && is_small (suc (highest_up_to 32 m))) (lt-ltb (low m (made_cell d)) 256 (omega arith))
      (and_from (ltb (kept m) 8192) (is_small (suc (highest_up_to 32 m))) (lt-ltb (kept m) 8192 (omega arith)) (lt-ltb (suc (highest_up_to 32 m)) 4294967296 (omega arith)))

  pub no_room_made : 256 ≤ made → has_room m d ≡ true → ⊥
  no_room_made h t = let p = (room_parts t).0 in omega arith

  pub no_room-kept : 8192 ≤ len → has_room m d ≡ true → ⊥
  no_room-kept h t = let p = (room_parts t).1 in omega arith

  pub no_room-number : (high + 1 < 4294967296 → ⊥) → has_room m d ≡ true → ⊥
  no_room-number h t = h (room_parts t).2

-- room that is there is there once the memory is idle, too
pub room_left : (m : List ℕ) (d : ℕ) → has_room m d ≡ true → kept (idle m) < 8192
unfolding kept
room_left m d t =
    let h = (room_parts m d (low m (made_cell d)) (kept m) (highest_up_to 32 m) refl refl refl t).1 in
    let e = get_or-set_other m 1 3 0 0 (omega arith) in
    subst (λ n. min n 8192 < 8192) (sym e) h

pub new_id : (n high : ℕ) (m : List ℕ) (d : ℕ) → high ≡ highest_up_to 32 m → n ≡ high + 1 → id n d ≡ id (suc (highest_up_to 32 m)) d
new_id n high m d e f = let g : n ≡ suc (highest_up_to 32 m) = omega arith in λ i. id (g i) d

-- A DEED
not_true_false : (b : Bool) → (b ≡ true → ⊥) → b ≡ false
not_true_false true f = absurd (f refl)
not_true_false false f = refl

pub no_room_false : (m : List ℕ) (d : ℕ) → (has_room m d ≡ true → ⊥) → has_room m d ≡ false
no_room_false m d h = not_true_false (has_room m d) h

-- the operation under its new id, appended once the memory is idle
pub performed : (m m₁ m₂ : Memory) (d : ℕ) (i : doc.Id) (k : doc.Kind) → i ≡ id (suc (highest_up_to 32 (held m))) d → Holds m m₁ (idle (held m)) →
    Holds m₁ m₂ (appended (held m₁) (record { name = i; kind = k })) → Holds m m₂ (appended (idle (held m)) (deed (held m) d k))
performed m m₁ m₂ d i k e h a =
    record { after = a.after ∙ (λ j. appended (h.after j) (record { name = e j; kind = k })); same = a.same ∙ h.same }

-- a write and an add, as far as they differ only in the kind
module _ (m : Memory) (a b x y d : ℕ) (o : 0 < get_or (held m) 0 0) (ed : d ≡ me (held m)) (ha : (a < 4294967296) × (x ≡ a)) (hb : (b < 4294967296) × (y ≡ b)) where
  room-here : (t : Bool) → has_room (held m) d ≡ t → has_room (held m) (me (held m)) ≡ t
  room-here t e = ap (has_room (held m)) (sym ed) ∙ e

  made_here : (m₁ : Memory) (k k₁ : doc.Kind) → k ≡ k₁ → Holds m m₁ (appended (idle (held m)) (deed (held m) d k)) → Holds m m₁ (appended (idle (held m)) (deed (held m) (me (held m)) k₁))
  made_here m₁ k k₁ e h = subst (λ l. Holds m m₁ l) (λ j. appended (idle (held m)) (deed (held m) (ed j) (e j))) h

  write_done : (m₁ : Memory) → (has_room (held m) d ≡ true) × Holds m m₁ (appended (idle (held m)) (deed (held m) d (under x y))) → Acts (step_own (held m) (said (write_under a b))) done m m₁
  unfolding does does_said
  write_done m₁ h =
      acting m m₁ (said (write_under a b)) (appended (idle (held m)) (deed (held m) (me (held m)) (under a b))) done (write_small (held m) a b o true ha.0 hb.0 (room-here true h.0)) refl
      (made_here m₁ (under x y) (under a b) (ap₂ under ha.1 hb.1) h.1)

  add_done : (m₁ : Memory) → (has_room (held m) d ≡ true) × Holds m m₁ (appended (idle (held m)) (deed (held m) d (added x y))) → Acts (step_own (held m) (said (add_to a b))) done m m₁
  unfolding does does_said
  add_done m₁ h =
      acting m m₁ (said (add_to a b)) (appended (idle (held m)) (deed (held m) (me (held m)) (added a b))) done (add_small (held m) a b o true ha.0 hb.0 (room-here true h.0)) refl
      (made_here m₁ (added x y) (added a b) (ap₂ added ha.1 hb.1) h.1)

  -- no room is left, and nothing was changed
  full : (m₁ : Memory) (s : Step) (e : Refusal) → e ≡ NoRoom → Holds m m₁ (held m) → Acts s (refused 7) m m → Acts s (refused (number_of e)) m m₁
  full m₁ s e i h q = record {
    after = record { after = h.after ∙ q.after.after; same = h.same };
    act = q.act ∙ ap (λ r. refused (number_of r)) (sym i);
  }

  write_full : (m₁ : Memory) (e : Refusal) → (has_room (held m) d ≡ true → ⊥) × (e ≡ NoRoom) × Holds m m₁ (held m) → Acts (step_own (held m) (said (write_under a b))) (refused (number_of e)) m m₁
  write_full m₁ e n =
      full m₁ (step_own (held m) (said (write_under a b))) e n.1 n.2
      (refusing m (said (write_under a b)) 6 {e = NoRoom} {r = NoRoom} refl refl (write_small (held m) a b o false ha.0 hb.0 (room-here false (no_room_false (held m) d n.0))))

  add_full : (m₁ : Memory) (e : Refusal) → (has_room (held m) d ≡ true → ⊥) × (e ≡ NoRoom) × Holds m m₁ (held m) → Acts (step_own (held m) (said (add_to a b))) (refused (number_of e)) m m₁
  add_full m₁ e n =
      full m₁ (step_own (held m) (said (add_to a b))) e n.1 n.2
      (refusing m (said (add_to a b)) 6 {e = NoRoom} {r = NoRoom} refl refl (add_small (held m) a b o false ha.0 hb.0 (room-here false (no_room_false (held m) d n.0))))

  -- however it ended
  pub write_ended : (m₁ : Memory) (r : Result (Unit {0}) Refusal) → Performs d (under x y) r m m₁ → Acts (step_own (held m) (said (write_under a b))) (quiet r) m m₁
  write_ended m₁ (Ok v) h = write_done m₁ h
  write_ended m₁ (Err e) h = write_full m₁ e h

  pub add_ended : (m₁ : Memory) (r : Result (Unit {0}) Refusal) → Performs d (added x y) r m m₁ → Acts (step_own (held m) (said (add_to a b))) (quiet r) m m₁
  add_ended m₁ (Ok v) h = add_done m₁ h
  add_ended m₁ (Err e) h = add_full m₁ e h

-- A KEY SHOWN
pub word_shown : (m m₁ : Memory) (a x : ℕ) (w : Option ℕ) → 0 < get_or (held m) 0 0 → (a < 4294967296) × (x ≡ a) → Holds m m₁ (set (set (held m) 1 1) 2 a) → option_to_list w ≡ word_at (ops_of (held m)) x →
    Acts (step_own (held m) (said (show_key a))) (shows (option_to_list w)) m m₁
unfolding does does_said
word_shown m m₁ a x w o h k e =
    acting m m₁ (said (show_key a)) (set (set (held m) 1 1) 2 a) (shows (option_to_list w)) (key_small_shown (held m) a o h.0)
    (ap (λ s. says (set (set (held m) 1 1) 2 a) (shows s)) (sym (e ∙ ap (word_at (ops_of (held m))) h.1))) k

-- GOING ON
pub goes_done : (m : Memory) → 0 < get_or (held m) 0 0 → (get_or (held m) 1 0 ≡ 1 → ⊥) → Acts (step_own (held m) next) done m m
unfolding does goes_on
goes_done m o h =
    acting m m next (held m) done (next_well (held m) o)
    (ap (λ b. pick b (says (idle (held m)) (shows (count_at (ops_of (held m)) (low (held m) key_cell) ∷ []))) (says (held m) done)) (ne_eqb (get_or (held m) 1 0) 1 h)) (record { after = refl; same = refl })

pub goes_tally : (m m₁ : Memory) (n : ℕ) → 0 < get_or (held m) 0 0 → get_or (held m) 1 0 ≡ 1 → n ≡ count_at (ops_of (held m)) (low (held m) key_cell) → Holds m m₁ (idle (held m)) →
    Acts (step_own (held m) next) (shows (n ∷ [])) m m₁
unfolding does goes_on
goes_tally m m₁ n o e f h =
    acting m m₁ next (idle (held m)) (shows (n ∷ [])) (next_well (held m) o)
    (λ i. pick (eq-eqb (get_or (held m) 1 0) 1 e i) (says (idle (held m)) (shows (sym f i ∷ []))) (says (held m) done)) h

-- LETTERS
written : (b out out₁ : List ℕ) (n : ℕ) → n ≡ length b → out₁ ≡ b ++ drop (length b) out → take n out₁ ≡ b
written b out out₁ n f e = (λ i. take (f i) (e i)) ∙ take_at b (drop (length b) out) (length b) refl

pub sent : (m m₁ : Memory) (a d p n : ℕ) (out out₁ : List ℕ) → 0 < get_or (held m) 0 0 → d ≡ me (held m) → ((a < 32) × (a ≡ d → ⊥)) × (p ≡ a) → Holds m m₁ (idle (held m)) →
    n ≡ length (letter_for (held m) d p) → out₁ ≡ letter_for (held m) d p ++ drop (length (letter_for (held m) d p)) out → Posts (step_own (held m) (letter_to a)) (Ok n) m m₁ out out₁
unfolding does
sent m m₁ a d p n out out₁ o e h k f g =
    let letter : List ℕ = letter_for (held m) d p in
    let w : take n out₁ ≡ letter = written letter out out₁ n f g in
    let long = ap length g ∙ length-append letter (drop (length letter) out) in
    record {
      acts = acting m m₁ (letter_to a) (idle (held m)) (sends (take n out₁)) (letter_well (held m) a d o e h.0)
          ((λ i. says (idle (held m)) (sends (letter_for (held m) (sym e i) (sym h.1 i)))) ∙ ap (λ b. says (idle (held m)) (sends b)) (sym w)) k;
      front = (omega arith, g ∙ (λ i. sym w i ++ drop (sym f i) out));
    }

-- by the size of what is lent
pub room_for : (s : Step) (r : Result ℕ Refusal) (m m₁ : Memory) (out out₁ : List ℕ) → 4096 ≤ length out → Posts s r m m₁ out out₁ → PostsIf (leb 4096 (length out)) s r m m₁ out out₁
room_for s r m m₁ out out₁ long h = subst (λ b. PostsIf b s r m m₁ out out₁) (sym (le-leb 4096 (length out) long)) h

pub no_room_for : (s : Step) (m : Memory) (out : List ℕ) → length out < 4096 → PostsIf (leb 4096 (length out)) s (Err Unfit) m m out out
no_room_for s m out short =
    subst (λ b. PostsIf b s (Err Unfit) m m out out) (sym (lt-leb 4096 (length out) short)) (record { said = refl; after = record { after = refl; same = refl }; bytes = refl })

module _ (m m₁ : Memory) (a d p : ℕ) (bs : List ℕ) (r : Bool) (o : 0 < get_or (held m) 0 0) (e : d ≡ me (held m)) (h : ((a < 32) × (a ≡ d → ⊥)) × (p ≡ a)) (er : r ≡ is_letter p d bs)
    (k : Holds m m₁ (pick r (received p bs (held m)) (held m))) where
  letter-here : is_letter a (me (held m)) bs ≡ r
  letter-here = sym (er ∙ (λ i. is_letter (h.1 i) (e i) bs))

  pub heard_well : (m₂ : Memory) → r ≡ true → Holds m₁ m₂ (idle (held m₁)) → Acts (step_own (held m) (hears a bs)) done m m₂
  unfolding does
  heard_well m₂ t l =
      let g : held m₁ ≡ received a bs (held m) = k.after ∙ (λ i. pick (t i) (received (h.1 i) bs (held m)) (held m)) in
      acting m m₂ (hears a bs) (idle (received a bs (held m))) done (hears_by (held m) a d bs r o e h.0 letter-here ∙ ap (λ q. pick q 0 1) t) refl
      (record { after = l.after ∙ ap idle g; same = l.same ∙ k.same })

  pub heard_not : r ≡ false → Acts (step_own (held m) (hears a bs)) (refused 1) m m₁
  heard_not t =
      let q = refusing m (hears a bs) 0 {e = Malformed} {r = Malformed} refl refl (hears_by (held m) a d bs r o e h.0 letter-here ∙ ap (λ q. pick q 0 1) t) in
      let g : held m₁ ≡ held m = k.after ∙ ap (λ z. pick z (received p bs (held m)) (held m)) t in
      record { after = record { after = g ∙ q.after.after; same = k.same }; act = q.act }
