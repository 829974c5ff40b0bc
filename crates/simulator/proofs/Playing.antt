-- An item that is played does what the room's definition says, and leads from a room that was reached to the next.
use Rattle.std.proofs.Common.{◌≡◌, ℕ, ◌+◌, ◌<◌, ◌≤◌, Bool, true, false, not, ◌&&◌, eqb, ltb, List, [], ◌∷◌, ◌++◌, map, length, get_or, take, set, is_err, Ok, Err, vec_items, vec_len, Result, Vec, sym, refl, ap, ◌∙◌, subst, add-one, arith}
use mathlib.Core.Logic.{∥∥₁_map}
use Rattle.std.proofs.lemmas.List.{map-set, map_push, get_or-map, length-map, append-nil}
use Rattle.std.proofs.lemmas.Bool.{lt-ltb, le-ltb, both_ways}
use Rattle.std.specs.Result.{IsErrAnd}
use Rattle.std.specs.declared.alloc.Global.{Global}
use Rattle.std.specs.declared.alloc.AllocError.{AllocError}
use Rattle.ops.specs.Doc.{pick, each, Command}
use Rattle.desks.specs.Run.{Item, at_desk, makes, comes, meet, said, letter_to, hears, Ran, runs_on, Two}
use Rattle.desks.specs.Promise.{up_to, opened}
use Rattle.desks.specs.Entry.{own}
use Rattle.network.specs.Room.{Note, note, Room, room, Moved, moved, note_at, can, does, moves, meeting, first_room}
use Rattle.network.specs.Rooms.{tale, RoomsRight}
use Rattle.network.proofs.RoomStands.{moves-can, moves_cannot}
use Rattle.network.proofs.RoomsRight.{tale-moves, rooms_right}
use Rattle.replicas.proofs.Stepping.{Back, is_back}
use Rattle.replicas.specs.declared.machine.Replica.{Replica}
use Rattle.replicas.specs.Replica.{memory_of, run, Ended, Did, Sent, Writes, Read}
use Rattle.simulator.specs.declared.letter.Letter.{Letter}
use Rattle.simulator.specs.declared.room.Item as play
use Rattle.simulator.specs.declared.room.Answer.{Answer}
use Rattle.simulator.specs.declared.room.Answer.TheVariants.{Done, Met}
use Rattle.desks.specs.declared.refusal.Refusal.{Refusal}
use Rattle.desks.specs.declared.refusal.Refusal.TheVariants.{Malformed}
use Rattle.simulator.specs.Rooms.{note_of}
use Rattle.simulator.specs.Meetings as meetings
use Rattle.simulator.specs.Play.{item_of, end_of, rows_of, Plain, Answers, pairs_in, bytes_in, Counts, Plays, Played, Rightly}
use Rattle.simulator.proofs.Passing.{wrote, was_read, memory_there}

-- THE NEXT ROOM
pub reached_next : (r r₁ : Room) (it : Item) → r₁ ≡ (moves r it).after → ∥ ((is : List Item) × ((tale is).room ≡ r)) ∥₁ → ∥ ((is : List Item) × ((tale is).room ≡ r₁)) ∥₁
reached_next r r₁ it e h = ∥∥₁_map h (λ t. (it ∷ t.0, tale-moves t.0 it ∙ (ap (λ x. (moves x it).after) t.1 ∙ sym e)))

pub reached_same : (r r₁ : Room) → r₁ ≡ r → ∥ ((is : List Item) × ((tale is).room ≡ r)) ∥₁ → ∥ ((is : List Item) × ((tale is).room ≡ r₁)) ∥₁
reached_same r r₁ e h = ∥∥₁_map h (λ t. (t.0, t.1 ∙ sym e))

pub rightly : (r : Room) → ∥ ((is : List Item) × ((tale is).room ≡ r)) ∥₁ → Rightly r
unfolding RoomsRight
rightly r h = ∥∥₁_map h (λ t. (t.0, t.1, rooms_right t.0))

-- WHAT CAN BE, and what cannot
cannot : (r : Room) (it : Item) → can r it ≡ false → Plays r it (Err Malformed) r
cannot r it e =
    let p = moves_cannot r it e in
    record { after = sym (ap (λ (m : Moved). m.after) p); end = sym (ap (λ (m : Moved). m.end) p); showed = sym (ap (λ (m : Moved). m.showed) p); counts = tt }

pub cannot_at : (r : Room) (i : ℕ) (c : Command) → 32 ≤ i → Plays r (at_desk i c) (Err Malformed) r
unfolding can
cannot_at r i c h = cannot r (at_desk i c) (le-ltb i 32 h)

pub cannot_come : (r : Room) (k : ℕ) → length r.notes ≤ k → Plays r (comes k) (Err Malformed) r
unfolding can
cannot_come r k h = cannot r (comes k) (le-ltb k (length r.notes) h)

pub cannot_make : (r : Room) (i j : ℕ) (k : Refusal) → k ≡ Malformed → false ≡ ((ltb i 32 && ltb j 32) && not (eqb i j)) → Plays r (makes i j) (Err k) r
unfolding can
cannot_make r i j k z e = subst (λ k. Plays r (makes i j) (Err k) r) (sym z) (cannot r (makes i j) (sym e))

pub cannot_meet : (r : Room) (i j : ℕ) (x : Result Answer Refusal) {k : Refusal} → IsErrAnd x (λ y. y ≡ k) → k ≡ Malformed → false ≡ ((ltb i 32 && ltb j 32) && not (eqb i j)) → Plays r (meet i j) x r
unfolding can
cannot_meet r i j (Ok a) h z e = absurd h
cannot_meet r i j (Err k) h z e = subst (λ k. Plays r (meet i j) (Err k) r) (sym (h ∙ z)) (cannot r (meet i j) (sym e))

module _ (xs : List Replica) (ns : List Note) where
  abbrev ms : List (List ℕ)
  ms = map memory_of xs

  abbrev here : Room
  here = room ms ns

  with_replica : (i : ℕ) (r₁ : Replica) (m : List ℕ) → memory_of r₁ ≡ m → map memory_of (set xs i r₁) ≡ set ms i m
  with_replica i r₁ m e = map-set memory_of xs i r₁ ∙ ap (set ms i) e

  -- A COMMAND
  pub told_at : (i : ℕ) (c : Command) (r r₁ : Replica) (a : Result Answer Refusal) → i < 32 → i < length xs → r ≡ get_or xs i r → Answers (run r (said c)) a (memory_of r₁) →
      Plays here (at_desk i c) a (room (map memory_of (set xs i r₁)) ns)
  unfolding can does
  told_at i c r r₁ a near there e h =
      let at : memory_of r ≡ get_or ms i [] = memory_there xs i r there e in
      let x : Ran = runs_on 3 own (get_or ms i []) (said c) in
      let same : run r (said c) ≡ x = ap (λ m. runs_on 3 own m (said c)) at in
      let p = moves-can here (at_desk i c) (lt-ltb i 32 near) in
      record {
        after = ap (λ l. room l ns) (with_replica i r₁ x.memory (h.memory ∙ ap (λ (y : Ran). y.memory) same)) ∙ sym (ap (λ (m : Moved). m.after) p);
        end = h.end ∙ (ap (λ (y : Ran). y.end) same ∙ sym (ap (λ (m : Moved). m.end) p));
        showed = h.showed ∙ (ap (λ (y : Ran). y.showed) same ∙ sym (ap (λ (m : Moved). m.showed) p));
        counts = h.counts here (at_desk i c);
      }

  -- A LETTER IS MADE
  module _ (i j : ℕ) (r r₁ : Replica) (two : true ≡ ((ltb i 32 && ltb j 32) && not (eqb i j))) (there : i < length xs) (e : r ≡ get_or xs i r) where
    abbrev x : Ran
    x = runs_on 3 own (get_or ms i []) (letter_to j)

    makes_it : moves here (makes i j) ≡ moved (room (set ms i x.memory) (ns ++ each (note i j) x.sent)) x.end []
    unfolding can does
    makes_it = moves-can here (makes i j) (sym two)

    sent_here : (y : Result ℕ Refusal) (out out₁ : List ℕ) → 4096 ≤ length out → Writes (memory_of r) j y (memory_of r₁) out out₁ → Sent x y (memory_of r₁) out₁
    sent_here y out out₁ long h =
        subst (λ m. Sent (runs_on 3 own m (letter_to j)) y (memory_of r₁) out₁) (memory_there xs i r there e) (wrote (memory_of r) j y (memory_of r₁) out out₁ long h)

    pub made_one : (n : ℕ) (out out₁ : List ℕ) (l : Note) → 4096 ≤ length out → l ≡ note i j (take n out₁) → Writes (memory_of r) j (Ok n) (memory_of r₁) out out₁ →
        Plays here (makes i j) (Ok Done) (room (map memory_of (set xs i r₁)) (ns ++ l ∷ []))
    unfolding each
    made_one n out out₁ l long el h =
        let s = sent_here (Ok n) out out₁ long h in
        record {
          after =
              (λ k. room (with_replica i r₁ x.memory s.memory k) (ns ++ (el k ∷ [])))
              ∙ (ap (λ bs. room (set ms i x.memory) (ns ++ each (note i j) bs)) (sym s.sent) ∙ sym (ap (λ (m : Moved). m.after) makes_it));
          end = sym s.ended ∙ sym (ap (λ (m : Moved). m.end) makes_it);
          showed = sym (ap (λ (m : Moved). m.showed) makes_it);
          counts = tt;
        }

    pub made_none : (k : Refusal) (out out₁ : List ℕ) → 4096 ≤ length out → Writes (memory_of r) j (Err k) (memory_of r₁) out out₁ → Plays here (makes i j) (Err k) (room (map memory_of (set xs i r₁)) ns)
    unfolding each
    made_none k out out₁ long h =
        let s = sent_here (Err k) out out₁ long h in
        record {
          after =
              (λ z. room (with_replica i r₁ x.memory s.memory z) (sym (append-nil ns) z))
              ∙ (ap (λ bs. room (set ms i x.memory) (ns ++ each (note i j) bs)) (sym s.sent) ∙ sym (ap (λ (m : Moved). m.after) makes_it));
          end = sym s.ended.0 ∙ sym (ap (λ (m : Moved). m.end) makes_it);
          showed = sym (ap (λ (m : Moved). m.showed) makes_it);
          counts = tt;
        }

-- the letters are kept in a list that may have moved
pub kept_none : (xs : List Replica) (ls ls₁ : List Letter) (i j : ℕ) (k : Refusal) (r r₁ : Replica) (out out₁ : List ℕ) → true ≡ ((ltb i 32 && ltb j 32) && not (eqb i j)) → i < length xs → r ≡ get_or xs i r → 4096 ≤ length out →
    Writes (memory_of r) j (Err k) (memory_of r₁) out out₁ → ls₁ ≡ ls → Plays (room (map memory_of xs) (map note_of ls)) (makes i j) (Err k) (room (map memory_of (set xs i r₁)) (map note_of ls₁))
kept_none xs ls ls₁ i j k r r₁ out out₁ two there e long h el =
    subst (λ l. Plays (room (map memory_of xs) (map note_of ls)) (makes i j) (Err k) (room (map memory_of (set xs i r₁)) (map note_of l))) (sym el)
    (made_none xs (map note_of ls) i j r r₁ two there e k out out₁ long h)

pub kept_one : (xs : List Replica) (ls ls₁ ls₂ : List Letter) (l : Letter) (i j n : ℕ) (r r₁ : Replica) (out out₁ : List ℕ) → true ≡ ((ltb i 32 && ltb j 32) && not (eqb i j)) → i < length xs → r ≡ get_or xs i r →
    4096 ≤ length out → Writes (memory_of r) j (Ok n) (memory_of r₁) out out₁ → ls₁ ≡ ls → ls₂ ≡ ls₁ ++ l ∷ [] → note_of l ≡ note i j (take n out₁) →
    Plays (room (map memory_of xs) (map note_of ls)) (makes i j) (Ok Done) (room (map memory_of (set xs i r₁)) (map note_of ls₂))
kept_one xs ls ls₁ ls₂ l i j n r r₁ out out₁ two there e long h el ep en =
    subst (λ ns. Plays (room (map memory_of xs) (map note_of ls)) (makes i j) (Ok Done) (room (map memory_of (set xs i r₁)) ns)) (sym (ap (map note_of) (ep ∙ ap (λ y. y ++ l ∷ []) el) ∙ map_push note_of ls l))
    (made_one xs (map note_of ls) i j r r₁ two there e n out out₁ (note_of l) long en h)

-- what is left of a row that was lent whole, filled, and cut
pub cut_row : (n m : ℕ) (first lent back cut : List ℕ) → length first ≡ n → lent ≡ first → length back ≡ length lent → cut ≡ take m (Back n back first) → cut ≡ take m back
cut_row n m first lent back cut a b c e = e ∙ ap (take m) (is_back (record { long = a; whole = b; kept = c }))

-- an answer with nothing shown, from how a run ended
plain_ends : (r : Room) (it : Item) (y : Ran) (x : Result (Unit {0}) Refusal) (a : Result Answer Refusal) → Plain x a → Ended y x → (end_of a ≡ y.end) × (rows_of a ≡ []) × Counts r it a
plain_ends r it y (Ok v) a p e = (ap end_of p ∙ sym e, ap rows_of p, subst (Counts r it) (sym p) tt)
plain_ends r it y (Err k) a p e = (ap end_of p ∙ sym e.0, ap rows_of p, subst (Counts r it) (sym p) tt)

abbrev answer_of : Result (Unit {0}) Refusal → Result Answer Refusal
answer_of (Ok v) = Ok Done
answer_of (Err k) = Err k

answer_plain : (x : Result (Unit {0}) Refusal) → Plain x (answer_of x)
answer_plain (Ok v) = refl
answer_plain (Err k) = refl

-- A LETTER COMES
module _ (xs : List Replica) (ls : List Letter) where
  abbrev ns : List Note
  ns = map note_of ls

  pub came_one : (k : ℕ) (l : Letter) (r r₁ : Replica) (x : Result (Unit {0}) Refusal) (a : Result Answer Refusal) (bs : List ℕ) → k < length ls → l ≡ get_or ls k l → l.to < length xs → r ≡ get_or xs l.to r →
      bs ≡ vec_items l.bytes → length bs ≤ 4096 → Plain x a → Read (memory_of r) l.from bs x (memory_of r₁) →
      Plays (room (map memory_of xs) ns) (comes k) a (room (map memory_of (set xs l.to r₁)) ns)
  unfolding can does
  came_one k l r r₁ x a bs there el near er eb short plain h =
      let here : Room = room (map memory_of xs) ns in
      let run_of : Note → Ran = λ n. runs_on 3 own (get_or (map memory_of xs) n.for []) (hears n.from n.bytes) in
      let does-it : Note → Moved = λ n. moved (room (set (map memory_of xs) n.for (run_of n).memory) ns) (run_of n).end [] in
      let count : length ns ≡ length ls = length-map ls note_of in
      let which : note_at here k ≡ note_of l = get_or-map note_of ls k l (note 0 0 []) there ∙ ap note_of (sym el) in
      let p : moves here (comes k) ≡ does-it (note_of l) = moves-can here (comes k) (lt-ltb k (length ns) (omega arith)) ∙ ap does-it which in
      let y : Ran = run_of (note_of l) in
      let d : Did y x (memory_of r₁) =
      subst (λ m. Did (runs_on 3 own m (hears l.from (vec_items l.bytes))) x (memory_of r₁)) (memory_there xs l.to r near er)
      (subst (λ b. Did (runs_on 3 own (memory_of r) (hears l.from b)) x (memory_of r₁)) eb (was_read (memory_of r) l.from bs x (memory_of r₁) short h)) in
      let q = plain_ends here (comes k) y x a plain d.ended in
      record {
        after = ap (λ m. room m ns) (with_replica xs ns l.to r₁ y.memory d.memory) ∙ sym (ap (λ (m : Moved). m.after) p);
        end = q.0 ∙ sym (ap (λ (m : Moved). m.end) p);
        showed = q.1 ∙ sym (ap (λ (m : Moved). m.showed) p);
        counts = q.2;
      }

  -- whatever is answered
  pub came_after : (k : ℕ) (l : Letter) (r r₁ : Replica) (x : Result (Unit {0}) Refusal) (bs : List ℕ) → k < length ls → l ≡ get_or ls k l → l.to < length xs → r ≡ get_or xs l.to r →
      bs ≡ vec_items l.bytes → length bs ≤ 4096 → Read (memory_of r) l.from bs x (memory_of r₁) →
      room (map memory_of (set xs l.to r₁)) ns ≡ (moves (room (map memory_of xs) ns) (comes k)).after
  came_after k l r r₁ x bs there el near er eb short h = (came_one k l r r₁ x (answer_of x) bs there el near er eb short (answer_plain x) h).after

-- TWO MEET
module _ (ms ms₁ : List (List ℕ)) (ns : List Note) (i j n size : ℕ) (well : Bool) (two : true ≡ ((ltb i 32 && ltb j 32) && not (eqb i j))) (m : meetings.Met ms i j n well size ms₁) where
  abbrev t : Two
  t = meeting i j (get_or ms i []) (get_or ms j [])

  meets_so : moves (room ms ns) (meet i j) ≡ moved (room (set (set ms i t.one) j t.other) ns) (pick t.fair 0 1) []
  unfolding can does
  meets_so = moves-can (room ms ns) (meet i j) (sym two)

  pub met_after : room ms₁ ns ≡ (moves (room ms ns) (meet i j)).after
  met_after = ap (λ l. room l ns) m.after ∙ sym (ap (λ (x : Moved). x.after) meets_so)

  met_so : (a : Result Answer Refusal) → Counts (room ms ns) (meet i j) a → rows_of a ≡ [] → end_of a ≡ pick well 0 1 → Plays (room ms ns) (meet i j) a (room ms₁ ns)
  met_so a n e f =
      record {
        after = met_after;
        end = f ∙ (ap (λ b. pick b 0 1) m.fair ∙ sym (ap (λ (x : Moved). x.end) meets_so));
        showed = e ∙ sym (ap (λ (x : Moved). x.showed) meets_so);
        counts = n;
      }

  pub met_well : well ≡ true → Plays (room ms ns) (meet i j) (Ok (Met n size)) (room ms₁ ns)
  unfolding pairs_in bytes_in
  met_well e = met_so (Ok (Met n size)) (m.many, m.long) refl (ap (λ b. pick b 0 1) (sym e))

  pub met_ill : well ≡ false → Plays (room ms ns) (meet i j) (Err Malformed) (room ms₁ ns)
  met_ill e = met_so (Err Malformed) tt refl (ap (λ b. pick b 0 1) (sym e))

-- WHERE MEMORY IS WANTING
pub none_played : (r r₁ : Room) (it : Item) (x : Result (Result Answer Refusal) AllocError) → is_err x ≡ true → r₁ ≡ r → Played r it x r₁
none_played r r₁ it (Ok a) h e = absurd (both_ways false refl h)
none_played r r₁ it (Err z) h e = e

-- as many places as there are desks
pub within : (desks : Vec Replica Global) (i : ℕ) → vec_len desks ≡ 32 → i < 32 → i < length (vec_items desks)
within desks i e h = let f = desks.ok.0 in omega arith

-- AT THE START
each_push : {A B : Type 0} (f : A → B) (xs : List A) (x : A) → each f (xs ++ x ∷ []) ≡ each f xs ++ f x ∷ []
unfolding each
each_push f [] x = refl
each_push f (y ∷ ys) x = ap (λ l. f y ∷ l) (each_push f ys x)

abbrev first_memory : ℕ → List ℕ
first_memory i = (opened 3 own i).memory

pub none_opened : map memory_of [] ≡ each first_memory (up_to 0)
unfolding up_to each
none_opened = refl

pub one_opened : (d : ℕ) (xs ys : List Replica) (r : Replica) → ys ≡ xs ++ r ∷ [] → memory_of r ≡ first_memory d → map memory_of xs ≡ each first_memory (up_to d) → map memory_of ys ≡ each first_memory (up_to (d + 1))
unfolding up_to
one_opened d xs ys r e m h =
    ap (map memory_of) e ∙ (map_push memory_of xs r ∙ ((λ k. h k ++ m k ∷ []) ∙ (sym (each_push first_memory (up_to d) d) ∙ ap (λ n. each first_memory (up_to n)) (sym (add-one d)))))

pub is_first : (xs : List Replica) (ls : List Letter) → map memory_of xs ≡ each first_memory (up_to 32) → ls ≡ [] → room (map memory_of xs) (map note_of ls) ≡ first_room
is_first xs ls e z = λ k. room (e k) (map note_of (z k))

first_tale : (tale []).room ≡ first_room
unfolding tale
first_tale = refl

pub reached_first : (r : Room) → r ≡ first_room → ∥ ((is : List Item) × ((tale is).room ≡ r)) ∥₁
reached_first r e = ∣ ([], first_tale ∙ sym e) ∣₁

-- AN ITEM, by what the match on it told
pub of_item : (r r₁ : Room) (a : Result Answer Refusal) {it it₁ : play.Item} → it ≡ it₁ → Plays r (item_of it₁) a r₁ → Plays r (item_of it) a r₁
of_item r r₁ a e h = subst (λ x. Plays r (item_of x) a r₁) (sym e) h

pub of_made : (r r₁ : Room) (x : Result (Result Answer Refusal) AllocError) {it it₁ : play.Item} → it ≡ it₁ → Played r (item_of it₁) x r₁ → Played r (item_of it) x r₁
of_made r r₁ x e h = subst (λ y. Played r (item_of y) x r₁) (sym e) h
