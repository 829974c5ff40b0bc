-- The desks of a room are replicas that keep the invariant, each with the log in its own memory; and its letters are under way.
use Rattle.std.proofs.Common.{◌≡◌, ℕ, ◌<◌, ◌≤◌, true, false, List, [], ◌++◌, map, length, get_or, set, sym, refl, ap, ◌∙◌, subst, arith, length-set, get_or-set_other, get_or-set_same}
use mathlib.Core.Path.{fun_ext}
use Rattle.std.proofs.lemmas.List.{append-nil}
use Rattle.ops.specs.Doc.{pick, Op}
use Rattle.ops.specs.Log.{ops_of}
use Rattle.desks.specs.Run.{Letter, Item}
use Rattle.desks.specs.Promise.{opened}
use Rattle.desks.specs.Entry.{own}
use Rattle.network.specs.Room.{Note, note, Room, room, Moved, moved, memory_at, heard, first_room, can, does, moves}
use Rattle.network.specs.Rooms.{Tale, writer_knows, tale, RightNext}
use Rattle.network.proofs.Invariant.{Replica, replica, with_replica, replica-here, each-replica, Invariant, begins}
use Rattle.network.proofs.Rows.{each-length, each_getD}
use Rattle.network.proofs.OwnRep.{Rep, Bears}
use Rattle.network.proofs.OwnOpening.{opens_law}

-- memories and logs are the room's; what each desk has heard of the others' version vectors is given
abbrev pub replicas_of : Room → (ℕ → ℕ → ℕ → ℕ) → ℕ → Replica
replicas_of r hs k = replica (memory_at r k) (heard r k) (hs k)

abbrev pub note_of : Letter → Note
note_of l = note l.from l.for l.bytes

abbrev pub knew_of : Letter → List Op
knew_of l = l.knew

pub record Stands (t : Tale) : Type 0 where
  pub vectors : ℕ → ℕ → ℕ → ℕ
  pub made : List Op
  pub letters : List Letter
  pub invariant : Invariant Rep Bears (replicas_of t.room vectors) made letters
  pub count : length t.room.memories ≡ 32
  pub notes_are : t.room.notes ≡ map note_of letters
  pub knew_are : t.knew ≡ map knew_of letters

-- AT THE START
first_open : (i : ℕ) → i < 32 → (heard first_room i ≡ []) × ((j d : ℕ) → ◌≡◌ {A = ℕ} 0 0) × Rep i (memory_at first_room i) (heard first_room i) (λ p d. 0)
first_open i h =
    let r : Rep i (memory_at first_room i) [] (λ p d. 0) =
    subst (λ m. Rep i m [] (λ p d. 0)) (sym (each_getD (λ k. (opened 3 own k).memory) 32 i [] h)) (opens_law i h).1 in
    (r.keeps.log_is, (λ j d. refl), subst (λ l. Rep i (memory_at first_room i) l (λ p d. 0)) (sym r.keeps.log_is) r)

pub first_stands : Stands (tale [])
unfolding tale
first_stands =
    record {
      vectors = λ k p d. 0;
      made = [];
      letters = [];
      invariant = begins (replicas_of first_room (λ k p d. 0)) first_open;
      count = each-length (λ k. (opened 3 own k).memory) 32;
      notes_are = refl;
      knew_are = refl;
    }

-- REPLICAS WHOSE MEMORIES ARE A ROOM'S
abbrev pub Agrees : Room → ℕ → Replica → Type 0
Agrees r k s = (memory_at r k ≡ s.memory) × (ops_of s.memory ≡ s.log)

pub stands_by : (S : ℕ → Replica) (r : Room) → ((k : ℕ) → Agrees r k (S k)) → {u : List Op} {ls : List Letter} → Invariant Rep Bears S u ls → Invariant Rep Bears (replicas_of r (λ k. (S k).heard)) u ls
stands_by S r a {u} {ls} c =
    subst (λ T. Invariant Rep Bears T u ls) (fun_ext (λ k j. replica (sym (a k).0 j) ((sym (a k).1 ∙ ap ops_of (sym (a k).0)) j) (S k).heard)) c

-- one desk's machine has run
module _ {t : Tale} (v : Stands t) (i : ℕ) (hi : i < 32) (s : Replica) {u : List Op} {ls : List Letter} (c : Invariant Rep Bears (with_replica (replicas_of t.room v.vectors) i s) u ls) where
  log_after : ops_of s.memory ≡ s.log
  log_after = (subst (λ x. Rep i x.memory x.log x.heard) (replica-here (replicas_of t.room v.vectors) i s) (c.stands i hi)).keeps.log_is

  here : i < length t.room.memories
  here = let n = v.count in omega arith

  pub heard-after : ops_of (get_or (set t.room.memories i s.memory) i []) ≡ s.log
  heard-after = ap ops_of (get_or-set_same t.room.memories i s.memory [] here) ∙ log_after

  pub stands_with : (ns : List Note) (ks : List (List Op)) → ns ≡ map note_of ls → ks ≡ map knew_of ls → Stands (record { room = room (set t.room.memories i s.memory) ns; knew = ks })
  stands_with ns ks en ek =
      let S : ℕ → Replica = with_replica (replicas_of t.room v.vectors) i s in
      let r : Room = room (set t.room.memories i s.memory) ns in
      record {
        vectors = λ k. (S k).heard;
        made = u;
        letters = ls;
        invariant =
            stands_by S r
            (each-replica (Agrees r) (replicas_of t.room v.vectors) i s (get_or-set_same t.room.memories i s.memory [] here, log_after)
            (λ k ne. (get_or-set_other t.room.memories i k s.memory [] ne, refl))) c;
        count = length-set t.room.memories i s.memory ∙ v.count;
        notes_are = en;
        knew_are = ek;
      }

-- THE TALE WITH ONE ITEM MORE
abbrev pub later : Tale → Item → Tale
later t it = record { room = (moves t.room it).after; knew = t.knew ++ writer_knows t.room it }

pub later_same : (t : Tale) (it : Item) → (moves t.room it).after ≡ t.room → writer_knows t.room it ≡ [] → Stands t → Stands (later t it)
later_same t it e f v =
    let g : t.knew ++ writer_knows t.room it ≡ t.knew = ap (λ ks. t.knew ++ ks) f ∙ append-nil t.knew in
    subst Stands (λ j. record { room = sym e j; knew = sym g j }) v

-- WHAT CAN BE is done, and what cannot be changes nothing
pub moves-can : (r : Room) (it : Item) → can r it ≡ true → moves r it ≡ does r it
unfolding moves
moves-can r it e = ap (λ b. pick b (does r it) (moved r 1 [])) e

pub moves_cannot : (r : Room) (it : Item) → can r it ≡ false → moves r it ≡ moved r 1 []
unfolding moves
moves_cannot r it e = ap (λ b. pick b (does r it) (moved r 1 [])) e

pub record Handled (t : Tale) (it : Item) : Type 0 where
  pub right : RightNext t it
  pub stands : Stands (later t it)

-- the tale goes on with the room that an item leaves
pub stands_then : (t : Tale) (it : Item) (x : Moved) (ks : List (List Op)) → moves t.room it ≡ x → t.knew ++ writer_knows t.room it ≡ ks → Stands (record { room = x.after; knew = ks }) → Stands (later t it)
stands_then t it x ks e f v = subst Stands (λ j. record { room = (sym e j).after; knew = sym f j }) v

-- what is refused
pub record Rejected (t : Tale) (it : Item) : Type 0 where
  pub ends : 1 ≤ (moves t.room it).end
  pub shows : (moves t.room it).showed ≡ []
  pub same : (moves t.room it).after ≡ t.room
  pub stands : Stands (later t it)

pub rejected_by : (t : Tale) (it : Item) (k : ℕ) → 1 ≤ k → moves t.room it ≡ moved t.room k [] → writer_knows t.room it ≡ [] → Stands t → Rejected t it
rejected_by t it k l e f v =
    record {
      ends = subst (λ n. 1 ≤ n) (sym (ap (λ (x : Moved). x.end) e)) l;
      shows = ap (λ (x : Moved). x.showed) e;
      same = ap (λ (x : Moved). x.after) e;
      stands = later_same t it (ap (λ (x : Moved). x.after) e) f v;
    }
