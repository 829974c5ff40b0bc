-- A letter that is made in a room is one more, and one that comes is read.
use Rattle.std.proofs.Common.{◌≡◌, ℕ, ◌<◌, ◌≤◌, true, ◌&&◌, eqb, List, [], ◌∷◌, ◌++◌, length, get_or, set, sym, refl, ap, ◌∙◌, subst, inl, inr, ⊎_elim, arith, length-append}
use Rattle.std.proofs.lemmas.List.{append-nil, length-map, get_or-map, map_push}
use Rattle.std.proofs.lemmas.Bool.{eqb-true, lt-ltb, le-ltb, and_parts}
use Rattle.ops.specs.Doc.{pick, or, every, each, none_of, Op, all_in}
use Rattle.ops.specs.Version.{version}
use Rattle.ops.proofs.Members.{in_getD}
use Rattle.ops.proofs.Ids.{in_all_in}
use Rattle.messages.specs.Letter.{most_records}
use Rattle.desks.specs.Run.{letter_to, hears, Ran, ran, runs_on, first_letter, Letter, makes, comes}
use Rattle.desks.specs.Entry.{own}
use Rattle.network.specs.Room.{Note, note, Room, room, Moved, moved, memory_at, note_at, heard, with_run, can, does, moves}
use Rattle.network.specs.Rooms.{Tale, writer_knows, RightNext}
use Rattle.network.proofs.Laws.{batch}
use Rattle.network.proofs.Invariant.{Replica, with_replica, Invariant, posts}
use Rattle.network.proofs.Letters.{after_writing, written, writes, after_reading, reads, reads_whole}
use Rattle.network.proofs.Items.{one_of_two}
use Rattle.network.proofs.OwnRep.{Rep, Bears}
use Rattle.network.proofs.OwnLetters.{writes-run}
use Rattle.network.proofs.Own.{own_lawful}
use Rattle.network.proofs.RoomStands.{replicas_of, note_of, knew_of, Stands, heard-after, stands_with, later_same, moves-can, moves_cannot, Handled, stands_then}

-- A LETTER IS MADE
module _ (t : Tale) (v : Stands t) (i j : ℕ) (hi : i < 32) (hj : j < 32) (ne : i ≡ j → ⊥) (able : can t.room (makes i j) ≡ true) where
  abbrev r : Room
  r = t.room

  abbrev x : Ran
  x = runs_on 3 own (memory_at r i) (letter_to j)

  abbrev S : ℕ → Replica
  S = replicas_of r v.vectors

  one_note : (y : Ran) (m bs : List ℕ) → y ≡ ran m [] (bs ∷ []) 0 → (y.end ≡ 0) × (each (note i j) y.sent ≡ note i j (first_letter y.sent) ∷ [])
  unfolding each first_letter
  one_note y m bs p = subst (λ (z : Ran). (z.end ≡ 0) × (each (note i j) z.sent ≡ note i j (first_letter z.sent) ∷ [])) (sym p) (refl, refl)

  makes_knows : writer_knows r (makes i j) ≡ heard r i ∷ []
  unfolding writer_knows
  makes_knows = ap (λ b. pick b (heard r i ∷ []) []) able

  pub made_handled : Handled t (makes i j)
  unfolding RightNext does
  made_handled =
      let l : Letter = written own (S i) i j (heard r i) in
      let s : Replica = after_writing own (S i) j in
      let p = writes-run i j (memory_at r i) (heard r i) (v.vectors i) hi hj ne (v.invariant.stands i hi) in
      let n = one_note x _ _ p in
      let w = writes own_lawful v.invariant i j (heard r i) hi hj ne (λ o k. k) (λ o k. k) in
      let c : Invariant Rep Bears (with_replica S i s) v.made (v.letters ++ l ∷ []) =
      posts w.1 l (version (heard r i), batch most_records (v.vectors i j) (heard r i), v.vectors i j, w.2) in
      let notes : List Note = r.notes ++ note_of l ∷ [] in
      let e : moves r (makes i j) ≡ moved (room (set r.memories i x.memory) notes) x.end [] =
      moves-can r (makes i j) able ∙ ap (λ ns. moved (room (set r.memories i x.memory) (r.notes ++ ns)) x.end []) n.1 in
      record {
        right = (
          ap (λ (y : Moved). y.end) e ∙ n.0,
          ap (λ (y : Moved). heard y.after i) e ∙ heard-after v i hi s c,
          ap (λ (y : Moved). length y.after.notes) e ∙ (length-append r.notes (note_of l ∷ []) ∙ omega arith),
        );
        stands =
            stands_then t (makes i j) _ (t.knew ++ knew_of l ∷ []) e (ap (λ ks. t.knew ++ ks) makes_knows)
            (stands_with v i hi s c notes (t.knew ++ knew_of l ∷ []) (ap (λ ns. ns ++ note_of l ∷ []) v.notes_are ∙ sym (map_push note_of v.letters l))
            (ap (λ ks. ks ++ knew_of l ∷ []) v.knew_are ∙ sym (map_push knew_of v.letters l)));
      }

-- ONE COMES
abbrev no_letter : Letter
no_letter = record { from = 0; for = 0; bytes = []; knew = [] }

abbrev comes_with : Room → Note → Moved
comes_with r n =
    let x : Ran = runs_on 3 own (memory_at r n.for) (hears n.from n.bytes) in
    moved (with_run r n.for x) x.end []

abbrev CameWell : Room → Note → List Op → Moved → Type 0
CameWell r n wrote x =
    (x.end ≡ 0) × (all_in (heard r n.for) (heard x.after n.for) ≡ true)
    × (every (λ o. or (all_in (o ∷ []) (heard r n.for)) (all_in (o ∷ []) wrote)) (heard x.after n.for) ≡ true)
    × (length wrote ≤ 16 → all_in wrote (heard x.after n.for) ≡ true)

module _ (t : Tale) (v : Stands t) (k : ℕ) (made : k < length t.room.notes) where
  abbrev l : Letter
  l = get_or v.letters k no_letter

  as_many : k < length v.letters
  as_many = let e = ap length v.notes_are ∙ length-map v.letters note_of in omega arith

  the_note : note_at t.room k ≡ note_of l
  the_note = ap (λ ns. get_or ns k (note 0 0 [])) v.notes_are ∙ get_or-map note_of v.letters k no_letter (note 0 0 []) as_many

  the_knew : get_or t.knew k [] ≡ knew_of l
  the_knew = ap (λ ks. get_or ks k []) v.knew_are ∙ get_or-map knew_of v.letters k no_letter [] as_many

  came_well : CameWell t.room (note_of l) (knew_of l) (comes_with t.room (note_of l)) × Stands (record { room = (comes_with t.room (note_of l)).after; knew = t.knew })
  came_well =
      let way = v.invariant.underway l (in_getD v.letters k no_letter as_many) in
      let message = way.3 in
      let i : ℕ = l.for in
      let hi = message.for_desk in
      let y : Ran = runs_on 3 own (memory_at t.room i) (hears l.from l.bytes) in
      let s : Replica = after_reading own (replicas_of t.room v.vectors i) l way.0 way.1 in
      let w = reads own_lawful v.invariant l way.0 way.1 way.2 message in
      let d = w.1 in
      let after = heard-after v i hi s w.2 in
      let read = eqb-true y.end 0 (and_parts (eqb y.end 0) (none_of y.showed && none_of y.sent) w.0).0 in (
        (
          read,
          ap (λ log. all_in (heard t.room i) log) after ∙ in_all_in (heard t.room i) s.log d.kept,
          ap (every (λ o. or (all_in (o ∷ []) (heard t.room i)) (all_in (o ∷ []) l.knew))) after
              ∙ one_of_two s.log (heard t.room i) l.knew (λ o q. ⊎_elim (λ z. inl z) (λ z. inr (message.part o z)) (d.only o q)),
          (λ few. ap (λ log. all_in l.knew log) after ∙ in_all_in l.knew s.log (reads_whole v.invariant message d few)),
        ),
        stands_with v i hi s w.2 t.room.notes t.knew v.notes_are v.knew_are,
      )

  came_moves : moves t.room (comes k) ≡ comes_with t.room (note_of l)
  unfolding can does
  came_moves = moves-can t.room (comes k) (lt-ltb k (length t.room.notes) made) ∙ ap (comes_with t.room) the_note

  pub came_handled : Handled t (comes k)
  unfolding RightNext writer_knows
  came_handled =
      record {
        right = λ h.
            subst (λ (n : Note). CameWell t.room n (get_or t.knew k []) (moves t.room (comes k))) (sym the_note)
            (subst (λ wrote. CameWell t.room (note_of l) wrote (moves t.room (comes k))) (sym the_knew)
            (subst (λ (x : Moved). CameWell t.room (note_of l) (knew_of l) x) (sym came_moves) came_well.0));
        stands = stands_then t (comes k) _ t.knew came_moves (append-nil t.knew) came_well.1;
      }

-- a letter that was never made
pub none_came : (t : Tale) (k : ℕ) → Stands t → length t.room.notes ≤ k → Handled t (comes k)
unfolding RightNext writer_knows can
none_came t k v h =
    let e = moves_cannot t.room (comes k) (le-ltb k (length t.room.notes) h) in
    record { right = λ l. absurd (omega arith); stands = later_same t (comes k) (ap (λ (x : Moved). x.after) e) refl v }
