-- Whatever happened in a room, its desks keep the invariant; so whatever happens next is right, and whoever has heard of the same shows the same.
use Rattle.std.proofs.Common.{◌≡◌, ℕ, ◌<◌, ◌≤◌, Bool, true, false, ◌&&◌, ltb, List, [], ◌∷◌, length, sym, refl, ap, ◌∙◌, ⊎_elim, arith}
use Rattle.std.proofs.lemmas.Bool.{ltb-true, lt-ltb, le-ltb, and_parts, and_from, both_ways, cases_lt, cases_Bool}
use Rattle.ops.specs.Doc.{pick, all_in, names_once, show_text, show_key, turn, small_command, core, word_at, count_at}
use Rattle.desks.specs.Run.{Item, at_desk, makes, comes, meet}
use Rattle.desks.specs.Promise.{good_item, AnyOrder}
use Rattle.network.specs.Room.{Room, moved, heard, can, moves}
use Rattle.network.specs.Rooms.{Tale, writer_knows, tale, RightNext, ShowSame, RoomsRight}
use Rattle.network.proofs.Distinct.{distinct_names}
use Rattle.network.proofs.Logs.{valid_hangs}
use Rattle.network.proofs.Order.{any_order}
use Rattle.network.proofs.Whole.{two-desks}
use Rattle.network.proofs.RoomStands.{Stands, first_stands, moves_cannot, Handled, Rejected, rejected_by}
use Rattle.network.proofs.RoomCommands.{said_handled, said_large}
use Rattle.network.proofs.RoomLetters.{made_handled, came_handled, none_came}
use Rattle.network.proofs.RoomMeeting.{met_handled}

handled : (t : Tale) (it : Item) → Stands t → good_item it ≡ true → Handled t it
unfolding good_item can
handled t (at_desk i c) v g = let p = and_parts (ltb i 32) (small_command c) g in said_handled t v i c (ltb-true i 32 p.0) p.1
handled t (makes i j) v g = let p = two-desks i j g in made_handled t v i j p.0 p.1 p.2 g
handled t (comes k) v g = ⊎_elim (λ h. came_handled t v k h) (λ h. none_came t k v h) (cases_lt k (length t.room.notes))
handled t (meet i j) v g = let p = two-desks i j g in met_handled t v i j p.0 p.1 p.2 g

rejected : (t : Tale) (it : Item) → Stands t → good_item it ≡ false → Rejected t it
unfolding good_item can writer_knows
rejected t (at_desk i c) v g = go (ltb i 32) refl g
  where
    go : (b : Bool) → ltb i 32 ≡ b → (b && small_command c) ≡ false → Rejected t (at_desk i c)
    go true e large = said_large t v i c (ltb-true i 32 e) large
    go false e far = rejected_by t (at_desk i c) 1 (omega arith) (moves_cannot t.room (at_desk i c) e) refl v
rejected t (makes i j) v g = rejected_by t (makes i j) 1 (omega arith) (moves_cannot t.room (makes i j) g) (ap (λ b. pick b (heard t.room i ∷ []) []) g) v
rejected t (comes k) v g = absurd (both_ways true g refl)
rejected t (meet i j) v g = rejected_by t (meet i j) 1 (omega arith) (moves_cannot t.room (meet i j) g) refl v

-- the room of a tale with one item more
pub tale-moves : (before : List Item) (it : Item) → (tale (it ∷ before)).room ≡ (moves (tale before).room it).after
unfolding tale
tale-moves before it = refl

pub stands : (is : List Item) → Stands (tale is)
unfolding tale
stands [] = first_stands
stands (it ∷ before) =
    let v = stands before in
    ⊎_elim (λ g. (handled (tale before) it v g).stands) (λ g. (rejected (tale before) it v g).stands) (cases_Bool (good_item it))

-- WHAT IS SHOWN
module _ (t : Tale) (v : Stands t) (i : ℕ) (hi : i < 32) where
  shows_no-text : (moves t.room (at_desk i show_text)).showed ≡ []
  unfolding RightNext good_item small_command core
  shows_no-text = ((handled t (at_desk i show_text) v (and_from (ltb i 32) true (lt-ltb i 32 hi) refl)).right.1 refl).1

  shows_key : (k : ℕ) → k < 4294967296 → (moves t.room (at_desk i (show_key k))).showed ≡ word_at (heard t.room i) k ∷ (count_at (heard t.room i) k ∷ []) ∷ []
  unfolding RightNext good_item small_command core turn
  shows_key k small = ((handled t (at_desk i (show_key k)) v (and_from (ltb i 32) (ltb k 4294967296) (lt-ltb i 32 hi) (lt-ltb k 4294967296 small))).right.0 refl).1

  shows_no_key : (k : ℕ) → 4294967296 ≤ k → (moves t.room (at_desk i (show_key k))).showed ≡ []
  unfolding good_item small_command
  shows_no_key k large = (rejected t (at_desk i (show_key k)) v (λ n. lt-ltb i 32 hi n && le-ltb k 4294967296 large n)).shows

  names : names_once (heard t.room i) ≡ true
  names = distinct_names (heard t.room i) (v.invariant.valid i hi).distinct

show_same : (t : Tale) → Stands t → (i j : ℕ) → i < 32 → j < 32 → all_in (heard t.room i) (heard t.room j) ≡ true → all_in (heard t.room j) (heard t.room i) ≡ true → ShowSame t.room i j
unfolding AnyOrder
show_same t v i j hi hj a b = (
  shows_no-text t v i hi ∙ sym (shows_no-text t v j hj),
  λ k. ⊎_elim
      (λ l. let o = any_order (heard t.room i) (heard t.room j) k (names t v i hi) (names t v j hj) a b in
      shows_key t v i hi k l ∙ ((λ n. o.1 n ∷ (o.2 n ∷ []) ∷ []) ∙ sym (shows_key t v j hj k l)))
      (λ l. shows_no_key t v i hi k l ∙ sym (shows_no_key t v j hj k l)) (cases_lt k 4294967296),
)

-- a letter that was never made does not come
unmade : (r : Room) (k : ℕ) → length r.notes ≤ k → moves r (comes k) ≡ moved r 1 []
unfolding can
unmade r k h = moves_cannot r (comes k) (le-ltb k (length r.notes) h)

pub rooms_right : RoomsRight
unfolding RoomsRight
rooms_right is =
    let v = stands is in
    record {
      hang = λ i hi. valid_hangs v.invariant.history (v.invariant.valid i hi);
      next = λ it g. (handled (tale is) it v g).right;
      refused = λ it g. let r = rejected (tale is) it v g in (r.ends, r.shows, r.same);
      unmade = λ k h. unmade (tale is).room k h;
      same = show_same (tale is) v;
    }
