-- Two desks of a room that meet know all that either knew, and nothing else, in time.
use Rattle.std.proofs.Common.{◌≡◌, ℕ, suc, ◌+◌, ◌<◌, true, List, [], ◌++◌, set, sym, refl, ap, ◌∙◌, subst, ⊎_elim, arith, length-set, get_or-set_other, get_or-set_same}
use Rattle.std.proofs.lemmas.List.{append-nil}
use Rattle.std.proofs.lemmas.Bool.{cases_eq}
use Rattle.ops.specs.Doc.{pick, Op}
use Rattle.ops.specs.Log.{kept, ops_of}
use Rattle.ops.proofs.Members.{Sub, in_left, in_right, in_append}
use Rattle.ops.proofs.Frames.{length-ops_of}
use Rattle.messages.specs.Letter.{most_records}
use Rattle.desks.specs.Run.{Two, exchange, union_is, meet}
use Rattle.desks.specs.Entry.{own}
use Rattle.network.specs.Room.{Room, room, Moved, moved, memory_at, heard, pairs, most_pairs, meeting, can, does, moves}
use Rattle.network.specs.Rooms.{Tale, writer_knows, RightNext}
use Rattle.network.proofs.Logs.{valid_sub}
use Rattle.network.proofs.Invariant.{Replica}
use Rattle.network.proofs.Lacks.{lacking, lacking-left, lacking_right, lacking_none}
use Rattle.network.proofs.Meeting.{Met}
use Rattle.network.proofs.Items.{union_of}
use Rattle.network.proofs.OwnRep.{Rep, Bears}
use Rattle.network.proofs.RoomStands.{replicas_of, Stands, Agrees, stands_by, moves-can, Handled, stands_then}
use Rattle.network.proofs.RoomLevel.{pairs_few, levels}

module _ (t : Tale) (v : Stands t) (i j : ℕ) (hi : i < 32) (hj : j < 32) (ne : i ≡ j → ⊥) (able : can t.room (meet i j) ≡ true) where
  abbrev r : Room
  r = t.room

  abbrev a : List ℕ
  a = memory_at r i

  abbrev b : List ℕ
  b = memory_at r j

  abbrev known : List Op
  known = heard r i ++ heard r j

  abbrev S : ℕ → Replica
  S = replicas_of r v.vectors

  abbrev two : Two
  two = meeting i j a b

  met : Met Rep Bears own most_records v.made v.letters i j known S two
  met =
      let n : ℕ = 7 + kept a + kept b in
      let p = lacking_right (heard r i) (heard r j) in
      let q = lacking-left (heard r i) (heard r j) in
      let ci = length-ops_of a in
      let cj = length-ops_of b in
      let e : suc n ≡ most_pairs a b = omega arith in
      subst (λ k. Met Rep Bears own most_records v.made v.letters i j known S (exchange (pairs k i j a b) 3 own i j a b true)) e
      (levels v.made v.letters i j known hi hj ne n S a b v.invariant
      (record { in_i = in_left (heard r i) (heard r j); in_j = in_right (heard r i) (heard r j); cover = in_append (heard r i) (heard r j) }) refl refl (omega arith))

  -- the room then
  abbrev r₁ : Room
  r₁ = room (set (set r.memories i two.one) j two.other) r.notes

  met_moves : moves r (meet i j) ≡ moved r₁ (pick two.fair 0 1) []
  unfolding does
  met_moves = moves-can r (meet i j) able

  agrees_j : Agrees r₁ j (met.next j)
  agrees_j =
      let n = v.count in
      let m = length-set r.memories i two.one in
      (get_or-set_same (set r.memories i two.one) j two.other [] (omega arith) ∙ sym met.memory_j, (met.invariant.stands j hj).keeps.log_is)

  agrees_i : Agrees r₁ i (met.next i)
  agrees_i =
      let n = v.count in (
        get_or-set_other (set r.memories i two.one) j i two.other [] ne ∙ (get_or-set_same r.memories i two.one [] (omega arith) ∙ sym met.memory_i),
        (met.invariant.stands i hi).keeps.log_is,
      )

  agrees : (k : ℕ) → Agrees r₁ k (met.next k)
  agrees k =
      ⊎_elim (λ z. subst (λ y. Agrees r₁ y (met.next y)) (sym z) agrees_j)
      (λ nj. ⊎_elim (λ z. subst (λ y. Agrees r₁ y (met.next y)) (sym z) agrees_i)
      (λ ni. subst (Agrees r₁ k) (sym (met.rest k ni nj))
      (get_or-set_other (set r.memories i two.one) j k two.other [] nj ∙ get_or-set_other r.memories i k two.one [] ni, refl)) (cases_eq k i))
      (cases_eq k j)

  -- a desk that lacks nothing knows all, and nothing else
  whole : (k : ℕ) → k < 32 → lacking known (met.next k).log ≡ 0 → Sub (met.next k).log known → union_is (heard r₁ k) (heard r i) (heard r j) ≡ true
  whole k hk none back =
      let made : Sub known v.made = λ o q. ⊎_elim (λ y. valid_sub (v.invariant.valid i hi) o y) (λ y. valid_sub (v.invariant.valid j hj) o y) (in_append (heard r i) (heard r j) o q) in
      let all : Sub known (met.next k).log = lacking_none known v.invariant.history (met.invariant.valid k hk) made none in
      let ag = agrees k in
      ap (λ log. union_is log (heard r i) (heard r j)) (ap ops_of ag.0 ∙ ag.1)
      ∙ union_of (met.next k).log (heard r i) (heard r j) (λ o q. all o (in_left (heard r i) (heard r j) o q)) (λ o q. all o (in_right (heard r i) (heard r j) o q))
      (λ o q. in_append (heard r i) (heard r j) o (back o q))

  stands_met : Stands (record { room = r₁; knew = t.knew })
  stands_met =
      record {
        vectors = λ k. (met.next k).heard;
        made = v.made;
        letters = v.letters;
        invariant = stands_by met.next r₁ agrees met.invariant;
        count = length-set (set r.memories i two.one) j two.other ∙ (length-set r.memories i two.one ∙ v.count);
        notes_are = v.notes_are;
        knew_are = v.knew_are;
      }

  pub met_handled : Handled t (meet i j)
  unfolding RightNext writer_knows
  met_handled =
      let e = met_moves in
      let few = pairs_few (most_pairs a b) i j a b in
      let ci = length-ops_of a in
      let cj = length-ops_of b in
      record {
        right = (
          ap (λ (x : Moved). x.end) e ∙ ap (λ f. pick f 0 1) met.fair,
          ap (λ (x : Moved). union_is (heard x.after i) (heard r i) (heard r j)) e ∙ whole i hi met.none_i met.together.in_i,
          ap (λ (x : Moved). union_is (heard x.after j) (heard r i) (heard r j)) e ∙ whole j hj met.none_j met.together.in_j,
          omega arith,
        );
        stands = stands_then t (meet i j) _ t.knew e (append-nil t.knew) stands_met;
      }
