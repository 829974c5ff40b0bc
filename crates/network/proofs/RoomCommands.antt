-- A command in a room: a known one does to its desk's log what the paper says; another, and one that is too large, is refused, and the room stays.
use Rattle.std.proofs.Common.{◌≡◌, ℕ, ◌<◌, true, false, [], ◌++◌, refl, ap, ◌∙◌, ⊎_elim}
use Rattle.std.proofs.lemmas.List.{append-nil, set-get_or}
use Rattle.std.proofs.lemmas.Bool.{lt-ltb, both_ways, cases_Bool}
use Rattle.ops.specs.Doc.{Command, turn, small_command, core}
use Rattle.desks.specs.Run.{said, Ran, ran, runs_on, at_desk}
use Rattle.desks.specs.Entry.{own}
use Rattle.network.specs.Room.{Room, room, Moved, moved, memory_at, heard, with_run, can, does, moves}
use Rattle.network.specs.Rooms.{Tale, writer_knows, RightNext}
use Rattle.network.proofs.Order.{any_order}
use Rattle.network.proofs.Invariant.{Replica, replica}
use Rattle.network.proofs.Turns.{turns_core}
use Rattle.network.proofs.Commanding.{Commanded, commanded}
use Rattle.network.proofs.OwnRep.{Rep, Bears}
use Rattle.network.proofs.OwnCommands.{unknown-run, large_run}
use Rattle.network.proofs.Own.{own_lawful}
use Rattle.network.proofs.RoomStands.{replicas_of, Stands, heard-after, stands_with, later_same, moves-can, Handled, stands_then, Rejected, rejected_by}

module _ (t : Tale) (v : Stands t) (i : ℕ) (c : Command) (hi : i < 32) where
  abbrev r : Room
  r = t.room

  abbrev x : Ran
  x = runs_on 3 own (memory_at r i) (said c)

  said-moves : moves r (at_desk i c) ≡ moved (with_run r i x) x.end x.showed
  unfolding can does
  said-moves = moves-can r (at_desk i c) (lt-ltb i 32 hi)

  -- refused, the room stays
  said-no : (k : ℕ) → x ≡ ran (memory_at r i) [] [] k → moves r (at_desk i c) ≡ moved r k []
  said-no k p = said-moves ∙ ap (λ (y : Ran). moved (with_run r i y) y.end y.showed) p ∙ ap (λ ms. moved (room ms r.notes) k []) (set-get_or r.memories i [])

  nothing_written : writer_knows r (at_desk i c) ≡ []
  unfolding writer_knows
  nothing_written = refl

  stands_here : Rep i (memory_at r i) (heard r i) (v.vectors i)
  stands_here = v.invariant.stands i hi

  said-known : small_command c ≡ true → core c ≡ true → Handled t (at_desk i c)
  unfolding RightNext
  said-known small kn =
      let w : Commanded own Rep Bears (replicas_of r v.vectors) v.letters i c = commanded own_lawful (turns_core any_order) v.invariant i c hi small kn in
      let s : Replica = replica x.memory (turn i (heard r i) c).ops (v.vectors i) in
      let e = said-moves in
      record {
        right = (
          (λ k. (ap (λ (y : Moved). y.end) e ∙ w.ends, ap (λ (y : Moved). y.showed) e ∙ w.showed, ap (λ (y : Moved). heard y.after i) e ∙ heard-after v i hi s w.invariant)),
          (λ k. absurd (both_ways (core c) k kn)),
        );
        stands =
            stands_then t (at_desk i c) _ t.knew e (ap (λ ks. t.knew ++ ks) nothing_written ∙ append-nil t.knew)
            (stands_with v i hi s w.invariant r.notes t.knew v.notes_are v.knew_are);
      }

  said-unknown : core c ≡ false → Handled t (at_desk i c)
  unfolding RightNext
  said-unknown kn =
      let e = said-no 2 (unknown-run i (memory_at r i) (heard r i) (v.vectors i) c hi stands_here kn) in
      record {
        right = (
          (λ k. absurd (both_ways (core c) kn k)),
          (λ k. (ap (λ (y : Moved). y.end) e, ap (λ (y : Moved). y.showed) e, ap (λ (y : Moved). y.after) e)),
        );
        stands = later_same t (at_desk i c) (ap (λ (y : Moved). y.after) e) nothing_written v;
      }

  pub said_handled : small_command c ≡ true → Handled t (at_desk i c)
  said_handled small = ⊎_elim (λ kn. said-known small kn) (λ kn. said-unknown kn) (cases_Bool (core c))

  -- too large
  pub said_large : small_command c ≡ false → Rejected t (at_desk i c)
  said_large large =
      let w = large_run i (memory_at r i) (heard r i) (v.vectors i) hi stands_here c large in
      rejected_by t (at_desk i c) w.0 w.1 (said-no w.0 w.2) nothing_written v
