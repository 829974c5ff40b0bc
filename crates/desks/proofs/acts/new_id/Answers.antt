use Rattle.std.proofs.Common.{refl}
use Rattle.ops.specs.Values.{id_of}
use Rattle.desks.proofs.Acting.{room-there, no_room_made, no_room-kept, no_room-number, new_id}
use Rattle.desks.proofs.Checks.{left, refused_by}
use Rattle.desks.proofs.acts.new_id.Goals as goal

pub returns-then-made-ge-MOST_DEEDS : goal.returns-then-made-ge-MOST_DEEDS
returns-then-made-ge-MOST_DEEDS c = (no_room_made _ _ _ _ _ c.made.ensures refl refl c.if-made-ge-MOST_DEEDS.true, refl)

pub returns-then-length-ge-CAPACITY : goal.returns-then-length-ge-CAPACITY
returns-then-length-ge-CAPACITY c = (no_room-kept _ _ _ _ _ c.made.ensures c.length.ensures.value refl c.if-length-ge-CAPACITY.true, refl)

pub returns-in_err-n : goal.returns-in_err-n
returns-in_err-n c = left id_of _ _ c.from_residual.ensures.1 (refused_by _ _ _ c.in_err-n.ensures.value) (no_room-number _ _ _ _ _ c.made.ensures c.length.ensures.value c.highest.ensures (rw c.in_err-n.ensures.ok_part at c.checked_add.ensures))

pub returns : goal.returns
returns c = let s = rw c.in_ok-n.ensures.ok_part at c.checked_add.ensures in (
  room-there _ _ _ _ _ c.made.ensures c.length.ensures.value c.highest.ensures c.if-made-ge-MOST_DEEDS.false c.if-length-ge-CAPACITY.false s.0,
  new_id _ _ _ _ c.highest.ensures s.1,
)
