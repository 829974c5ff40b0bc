use Rattle.std.proofs.Common.{refl}
use Rattle.network.proofs.RoomsRight.{rooms_right}
use Rattle.network.proofs.rooms.every_room_is_right.Goals as goal

pub returns : goal.returns
returns c = (refl, rooms_right)
