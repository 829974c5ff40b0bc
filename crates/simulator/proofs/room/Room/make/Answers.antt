use Rattle.simulator.proofs.Twos.{made_of_two}
use Rattle.simulator.proofs.Playing.{cannot_make}
use Rattle.simulator.proofs.room.Room.make.Goals as goal

pub returns-in-Ok : goal.returns-in-Ok
returns-in-Ok c = made_of_two _ _ _ _ c.in-Ok.two c.in-Ok.ensures _ c.send.ensures

pub returns-in-Err : goal.returns-in-Err
returns-in-Err c = cannot_make _ _ _ _ c.in-Err.ensures.1 c.in-Err.ensures.0
