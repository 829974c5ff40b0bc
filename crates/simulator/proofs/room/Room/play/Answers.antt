use Rattle.simulator.proofs.Playing.{rightly, of_item, of_made}
use Rattle.simulator.proofs.room.Room.play.Goals as goal

pub returns-in-At : goal.returns-in-At
returns-in-At c = record { does = of_item _ _ _ c.in-At.is c.tell.ensures; right = rightly _ c.tell.new.self.reached }

pub returns-in-Makes : goal.returns-in-Makes
returns-in-Makes c = record { does = of_made _ _ _ c.in-Makes.is c.make.ensures; right = rightly _ c.make.new.self.reached }

pub returns-in-Comes : goal.returns-in-Comes
returns-in-Comes c = record { does = of_item _ _ _ c.in-Comes.is c.deliver.ensures; right = rightly _ c.deliver.new.self.reached }

pub returns-in-Meets : goal.returns-in-Meets
returns-in-Meets c = record { does = of_item _ _ _ c.in-Meets.is c.meet.ensures; right = rightly _ c.meet.new.self.reached }
