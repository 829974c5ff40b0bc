use Rattle.simulator.proofs.Twos.{is_two, met_of_two}
use Rattle.simulator.proofs.Playing.{cannot_meet, met_well, met_ill, met_after, reached_next}
use Rattle.simulator.proofs.room.Room.meet.Goals as goal

pub returns-in_err-two : goal.returns-in_err-two
returns-in_err-two c = cannot_meet _ _ _ _ c.from_residual.ensures.1 c.in_err-two.ensures.1 c.in_err-two.ensures.0

pub invariant_of-self : goal.invariant_of-self
invariant_of-self c =
    let self = c.args.self.now in
    record { count = c.meet-meeting.ensures.count; reached = reached_next _ _ _ (met_after _ _ _ _ _ _ _ _ (is_two c.in_ok-two.two) c.meet-meeting.ensures.met) self.reached }

pub returns-then-meeting : goal.returns-then-meeting
returns-then-meeting c = met_of_two _ _ _ _ c.in_ok-two.two c.in_ok-two.ensures _ (met_well _ _ _ _ _ _ _ _ (is_two c.in_ok-two.two) c.meet-meeting.ensures.met c.if-meeting.true)

pub returns-else-meeting : goal.returns-else-meeting
returns-else-meeting c = met_of_two _ _ _ _ c.in_ok-two.two c.in_ok-two.ensures _ (met_ill _ _ _ _ _ _ _ _ (is_two c.in_ok-two.two) c.meet-meeting.ensures.met c.if-meeting.false)
