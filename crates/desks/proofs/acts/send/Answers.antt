use Rattle.std.proofs.Common.{refl, arith}
use Rattle.messages.specs.Letter.{Wrote}
use Rattle.desks.specs.Run.{letter_to}
use Rattle.desks.proofs.Refusals.{letter-closed, letter-no_peer}
use Rattle.desks.proofs.Telling.{leaves_unsent}
use Rattle.desks.proofs.Acting.{sent, room_for, no_room_for}
use Rattle.desks.proofs.acts.send.Goals as goal

pub returns-then-out-lt-MOST_BYTES : goal.returns-then-out-lt-MOST_BYTES
returns-then-out-lt-MOST_BYTES c = no_room_for _ _ _ c.if-out-lt-MOST_BYTES.true

pub returns-in_err-desk : goal.returns-in_err-desk
returns-in_err-desk c = room_for _ _ _ _ _ _ c.if-out-lt-MOST_BYTES.false (leaves_unsent _ (letter_to c.args.to) 2 _ _ c.from_residual.ensures.1 c.in_err-desk.ensures.1 refl (letter-closed _ _ c.in_err-desk.ensures.0))

pub returns-in_err-peer : goal.returns-in_err-peer
returns-in_err-peer c = room_for _ _ _ _ _ _ c.if-out-lt-MOST_BYTES.false (leaves_unsent _ (letter_to c.args.to) 0 _ _ c.from_residual-in_err-peer.ensures.1 c.in_err-peer.ensures.1 refl (letter-no_peer _ _ _ c.in_ok-desk.ensures.0 c.in_ok-desk.ensures.1 c.in_err-peer.ensures.0))

pub returns-in_err-size : goal.returns-in_err-size
unfolding Wrote
returns-in_err-size c = let e = rw c.in_err-size.ensures.ok_part at c.write_letter.ensures in absurd (let f = e.0 in let g = c.if-out-lt-MOST_BYTES.false in omega arith)

pub returns : goal.returns
unfolding Wrote
returns c = let e = rw c.in_ok-size.ensures.ok_part at c.write_letter.ensures in room_for _ _ _ _ _ _ c.if-out-lt-MOST_BYTES.false (sent _ _ _ _ _ _ _ _ c.in_ok-desk.ensures.0 c.in_ok-desk.ensures.1 c.in_ok-peer.ensures (record { after = refl; same = refl }) e.1 e.2)
