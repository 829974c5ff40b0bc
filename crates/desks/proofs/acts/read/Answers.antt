use Rattle.std.proofs.Common.{refl}
use Rattle.desks.specs.Run.{hears}
use Rattle.desks.specs.declared.refusal.Refusal.TheVariants.{Malformed}
use Rattle.desks.proofs.Refusals.{hears-closed, hears-no_peer}
use Rattle.desks.proofs.Telling.{leaves_quiet, leaves_as}
use Rattle.desks.proofs.Acting.{heard_well, heard_not}
use Rattle.desks.proofs.acts.read.Goals as goal

pub returns-in_err-desk : goal.returns-in_err-desk
returns-in_err-desk c = leaves_quiet _ (hears c.args.from c.args.letter.now) 2 _ c.from_residual.ensures.1 c.in_err-desk.ensures.1 refl (hears-closed _ _ _ c.in_err-desk.ensures.0)

pub returns-in_err-peer : goal.returns-in_err-peer
returns-in_err-peer c = leaves_quiet _ (hears c.args.from c.args.letter.now) 0 _ c.from_residual-in_err-peer.ensures.1 c.in_err-peer.ensures.1 refl (hears-no_peer _ _ _ _ c.in_ok-desk.ensures.0 c.in_ok-desk.ensures.1 c.in_err-peer.ensures.0)

pub returns-in_err-read_letter : goal.returns-in_err-read_letter
returns-in_err-read_letter c =
    let e = c.in_err-read_letter.ensures in
    leaves_as _ _ _ _ Malformed c.from_residual-in_err-read_letter.ensures.1
    (heard_not _ _ _ _ _ _ _ c.in_ok-desk.ensures.0 c.in_ok-desk.ensures.1 c.in_ok-peer.ensures e.value e.after refl)

pub returns : goal.returns
returns c =
    let e = c.in_ok-read_letter.ensures in
    heard_well _ _ _ _ _ _ _ c.in_ok-desk.ensures.0 c.in_ok-desk.ensures.1 c.in_ok-peer.ensures e.value e.after _ refl (record { after = refl; same = refl })
