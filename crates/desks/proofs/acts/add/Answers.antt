use Rattle.std.proofs.Common.{refl}
use Rattle.ops.specs.Doc.{add_to}
use Rattle.desks.specs.Run.{said}
use Rattle.desks.proofs.Refusals.{said-closed, add_key_large, add_amount_large}
use Rattle.desks.proofs.Telling.{leaves_quiet}
use Rattle.desks.proofs.Acting.{add_ended}
use Rattle.desks.proofs.acts.add.Goals as goal

pub returns-in_err-desk : goal.returns-in_err-desk
returns-in_err-desk c = leaves_quiet _ (said (add_to c.args.key c.args.amount)) 2 _ c.from_residual.ensures.1 c.in_err-desk.ensures.1 refl (said-closed _ _ c.in_err-desk.ensures.0)

pub returns-in_err-key : goal.returns-in_err-key
returns-in_err-key c = leaves_quiet _ (said (add_to c.args.key c.args.amount)) 0 _ c.from_residual-in_err-key.ensures.1 c.in_err-key.ensures.1 refl (add_key_large _ _ _ c.in_ok-desk.ensures.0 c.in_err-key.ensures.0)

pub returns-in_err-amount : goal.returns-in_err-amount
returns-in_err-amount c = leaves_quiet _ (said (add_to c.args.key c.args.amount)) 0 _ c.from_residual-in_err-amount.ensures.1 c.in_err-amount.ensures.1 refl (add_amount_large _ _ _ c.in_ok-desk.ensures.0 c.in_ok-key.ensures.0 c.in_err-amount.ensures.0)

pub returns : goal.returns
returns c = add_ended _ _ _ _ _ _ c.in_ok-desk.ensures.0 c.in_ok-desk.ensures.1 c.in_ok-key.ensures c.in_ok-amount.ensures _ _ c.perform.ensures
