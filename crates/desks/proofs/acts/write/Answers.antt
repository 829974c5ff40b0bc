use Rattle.std.proofs.Common.{refl}
use Rattle.ops.specs.Doc.{write_under}
use Rattle.desks.specs.Run.{said}
use Rattle.desks.proofs.Refusals.{said-closed, write_key_large, write_word_large}
use Rattle.desks.proofs.Telling.{leaves_quiet}
use Rattle.desks.proofs.Acting.{write_ended}
use Rattle.desks.proofs.acts.write.Goals as goal

pub returns-in_err-desk : goal.returns-in_err-desk
returns-in_err-desk c = leaves_quiet _ (said (write_under c.args.key c.args.word)) 2 _ c.from_residual.ensures.1 c.in_err-desk.ensures.1 refl (said-closed _ _ c.in_err-desk.ensures.0)

pub returns-in_err-key : goal.returns-in_err-key
returns-in_err-key c = leaves_quiet _ (said (write_under c.args.key c.args.word)) 0 _ c.from_residual-in_err-key.ensures.1 c.in_err-key.ensures.1 refl (write_key_large _ _ _ c.in_ok-desk.ensures.0 c.in_err-key.ensures.0)

pub returns-in_err-word : goal.returns-in_err-word
returns-in_err-word c = leaves_quiet _ (said (write_under c.args.key c.args.word)) 0 _ c.from_residual-in_err-word.ensures.1 c.in_err-word.ensures.1 refl (write_word_large _ _ _ c.in_ok-desk.ensures.0 c.in_ok-key.ensures.0 c.in_err-word.ensures.0)

pub returns : goal.returns
returns c = write_ended _ _ _ _ _ _ c.in_ok-desk.ensures.0 c.in_ok-desk.ensures.1 c.in_ok-key.ensures c.in_ok-word.ensures _ _ c.perform.ensures
