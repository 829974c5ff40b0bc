use Rattle.std.proofs.Common.{refl}
use Rattle.ops.specs.Doc.{show_key}
use Rattle.desks.specs.Run.{said}
use Rattle.desks.proofs.Refusals.{said-closed, key_large_shown}
use Rattle.desks.proofs.Telling.{leaves_word}
use Rattle.desks.proofs.Acting.{word_shown}
use Rattle.desks.proofs.acts.show_key.Goals as goal

pub returns-in_err-this_desk : goal.returns-in_err-this_desk
returns-in_err-this_desk c = leaves_word _ (said (show_key c.args.key)) 2 _ c.from_residual.ensures.1 c.in_err-this_desk.ensures.1 refl (said-closed _ _ c.in_err-this_desk.ensures.0)

pub returns-in_err-narrow : goal.returns-in_err-narrow
returns-in_err-narrow c = leaves_word _ (said (show_key c.args.key)) 0 _ c.from_residual-in_err-narrow.ensures.1 c.in_err-narrow.ensures.1 refl (key_large_shown _ _ c.in_ok-this_desk.ensures.0 c.in_err-narrow.ensures.0)

pub returns : goal.returns
returns c = word_shown _ _ _ _ _ c.in_ok-this_desk.ensures.0 c.in_ok-narrow.ensures (record { after = refl; same = refl }) c.word_under-word.ensures
