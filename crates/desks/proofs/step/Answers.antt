use Rattle.std.proofs.Common.{rules, refl, ap, ◌∙◌}
use Rattle.desks.specs.Refusals.{number_of}
use Rattle.desks.specs.declared.Told.TheVariants.{No}
use Rattle.desks.proofs.Sizes.{not_sized, no_call, sized}
use Rattle.desks.proofs.Dispatch.{misfit, stepped, stepped_sent, step_unknown, told_open, told_write, told_add, told_show, told_send, told_hear, told_next, told-unknown}
use Rattle.desks.proofs.step.Goals as goal

pub returns-then-not-fits : goal.returns-then-not-fits
returns-then-not-fits c = misfit _ _ _ _ _ _ _ (not_sized _ _ _ _ _ c.if-not-fits.ensures) _ c.no.ensures

pub returns-in-Err : goal.returns-in-Err
returns-in-Err c = let e = c.in-Err.ensures in misfit _ _ _ _ _ _ _ (no_call _ _ _ _ _ e.0) _ (c.no-in-Err.ensures ∙ ap (λ k. No (number_of k)) e.1)

pub returns-in-Open : goal.returns-in-Open
returns-in-Open c =
    stepped _ _ _ _ _ _ _ _ _ _ (sized _ _ _ _ _ c.if-not-fits.ensures _ c.in-Ok.ensures) _ (told_open _ _ _ _ _ c.in-Ok.ensures c.in-Open.is) _ _ (search rules) _ c.open.ensures (c.done.ensures _ _)

pub returns-in-Write : goal.returns-in-Write
returns-in-Write c =
    stepped _ _ _ _ _ _ _ _ _ _ (sized _ _ _ _ _ c.if-not-fits.ensures _ c.in-Ok.ensures) _ (told_write _ _ _ _ _ c.in-Ok.ensures c.in-Write.is) _ _ (search rules) _ c.write.ensures (c.done-in-Write.ensures _ _)

pub returns-in-Add : goal.returns-in-Add
returns-in-Add c =
    stepped _ _ _ _ _ _ _ _ _ _ (sized _ _ _ _ _ c.if-not-fits.ensures _ c.in-Ok.ensures) _ (told_add _ _ _ _ _ c.in-Ok.ensures c.in-Add.is) _ _ (search rules) _ c.add.ensures (c.done-in-Add.ensures _ _)

pub returns-in-ShowKey : goal.returns-in-ShowKey
returns-in-ShowKey c =
    stepped _ _ _ _ _ _ _ _ _ _ (sized _ _ _ _ _ c.if-not-fits.ensures _ c.in-Ok.ensures) _ (told_show _ _ _ _ _ c.in-Ok.ensures c.in-ShowKey.is) _ _ (search rules) _ c.show_key.ensures (c.shown_word.ensures _)

pub returns-in-Send : goal.returns-in-Send
returns-in-Send c =
    stepped_sent _ _ _ _ _ _ _ _ _ (sized _ _ _ _ _ c.if-not-fits.ensures _ c.in-Ok.ensures) _ (told_send _ _ _ _ _ c.in-Ok.ensures c.in-Send.is) _ _ (search rules) _ c.send.ensures c.sent.ensures

pub returns-in-Read : goal.returns-in-Read
returns-in-Read c =
    stepped _ _ _ _ _ _ _ _ _ _ (sized _ _ _ _ _ c.if-not-fits.ensures _ c.in-Ok.ensures) _ (told_hear _ _ _ _ _ c.in-Ok.ensures c.in-Read.is) _ _ (search rules) _ c.read.ensures (c.done-in-Read.ensures _ _)

pub returns-in-GoOn : goal.returns-in-GoOn
returns-in-GoOn c =
    stepped _ _ _ _ _ _ _ _ _ _ (sized _ _ _ _ _ c.if-not-fits.ensures _ c.in-Ok.ensures) _ (told_next _ _ _ _ _ c.in-Ok.ensures c.in-GoOn.is) _ _ (search rules) _ c.go_on.ensures (c.shown_rest.ensures _)

pub returns-in-Insert : goal.returns-in-Insert
returns-in-Insert c =
    step_unknown _ _ _ _ _ _ _ _ (sized _ _ _ _ _ c.if-not-fits.ensures _ c.in-Ok.ensures) (told-unknown _ _ _ _ _ c.in-Ok.ensures _ c.in-Insert.is) c.refusal_of_unknown.ensures _ refl _ c.no-in-Insert.ensures
