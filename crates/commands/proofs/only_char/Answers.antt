use Rattle.std.proofs.Common.{IsUtf8, ◌∙◌, rules}
use Rattle.commands.proofs.Signs.{only_none, only_first}
use Rattle.commands.proofs.only_char.Goals as goal

pub returns-in_err-first : goal.returns-in_err-first
returns-in_err-first c = c.from_residual.ensures ∙ only_none _ _ c.chars-chars.ensures.rest c.in_err-first.ensures.steps.0.0

pub returns : goal.returns
returns c =
    let u : IsUtf8 c.args.text.now = search rules in
    let h = c.next-2.ensures.steps in
    c.then_some.ensures ∙ only_first _ _ _ _ _ _ u c.chars-chars.ensures.rest c.in_ok-first.ensures.steps.0 h.2 c.is_none.ensures
