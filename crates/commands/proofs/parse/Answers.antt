use Rattle.std.proofs.Common.{Some, sym, ap, ◌∙◌, rules}
use Rattle.std.proofs.lemmas.Bool.{eqb-false}
use Rattle.commands.specs.Lines.{with_ok}
use Rattle.commands.proofs.Says.{passed_on, line_command}
use Rattle.commands.proofs.parse.Goals as goal

pub returns : goal.returns
returns c =
    passed_on c.command_from.result c.map.result (search rules) ∙ ap (with_ok Some) c.command_from.ensures
    ∙ line_command _ _ _ _ _ c.up_to_spaces.ensures c.past_spaces-text.ensures (eqb-false _ 0 (sym c.if-is_empty.ensures)) c.split_word.ensures.0 c.split_word.ensures.1
