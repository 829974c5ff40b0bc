use Rattle.std.proofs.Common.{false, sym, ◌∙◌, lit<}
use Rattle.std.proofs.lemmas.Str.Pattern.{starts_char}
use Rattle.std.proofs.lemmas.Bool.{eqb-false, false≢true}
use Rattle.sessions.proofs.Notes.{line_notes}
use Rattle.sessions.proofs.parse.Goals as goal

pub returns : goal.returns
returns c =
    c.line_from.ensures
    ∙ line_notes _ _ _ _ _ c.up_to_spaces.ensures c.past_spaces-text.ensures (eqb-false _ 0 (sym c.if-is_empty.ensures))
    (λ e. false≢true ((starts_char 35 _ false c.if-starts_with.ensures.cases (lit< tt) (lit< tt)).1 e))
    c.split_word.ensures.0 c.split_word.ensures.1
