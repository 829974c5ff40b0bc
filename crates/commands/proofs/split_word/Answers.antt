use Rattle.std.proofs.Common.{Some, None, sym, ◌∙◌, lit<}
use Rattle.std.proofs.lemmas.Str.Pattern.{split_parts}
use Rattle.commands.proofs.Splits.{first_whole, rest_none, split_some}
use Rattle.commands.proofs.split_word.Goals as goal

pub returns-in-Some : goal.returns-in-Some
returns-in-Some c =
    let parts = split_parts 32 _ (Some (c.in-Some.word, c.in-Some.rest)) c.in-Some.ensures.cases (lit< tt) in
    let e = split_some _ _ _ parts.0 parts.1 in
    (e.0, c.past_spaces.ensures ∙ e.1)

pub returns-in-None : goal.returns-in-None
returns-in-None c =
    let h = split_parts 32 _ None c.in-None.ensures.cases (lit< tt) in
    (sym (first_whole _ h), sym (rest_none _ h))
