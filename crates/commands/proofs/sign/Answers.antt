use Rattle.std.proofs.Common.{Some, None, ap, ◌∙◌, lit<}
use Rattle.std.proofs.lemmas.Str.Pattern.{strip_prefix_char}
use Rattle.commands.specs.Numbers.{number_of}
use Rattle.commands.proofs.Signs.{sign_char, no_sign, sign_number}
use Rattle.commands.proofs.sign.Goals as goal

pub returns-in-Some : goal.returns-in-Some
returns-in-Some c = ap Some c.from.ensures ∙ sign_char _ _ c.in-Some.ensures

pub returns-in_err-code : goal.returns-in_err-code
returns-in_err-code c = c.from_residual.ensures ∙ no_sign _ c.in_default.ensures (strip_prefix_char 35 _ None c.in_err-code.ensures.cases (lit< tt))

pub returns : goal.returns
returns c =
    c.number.ensures ∙ ap number_of c.as_bytes.ensures.value
    ∙ sign_number _ _ c.in_default.ensures (strip_prefix_char 35 _ (Some c.in_ok-code.code) c.in_ok-code.ensures.cases (lit< tt))
