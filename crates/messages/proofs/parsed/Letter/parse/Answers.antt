use Rattle.std.proofs.Common.{rules}
use Rattle.messages.proofs.Wholeness.{parsed_is}
use Rattle.messages.proofs.parsed.Letter.parse.Goals as goal

pub returns-clause-test : goal.returns-clause-test
returns-clause-test c = parsed_is _ _ _ c.framed.result c.filter.result c.framed.ensures.test c.framed.ensures.value (search rules)
