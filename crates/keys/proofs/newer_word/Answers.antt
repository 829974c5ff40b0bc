use Rattle.std.proofs.Common.{ap, ◌∙◌, rules}
use Rattle.keys.specs.Newest.{found_op}
use Rattle.keys.proofs.Cases.{not_under, other_key, newer_stays}
use Rattle.keys.proofs.newer_word.Goals as goal

pub returns-in_default : goal.returns-in_default
returns-in_default c = not_under c.args.op _ _ c.in_default.not-Write

pub returns-then-at-key : goal.returns-then-at-key
returns-then-at-key c = other_key c.args.op _ _ _ _ c.in-Write.is c.if-at-key.true

pub returns : goal.returns
returns c = ap (found_op c.args.key) c.or.ensures ∙ newer_stays c.args.op c.args.best c.filter.result c.args.key _ _ c.in-Write.is c.if-at-key.false (search rules)
