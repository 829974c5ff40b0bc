use Rattle.std.proofs.Common.{max, get_or, rules, arith}
use borrow.Author.Tests.{tests}
use Rattle.witnesses.proofs.Made.{made_at}
use Rattle.witnesses.proofs.rows.Row.joined.Goals as goal

pub returns : goal.returns
returns c = λ k h.
    made_at _ _ (λ j. max (get_or c.args.self.now.numbers j 0) (get_or c.args.other.now.numbers j 0)) (λ i y q d. search (rules, tests)) _ 0 32 c.from_fn-numbers.ensures.items.each k (omega arith) h
