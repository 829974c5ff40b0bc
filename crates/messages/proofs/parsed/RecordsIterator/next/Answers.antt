use Rattle.std.proofs.Common.{length, rules, ap, arith}
use Rattle.ops.specs.Values.{op_of}
use Rattle.messages.specs.Bytes.{byte}
use Rattle.messages.proofs.Deliveries.{left_more, left_none}
use Rattle.messages.proofs.parsed.RecordsIterator.next.Goals as goal

pub returns-then-self-count-clause-steps : goal.returns-then-self-count-clause-steps
returns-then-self-count-clause-steps c =
    let e = left_none c.args.self.now.letter.bytes.now _ c.args.self.now.place (omega arith) in
    (e, e)

pub returns-clause-steps : goal.returns-clause-steps
returns-clause-steps c = left_more _ _ _ _ (omega arith) c.record_at-op.ensures

pub returns-clause-goes : goal.returns-clause-goes
returns-clause-goes c =
    let bs = c.args.self.now.letter.bytes.now in
    let l = ap length (left_more bs (byte bs 3) c.args.self.now.place (op_of c.record_at-op.result) (omega arith) c.record_at-op.ensures) in
    search rules
