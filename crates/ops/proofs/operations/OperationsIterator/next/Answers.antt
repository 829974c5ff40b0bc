use Rattle.std.proofs.Common.{length, rules, ap, arith}
use Rattle.ops.specs.Values.{held, op_of}
use Rattle.ops.proofs.Scans.{kept_few, left_more, left_none}
use Rattle.ops.proofs.operations.OperationsIterator.next.Goals as goal

pub returns-in_err-op-clause-steps : goal.returns-in_err-op-clause-steps
returns-in_err-op-clause-steps c =
    let n = c.in_err-op.ensures in
    let e = left_none (held c.args.self.now.memory.now) c.args.self.now.place (omega (arith, n)) in
    rw c.from_residual.ensures (e, e)

pub overflow_add-self : goal.overflow_add-self
overflow_add-self c = omega (arith, kept_few (held c.args.self.now.memory.now), c.in_ok-op.ensures)

pub returns-clause-steps : goal.returns-clause-steps
returns-clause-steps c = let h = c.in_ok-op.ensures in left_more _ _ _ h.0 h.1

pub returns-clause-goes : goal.returns-clause-goes
returns-clause-goes c =
    let h = c.in_ok-op.ensures in
    let l = ap length (left_more (held c.args.self.now.memory.now) c.args.self.now.place (op_of c.in_ok-op.op) h.0 h.1) in
    search rules
