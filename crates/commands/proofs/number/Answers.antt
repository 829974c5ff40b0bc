use Rattle.std.proofs.Common.{sym, ◌∙◌, arith}
use Rattle.std.proofs.lemmas.Bool.{eqb-true, eqb-false}
use Rattle.commands.proofs.Digits.{read_on, read-no_more, read_all, no_digits}
use Rattle.commands.proofs.number.Goals as goal

pub returns-then-is_empty : goal.returns-then-is_empty
returns-then-is_empty c = sym (no_digits _ (eqb-true _ 0 (sym c.if-is_empty.ensures)))

pub returns-in_err-n : goal.returns-in_err-n
returns-in_err-n c = c.from_residual.ensures ∙ read-no_more _ _ _ c.loop-digit-test.true c.in_err-n.ensures c.loop-digit.invariant.1

pub loop-digit-preserved : goal.loop-digit-preserved
loop-digit-preserved c =
    let read = c.in_ok-n.ensures in
    (omega (arith, read.0.1, read.1), read_on _ _ _ _ c.loop-digit-test.true read c.loop-digit.invariant.1)

pub returns : goal.returns
returns c = read_all _ _ _ c.loop-digit-test.false (eqb-false _ 0 (sym c.if-is_empty.ensures)) c.loop-digit.invariant.0 c.loop-digit.invariant.1
