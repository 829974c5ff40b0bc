use Rattle.std.proofs.Common.{◌≡◌, ◌/◌, ◌≤◌, length, sym, refl, ◌∙◌, arith}
use Rattle.std.proofs.lemmas.Bool.{eqb-true, eqb-false}
use Rattle.desks.proofs.RowNames.{sofar_at, sofar_newer, sofar_older, odd_names, no_names, some_names}
use Rattle.desks.proofs.newest.Goals as goal
use Rattle.desks.proofs.newest.Goals.{then-is_before, else-is_before}

pub loop-i-init : goal.loop-i-init
loop-i-init c = (refl, omega arith, omega arith)

pub loop-i-preserved : goal.loop-i-preserved
loop-i-preserved c =
    elim c.if-is_before.branch [
      | then-is_before w ↦ sofar_at _ _ _ _ w.best-is (sofar_newer _ _ _ c.loop-i-test.true c.loop-i.invariant (sym w.if-is_before.true ∙ c.is_before.ensures))
      | else-is_before w ↦ sofar_at _ _ _ _ w.best-is (sofar_older _ _ _ c.loop-i-test.true c.loop-i.invariant (sym w.if-is_before.false ∙ c.is_before.ensures))
    ]

pub returns-then-names-ne0 : goal.returns-then-names-ne0
returns-then-names-ne0 c = odd_names _ c.if-names-ne0.true

pub returns-then-is_empty : goal.returns-then-is_empty
returns-then-is_empty c = no_names _ (eqb-true _ _ (sym c.if-is_empty.ensures))

pub returns : goal.returns
returns c =
    let ne : length c.args.names.now ≡ 0 → ⊥ = eqb-false _ _ (sym c.if-is_empty.ensures) in
    let h : c.loop-i.i ≤ length c.args.names.now / 2 = omega arith in
    some_names _ _ _ c.if-names-ne0.false ne c.loop-i-test.false h c.loop-i.invariant
