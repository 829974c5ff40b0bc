use Rattle.std.proofs.Common.{[], sym, ◌∙◌}
use Rattle.ops.specs.Doc.{show_key}
use Rattle.desks.specs.Run.{said, next}
use Rattle.replicas.proofs.Stepping.{Lent, back_long, lent_tells}
use Rattle.replicas.proofs.Runs.{key_no, key_shown, showed_err, no_rest, both_shown, mapped}
use Rattle.replicas.proofs.machine.Replica.key.Goals as goal

pub returns-in_err-show_key : goal.returns-in_err-show_key
returns-in_err-show_key c =
    let self = c.args.self.now in
    showed_err _ _ _ _ c.from_residual.ensures.1 (key_no _ _ [] _ _ (lent_tells (said (show_key c.args.key)) _ (record { long = sym self.memory.ok.0; whole = c.as_mut_slice.ensures.value; kept = c.show_key.auto.cells }) c.in_err-show_key.ensures))

pub returns-in_err-go_on : goal.returns-in_err-go_on
returns-in_err-go_on c =
    let self = c.args.self.now in
    let x : Lent _ _ _ _ = record { long = sym self.memory.ok.0; whole = c.as_mut_slice.ensures.value; kept = c.show_key.auto.cells } in
    absurd (no_rest _ _ _ _ _ _ (key_shown _ _ _ _ _ _ (sym self.memory.ok.0 ∙ self.sized) (lent_tells (said (show_key c.args.key)) _ x c.in_ok-show_key.ensures)
    (lent_tells next _ (record { long = back_long x; whole = c.as_mut_slice-2.ensures.value; kept = c.go_on.auto.cells }) c.in_err-go_on.ensures)))

pub returns : goal.returns
returns c =
    let self = c.args.self.now in
    let x : Lent _ _ _ _ = record { long = sym self.memory.ok.0; whole = c.as_mut_slice.ensures.value; kept = c.show_key.auto.cells } in
    both_shown _ _ _ _ _ _ _ _ (key_shown _ _ _ _ _ _ (sym self.memory.ok.0 ∙ self.sized) (lent_tells (said (show_key c.args.key)) _ x c.in_ok-show_key.ensures)
    (lent_tells next _ (record { long = back_long x; whole = c.as_mut_slice-2.ensures.value; kept = c.go_on.auto.cells }) c.in_ok-go_on.ensures)) (mapped _ _ c.map-word.ensures.cases) c.unwrap_or-tally.ensures
