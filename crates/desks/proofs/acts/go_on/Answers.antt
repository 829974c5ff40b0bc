use Rattle.std.proofs.Common.{refl, ap, ◌∙◌}
use Rattle.ops.specs.Doc.{count_at}
use Rattle.ops.specs.Log.{ops_of}
use Rattle.ops.specs.Values.{held}
use Rattle.desks.specs.Run.{next}
use Rattle.desks.proofs.Refusals.{next_closed}
use Rattle.desks.proofs.Telling.{leaves_rest}
use Rattle.desks.proofs.Acting.{goes_done, goes_tally}
use Rattle.desks.proofs.acts.go_on.Goals as goal

pub returns-in_err-this_desk : goal.returns-in_err-this_desk
returns-in_err-this_desk c = leaves_rest _ next 2 _ c.from_residual.ensures.1 c.in_err-this_desk.ensures.1 refl (next_closed _ c.in_err-this_desk.ensures.0)

pub returns-then-memory-ne1 : goal.returns-then-memory-ne1
returns-then-memory-ne1 c = goes_done _ c.in_ok-this_desk.ensures.0 c.if-memory-ne1.true

pub returns : goal.returns
returns c = goes_tally _ _ _ c.in_ok-this_desk.ensures.0 c.if-memory-ne1.false (c.tally-tally.ensures ∙ ap (λ k. count_at (ops_of (held c.args.memory.now)) k) c.low_half-key.ensures) (record { after = refl; same = refl })
