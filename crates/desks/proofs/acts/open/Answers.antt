use Rattle.std.proofs.Common.{refl, ◌∙◌}
use Rattle.ops.specs.Values.{desk_of}
use Rattle.desks.specs.Run.{opens}
use Rattle.desks.specs.declared.refusal.Refusal.TheVariants.{Closed}
use Rattle.desks.proofs.Refusals.{opens_no_desk, opens_again}
use Rattle.desks.proofs.Telling.{leaves_quiet, refusing}
use Rattle.desks.proofs.Acting.{opened}
use Rattle.desks.proofs.Checks.{passed, not_passed, refused_by, there, not_there}
use Rattle.desks.proofs.acts.open.Goals as goal

pub returns-in_err-desk : goal.returns-in_err-desk
returns-in_err-desk c = leaves_quiet _ (opens c.args.number) 0 _ c.from_residual.ensures.1 (refused_by _ _ _ c.in_err-desk.ensures.value) refl (opens_no_desk _ _ (not_there desk_of _ _ c.in_err-desk.ensures.ok_part c.new.ensures))

pub returns-then-is_ok : goal.returns-then-is_ok
returns-then-is_ok c = refusing _ (opens c.args.number) 2 {e = Closed} {r = Closed} refl refl (opens_again _ _ (there desk_of _ _ _ c.in_ok-desk.ensures.ok_part c.new.ensures).0 (passed desk_of _ _ _ c.this_desk.ensures c.if-is_ok.ensures.value))

pub returns : goal.returns
returns c = let t = there desk_of _ _ _ c.in_ok-desk.ensures.ok_part c.new.ensures in opened _ _ _ _ t.0 (not_passed desk_of _ _ _ c.this_desk.ensures c.if-is_ok.ensures.value) (c.from.ensures ∙ t.1) (record { after = refl; same = refl })
