use Rattle.replicas.proofs.Runs.{is_start}
use Rattle.replicas.proofs.machine.Replica.blank.Goals as goal

pub returns : goal.returns
returns c = is_start _ (c.in_ok-vec.ensures.items_if_clones_equal (λ y h. h))
