use Rattle.std.proofs.Common.{◌<◌, min, length, ap, ◌∙◌, arith}
use Rattle.std.proofs.lemmas.List.{get_or_default}
use Rattle.ops.specs.Log.{kept}
use Rattle.replicas.proofs.machine.Replica.known.Goals as goal

pub returns : goal.returns
unfolding kept
returns c =
    let self = c.args.self.now in
    let long = self.memory.ok.0 in
    let size = self.sized in
    let near : 3 < length self.memory.items = omega arith in
    record { value = c.min.ensures ∙ ap (λ n. min n 8192) (c.index.ensures ∙ get_or_default self.memory.items 3 _ 0 near); bound = let e = c.min.ensures in omega arith }
