use Rattle.std.proofs.Common.{◌+◌, ◌%◌, ◌<◌, length, sym, ap, ◌∙◌, arith}
use Rattle.std.proofs.lemmas.List.{get_or_default}
use Rattle.replicas.proofs.Levels.{entry_is, no-entry}
use Rattle.replicas.proofs.machine.Replica.version.Goals as goal

pub returns-then-desk-ge-DESKS : goal.returns-then-desk-ge-DESKS
returns-then-desk-ge-DESKS c = no-entry _ _ c.if-desk-ge-DESKS.true

pub returns : goal.returns
returns c =
    let self = c.args.self.now in
    let long = self.memory.ok.0 in
    let size = self.sized in
    let near : 32 + c.args.desk < length self.memory.items = let l = c.if-desk-ge-DESKS.false in omega arith in
    ap (λ x. x % 4294967296) (c.index.ensures ∙ get_or_default self.memory.items (32 + c.args.desk) _ 0 near) ∙ sym (entry_is _ _ c.if-desk-ge-DESKS.false)
