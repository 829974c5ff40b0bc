use Rattle.std.proofs.Common.{◌≡◌, sym, ap, ◌∙◌, rules}
use Rattle.std.specs.List.{sum_by}
use Rattle.ops.specs.Doc.{count_of, count_at}
use Rattle.papers.specs.Deeds.{kind_of, op_of}
use Rattle.papers.proofs.Over.{added_up-map}
use Rattle.papers.proofs.paper.Paper.tally.Goals as goal

pub returns : goal.returns
returns c =
    let e : c.sum.result ≡ sum_by (λ d. count_of c.args.key (kind_of d.what)) c.deeds.result.now = search rules in
    e ∙ sym (added_up-map op_of (λ o. count_of c.args.key o.kind) _) ∙ ap (λ ops. count_at ops c.args.key) c.deeds.ensures
