use Rattle.std.proofs.Common.{◌≡◌, eqb, sym, ap, ◌∙◌, rules}
use Rattle.std.specs.List.{count_by}
use Rattle.ops.specs.Doc.{made_by}
use Rattle.papers.specs.Deeds.{op_of}
use Rattle.papers.proofs.Over.{count-map}
use Rattle.papers.proofs.paper.Paper.made_by.Goals as goal

pub returns : goal.returns
returns c =
    let e : c.count.result ≡ count_by (λ d. eqb d.name.desk c.args.desk) c.deeds.result.now = search rules in
    e ∙ sym (count-map op_of (λ o. eqb o.name.who c.args.desk) _) ∙ ap (made_by c.args.desk) c.deeds.ensures
