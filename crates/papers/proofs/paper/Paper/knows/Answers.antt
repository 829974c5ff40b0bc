use Rattle.std.proofs.Common.{◌≡◌, sym, ap, ◌∙◌, rules}
use borrow.Author.Tests.{tests}
use Rattle.std.specs.List.{list_any}
use Rattle.std.proofs.lemmas.Iterator.{YieldsList-from_slice}
use Rattle.std.proofs.lemmas.Iterator.Search.{any_from_yields_List}
use Rattle.ops.specs.Doc.{has_id, same_id}
use Rattle.papers.specs.Deeds.{id_of, op_of}
use Rattle.papers.proofs.Over.{any-map}
use Rattle.papers.proofs.paper.Paper.knows.Goals as goal

pub returns : goal.returns
returns c =
    let e : c.any.result ≡ list_any (λ d. same_id (id_of d.name) (id_of c.args.name)) c.deeds.result.now =
    any_from_yields_List _ _ _ c.any.result c.any.ensures.ran (YieldsList-from_slice c.deeds.result.now cc) (λ x b q k. search (rules, tests)) in
    e ∙ sym (any-map op_of (λ o. same_id o.name (id_of c.args.name)) _) ∙ ap (λ ops. has_id ops (id_of c.args.name)) c.deeds.ensures
