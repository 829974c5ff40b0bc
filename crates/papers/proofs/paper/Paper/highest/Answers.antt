use Rattle.std.proofs.Common.{◌≡◌, max, map, sym, ap, ◌∙◌, rules}
use Rattle.std.specs.List.{reduce}
use Rattle.std.specs.Option.{unwrap_or}
use Rattle.std.proofs.lemmas.Iterator.Adapters.{option_map_id}
use Rattle.std.proofs.lemmas.Iterator.{YieldsList-from_slice, YieldsList-from_map}
use Rattle.std.proofs.lemmas.Iterator.Consumers.{max_from_yields_List}
use Rattle.ops.specs.Doc.{highest}
use Rattle.papers.specs.Deeds.{op_of}
use Rattle.papers.proofs.Over.{highest-map}
use Rattle.papers.proofs.paper.Paper.highest.Goals as goal

pub returns : goal.returns
returns c =
    let e : c.max.result ≡ reduce max (map (λ d. d.name.number) c.deeds.result.now) =
    sym (option_map_id _) ∙ max_from_yields_List _ c.max.result c.max.ensures.ran (YieldsList-from_map _ (λ d. d.name.number) (YieldsList-from_slice c.deeds.result.now cc) c.map.ensures.closure (λ x r q k. search rules)) in
    c.unwrap_or.ensures ∙ ap (λ o. unwrap_or o 0) e ∙ sym (highest-map op_of _) ∙ ap highest c.deeds.ensures
