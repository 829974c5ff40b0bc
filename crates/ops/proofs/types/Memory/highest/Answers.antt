use Rattle.std.proofs.Common.{rules, refl, ◌∙◌}
use Rattle.std.proofs.lemmas.Iterator.{YieldsList-from_range, YieldsList-from_map}
use Rattle.std.proofs.lemmas.Iterator.Consumers.{YieldsList-at, max_from_yields_List}
use borrow.Author.Tests.{tests}
use Rattle.ops.specs.Layout.{version_cell, low}
use Rattle.ops.specs.Values.{held}
use Rattle.ops.proofs.Highest.{highest_picked}
use Rattle.ops.proofs.types.Memory.highest.Goals as goal

pub returns : goal.returns
returns c =
    let m = held c.args.self.now in
    c.unwrap_or.ensures
    ∙ highest_picked m c.max.result
    (max_from_yields_List c.map.result c.max.result c.max.ensures.ran
    (YieldsList-from_map _ (λ d. low m (version_cell d)) (YieldsList-at c.map.ensures.source (YieldsList-from_range 0 32 32 refl refl)) c.map.ensures.closure (λ x r q k. search (rules, tests))))
