use Rattle.std.proofs.Common.{◌≡◌, map, not, rules}
use borrow.Author.Tests.{tests}
use Rattle.std.specs.List.{filter}
use Rattle.std.specs.Result.{IfOk}
use Rattle.std.proofs.lemmas.Iterator.{YieldsList-from_slice, YieldsList-from_map, items_from_collect}
use Rattle.std.proofs.lemmas.Iterator.Consumers.{YieldsList-from_filter, YieldsList-at}
use Rattle.papers.proofs.Over.{those-filter}
use Rattle.papers.proofs.sequence.Sequence.text.Goals as goal

pub returns : goal.returns
returns c =
    let e : IfOk c.collect.result (λ v. v.items ≡ map (λ s. s.sign) (filter (λ s. not s.struck) c.deref.result.now)) =
    items_from_collect _ c.collect.ensures.ran (YieldsList-from_map _ (λ s. s.sign) (YieldsList-at c.map.ensures.source (YieldsList-from_filter _ (λ s. not s.struck) (YieldsList-from_slice c.deref.result.now cc) c.filter.ensures.closure (λ x b q k. search (rules, tests)))) c.map.ensures.closure (λ x r q k. search rules)) in
    simp (those-filter, ← c.deref.ensures.value) e
