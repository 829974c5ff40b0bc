use Rattle.std.proofs.Common.{◌+◌, ◌-◌, ◌≤◌, length, drop, arith, length-drop, ap, ◌∙◌, rules}
use borrow.Author.Tests.{tests}
use Rattle.std.proofs.lemmas.Iterator.{YieldsList-from_slice}
use Rattle.std.proofs.lemmas.Iterator.Search.{YieldsList-from_take_while}
use Rattle.std.proofs.lemmas.Iterator.Consumers.{count_from_yields_List, YieldsList-at}
use Rattle.std.proofs.lemmas.List.Folds.{length-prefix_len}
use Rattle.std.proofs.lemmas.List.{take_all}
use Rattle.ops.specs.Doc.{id_before}
use Rattle.papers.specs.Deeds.{id_of}
use Rattle.papers.specs.declared.sequence.Sign.{Sign}
use Rattle.papers.proofs.sequence.past_newer.Goals as goal

pub returns-clause-value : goal.returns-clause-value
returns-clause-value c =
    let rest = drop c.args.from c.args.row.now in
    let e : length rest ≤ length c.args.row.now - c.args.from = omega (arith, length-drop c.args.from c.args.row.now) in
    let road = YieldsList-from_slice rest (c.iter.ensures.rest ∙ take_all _ rest e) in
    let test = λ (s : Sign). id_before (id_of c.args.name) (id_of s.name) in
    ap (λ n. c.args.from + n)
    (count_from_yields_List _ _ c.count.ensures.ran (YieldsList-from_take_while _ test (YieldsList-at c.take_while-newer.ensures.source road) c.take_while-newer.ensures.closure c.take_while-newer.ensures.done (λ x b q k. search (rules, tests)))
    ∙ length-prefix_len test rest)
