use Rattle.std.proofs.Common.{rules, arith, ◌∙◌}
use Rattle.std.proofs.lemmas.Iterator.{YieldsList-from_map}
use Rattle.std.proofs.lemmas.Iterator.Consumers.{YieldsList-from_first, YieldsList-at, sum_by_from_yields_List}
use Rattle.std.proofs.lemmas.Iterator.Adapters.{fits_from_length, at_most_from_yields_List}
use borrow.Author.Tests.{tests}
use Rattle.ops.specs.Doc as doc
use Rattle.ops.specs.Doc.{count_of}
use Rattle.ops.specs.Log.{ops_of}
use Rattle.ops.specs.Values.{held, op_of}
use Rattle.ops.specs.Operations.{ops_left}
use Rattle.ops.proofs.Scans.{kept_few}
use Rattle.ops.proofs.Frames.{length-ops_of}
use Rattle.keys.proofs.Cases.{sum_by_count}
use Rattle.keys.proofs.tally.Goals as goal

pub sum-requires-clause-fits : goal.sum-requires-clause-fits
sum-requires-clause-fits c =
    fits_from_length _ _ 8192 _
    (at_most_from_yields_List (YieldsList-at c.map.ensures.source (YieldsList-from_first op_of ops_left (ops_of (held c.args.memory.now)) c.operations.ensures)) (omega (arith, length-ops_of (held c.args.memory.now), kept_few (held c.args.memory.now))))
    c.map.ensures.closure (omega arith) (λ x r q k. search (rules, tests))

pub returns : goal.returns
returns c =
    sum_by_from_yields_List (λ (o : doc.Op). count_of c.args.key o.kind) (ops_of (held c.args.memory.now)) c.map.result c.sum.result c.sum.ensures.ran
    (YieldsList-from_map _ (λ (o : doc.Op). count_of c.args.key o.kind) (YieldsList-at c.map.ensures.source (YieldsList-from_first op_of ops_left (ops_of (held c.args.memory.now)) c.operations.ensures)) c.map.ensures.closure (λ x r q k. search (rules, tests)))
    ∙ sum_by_count (ops_of (held c.args.memory.now)) c.args.key
