use Rattle.std.proofs.Common.{rules}
use borrow.Author.Tests.{tests}
use Rattle.std.proofs.lemmas.Iterator.{YieldsList-from_slice}
use Rattle.std.proofs.lemmas.Iterator.Search.{position_from_yields_List}
use Rattle.ops.specs.Doc.{same_id}
use Rattle.papers.specs.Deeds.{id_of}
use Rattle.papers.proofs.Over.{SomeIff-position}
use Rattle.papers.proofs.sequence.place_of.Goals as goal

pub returns : goal.returns
returns c =
    SomeIff-position (λ s. same_id (id_of s.name) (id_of c.args.name)) c.args.row.now c.position.result
    (position_from_yields_List _ _ _ c.position.result c.position.ensures.ran (YieldsList-from_slice c.args.row.now cc) (λ x b q k. search (rules, tests)))
