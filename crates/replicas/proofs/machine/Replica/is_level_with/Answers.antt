use Rattle.std.proofs.Common.{refl, rules, ◌∙◌, arith}
use Rattle.std.proofs.lemmas.Iterator.{YieldsList-from_range}
use Rattle.std.proofs.lemmas.Iterator.Search.{all_from_yields_List}
use borrow.Author.Tests.{tests}
use Rattle.replicas.specs.Replica.{memory_of}
use Rattle.replicas.proofs.Levels.{same_entry, all_level}
use Rattle.replicas.proofs.machine.Replica.is_level_with.Goals as goal

pub returns : goal.returns
returns c =
    all_from_yields_List (same_entry (memory_of c.args.self.now) (memory_of c.args.other.now)) _ _ _ c.all.ensures.ran (YieldsList-from_range 0 32 32 refl (omega arith)) (λ k b q h. search (rules, tests))
    ∙ all_level (memory_of c.args.self.now) (memory_of c.args.other.now) 32 (omega arith)
