use Rattle.std.proofs.Common.{◌≡◌, List, Option, rules}
use Rattle.std.proofs.lemmas.Fn.{fold_over}
use Rattle.std.proofs.lemmas.Iterator.Consumers.{YieldsList-from_first}
use Rattle.std.specs.Iterator.{YieldsFirstBy}
use Rattle.ops.specs.Doc as doc
use Rattle.ops.specs.Log.{ops_of}
use Rattle.ops.specs.Values.{held, op_of}
use Rattle.ops.specs.Operations.{ops_left}
use Rattle.keys.specs.Newest.{found_op}
use Rattle.keys.specs.declared.found.Found.{Found}
use Rattle.keys.proofs.Newness.{newest_under, newest_none, newest_next}
use Rattle.keys.proofs.Cases.{word_is}
use Rattle.keys.proofs.word_under.Goals as goal

pub returns : goal.returns
unfolding found_op
returns c =
    let f : found_op c.args.key c.fold.result ≡ newest_under c.args.key (ops_of (held c.args.memory.now)) =
    fold_over (YieldsFirstBy op_of ops_left) op_of _ (λ (os : List doc.Op) (best : Option Found). found_op c.args.key best ≡ newest_under c.args.key os) _ (λ os best x new g h k. search (rules, newest_next c.args.key os (op_of x) (found_op c.args.key best) (found_op c.args.key new) h)) c.operations.result _ _ _
    (YieldsList-from_first op_of ops_left {s = c.operations.result} (ops_of (held c.args.memory.now)) c.operations.ensures).runs (newest_none c.args.key) c.fold.ensures.ran in
    word_is _ c.args.key c.fold.result c.map.result f (search rules)
