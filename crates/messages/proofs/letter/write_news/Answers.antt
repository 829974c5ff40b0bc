use Rattle.std.proofs.Common.{refl, rules, ◌∙◌, arith}
use Rattle.std.proofs.lemmas.List.{length_push}
use Rattle.std.proofs.lemmas.Iterator.Consumers.{YieldsList-turn, YieldsList-end}
use borrow.Author.Tests.{tests}
use Rattle.ops.specs.Values.{desk_of, op_of, held}
use Rattle.messages.specs.Letter.{news}
use Rattle.messages.proofs.News.{news_road, news_few, sent_none, sent_one, sent_all}
use Rattle.messages.proofs.letter.write_news.Goals as goal

pub loop-op-init : goal.loop-op-init
loop-op-init c = (search rules, refl, sent_none 132 c.args.out.now (omega arith))

pub loop-op-preserved : goal.loop-op-preserved
loop-op-preserved c =
    let s = c.next.ensures.steps in
    let g = c.in-Some.ensures in
    let n = length_push c.loop-op.yielded c.in-Some.op in
    let i = c.loop-op.invariant in
    let t = YieldsList-turn (news_road _ (held c.args.memory.now) (desk_of c.args.to) c.operations.result c.filter.result c.take-news.result c.operations.ensures c.filter.ensures.source c.filter.ensures.closure c.take-news.ensures.source c.take-news.ensures.count c.into_iter-op-iterator.ensures.into_iter_gives (λ x b q k. search (rules, tests))) c.loop-op.yielded c.loop-op.op-iterator c.loop-op.yielded_by c.next.result c.next.new.self c.in-Some.op c.in-Some.is c.next.ensures.steps in
    (omega (arith, g.steps.1), omega (arith, n), sent_one 132 _ _ _ (news (held c.args.memory.now) (desk_of c.args.to)) c.loop-op.count (op_of c.in-Some.op) (omega arith) (rw (← i.1) at t) i.2 c.put_record.ensures)

pub returns : goal.returns
returns c =
    let i = c.loop-op.invariant in
    let t = YieldsList-end (news_road _ (held c.args.memory.now) (desk_of c.args.to) c.operations.result c.filter.result c.take-news.result c.operations.ensures c.filter.ensures.source c.filter.ensures.closure c.take-news.ensures.source c.take-news.ensures.count c.into_iter-op-iterator.ensures.into_iter_gives (λ x b q k. search (rules, tests))) c.loop-op.yielded c.loop-op.op-iterator c.loop-op.yielded_by c.next.result c.next.new.self c.in-None.is c.next.ensures.steps in
    let e = i.1 ∙ t.1 in
    record { few = news_few _ _ _ e; count = e; after = sent_all 132 c.args.out.now _ _ _ e i.2 }
