use Rattle.std.proofs.Common.{◌≡◌, ◌+◌, length, take}
use Rattle.ops.specs.Values.{desk_of, held}
use Rattle.messages.specs.Letter.{news}
use Rattle.messages.proofs.News.{Sent}
use Rattle.messages.proofs.letter.write_news.Given as goal

abbrev pub invariant-loop-op : goal.invariant-loop-op
invariant-loop-op l = (l.count + l.op-iterator.n ≡ 247) × (l.count ≡ length l.yielded) × Sent 132 l.initial.out (take l.count (news (held l.memory) (desk_of l.fn.to))) l.out
