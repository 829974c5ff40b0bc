use Rattle.std.proofs.Common.{◌≡◌, ◌++◌, take}
use Rattle.ops.specs.Values.{held}
use Rattle.messages.specs.Letter.{versions, vector_bytes, filled}
use Rattle.messages.proofs.letter.write_versions.Given as goal

abbrev pub invariant-loop-number : goal.invariant-loop-number
invariant-loop-number l = l.out ≡ filled (take 4 l.initial.out ++ vector_bytes l.number (versions (held l.memory))) l.initial.out
