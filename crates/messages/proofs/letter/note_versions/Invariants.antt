use Rattle.ops.specs.Values.{desk_of, held, Holds}
use Rattle.messages.specs.Letter.{noted}
use Rattle.messages.proofs.letter.note_versions.Given as goal

abbrev pub invariant-loop-number : goal.invariant-loop-number
invariant-loop-number l = Holds l.initial.memory l.memory (noted l.number (desk_of l.from) l.letter.bytes.now (held l.initial.memory))
