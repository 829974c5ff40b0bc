-- What a command of the second paper asks of a desk.
use Rattle.ops.specs.Doc as doc
use Rattle.ops.specs.Doc.{insert, strike, write_under, add_to}
use Rattle.papers.specs.declared.deeds.Command.{Command}
use Rattle.papers.specs.declared.deeds.Command.TheVariants.{Insert, Strike, Write, Add}

abbrev pub asked : Command → doc.Command
asked (Insert place sign) = insert place sign
asked (Strike place) = strike place
asked (Write key word) = write_under key word
asked (Add key amount) = add_to key amount
