-- What is wrong with a line, as text.
use Rattle.std.specs.Prelude.{ℕ, List, codes}
use Rattle.commands.specs.declared.Fault.{Fault}
use Rattle.commands.specs.declared.Fault.TheVariants.{NotACommand, NotANumber, NotASign, NoFile, TooManyWords}

abbrev pub fault_text : Fault → List ℕ
fault_text NotACommand = codes "not a command"
fault_text NotANumber = codes "not a number"
fault_text NotASign = codes "not a sign"
fault_text NoFile = codes "no file is named"
fault_text TooManyWords = codes "too many words"
