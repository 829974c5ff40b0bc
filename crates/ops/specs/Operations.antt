-- What is left of a log that is gone through.
use Rattle.std.specs.Prelude.{List, drop}
use Rattle.ops.specs.Doc as doc
use Rattle.ops.specs.Log.{ops_of}
use Rattle.ops.specs.Values.{held}
use Rattle.ops.specs.declared.operations.Operations.{Operations}

abbrev pub ops_left : Operations → List doc.Op
ops_left it = drop it.place (ops_of (held it.memory.now))
