-- What the code's deeds are on the plain paper.
use Rattle.std.specs.Prelude.{Some, None, Option}
use Rattle.ops.specs.Doc as doc
use Rattle.ops.specs.Doc.{id, begin, put_in, struck, under, added}
use Rattle.papers.specs.declared.deeds.Name.{Name}
use Rattle.papers.specs.declared.deeds.What.{What}
use Rattle.papers.specs.declared.deeds.What.TheVariants.{Put, Strike, Write, Add}
use Rattle.papers.specs.declared.deeds.Deed.{Deed}

abbrev pub id_of : Name → doc.Id
id_of n = id n.number n.desk

abbrev pub place_of : Option Name → doc.Id
place_of None = begin
place_of (Some n) = id_of n

abbrev pub kind_of : What → doc.Kind
kind_of (Put behind sign) = put_in (place_of behind) sign
kind_of (Strike target) = struck (id_of target)
kind_of (Write key word) = under key word
kind_of (Add key amount) = added key amount

abbrev pub op_of : Deed → doc.Op
op_of d = record { name = id_of d.name; kind = kind_of d.what }
