-- What the code's values stand for on the plain paper.
use Rattle.std.specs.Prelude.{◌≡◌, ℕ, ◌≤◌, List, Result, MatchResult}
use Rattle.ops.specs.Doc as doc
use Rattle.ops.specs.Doc.{id, put_in, struck, under, added}
use Rattle.ops.specs.declared.types.Desk.{Desk}
use Rattle.ops.specs.declared.types.OpId.{OpId}
use Rattle.ops.specs.declared.types.Kind.{Kind}
use Rattle.ops.specs.declared.types.Kind.TheVariants.{Insert, Delete, Write, Add}
use Rattle.ops.specs.declared.types.Tag.{Tag}
use Rattle.ops.specs.declared.types.Tag.TheVariants as tag
use Rattle.ops.specs.declared.types.UnknownTag.{UnknownTag}
use Rattle.ops.specs.declared.types.Op.{Op}
use Rattle.ops.specs.declared.types.Memory.{Memory}

abbrev pub desk_of : Desk → ℕ
desk_of d = d.number

abbrev pub id_of : OpId → doc.Id
id_of i = id i.n (desk_of i.desk)

abbrev pub kind_of : Kind → doc.Kind
kind_of (Insert after sign) = put_in (id_of after) sign
kind_of (Delete target) = struck (id_of target)
kind_of (Write key word) = under key word
kind_of (Add key amount) = added key amount

-- the number that memories and letters keep of a tag; and what is read of one
abbrev pub tag_of : Tag → ℕ
tag_of tag.Insert = 0
tag_of tag.Delete = 1
tag_of tag.Write = 2
tag_of tag.Add = 3

abbrev pub ReadsTag : ℕ → Result Tag UnknownTag → Type 0
ReadsTag n r = MatchResult r (λ t. tag_of t ≡ n) (λ _. 4 ≤ n)

abbrev pub op_of : Op → doc.Op
op_of o = record { name = id_of o.id; kind = kind_of o.kind }

-- what the cells of a memory hold; and that a memory is still the same lent cells, which now hold this
abbrev pub held : Memory → List ℕ
held m = m.cells.now

pub record Holds (m m₁ : Memory) (cells : List ℕ) : Type 0 where
  pub after : m₁.cells.now ≡ cells
  pub same : m₁.cells.ghost_name ≡ m.cells.ghost_name
