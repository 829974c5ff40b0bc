-- The newest word so far, as a walk through a log keeps it.
use Rattle.std.specs.Prelude.{ℕ, List, [], ◌∷◌, Some, None, Option}
use Rattle.ops.specs.Doc as doc
use Rattle.ops.specs.Doc.{pick, under, id_before, is_under}
use Rattle.ops.specs.Values.{id_of}
use Rattle.keys.specs.declared.found.Found.{Found}

-- what was found, as the operation that it came from, or nothing
unfoldable pub found_op : ℕ → Option Found → List doc.Op
found_op k None = []
found_op k (Some f) = record { name = id_of f.id; kind = under k f.word } ∷ []

-- one more beside the newest so far, if any: of two of one id, the later
unfoldable pub newer : List doc.Op → doc.Op → List doc.Op
newer [] o = o ∷ []
newer (p ∷ ps) o = pick (id_before o.name p.name) (p ∷ []) (o ∷ [])

unfoldable pub newer_under : ℕ → List doc.Op → doc.Op → List doc.Op
newer_under k ps o = pick (is_under k o.kind) (newer ps o) ps
