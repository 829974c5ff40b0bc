-- What a paper knows, and what hearing of a deed does to it.
use Rattle.std.specs.Prelude.{◌≡◌, ℕ, Bool, true, false, List, [], ◌∷◌, ◌++◌, map, Ok, Err, vec_items, Result}
use Rattle.std.specs.declared.alloc.AllocError.{AllocError}
use Rattle.ops.specs.Doc as doc
use Rattle.ops.specs.Doc.{has_id}
use Rattle.papers.specs.Deeds.{id_of, op_of}
use Rattle.papers.specs.Signs.{row_of, signs, row_with}
use Rattle.papers.specs.declared.deeds.Deed.{Deed}
use Rattle.papers.specs.declared.paper.Paper.{Paper}

-- the deeds of a paper as operations, in the order of hearing
abbrev pub deeds_of : Paper → List doc.Op
deeds_of p = map op_of (vec_items p.heard)

-- what a paper shows, by its row of signs
abbrev pub text_of : Paper → List ℕ
text_of p = signs (row_of p.signs)

-- one of a name that is known changes nothing; another comes last, and the row of signs follows; without memory nothing is lost
abbrev pub Hears : Paper → Paper → Deed → Result Bool AllocError → Type 0
Hears p q d (Ok true) =
    (has_id (deeds_of p) (id_of d.name) ≡ false) × (deeds_of q ≡ deeds_of p ++ op_of d ∷ [])
    × (row_of q.signs ≡ row_with d (row_of p.signs))
Hears p q d (Ok false) = (has_id (deeds_of p) (id_of d.name) ≡ true) × (q ≡ p)
Hears p q d (Err e) = (deeds_of q ≡ deeds_of p) × (row_of q.signs ≡ row_of p.signs)
