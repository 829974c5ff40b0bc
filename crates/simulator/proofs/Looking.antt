-- What is read of a room is what its view has.
use Rattle.std.proofs.Common.{◌≡◌, ℕ, ◌<◌, ◌≤◌, ltb, List, [], map, length, get_or, vec_items, vec_len, Vec, sym, ap, ◌∙◌}
use Rattle.std.proofs.lemmas.List.{length-map, get_or-map}
use Rattle.std.proofs.lemmas.Bool.{lt-ltb, le-ltb}
use Rattle.std.specs.declared.alloc.Global.{Global}
use Rattle.ops.specs.Doc.{pick}
use Rattle.network.specs.Room.{note}
use Rattle.simulator.specs.declared.letter.Letter.{Letter}
use Rattle.simulator.specs.Rooms.{note_of}

pub noted : (ls : Vec Letter Global) → vec_len ls ≡ length (map note_of (vec_items ls))
noted ls = ls.ok.0 ∙ sym (length-map (vec_items ls) note_of)

pub note-there : (ls : List Letter) (k : ℕ) (l : Letter) → k < length ls → l ≡ get_or ls k l → note_of l ≡ get_or (map note_of ls) k (note 0 0 [])
note-there ls k l h e = ap note_of e ∙ sym (get_or-map note_of ls k l (note 0 0 []) h)

-- at a desk that there is, and at one that there isn't
pub at_near : (d x y : ℕ) → d < 32 → x ≡ y → x ≡ pick (ltb d 32) y 0
at_near d x y h e = e ∙ sym (ap (λ b. pick b y 0) (lt-ltb d 32 h))

pub at_far : (d y : ℕ) → 32 ≤ d → 0 ≡ pick (ltb d 32) y 0
at_far d y h = sym (ap (λ b. pick b y 0) (le-ltb d 32 h))
