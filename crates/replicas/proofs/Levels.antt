-- Two memories are level if no desk's entries in their version vectors differ.
use Rattle.std.proofs.Common.{◌≡◌, ℕ, zero, suc, ◌+◌, ◌<◌, ◌≤◌, Bool, eqb, ltb, List, sym, refl, ap, ◌∙◌, arith}
use Rattle.std.proofs.lemmas.Bool.{lt-ltb, le-ltb}
use Rattle.std.specs.List.{list_all, range_with_len}
use Rattle.ops.specs.Doc.{pick}
use Rattle.ops.specs.Layout.{version_cell, low}
use Rattle.network.specs.Room.{level_up_to}
use Rattle.messages.proofs.Formed.{all_more}

-- as a chain over the desks compares what is shown of them
abbrev pub same_entry : List ℕ → List ℕ → ℕ → Bool
same_entry a b d = eqb (pick (ltb d 32) (low a (version_cell d)) 0) (pick (ltb d 32) (low b (version_cell d)) 0)

pub all_level : (a b : List ℕ) (n : ℕ) → n ≤ 32 → list_all (same_entry a b) (range_with_len 0 n) ≡ level_up_to n a b
unfolding level_up_to
all_level a b zero h = refl
all_level a b (suc n) h =
    let e : 0 + n ≡ n = omega arith in
    all_more (same_entry a b) 0 n ∙ rw (e, all_level a b n (omega arith), lt-ltb n 32 (omega arith)) refl

-- a desk's entry, where there is the desk
pub entry_is : (m : List ℕ) (d : ℕ) → d < 32 → pick (ltb d 32) (low m (version_cell d)) 0 ≡ low m (version_cell d)
entry_is m d h = ap (λ b. pick b (low m (version_cell d)) 0) (lt-ltb d 32 h)

pub no-entry : (m : List ℕ) (d : ℕ) → 32 ≤ d → 0 ≡ pick (ltb d 32) (low m (version_cell d)) 0
no-entry m d h = sym (ap (λ b. pick b (low m (version_cell d)) 0) (le-ltb d 32 h))
