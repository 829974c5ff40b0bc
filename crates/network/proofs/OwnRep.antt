-- What the machine's memory stands for, and what its letters carry.
use Rattle.std.proofs.Common.{◌≡◌, ℕ, suc, ◌-◌, ◌%◌, ◌<◌, ◌≤◌, List, [], ◌∷◌, length, get_or, set, sym, ap, ◌∙◌, arith}
use Rattle.std.proofs.lemmas.List.{set-get_or}
use Rattle.std.proofs.lemmas.Bool.{ne_eqb}
use Rattle.ops.specs.Doc.{pick, Op, count_at}
use Rattle.ops.specs.Layout.{key_cell, low}
use Rattle.ops.specs.Log.{ops_of}
use Rattle.ops.proofs.Members.{In}
use Rattle.messages.specs.Records.{SmallOp}
use Rattle.messages.specs.Letter.{most_records, letter_of}
use Rattle.desks.specs.Run.{next, shows, done}
use Rattle.desks.specs.Machine.{me, says, idle, goes_on, does, step_own}
use Rattle.desks.proofs.Refusals.{next_well}
use Rattle.desks.proofs.Telling.{accepts}
use Rattle.network.proofs.Keeping.{Keeps}

-- an open desk with nothing left to show, its log, and what it has heard of the others
pub record Rep (i : ℕ) (m : List ℕ) (log : List Op) (h : ℕ → ℕ → ℕ) : Type 0 where
  pub keeps : Keeps m log h
  pub desk : get_or m 0 0 ≡ suc i
  pub still : get_or m 1 0 ≡ 0

-- the letter of this version vector and these operations
pub record Bears (from for : ℕ) (bs : List ℕ) (v : ℕ → ℕ) (news : List Op) : Type 0 where
  pub bytes : bs ≡ letter_of from for v news
  pub few : length news ≤ most_records
  pub vector_small : (d : ℕ) → v d < 4294967296
  pub small : (o : Op) → In o news → SmallOp o

pub idle_same : (m : List ℕ) → get_or m 1 0 ≡ 0 → idle m ≡ m
idle_same m e = ap (λ v. set m 1 v) (sym e) ∙ set-get_or m 1 0

-- an open desk with nothing left to show, told to go on
pub nothing_left : (m : List ℕ) → 0 < get_or m 0 0 → get_or m 1 0 ≡ 0 → step_own m next ≡ says m done
unfolding does goes_on
nothing_left m o e =
    accepts m next (next_well m o)
    ∙ ap (λ b. pick b (says (idle m) (shows (count_at (ops_of m) (low m key_cell) ∷ []))) (says m done)) (ne_eqb (get_or m 1 0) 1 (λ z. omega arith))

module _ (i : ℕ) (m : List ℕ) (log : List Op) (h : ℕ → ℕ → ℕ) (hi : i < 32) (r : Rep i m log h) where
  pub is_open-here : 0 < get_or m 0 0
  is_open-here = let e = r.desk in omega arith

  pub me_is : me m ≡ i
  me_is = ap (λ n. (n - 1) % 32) r.desk ∙ omega arith
